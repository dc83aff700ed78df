use Rattle.std.proofs.Common.{◌∙◌, sym, ap, position}
use Rattle.std.specs.Str.{bytes_eq}
use Rattle.store_model.specs.Available.{task_folder}
use Rattle.build_store.proofs.Positions.{open_is}
use Rattle.build_store.proofs.store.Store.is_open.Goals as goal

pub returns : goal.returns
returns g c = rw (← c.self.view_is) (c.is_some.ensures ∙ open_is (task_folder c.args.task.now) c.self.inside.open_ones.items c.place_of.result (sym (c.place_of.ensures ∙ ap (position (λ one. bytes_eq one.folder (task_folder c.args.task.now))) c.as_slice.ensures.value)))
