use Rattle.std.proofs.Common.{None}
use Rattle.std.proofs.lemmas.Bool.{false≢true}
use Rattle.outside_traits.proofs.Runs.{passes_so}
use Rattle.store_model.specs.Available.{task_folder}
use Rattle.store_opening.proofs.Clean.{folder_slashes}
use Rattle.build_store.specs.Publication.{KeepsOthers}
use Rattle.build_store.specs.View.{signed_by}
use Rattle.build_store.proofs.Closing.{restored_stand}
use Rattle.build_store.proofs.Invariant.{keys_around, restored_tidy}
use Rattle.build_store.proofs.Several.{view_others}
use Rattle.build_store.proofs.store.Store.restore.Goals as goal

pub invariant_of-self : goal.invariant_of-self
invariant_of-self g c =
    let rows = c.self.inside.index in
    let xs = c.self.inside.open_ones.items in
    let a = g.D.Disk.story c.self.inside.disk in
    let b = g.D.Disk.story c.restore.new.disk in
    let folder = task_folder c.args.task.now in
    let closed = rw (← c.self.view_is) at c.requires.closed in (
      c.self.invariant.0,
      λ told. c.restore.ensures.keeps told,
      c.self.invariant.2,
      λ told. restored_stand rows folder a b (g.met.D.Disk.sound c.self.inside.disk told) (folder_slashes c.args.task.now c.requires.place) (c.restore.ensures.round told) xs (view_others folder xs closed) (c.self.invariant.3 told),
      λ told faultless. restored_tidy rows (signed_by c.args.task.now c.args.sig.now) a.held xs a b c.in-Ok.found (folder_slashes c.args.task.now c.requires.place) (g.met.D.Disk.sound c.restore.new.disk told) (c.self.invariant.4 told faultless) (c.in-Ok.ensures.swept told) (c.restore.ensures.round told)
          (c.in-Ok.ensures.restored told) (c.in-Ok.ensures.unchanged told),
      c.self.invariant.5,
      c.self.invariant.6,
      λ told. keys_around c.self.inside.keys folder a b (c.restore.ensures.round told) (c.self.invariant.7 told),
    )

pub invariant_of-self-in-Err : goal.invariant_of-self-in-Err
invariant_of-self-in-Err g c =
    let rows = c.self.inside.index in
    let xs = c.self.inside.open_ones.items in
    let a = g.D.Disk.story c.self.inside.disk in
    let b = g.D.Disk.story c.restore.new.disk in
    let folder = task_folder c.args.task.now in
    let closed = rw (← c.self.view_is) at c.requires.closed in (
      c.self.invariant.0,
      λ told. c.restore.ensures.keeps told,
      c.self.invariant.2,
      λ told. restored_stand rows folder a b (g.met.D.Disk.sound c.self.inside.disk told) (folder_slashes c.args.task.now c.requires.place) (c.restore.ensures.round told) xs (view_others folder xs closed) (c.self.invariant.3 told),
      λ told faultless. absurd (false≢true faultless),
      c.self.invariant.5,
      c.self.invariant.6,
      λ told. keys_around c.self.inside.keys folder a b (c.restore.ensures.round told) (c.self.invariant.7 told),
    )

pub returns-in-Ok-clause-restored : goal.returns-in-Ok-clause-restored
returns-in-Ok-clause-restored g c told = rw (← c.self.view_is) (c.in-Ok.ensures.restored told)

pub returns-in-Ok-clause-right : goal.returns-in-Ok-clause-right
returns-in-Ok-clause-right g c told = rw (← c.self.view_is) (c.restore.ensures.right told)

pub returns-in-Err-clause-right : goal.returns-in-Err-clause-right
returns-in-Err-clause-right g c told = rw (← c.self.view_is) (c.restore.ensures.right told)

pub returns-in-Ok-clause-others : goal.returns-in-Ok-clause-others
returns-in-Ok-clause-others g c told = rw (← c.self.view_is) (passes_so (KeepsOthers (task_folder c.args.task.now) None (g.D.Disk.story c.self.inside.disk).held) (c.restore.ensures.round told) (λ i j w. w.others))

pub returns-in-Err-clause-others : goal.returns-in-Err-clause-others
returns-in-Err-clause-others g c told = rw (← c.self.view_is) (passes_so (KeepsOthers (task_folder c.args.task.now) None (g.D.Disk.story c.self.inside.disk).held) (c.restore.ensures.round told) (λ i j w. w.others))
