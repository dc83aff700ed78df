use Rattle.std.proofs.Common.{◌∙◌}
use Rattle.store_model.specs.Available.{object_folder}
use Rattle.outside_traits.proofs.Folders.{lays_same, lays_then}
use Rattle.sstate_objects.proofs.objects.put_object.Goals as goal

pub returns-in_err-holds_tree-clause-lays : goal.returns-in_err-holds_tree-clause-lays
returns-in_err-holds_tree-clause-lays g c told = lays_same (object_folder c.args.name.now) c.args.tree.now (c.holds_tree.ensures.others told)

pub returns-clause-lays : goal.returns-clause-lays
returns-clause-lays g c told = lays_then (object_folder c.args.name.now) c.args.tree.now (lays_same (object_folder c.args.name.now) c.args.tree.now (c.holds_tree.ensures.others told)) (rw (c.as_str-2.ensures ∙ c.in_ok-folder.ensures) at (c.put_tree.ensures.lays told))
