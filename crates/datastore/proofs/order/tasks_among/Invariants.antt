use Rattle.std.proofs.Common.{◌≡◌, filter, take, is_some}
use Rattle.std.specs.BTreeMap.{get_by_text}
use Rattle.datastore.proofs.order.tasks_among.Given as goal

abbrev pub invariant-loop-name : goal.invariant-loop-name
invariant-loop-name l = l.made ≡ filter (λ t. is_some (get_by_text l.all t)) (take l.name-index l.name-items)
