use Rattle.std.proofs.Common.{◌≡◌, ◌≤◌, ℕ, List, length, drop, is_some}
use Rattle.std.specs.BTreeMap.{get_by_text}
use Rattle.datastore.specs.Orders.{is_gone, IsOrderOf}
use Rattle.datastore.proofs.order.orders_of.Given as goal

-- the orders that the entries leave that were gone through, and the tasks that these take away
abbrev pub invariant-loop-left : goal.invariant-loop-left
invariant-loop-left l = record {
  within : l.left ≤ length l.lines;
  orders : IsOrderOf (drop l.left l.lines) l.orders;
  gone : (t : List ℕ) → is_some (get_by_text l.gone t) ≡ is_gone (drop l.left l.lines) t;
}

abbrev pub decreases-loop-left : goal.decreases-loop-left
decreases-loop-left l = l.left
