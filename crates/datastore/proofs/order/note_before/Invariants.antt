use Rattle.std.proofs.Common.{◌≡◌, ◌||◌, ◌&&◌, ℕ, List, take, bytes_eq}
use Rattle.meta_model.specs.Text.{is_in}
use Rattle.datastore.specs.Orders.{comes, stay}
use Rattle.datastore.proofs.order.note_before.Given as goal

abbrev pub invariant-loop-other : goal.invariant-loop-other
invariant-loop-other l = (a b : List ℕ) → comes l.orders a b ≡ (((bytes_eq l.task b && is_in a (take l.other-index l.before)) && stay l.gone a b) || comes l.fn.orders a b)
