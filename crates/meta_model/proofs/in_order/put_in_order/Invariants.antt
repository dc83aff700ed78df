use Rattle.std.proofs.Common.{◌≡◌, ◌≤◌, ◌++◌, ◌-◌, length, take, drop}
use Rattle.meta_model.specs.Text.{into_order}
use Rattle.meta_model.proofs.in_order.put_in_order.Given as goal

abbrev pub invariant-loop-place : goal.invariant-loop-place
invariant-loop-place l = (l.texts.items ≡ l.fn.texts.items) × (l.text ≡ l.fn.text) × (l.place ≤ length l.texts.items) × (into_order l.texts.items l.text ≡ take l.place l.texts.items ++ into_order (drop l.place l.texts.items) l.text)

abbrev pub decreases-loop-place : goal.decreases-loop-place
decreases-loop-place l = length l.texts.items - l.place
