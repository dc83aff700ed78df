use Rattle.std.proofs.Common.{◌≡◌, [], fold, drop}
use Rattle.meta_model.specs.Text.{into_order}
use Rattle.meta_model.proofs.in_order.in_byte_order.Given as goal

abbrev pub invariant-loop-text : goal.invariant-loop-text
invariant-loop-text l = fold into_order l.ordered.items (drop l.text-index l.texts) ≡ fold into_order [] l.texts
