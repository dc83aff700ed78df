use Rattle.std.proofs.Common.{◌≡◌, ◌++◌, drop, option_map}
use Rattle.meta_model.specs.Parts.{plain_bytes}
use Rattle.var_expand.specs.Pieces.{parts_in_list}
use Rattle.var_expand.proofs.frame.plain_text.Given as goal

abbrev pub invariant-loop-part : goal.invariant-loop-part
invariant-loop-part l = plain_bytes (parts_in_list l.parts) ≡ option_map (λ b. l.made ++ b) (plain_bytes (parts_in_list (drop l.part-index l.parts)))
