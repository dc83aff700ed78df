use Rattle.std.proofs.Common.{◌∙◌, ap, sym, is_some, refl, option_map, Option, Some, None, ◌≡◌}
use Rattle.meta_model.specs.Grammar.{operator}
use Rattle.bb_parser.proofs.names.has_operator.Goals as goal

mapped : {A B : Type 0} (f : A → B) (o : Option A) → is_some (option_map f o) ≡ is_some o
mapped f None = refl
mapped f (Some x) = refl

pub returns : goal.returns
unfolding operator
returns c = c.is_some.ensures ∙ (sym (mapped _ c.operator_at.result) ∙ ap is_some (sym (rw c.after_blanks.ensures at c.operator_at.ensures.found)))
