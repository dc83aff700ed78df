use Rattle.std.proofs.Common.{◌∙◌, sym, ap, Some}
use Rattle.std.proofs.lemmas.Option.{same_Some}
use Rattle.setscene_plan.proofs.work.is_namesake.Goals as goal

pub returns-then-are_same : goal.returns-then-are_same
returns-then-are_same c = c.hash_at-one.ensures ∙ ap Some c.if-are_same.ensures ∙ sym c.hash_at-other.ensures

pub returns-else-are_same : goal.returns-else-are_same
returns-else-are_same c = λ same. c.if-are_same.ensures (same_Some c.hash_at-one.result c.hash_at-other.result (sym c.hash_at-one.ensures ∙ same ∙ c.hash_at-other.ensures))
