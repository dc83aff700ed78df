use Rattle.std.proofs.Common.{refl, sym, subst, ◌∙◌}
use Rattle.std.proofs.lemmas.Bool.{false≢true}
use Rattle.tree_model.specs.declared.tree.Size.{Size}
use Rattle.tree_model.specs.Size.{Exceeds}
use Rattle.meta_model.specs.CleanBuild.{layout_limit}
use Rattle.task_worker.proofs.Limits.{not_within, within_layout}
use Rattle.task_worker.proofs.laying.within_layout.Goals as goal

pub returns-then-is_within : goal.returns-then-is_within
returns-then-is_within c = (refl, within_layout c.args.tree (λ more. c.is_within.ensures.within c.if-is_within.true (subst (λ (s : Size). Exceeds s layout_limit) (sym c.size.ensures) more)))

pub returns-else-is_within : goal.returns-else-is_within
returns-else-is_within c = not_within c.args.tree (λ never. false≢true (sym c.if-is_within.false ∙ c.is_within.ensures.beyond (λ more. never (subst (λ (s : Size). Exceeds s layout_limit) c.size.ensures more))))
