use Rattle.std.proofs.Common.{◌∙◌, sym, subst}
use Rattle.outside_traits.specs.Bench.{IsTaken}
use Rattle.meta_model.specs.CleanBuild.{output_limit}
use Rattle.task_worker.proofs.Limits.{limited_fit, limited_large, not_beyond, too_much}
use Rattle.task_worker.proofs.running.judge.Goals as goal

pub returns-then-is_fit-clause-fit : goal.returns-then-is_fit-clause-fit
returns-then-is_fit-clause-fit c = (c.is_fit.ensures.tree, not_beyond c.in-Tree.tree (sym c.is_fit.ensures.fit ∙ c.if-is_fit.true))

pub returns-then-is_fit-clause-judged : goal.returns-then-is_fit-clause-judged
returns-then-is_fit-clause-judged c output taken =
    limited_fit output c.in-Tree.tree (subst (IsTaken output output_limit) c.in-Tree.is taken) (sym c.is_fit.ensures.fit ∙ c.if-is_fit.true)

pub returns-else-is_fit-clause-judged : goal.returns-else-is_fit-clause-judged
returns-else-is_fit-clause-judged c output taken =
    limited_large output c.in-Tree.tree (subst (IsTaken output output_limit) c.in-Tree.is taken) (sym c.is_fit.ensures.fit ∙ c.if-is_fit.false)

pub returns-in-TooLarge-clause-judged : goal.returns-in-TooLarge-clause-judged
returns-in-TooLarge-clause-judged c output taken = too_much output (subst (IsTaken output output_limit) c.in-TooLarge.is taken)
