use Rattle.std.proofs.Common.{arith}
use Rattle.target_plan.proofs.Checking.{of_first}
use Rattle.target_plan.proofs.soundness.are_of_one.Goals as goal

pub returns-in-Some : goal.returns-in-Some
returns-in-Some c =
    let item = c.in-Some.ensures.item in
    let both = of_first c.args.tasks.now c.in-Some.first.now c.as_str.result.now (omega (arith, item.0)) item.1 c.as_str.ensures in
    (λ t. both.0 (c.are_of.ensures.0 t), λ pairs. c.are_of.ensures.1 (both.1 pairs))
