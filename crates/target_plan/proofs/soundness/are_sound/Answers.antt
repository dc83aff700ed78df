use Rattle.std.proofs.Common.{◌≡◌, refl, true, false}
use Rattle.target_plan.proofs.Checking.{checked_all, checked_more, checked_not}
use Rattle.target_plan.proofs.soundness.are_sound.Goals as goal

pub returns-then-not-is_sound_task : goal.returns-then-not-is_sound_task
returns-then-not-is_sound_task c = (
  λ t. absurd (let wrong : false ≡ true = t in cc),
  λ all.
      absurd (checked_not c.args.tasks.now c.loop-number.number c.index-tasks-number.result c.loop-number-test.true c.index-tasks-number.is (λ h. let yes = c.is_sound_task.ensures.1 h in let no = c.if-not-is_sound_task.true in cc) all),
)

pub loop-number-preserved : goal.loop-number-preserved
loop-number-preserved c =
    checked_more c.args.tasks.now c.loop-number.number c.index-tasks-number.result c.loop-number-test.true c.index-tasks-number.is (c.is_sound_task.ensures.0 c.if-not-is_sound_task.false) c.loop-number.invariant

pub returns : goal.returns
returns c = (λ t. checked_all c.args.tasks.now c.loop-number.number c.loop-number-test.false c.loop-number.invariant, λ all. refl)
