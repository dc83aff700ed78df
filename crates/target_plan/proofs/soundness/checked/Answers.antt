use Rattle.target_plan.proofs.Checking.{known_spellings}
use Rattle.target_plan.proofs.soundness.checked.Goals as goal

pub returns-in-Ok-true-clause-spellings : goal.returns-in-Ok-true-clause-spellings
returns-in-Ok-true-clause-spellings c = known_spellings c.args.made c.as_slice.result.now c.as_slice.ensures c.known_tasks.ensures (c.in-Ok-true.ensures.0 c.in-Ok-true.field-0-test)
