use Rattle.std.proofs.Common.{◌≡◌, take}
use Rattle.run_model.specs.Build.{failed_in}
use Rattle.build_resume.proofs.ending.failed_tasks.Given as goal

abbrev pub invariant-loop-logged : goal.invariant-loop-logged
invariant-loop-logged l = l.failed.items ≡ failed_in (take l.logged-index l.tale)
