use Rattle.build_resume.proofs.Failed.{failed_more}
use Rattle.build_resume.proofs.ending.failed_tasks.Goals as goal

pub loop-logged-preserved : goal.loop-logged-preserved
loop-logged-preserved c = failed_more c.loop-logged.failed.items c.push_failed.new.failed.items c.args.tale.now c.loop-logged.logged-index _ c.in_ok-push_failed.ensures c.loop-logged.invariant c.loop-logged-test.true
