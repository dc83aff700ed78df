use Rattle.setscene_plan.proofs.Working.{AreNamesakes}
use Rattle.setscene_plan.proofs.work.Names.namesakes.Given as goal

abbrev pub invariant-loop-place : goal.invariant-loop-place
invariant-loop-place l = AreNamesakes l.names l.task l.place l.made.keys
