use Rattle.std.proofs.Common.{◌≡◌, ◌-◌, length}
use Rattle.setscene_plan.proofs.StepLemmas.{IsWorking, next_in}
use Rattle.setscene_plan.proofs.work.Names.rework.Given as goal

abbrev pub invariant-loop-place : goal.invariant-loop-place
invariant-loop-place g l = record {
  working : IsWorking (g.P.Probe.view l.fn.probe).rows l.plan.tasks l.fn.self l.self l.fn.dirty.keys l.dirty.keys l.changed.items;
  same : g.P.Probe.view l.probe ≡ g.P.Probe.view l.fn.probe;
  stays : g.P.Probe.Stays l.fn.probe l.probe;
  asked : g.P.Probe.asked l.probe ≡ g.P.Probe.asked l.fn.probe;
  still : g.P.Probe.faults l.probe ≡ g.P.Probe.faults l.fn.probe;
}

abbrev pub decreases-loop-place : goal.decreases-loop-place
decreases-loop-place g l = length l.plan.tasks - next_in l.changed.items
