use Rattle.std.proofs.Common.{◌≡◌}
use Rattle.setscene_plan.proofs.Learning.{IsAsked}
use Rattle.setscene_plan.proofs.asking.sweep_asking.Given as goal

abbrev pub invariant-loop-place : goal.invariant-loop-place
invariant-loop-place g l = record {
  asked : IsAsked (g.P.Probe.says l.fn.probe) (g.P.Probe.view l.fn.probe) l.unihashes l.known (g.P.Probe.asked l.fn.probe) l.set l.avail (g.P.Probe.asked l.probe) l.place;
  same : g.P.Probe.view l.probe ≡ g.P.Probe.view l.fn.probe;
  stays : g.P.Probe.Stays l.fn.probe l.probe;
  still : g.P.Probe.faults l.probe ≡ g.P.Probe.faults l.fn.probe;
}
