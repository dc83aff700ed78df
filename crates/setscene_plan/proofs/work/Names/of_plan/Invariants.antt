use Rattle.std.proofs.Common.{◌≡◌, ℕ, ◌<◌, length}
use Rattle.setscene_plan.specs.Reworks.{IsFound, IsRightAt}
use Rattle.setscene_plan.proofs.work.Names.of_plan.Given as goal

abbrev pub invariant-loop-place : goal.invariant-loop-place
invariant-loop-place g l = record {
  long : length l.made.names.items ≡ length l.plan.tasks;
  wide : length l.made.unihashes.items ≡ length l.plan.tasks;
  right : (t : ℕ) → t < l.place → IsRightAt (g.P.Probe.view l.fn.probe).rows l.plan.tasks l.made t;
  found : (t : ℕ) → t < l.place → IsFound l.made t;
  same : g.P.Probe.view l.probe ≡ g.P.Probe.view l.fn.probe;
  stays : g.P.Probe.Stays l.fn.probe l.probe;
  asked : g.P.Probe.asked l.probe ≡ g.P.Probe.asked l.fn.probe;
  still : g.P.Probe.faults l.probe ≡ g.P.Probe.faults l.fn.probe;
}
