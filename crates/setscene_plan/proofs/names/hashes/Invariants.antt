use Rattle.std.proofs.Common.{◌≡◌, ℕ, ◌<◌, length}
use Rattle.setscene_plan.specs.Names.{IsHashed, IsNamed}
use Rattle.setscene_plan.proofs.names.hashes.Given as goal

abbrev pub invariant-loop-place : goal.invariant-loop-place
invariant-loop-place g l = record {
  long : length l.names.items ≡ length l.plan.tasks;
  wide : length l.unihashes.items ≡ length l.plan.tasks;
  right : (t : ℕ) → t < l.place → IsNamed l.plan.tasks l.names.items l.unihashes.items t × IsHashed (g.P.Probe.view l.probe).rows l.names.items l.unihashes.items t;
}
