use Rattle.std.proofs.Common.{◌≡◌}
use Rattle.outside_traits.specs.Passes.{Passes, Same}
use Rattle.why_model.specs.Why.{AreLines, IsLine}
use Rattle.why_text.specs.Telling.{told_of}
use Rattle.why_text.proofs.telling.lines_of.Given as goal

abbrev pub invariant-loop-place : goal.invariant-loop-place
invariant-loop-place g l = record {
  faults : g.D.Disk.faults l.disk ≡ g.D.Disk.faults l.fn.disk;
  run : g.D.Disk.tells → Passes (g.D.Disk.story l.fn.disk) (g.D.Disk.story l.disk) Same;
  so_far : g.D.Disk.tells → AreLines (IsLine (told_of (g.D.Disk.story l.fn.disk).held l.rows l.known.plan.now l.known.avail.now l.known.certain.now l.force) l.need) l.place l.text;
}
