use Rattle.std.proofs.Common.{◌≡◌, take}
use Rattle.outside_traits.specs.Passes.{Passes, Same}
use Rattle.store_opening.specs.Survey.{Dooms, IsBlockedOf}
use Rattle.store_opening.proofs.bare.survey_blocked.Given as goal

abbrev pub invariant-loop-one : goal.invariant-loop-one
invariant-loop-one g l = record {
  faults : g.D.Disk.faults l.disk ≡ g.D.Disk.faults l.fn.disk;
  run : g.D.Disk.tells → Passes (g.D.Disk.story l.fn.disk) (g.D.Disk.story l.disk) Same;
  so_far : g.D.Disk.tells → Dooms (g.D.Disk.story l.fn.disk).held (IsBlockedOf (g.D.Disk.story l.fn.disk).held (take l.one-index l.bare)) l.initial.doomed.items l.doomed.items;
}
