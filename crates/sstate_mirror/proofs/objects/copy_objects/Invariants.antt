use Rattle.std.proofs.Common.{◌≡◌, ◌≤◌, None, take}
use Rattle.std.specs.Prelude.{codes}
use Rattle.outside_traits.specs.Passes.{Passes, Same}
use Rattle.sstate_mirror.specs.Copying.{AreCopied, HaveOneObject, IsCopying}
use Rattle.sstate_mirror.proofs.objects.copy_objects.Given as goal

abbrev pub invariant-loop-one : goal.invariant-loop-one
invariant-loop-one g l = record {
  faults : g.D.Disk.faults l.disk ≡ g.D.Disk.faults l.fn.disk;
  mirror_faults : g.M.Disk.faults l.mirror ≡ g.M.Disk.faults l.fn.mirror;
  few : l.count ≤ l.one-index;
  run : g.D.Disk.tells → Passes (g.D.Disk.story l.fn.disk) (g.D.Disk.story l.disk) (λ i k. IsCopying l.rows (g.D.Disk.story l.fn.disk).held k);
  way : g.D.Disk.tells → (g.D.Disk.story l.disk).held (codes "obj") ≡ None;
  idle : g.D.Disk.tells → l.count ≡ 0 → Passes (g.D.Disk.story l.fn.disk) (g.D.Disk.story l.disk) Same;
  same : g.M.Disk.tells → Passes (g.M.Disk.story l.fn.mirror) (g.M.Disk.story l.mirror) Same;
  so_far : g.D.Disk.tells → g.M.Disk.tells → HaveOneObject l.rows → AreCopied l.rows (take l.one-index l.records) (g.M.Disk.story l.fn.mirror).held (g.D.Disk.story l.fn.disk).held (g.D.Disk.story l.disk).held l.count;
}
