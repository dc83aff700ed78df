use Rattle.std.proofs.Common.{take}
use Rattle.std.specs.Prelude.{codes}
use Rattle.std.specs.List.{AllByRecursion}
use Rattle.outside_traits.specs.Store.{Store}
use Rattle.store_opening.specs.Survey.{AreUnder}
use Rattle.store_upgrade.specs.Old.{IsGoodOld}
use Rattle.store_upgrade.proofs.Reread.{AreSoFar}
use Rattle.store_upgrade.proofs.reading.olds_among.Given as goal

abbrev pub invariant-loop-file : goal.invariant-loop-file
invariant-loop-file l = record {
  good : AllByRecursion IsGoodOld l.found.items;
  so_far : (held : Store) → AreUnder (codes "rec/") held l.files → AreSoFar held (take l.file-index l.files) l.found.items;
}
