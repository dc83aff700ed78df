use Rattle.std.proofs.Common.{take}
use Rattle.std.specs.List.{AllByRecursion}
use Rattle.outside_traits.specs.Store.{Store}
use Rattle.store_opening.specs.Survey.{AreKeys, AreRecords, IsGood, IsSurveyed, paths_of}
use Rattle.store_opening.proofs.records.found_among.Given as goal

abbrev pub invariant-loop-file : goal.invariant-loop-file
invariant-loop-file l = record {
  good : AllByRecursion (IsGood l.fn.keys) l.found.candidates.items;
  so_far : (held : Store) → AreRecords held l.files → AreKeys held l.fn.keys → IsSurveyed held (take l.file-index (paths_of l.files)) l.found;
}
