use Rattle.std.proofs.Common.{◌≡◌, take}
use Rattle.std.specs.List.{AllByRecursion}
use Rattle.store_upgrade.specs.Old.{IsGoodOld, olds_at}
use Rattle.store_upgrade.proofs.olds.olds_at.Given as goal

abbrev pub invariant-loop-place : goal.invariant-loop-place
invariant-loop-place l = record {
  at : l.made.items ≡ olds_at l.olds (take l.place-index l.places);
  good : AllByRecursion IsGoodOld l.made.items;
}
