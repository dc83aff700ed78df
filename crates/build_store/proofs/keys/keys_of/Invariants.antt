use Rattle.std.proofs.Common.{take}
use Rattle.build_store.specs.Keys.{AreOfRows, KnowsRows}
use Rattle.build_store.proofs.keys.keys_of.Given as goal

abbrev pub invariant-loop-place : goal.invariant-loop-place
invariant-loop-place l = record {
  knows : KnowsRows l.keys (take l.place l.index);
  of : AreOfRows l.index l.keys;
}
