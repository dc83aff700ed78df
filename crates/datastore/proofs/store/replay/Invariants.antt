use Rattle.std.proofs.Common.{◌≡◌, fold, take}
use Rattle.datastore.specs.Parts.{moved_with}
use Rattle.datastore.proofs.store.replay.Given as goal

abbrev pub invariant-loop-part : goal.invariant-loop-part
invariant-loop-part l = l.made ≡ fold moved_with l.fn.store (take l.part-index l.past)
