use Rattle.std.proofs.Common.{◌≡◌, take}
use Rattle.hash_equiv.proofs.equal.equal_manifests.Given as goal

abbrev pub invariant-loop-place : goal.invariant-loop-place
invariant-loop-place l = take l.place l.one ≡ take l.place l.other
