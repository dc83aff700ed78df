use Rattle.std.proofs.Common.{◌≡◌, length, take}
use Rattle.tree_model.specs.declared.hash.Hash.{Hash}
use Rattle.tree_model.specs.Hash.{IsHash, hash_text}
use Rattle.tree_model.proofs.hash.written.Given as goal

abbrev pub invariant-loop-place : goal.invariant-loop-place
invariant-loop-place l = record {
  size : length l.bytes ≡ 32;
  front : (hash : Hash) → IsHash hash → l.digits ≡ hash_text hash → take l.place l.bytes ≡ take l.place hash.bytes;
}
