use Rattle.std.proofs.Common.{◌≡◌, ◌||◌, take}
use Rattle.std.specs.List.{list_any}
use Rattle.std.specs.Option.{is_some}
use Rattle.tree_model.specs.declared.hash.Hash.{Hash}
use Rattle.store_model.specs.declared.signature.DepLine.{DepLine}
use Rattle.store_model.specs.Rows.{hash_eq}
use Rattle.record_move.specs.Named.{value_at}
use Rattle.record_move.proofs.backward.note_deps.Given as goal

abbrev pub invariant-loop-dep : goal.invariant-loop-dep
invariant-loop-dep l = (q : Hash) → is_some (value_at l.noted.entries q) ≡ (is_some (value_at l.fn.noted.entries q) || list_any (λ (dep : DepLine). hash_eq dep.name q) (take l.dep-index l.deps))
