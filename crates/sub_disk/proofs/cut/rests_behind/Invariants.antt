use Rattle.std.proofs.Common.{◌≡◌, ◌++◌, All, List, ℕ, map, take}
use Rattle.tree_model.specs.Path.{BeginsWith}
use Rattle.sub_disk.proofs.cut.rests_behind.Given as goal

abbrev pub invariant-loop-path : goal.invariant-loop-path
invariant-loop-path l = All (λ (p : List ℕ). BeginsWith l.prefix p) l.paths → map (λ (n : List ℕ). l.prefix ++ n) l.names.items ≡ take l.path-index l.paths
