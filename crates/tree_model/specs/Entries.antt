-- The entries of trees, and what scripts make of them.
use Rattle.std.specs.Prelude.{ℕ, List, Result}
use Rattle.tree_model.specs.declared.entry.Entry.{Entry}

-- paths with what stands at them
abbrev pub Entries : Type 0
Entries = List (List ℕ × Entry)

-- what each script makes of each tree: another tree, or the status with which it fails
abbrev pub Gives : Type 0
Gives = List ℕ → Entries → Result Entries ℕ
