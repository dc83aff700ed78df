-- The limits of an output, and what is read of a folder within them.
use Rattle.std.proofs.Common.{◌∙◌, ap, ℕ, ◌≤◌, Bool, List, length, All, Some, None}
use Rattle.std.specs.Prelude.{◌||◌}
use Rattle.std.specs.List.{list_any}
use Rattle.tree_model.specs.Size.{size_of}
use Rattle.outside_traits.specs.Reading.{IsReading}
use Rattle.outside_traits.specs.Store.{Store}
use Rattle.meta_model.proofs.Bools.{or_first, or_later}
use Rattle.meta_model.proofs.Limits.{exceeds_true, exceeds_false, long_false, long_true}
use Rattle.build_store.specs.Finding.{IsOutput}
use Rattle.meta_model.specs.CleanBuild.{Entries, exceeds, is_beyond, is_long, output_limit}

-- a tree that was read, with short paths and without
pub read_short : (tree : Entries) (folder : List ℕ) (held : Store) → IsReading folder output_limit held (Some tree) → All (λ e. length e.0 ≤ 3072) tree → IsOutput folder held (Some tree)
unfolding is_beyond
read_short tree folder held read short = (read.0, ap (λ (b : Bool). b || list_any is_long tree) (exceeds_false (size_of tree) output_limit read.1) ∙ long_false tree short)

pub read_long : (tree : Entries) (folder : List ℕ) (held : Store) → IsReading folder output_limit held (Some tree) → (All (λ e. length e.0 ≤ 3072) tree → ⊥) → IsOutput folder held None
unfolding is_beyond
read_long tree folder held read long = (tree, read.0, or_later (exceeds (size_of tree) output_limit) (list_any is_long tree) (long_true tree long))

-- what is held exceeds the limit
pub read_none : (folder : List ℕ) (held : Store) → IsReading folder output_limit held None → IsOutput folder held None
unfolding is_beyond
read_none folder held read = (read.0, read.1, or_first (exceeds (size_of read.0) output_limit) (list_any is_long read.0) (exceeds_true (size_of read.0) output_limit read.2))
