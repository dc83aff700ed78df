-- How large a tree is.
use Rattle.std.specs.Prelude.{◌<◌, ◌-◌, ◌^◌, ◌⊎◌, ℕ, List, [], ◌∷◌, length, max, min, sum_by}
use Rattle.tree_model.specs.declared.entry.Entry.{Entry}
use Rattle.tree_model.specs.declared.entry.Entry.TheVariants.{File, Link}
use Rattle.tree_model.specs.declared.tree.Size.{Size}

-- The number of bytes of a file, or of the text of a link's target.
abbrev pub entry_length : Entry → ℕ
entry_length (File exec bytes) = length bytes
entry_length (Link target) = length target

-- The greatest length of one entry, or 0 where there is none.
abbrev pub largest_of : List (List ℕ × Entry) → ℕ
largest_of [] = 0
largest_of (e ∷ es) = max (entry_length e.1) (largest_of es)

-- The sum of all lengths.
abbrev pub bytes_of : List (List ℕ × Entry) → ℕ
bytes_of tree = sum_by (λ e. entry_length e.1) tree

-- The three numbers of a tree; the sum stands still at 2^64 - 1.
abbrev pub size_of : List (List ℕ × Entry) → Size
size_of tree = record { entries = length tree; largest = largest_of tree; bytes = min (bytes_of tree) (2 ^ 64 - 1) }

-- One of the three numbers is above that of the limit (own rule).
abbrev pub Exceeds : Size → Size → Type 0
Exceeds size limit = (limit.entries < size.entries) ⊎ ((limit.largest < size.largest) ⊎ (limit.bytes < size.bytes))
