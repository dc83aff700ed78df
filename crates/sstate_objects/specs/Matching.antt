-- What is read of a folder against a manifest.
use Rattle.std.specs.Prelude.{◌≡◌, ◌-◌, ◌^◌, ℕ, List, [], ◌∷◌, Option, Some, None, length, max, min, sum_by}
use Rattle.tree_model.specs.declared.entry.Entry.{Entry}
use Rattle.tree_model.specs.declared.manifest.ManifestLine.{ManifestLine}
use Rattle.tree_model.specs.declared.tree.Size.{Size}
use Rattle.tree_model.specs.Manifest.{manifest_lines}
use Rattle.tree_model.specs.Tree.{IsTree}
use Rattle.outside_traits.specs.Store.{HoldsTree, Store}
use Rattle.store_model.specs.Available.{Matches}

-- The tree that is held under the folder, where it has this manifest; nothing exactly where what is held doesn't match.
abbrev pub IsMatching : List ℕ → List ManifestLine → Store → Option (List (List ℕ × Entry)) → Type 0
IsMatching folder lines held (Some tree) = IsTree tree × (HoldsTree folder tree held × (lines ≡ manifest_lines tree))
IsMatching folder lines held None = Matches held folder lines → ⊥

-- the greatest length in a manifest
abbrev pub largest_line : List ManifestLine → ℕ
largest_line [] = 0
largest_line (line ∷ lines) = max line.length (largest_line lines)

-- the three numbers of a tree with this manifest
abbrev pub size_told : List ManifestLine → Size
size_told lines = record { entries = length lines; largest = largest_line lines; bytes = min (sum_by (λ l. l.length) lines) (2 ^ 64 - 1) }
