-- In what a signature of a task differs from an earlier one of it. (Own rules.)
use Rattle.std.specs.Prelude.{ℕ, Bool, not, true, false, ◌&&◌, List, ◌++◌, codes, map, filter, Option, Some, None}
use Rattle.std.specs.List.{list_any}
use Rattle.std.specs.Str.{bytes_eq}
use Rattle.std.specs.Cmp.Lexicographic.{pointwise}
use Rattle.tree_model.specs.declared.hash.Hash.{Hash}
use Rattle.meta_model.specs.declared.value.KeyLine.{KeyLine}
use Rattle.meta_model.specs.declared.value.Resolved.{Resolved}
use Rattle.store_model.specs.declared.signature.DepLine.{DepLine}
use Rattle.store_model.specs.declared.signature.SigRecord.{SigRecord}
use Rattle.store_model.specs.Rows.{hash_eq}

-- Items of which those that have one name aren't the same, or that stand in the one list alone: what of `now` doesn't stand in `was`, then what of
-- `was` has no namesake in `now`; each in its list's order, by what is told of it.
abbrev pub changed : {A : Type 0} → (A → A → Bool) → (A → A → Bool) → (A → List ℕ) → List A → List A → List (List ℕ)
changed same namesake told now was =
    map told (filter (λ x. not (list_any (same x) was)) now)
    ++ map told (filter (λ x. not (list_any (namesake x) now)) was)

-- ---- the lines of a key

abbrev pub pair_eq : List ℕ × List ℕ → List ℕ × List ℕ → Bool
pair_eq a b = bytes_eq a.0 b.0 && bytes_eq a.1 b.1

abbrev pub value_eq : Option Resolved → Option Resolved → Bool
value_eq None None = true
value_eq None (Some b) = false
value_eq (Some a) None = false
value_eq (Some a) (Some b) = bytes_eq a.text b.text && (pointwise bytes_eq a.removes b.removes && pointwise pair_eq a.flags b.flags)

abbrev pub line_named : KeyLine → KeyLine → Bool
line_named a b = bytes_eq a.name b.name

abbrev pub line_same : KeyLine → KeyLine → Bool
line_same a b = bytes_eq a.name b.name && value_eq a.value b.value

-- a line is told by its name
abbrev pub line_told : KeyLine → List ℕ
line_told line = line.name

-- ---- input files

abbrev pub file_named : List ℕ × Hash → List ℕ × Hash → Bool
file_named a b = bytes_eq a.0 b.0

abbrev pub file_same : List ℕ × Hash → List ℕ × Hash → Bool
file_same a b = bytes_eq a.0 b.0 && hash_eq a.1 b.1

-- a file is told as `file PATH`
abbrev pub file_told : List ℕ × Hash → List ℕ
file_told file = codes "file " ++ file.0

-- ---- needed tasks

abbrev pub dep_named : DepLine → DepLine → Bool
dep_named a b = bytes_eq a.pn b.pn && bytes_eq a.task b.task

abbrev pub dep_same : DepLine → DepLine → Bool
dep_same a b = bytes_eq a.pn b.pn && (bytes_eq a.task b.task && hash_eq a.name b.name)

-- a needed task is told as `PN:TASK`
abbrev pub dep_told : DepLine → List ℕ
dep_told dep = dep.pn ++ (codes ":" ++ dep.task)

-- ---- signatures

-- In what a signature differs from an earlier one: lines of the key, input files, tasks that it needs or what they gave, in this order.
abbrev pub differing : SigRecord → SigRecord → List (List ℕ)
differing sig was =
    changed line_same line_named line_told sig.key.lines was.key.lines
    ++ (changed file_same file_named file_told sig.files was.files
    ++ changed dep_same dep_named dep_told sig.deps was.deps)
