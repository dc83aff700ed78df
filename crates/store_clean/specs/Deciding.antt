-- Which records are kept when a store is cleared.
use Rattle.std.specs.Prelude.{◌≡◌, ◌≢◌, ◌↔◌, ◌+◌, ◌<◌, ℕ, Bool, false, List, All, AllPairs, Contains, Option, Some, None, length, slice_get, slice_index_or}
use Rattle.std.specs.declared.cmp.Ordering.TheVariants.{Greater}
use Rattle.tree_model.specs.declared.hash.Hash.{Hash}
use Rattle.store_model.specs.declared.signature.EquivRow.{EquivRow}
use Rattle.store_model.specs.Believed.{name_cmp}
use Rattle.store_keep.specs.Keep.{IsMarked}
use Rattle.store_keep.specs.Tries.{AreKept, marked_in}
use Rattle.store_clean.specs.declared.clearing.Cleaned.{Cleaned}
use Rattle.store_clean.specs.Naming.{AreEdges, names_of, place_in}

-- marked are the places of these names; a name without a place marks none
pub record AreRoots (names roots : List Hash) (marks : List Bool) : Type 0 where
  pub long : length marks ≡ length names
  pub each : (k : ℕ) → IsMarked marks k ↔ ((name : Hash) × Contains roots name × (place_in names name ≡ Some k))

-- all places, each once, in ascending order of the names' bytes
pub record IsNameOrder (names : List Hash) (order : List ℕ) : Type 0 where
  pub long : length order ≡ length names
  pub within : All (λ k. k < length names) order
  pub whole : (k : ℕ) → k < length names → Contains order k
  pub ascend : AllPairs (λ p q. (a b : Hash) → slice_get names p ≡ Some a → slice_get names q ≡ Some b → name_cmp a b ≢ Greater) order

-- Kept are the records of the roots with all that they lead to, and of the others, in the order of their names, each with all that it leads to, as long as no
-- more are kept than the limit says.
pub record IsDecided (rows : List EquivRow) (roots : List Hash) (limit : ℕ) (marks : List Bool) : Type 0 where
  pub edges : List (List ℕ)
  pub are_edges : AreEdges rows edges
  pub first : List Bool
  pub are_roots : AreRoots (names_of rows) roots first
  pub order : List ℕ
  pub in_order : IsNameOrder (names_of rows) order
  pub kept : AreKept edges first order limit marks

abbrev pub mark_of : List Bool → Option ℕ → Bool
mark_of marks None = false
mark_of marks (Some k) = slice_index_or marks k false

-- whether the record of this name is kept
abbrev pub keeps : List EquivRow → List Bool → Hash → Bool
keeps rows marks name = mark_of marks (place_in (names_of rows) name)

-- how many are kept and how many go
pub record IsCounted (rows : List EquivRow) (marks : List Bool) (cleaned : Cleaned) : Type 0 where
  pub kept : cleaned.kept ≡ marked_in marks
  pub all : cleaned.kept + cleaned.gone ≡ length rows

-- the numbers of a clearing: of marks that are decided
pub record IsNumbered (rows : List EquivRow) (roots : List Hash) (limit : ℕ) (cleaned : Cleaned) : Type 0 where
  pub marks : List Bool
  pub decided : IsDecided rows roots limit marks
  pub counted : IsCounted rows marks cleaned
