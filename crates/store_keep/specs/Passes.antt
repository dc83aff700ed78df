-- Records that are gone through, from the last one back, and from one of them down.
use Rattle.std.specs.Prelude.{◌≡◌, ◌⊎◌, ◌+◌, ◌++◌, ◌≤◌, ◌<◌, ℕ, Bool, false, List, length, Contains, slice_index_or}
use Rattle.store_keep.specs.Keep.{IsMarked, LeadsTo, Names}
use Rattle.store_keep.specs.Tries.{marked_in}

-- So far the records from k on were gone through, from the last one back.
pub record IsPassed (edges : List (List ℕ)) (roots marks : List Bool) (k : ℕ) : Type 0 where
  pub long : length marks ≡ length roots
  pub kept : (v : ℕ) → IsMarked roots v → IsMarked marks v
  pub only : (v : ℕ) → IsMarked marks v → (r : ℕ) × IsMarked roots r × LeadsTo edges r v
  pub closed : (v w : ℕ) → k ≤ v → IsMarked marks v → Names edges v w → IsMarked marks w

-- the marks with these besides
pub record IsMarkedWith (old : List Bool) (places : List ℕ) (new : List Bool) : Type 0 where
  pub long : length new ≡ length old
  pub kept : (v : ℕ) → IsMarked old v → IsMarked new v
  pub added : (v : ℕ) → Contains places v → IsMarked new v
  pub only : (v : ℕ) → IsMarked new v → IsMarked old v ⊎ Contains places v

-- the same, for the first i of the places
pub record IsMarkedUpTo (old : List Bool) (places : List ℕ) (i : ℕ) (new : List Bool) : Type 0 where
  pub long : length new ≡ length old
  pub kept : (v : ℕ) → IsMarked old v → IsMarked new v
  pub added : (j d : ℕ) → j < i → j < length places → IsMarked new (slice_index_or places j d)
  pub only : (v : ℕ) → IsMarked new v → IsMarked old v ⊎ ((j : ℕ) × (j < i) × (slice_index_or places j v ≡ v))

-- The trail has, once each, the records that were marked besides the old ones; the start leads to each of them.
pub record IsTrail (edges : List (List ℕ)) (old : List Bool) (start : ℕ) (trail : List ℕ) (marks : List Bool) : Type 0 where
  pub long : length marks ≡ length old
  pub kept : (v : ℕ) → IsMarked old v → IsMarked marks v
  pub on : (v : ℕ) → Contains trail v → IsMarked marks v
  pub new : (v : ℕ) → Contains trail v → slice_index_or old v false ≡ false
  pub led : (v : ℕ) → Contains trail v → LeadsTo edges start v
  pub within : (v : ℕ) → Contains trail v → v < length old
  pub only : (v : ℕ) → IsMarked marks v → IsMarked old v ⊎ Contains trail v
  pub count : marked_in marks ≡ marked_in old + length trail

-- what the first of the trail name is marked
abbrev pub AreDone : List (List ℕ) → List ℕ → ℕ → List Bool → Type 0
AreDone edges trail next marks = (j d w : ℕ) → j < next → j < length trail → Names edges (slice_index_or trail j d) w → IsMarked marks w

-- The first i of the trail aren't marked any more.
pub record IsTakenBack (old marks : List Bool) (trail : List ℕ) (i : ℕ) (now : List Bool) : Type 0 where
  pub long : length now ≡ length old
  pub kept : (v : ℕ) → IsMarked old v → IsMarked now v
  pub fewer : (v : ℕ) → IsMarked now v → IsMarked marks v
  pub gone : (j d : ℕ) → j < i → j < length trail → slice_index_or now (slice_index_or trail j d) false ≡ false

-- More is marked, and more stands on the trail.
pub record IsGrown (trail : List ℕ) (marks : List Bool) (longer : List ℕ) (more : List Bool) : Type 0 where
  pub long : length more ≡ length marks
  pub kept : (v : ℕ) → IsMarked marks v → IsMarked more v
  pub rest : List ℕ
  pub is : longer ≡ trail ++ rest
