-- What records lead to. Records are numbered in an order in which each names only earlier ones.
use Rattle.std.specs.Prelude.{◌≡◌, ◌<◌, ℕ, Bool, true, false, List, [], length, Contains, slice_index_or}

-- the records that a record names
abbrev pub named_by : List (List ℕ) → ℕ → List ℕ
named_by edges v = slice_index_or edges v []

abbrev pub Names : List (List ℕ) → ℕ → ℕ → Type 0
Names edges v w = Contains (named_by edges v) w

-- each record names earlier ones alone
abbrev pub NameEarlier : List (List ℕ) → Type 0
NameEarlier edges = (v w : ℕ) → Names edges v w → w < v

-- what a record leads to: itself, and what it names, and so on
pub data LeadsTo (edges : List (List ℕ)) : ℕ → ℕ → Type 0 where
  here : (v : ℕ) → LeadsTo edges v v
  further : (v w u : ℕ) → LeadsTo edges v w → Names edges w u → LeadsTo edges v u

-- the record is marked
abbrev pub IsMarked : List Bool → ℕ → Type 0
IsMarked marks v = slice_index_or marks v false ≡ true

-- The marked records are just those that the roots lead to.
pub record IsClosure (edges : List (List ℕ)) (roots marks : List Bool) : Type 0 where
  pub long : length marks ≡ length roots
  pub whole : (r v : ℕ) → IsMarked roots r → LeadsTo edges r v → IsMarked marks v
  pub only : (v : ℕ) → IsMarked marks v → (r : ℕ) × IsMarked roots r × LeadsTo edges r v

-- what a marked record names is marked
abbrev pub AreClosed : List (List ℕ) → List Bool → Type 0
AreClosed edges marks = (v w : ℕ) → IsMarked marks v → Names edges v w → IsMarked marks w

-- ---- laws

-- There are such marks, one list of them, for any roots.
abbrev pub ClosureIsOne : Type 0
ClosureIsOne = (edges : List (List ℕ)) (roots : List Bool) → NameEarlier edges → length roots ≡ length edges →
    (marks : List Bool) × IsClosure edges roots marks × ((others : List Bool) → IsClosure edges roots others → others ≡ marks)

-- What a marked record names is marked.
abbrev pub ClosureIsClosed : Type 0
ClosureIsClosed = (edges : List (List ℕ)) (roots marks : List Bool) → IsClosure edges roots marks → AreClosed edges marks
