-- Which records are kept beside those that roots lead to.
use Rattle.std.specs.Prelude.{◌≡◌, ◌⊎◌, ◌≤◌, ◌<◌, ℕ, Bool, true, List, [], ◌∷◌, count_by, slice_set}
use Rattle.store_keep.specs.Keep.{AreClosed, IsClosure, IsMarked}

-- how many are marked
abbrev pub marked_in : List Bool → ℕ
marked_in marks = count_by (λ m. m) marks

-- A record is tried: it is kept already; or as many are kept as may be; or with all that it leads to no more are kept than may be, and then
-- these are kept; or there would be more, and it is passed over.
abbrev pub IsTried : List (List ℕ) → ℕ → List Bool → ℕ → List Bool → Type 0
IsTried edges limit before k after =
    (IsMarked before k × (after ≡ before))
    ⊎ (((limit ≤ marked_in before) × (after ≡ before))
    ⊎ ((with : List Bool) × IsClosure edges (slice_set before k true) with
    × (((marked_in with ≤ limit) × (after ≡ with)) ⊎ ((limit < marked_in with) × (after ≡ before)))))

-- records are tried, one after another
abbrev pub AreTried : List (List ℕ) → ℕ → List Bool → List ℕ → List Bool → Type 0
AreTried edges limit before [] after = after ≡ before
AreTried edges limit before (k ∷ more) after = (mid : List Bool) × IsTried edges limit before k mid × AreTried edges limit mid more after

-- Kept are the records that the roots lead to, and then, of the others in this order, each with all that it leads to, as long as no more are
-- kept than the limit says.
pub record AreKept (edges : List (List ℕ)) (roots : List Bool) (order : List ℕ) (limit : ℕ) (marks : List Bool) : Type 0 where
  pub first : List Bool
  pub closure : IsClosure edges roots first
  pub tried : AreTried edges limit first order marks

-- ---- laws

-- What a kept record names is kept.
abbrev pub KeptAreClosed : Type 0
KeptAreClosed = (edges : List (List ℕ)) (roots marks : List Bool) (order : List ℕ) (limit : ℕ) → AreKept edges roots order limit marks → AreClosed edges marks

-- No more are kept than the limit says, or just those that the roots lead to.
abbrev pub KeptAreFew : Type 0
KeptAreFew = (edges : List (List ℕ)) (roots marks : List Bool) (order : List ℕ) (limit : ℕ) → AreKept edges roots order limit marks → (marked_in marks ≤ limit) ⊎ IsClosure edges roots marks
