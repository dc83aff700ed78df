-- How names are worked out anew.
use Rattle.std.specs.Prelude.{◌≡◌, ◌≢◌, ℕ, ◌<◌, ◌⊎◌, Bool, true, false, List, [], ◌∷◌, Some, length, All, Contains}
use Rattle.std.specs.List.{AllByRecursion, slice_get}
use Rattle.tree_model.specs.declared.hash.Hash.{Hash}
use Rattle.meta_model.specs.declared.plan.PlanTask.{PlanTask}
use Rattle.run_core.specs.Above.{above_of}
use Rattle.tale_model.specs.Need.{deps_of}
use Rattle.store_model.specs.declared.signature.EquivRow.{EquivRow}
use Rattle.store_model.specs.Spelling.{name_of}
use Rattle.sig_gen.specs.Signing.{signature_by}
use Rattle.setscene_plan.specs.declared.work.Names.{Names}
use Rattle.setscene_plan.specs.Names.{IsClearAt, IsHashed, IsNamed}
use Rattle.setscene_plan.specs.Owners.{IsOwned}

-- a task has its name and its unihash, and no row of that name has another signature
pub record IsRightAt (rows : List EquivRow) (tasks : List PlanTask) (kept : Names) (t : ℕ) : Type 0 where
  pub named : IsNamed tasks kept.names.items kept.unihashes.items t
  pub hashed : IsHashed rows kept.names.items kept.unihashes.items t
  pub clear : IsClearAt rows tasks kept.unihashes.items t

-- a task is found by its name, where names are known to differ
abbrev pub IsFound : Names → ℕ → Type 0
IsFound kept t = IsOwned kept.distinct kept.owners kept.names.items t

-- The task at a place is named anew, by the unihashes that were kept, and nothing is changed elsewhere.
pub record Renames (rows : List EquivRow) (tasks : List PlanTask) (place : ℕ) (old new : Names) : Type 0 where
  pub long : length new.names.items ≡ length old.names.items
  pub wide : length new.unihashes.items ≡ length old.unihashes.items
  pub names : (t : ℕ) → t ≢ place → slice_get new.names.items t ≡ slice_get old.names.items t
  pub unihashes : (t : ℕ) → t ≢ place → slice_get new.unihashes.items t ≡ slice_get old.unihashes.items t
  pub named : (task : PlanTask) → slice_get tasks place ≡ Some task → slice_get new.names.items place ≡ Some (name_of (signature_by tasks old.unihashes.items task))
  pub clear : IsClearAt rows tasks old.unihashes.items place
  pub hashed : IsHashed rows new.names.items new.unihashes.items place
  pub found : IsFound new place
  pub others : (t : ℕ) → t ≢ place → IsFound old t → IsFound new t

-- whether the unihash at a place changed
pub record Changes (place : ℕ) (old new : Names) (changed : Bool) : Type 0 where
  pub same : changed ≡ false → new.unihashes.items ≡ old.unihashes.items
  pub other : changed ≡ true → slice_get new.unihashes.items place ≢ slice_get old.unihashes.items place

-- the task needs one directly whose unihash changed
pub record IsTouched (tasks : List PlanTask) (old new : List Hash) (t : ℕ) : Type 0 where
  pub dep : ℕ
  pub needs : Contains (deps_of tasks t) dep
  pub differs : slice_get new dep ≢ slice_get old dep

-- none of those that the task needs directly has another unihash
abbrev pub IsUntouched : List PlanTask → List Hash → List Hash → ℕ → Type 0
IsUntouched tasks old new t = All (λ d. slice_get new d ≡ slice_get old d) (deps_of tasks t)

-- each number is below all behind it
abbrev pub Ascend : List ℕ → Type 0
Ascend [] = Unit {0}
Ascend (x ∷ xs) = AllByRecursion (λ y. x < y) xs × Ascend xs

-- Before the work: each task is among those to be worked out anew, or right.
pub record IsWorkable (rows : List EquivRow) (tasks : List PlanTask) (kept : Names) (dirty : List ℕ) : Type 0 where
  pub long : length kept.names.items ≡ length tasks
  pub wide : length kept.unihashes.items ≡ length tasks
  pub within : (t : ℕ) → Contains dirty t → t < length tasks
  pub right : (t : ℕ) → Contains dirty t ⊎ IsRightAt rows tasks kept t
  pub found : (t : ℕ) → IsFound kept t

-- After the work: all are right. Those that were worked out anew ascend and have the first ones; each was among these, or needs one directly whose
-- unihash changed; and no other task needs such a one.
pub record IsWorked (rows : List EquivRow) (tasks : List PlanTask) (old new : Names) (first changed : List ℕ) : Type 0 where
  pub long : length new.names.items ≡ length tasks
  pub wide : length new.unihashes.items ≡ length tasks
  pub right : (t : ℕ) → IsRightAt rows tasks new t
  pub found : (t : ℕ) → IsFound new t
  pub once : Ascend changed
  pub all : (t : ℕ) → Contains first t → Contains changed t
  pub within : (t : ℕ) → Contains changed t → t < length tasks
  pub each : (t : ℕ) → Contains changed t → Contains first t ⊎ IsTouched tasks old.unihashes.items new.unihashes.items t
  pub whole : (t : ℕ) → Contains changed t ⊎ IsUntouched tasks old.unihashes.items new.unihashes.items t

-- two tasks have one name
abbrev pub HaveOneName : List Hash → ℕ → ℕ → Type 0
HaveOneName names t u = slice_get names t ≡ slice_get names u

-- the list has these numbers besides, and nothing else is new
pub record PutsAll (tasks old new : List ℕ) : Type 0 where
  pub kept : (t : ℕ) → Contains old t → Contains new t
  pub put : (t : ℕ) → Contains tasks t → Contains new t
  pub only : (t : ℕ) → Contains new t → Contains old t ⊎ Contains tasks t

-- the tasks above a task, if its unihash changed
abbrev pub raised : Bool → List ℕ → List ℕ
raised true above = above
raised false above = []

-- One task is named anew, and where its unihash changed the tasks above it are put into the set.
pub record Steps (rows : List EquivRow) (tasks : List PlanTask) (above : List (List ℕ)) (place : ℕ) (old new : Names) (rest dirty : List ℕ) : Type 0 where
  pub renamed : Renames rows tasks place old new
  pub changed : Bool
  pub changes : Changes place old new changed
  pub puts : PutsAll (raised changed (above_of above place)) rest dirty
