-- Availability that is asked of needed tasks alone.
use Rattle.std.specs.Prelude.{◌≡◌, ◌≤◌, ◌+◌, ℕ, zero, suc, Bool, true, false, List, [], ◌∷◌, Contains, take, ◌⊎◌, length, Option, Some, None}
use Rattle.std.specs.List.{slice_get}
use Rattle.tree_model.specs.declared.hash.Hash.{Hash}
use Rattle.meta_model.specs.declared.event.Avail.{Avail}
use Rattle.meta_model.specs.declared.event.Avail.TheVariants.{Missing}
use Rattle.tale_model.specs.Need.{IsIn, IsNeed}
use Rattle.setscene_plan.specs.View.{IsKnown, Says, View}

-- what is kept of each member of a set is known
abbrev pub Knows : Says → View → List Hash → List Avail → List Bool → Type 0
Knows says view unihashes avail set = (t : ℕ) → IsIn set t → IsKnown says view unihashes t (slice_get avail t)

-- What a run needs, by what is kept of outputs; and of each needed task it is known.
pub record AreNeeds (says : Says) (view : View) (unihashes : List Hash) (need : List Bool) (avail : List Avail) : Type 0 where
  pub least : IsNeed view.plan avail need
  pub long : length avail ≡ length view.plan.tasks
  pub known : Knows says view unihashes avail need

-- 1 for a task that belongs to a set and isn't known
abbrev pub asks_once : Option Bool → Option Bool → ℕ
asks_once None known = 0
asks_once (Some false) known = 0
asks_once (Some true) None = 1
asks_once (Some true) (Some false) = 1
asks_once (Some true) (Some true) = 0

-- how many of so many tasks from a place on belong to a set and aren't known
abbrev pub asks_from : List Bool → List Bool → ℕ → ℕ → ℕ
asks_from set known place zero = 0
asks_from set known place (suc n) = asks_once (slice_get set place) (slice_get known place) + asks_from set known (suc place) n

-- how many members of a set aren't members of another one
abbrev pub members_beyond : List Bool → List Bool → ℕ
members_beyond set other = asks_from set other 0 (length set)

-- how many members a set has
abbrev pub members : List Bool → ℕ
members set = members_beyond set []

-- how many of these tasks belong to a set
abbrev pub members_among : List Bool → List ℕ → ℕ
members_among set [] = 0
members_among set (t ∷ ts) = asks_once (slice_get set t) None + members_among set ts

-- 1 for a task that belongs to one of two sets
abbrev pub once_of_either : Option Bool → Option Bool → ℕ
once_of_either None b = asks_once b None
once_of_either (Some false) b = asks_once b None
once_of_either (Some true) b = 1

-- how many of these tasks belong to one of two sets
abbrev pub members_of_either : List Bool → List Bool → List ℕ → ℕ
members_of_either set other [] = 0
members_of_either set other (t ∷ ts) = once_of_either (slice_get set t) (slice_get other t) + members_of_either set other ts

-- in two lists the same outputs are missing
abbrev pub SameMissing : List Avail → List Avail → Type 0
SameMissing avail next = (t : ℕ) → (slice_get avail t ≡ Some Missing → slice_get next t ≡ Some Missing) × (slice_get next t ≡ Some Missing → slice_get avail t ≡ Some Missing)

-- What one question does: if the task is needed, its output is known; nothing else changes; it is told if it changed; and unless
-- it turned, the same outputs are missing.
pub record AsksOne (says : Says) (view : View) (unihashes : List Hash) (need : List Bool) (task : ℕ) (avail next : List Avail) (told more : List ℕ) (turned : Bool) : Type 0 where
  pub here : IsIn need task → IsKnown says view unihashes task (slice_get next task)
  pub elsewhere : (t : ℕ) → (t ≡ task → ⊥) → slice_get next t ≡ slice_get avail t
  pub stays : turned ≡ false → SameMissing avail next
  pub told_on : (t : ℕ) → Contains told t → Contains more t
  pub told_it : Contains more task ⊎ (slice_get next task ≡ slice_get avail task)

-- What the questions for all tasks of a list from a place on did so far.
pub record AsksAll (says : Says) (view : View) (unihashes : List Hash) (need : List Bool) (tasks : List ℕ) (place : ℕ) (avail next : List Avail) (told : List ℕ) : Type 0 where
  pub right : (t : ℕ) → IsIn need t → Contains (take place tasks) t ⊎ IsKnown says view unihashes t (slice_get next t)
  pub told_all : (t : ℕ) → Contains told t ⊎ (slice_get next t ≡ slice_get avail t)

-- two lists have the same at a place, and so have two others
abbrev pub SameAt : List Bool → List Bool → List Avail → List Avail → ℕ → Type 0
SameAt set new avail next t = (slice_get new t ≡ slice_get set t) × (slice_get next t ≡ slice_get avail t)

-- These tasks are out of the set, and nothing else is; so of any set no more is missing in it than was, and those.
pub record TakesOut (tasks : List ℕ) (old new : List Bool) : Type 0 where
  pub wide : length new ≡ length old
  pub left : (t : ℕ) → IsIn new t → IsIn old t × (Contains tasks t → ⊥)
  pub beyond : (set : List Bool) → members_beyond set new ≤ members_beyond set old + members_among set tasks
