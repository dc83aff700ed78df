-- What a disk in memory tells by its fields.
use Rattle.std.specs.Prelude.{◌≡◌, ℕ, List, [], ◌∷◌, ◌++◌, zero, suc, reverse, None, IsSome, Contains}
use Rattle.tree_model.specs.Tree.{entry_at}
use Rattle.outside_traits.specs.declared.call.Call.{Call}
use Rattle.outside_traits.specs.declared.call.Call.TheVariants.{Looked, Synced, Ended, Put, Moved}
use Rattle.outside_traits.specs.Bench.{Entries}
use Rattle.outside_traits.specs.Store.{Store}
use Rattle.outside_traits.specs.Story.{Story, unsynced}

-- what is held, and the calls, of which the last is kept behind
abbrev pub story_by : Entries → List Call → Story
story_by tree calls = record { held = entry_at tree; calls = reverse calls }

-- what is touched after one call more: a written or removed path is, until a rename
abbrev pub touched_by : Call → List (List ℕ) → List (List ℕ)
touched_by Looked paths = paths
touched_by Synced paths = paths
touched_by (Ended k) paths = paths
touched_by (Put path was) paths = paths ++ path ∷ []
touched_by (Moved from to was replaced) paths = []

-- the paths that are touched by the last n of these calls, the last of them first
abbrev pub touched : ℕ → List Call → List (List ℕ)
touched zero calls = []
touched (suc n) [] = []
touched (suc n) (call ∷ calls) = touched_by call (touched n calls)

-- the paths that are touched by the calls that aren't durable
abbrev pub touched_since : Story → List (List ℕ)
touched_since story = touched (unsynced story.calls) story.calls

-- Damage at these paths alone: what they hold may have become anything, or be gone; nothing is held where nothing was.
pub record IsDamaged (paths : List (List ℕ)) (old new : Store) : Type 0 where
  pub others : (q : List ℕ) → (Contains paths q → ⊥) → new q ≡ old q
  pub no_more : (q : List ℕ) → IsSome (new q) → IsSome (old q)

-- What a number picks: with 0 nothing changes, and with 1 nothing is held at these paths any more.
pub record IsPicked (pick : ℕ) (paths : List (List ℕ)) (old new : Store) : Type 0 where
  pub whole : pick ≡ 0 → new ≡ old
  pub gone : pick ≡ 1 → (q : List ℕ) → Contains paths q → new q ≡ None
