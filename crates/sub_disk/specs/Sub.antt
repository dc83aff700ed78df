-- What a disk over a folder of another disk tells (own rules).
--
-- The folder's paths are those of the other disk that begin with a prefix, by what stands behind it. Each call of the folder's disk is one of the
-- other disk, at the prefixed path; so the folder's story is read off the other disk's: what is held there, and the calls since the start.
use Rattle.std.specs.Prelude.{◌≡◌, ◌⊎◌, ◌≤◌, ◌<◌, ◌+◌, ◌-◌, ℕ, Bool, true, false, ◌&&◌, List, [], ◌∷◌, ◌++◌, length, map, take, drop, None, Result, Ok, Err}
use Rattle.std.specs.Str.{bytes_eq}
use Rattle.tree_model.specs.Path.{BeginsWith, IsClean, inside}
use Rattle.outside_traits.specs.declared.call.Call.{Call}
use Rattle.outside_traits.specs.declared.call.Call.TheVariants.{Looked, Synced, Ended, Put, Moved}
use Rattle.outside_traits.specs.declared.fault.DiskFault.{DiskFault}
use Rattle.outside_traits.specs.declared.fault.DiskFault.TheVariants.{Failed, Memory}
use Rattle.outside_traits.specs.Fault.{Rose}
use Rattle.outside_traits.specs.Passes.{Passes}
use Rattle.outside_traits.specs.Store.{Store}
use Rattle.outside_traits.specs.Story.{Story, IsImage, IsImageAbove, IsImageSince, IsSound, held_before, looked, moment}

-- ---- what is told

-- what is held at the paths that begin with the prefix, by what stands behind it
abbrev pub below : List ℕ → Store → Store
below prefix held = λ path. held (prefix ++ path)

-- a call as one of the folder: its paths without the prefix, and its ticket's moment counted from the moment of the start
abbrev pub call_below : List ℕ → ℕ → Call → Call
call_below prefix begin Looked = Looked
call_below prefix begin Synced = Synced
call_below prefix begin (Ended k) = Ended (k - begin)
call_below prefix begin (Put path was) = Put (drop (length prefix) path) was
call_below prefix begin (Moved from to was replaced) = Moved (drop (length prefix) from) (drop (length prefix) to) was replaced

-- the story of the folder, from the moment of the start on: what is held there, and the last calls, as many as were made
abbrev pub sub_story : List ℕ → ℕ → ℕ → Story → Story
sub_story prefix begin made story = record { held = below prefix story.held; calls = map (call_below prefix begin) (take made story.calls) }

-- The other disk's story as far as it is told. A list for whose names there was no memory is no call of the folder's disk; the look of the other
-- disk that it made is left out, and no call follows it.
abbrev pub shown : Bool → Story → Story
shown false story = story
shown true story = record { held = story.held; calls = drop 1 story.calls }

-- the whole story, where that look is left out
abbrev pub with_look : Bool → Story → Story
with_look false story = story
with_look true story = looked story

-- the number of calls behind an answer: one that was refused for want of memory is none
abbrev pub made_after : {T : Type 0} → Result T DiskFault → ℕ → ℕ
made_after (Ok v) made = made + 1
made_after (Err Failed) made = made + 1
made_after (Err Memory) made = made

-- ---- what is kept

-- The prefix of a folder's paths: a clean path with a slash behind it, or nothing at all for the whole disk.
abbrev pub IsPrefix : List ℕ → Type 0
IsPrefix prefix = (prefix ≡ []) ⊎ ((folder : List ℕ) × IsClean folder × (prefix ≡ inside folder []))

-- what follows for the paths behind a prefix
pub record IsPlace (prefix : List ℕ) : Type 0 where
  pub on : (path : List ℕ) → IsClean path → length (prefix ++ path) ≤ 4096 → IsClean (prefix ++ path)
  pub off : (path : List ℕ) → IsClean (prefix ++ path) → IsClean path

abbrev pub begins : List ℕ → List ℕ → Bool
begins prefix path = bytes_eq (take (length prefix) path) prefix

-- the call touches no path that doesn't begin with the prefix
abbrev pub is_below : List ℕ → Call → Bool
is_below prefix Looked = true
is_below prefix Synced = true
is_below prefix (Ended k) = true
is_below prefix (Put path was) = begins prefix path
is_below prefix (Moved from to was replaced) = begins prefix from && begins prefix to

abbrev pub are_below : List ℕ → List Call → Bool
are_below prefix [] = true
are_below prefix (call ∷ calls) = is_below prefix call && are_below prefix calls

-- all that is held is there for good
abbrev pub IsSettledWhole : Story → Type 0
IsSettledWhole story = (image : Store) → IsImage story image → image ≡ story.held

-- nothing is held at the folder's own path or above it
abbrev pub IsReachable : List ℕ → Store → Type 0
IsReachable prefix held = (q rest : List ℕ) → prefix ≡ inside q rest → held q ≡ None

-- The story goes on from the start by so many calls, none of which touched a path outside of the folder. At the start all that was held was there
-- for good, and nothing is held at the folder's own path or above it.
pub record IsSub (prefix : List ℕ) (made : ℕ) (start story : Story) : Type 0 where
  pub counted : length story.calls ≡ made + length start.calls
  pub behind : drop made story.calls ≡ start.calls
  pub held : held_before made story.held story.calls ≡ start.held
  pub calls : are_below prefix (take made story.calls) ≡ true
  pub settled : IsSettledWhole start
  pub clear : IsReachable prefix story.held

-- What a folder's disk keeps of the other disk's story: as far as it is told it goes on so, no more than that look is left out, and the folder's story
-- is lawful.
pub record IsKept (prefix : List ℕ) (made : ℕ) (spent : Bool) (start story : Story) : Type 0 where
  pub sub : IsSub prefix made start (shown spent story)
  pub look : story ≡ with_look spent (shown spent story)
  pub lawful : IsSound (sub_story prefix (moment start) made (shown spent story))

-- The other disk's count of faults since the start, where that of the folder's disk is the last: it rose where that isn't 0, and else it stood still.
pub record FaultsSince (start now mine : ℕ) : Type 0 where
  pub later : start ≤ now
  pub rose : 0 < mine → Rose start now
  pub stayed : mine ≡ 0 → now ≡ start

-- ---- what is known of the other disk

-- outside of the folder the second store holds what the first did
abbrev pub SameOutside : List ℕ → Store → Store → Type 0
SameOutside prefix old new = (path : List ℕ) → (BeginsWith prefix path → ⊥) → new path ≡ old path

-- What is known of a disk's story that goes on from the start, where the folder's disk told the story `sub`. Outside of the folder nothing has
-- changed, neither in what is held nor in what a crash leaves, now or at any moment since, and what a crash left before is as it was; and in the folder stands what its disk holds, and a crash
-- leaves there what one leaves of its disk, now, at any moment since a moment of its own, and where besides such a moment is durable.
pub record GoesOn (prefix : List ℕ) (start story sub : Story) : Type 0 where
  pub held : SameOutside prefix start.held story.held
  pub now : (image : Store) → IsImage story image → SameOutside prefix start.held image
  pub since : (image : Store) → IsImageSince story (moment start) image → SameOutside prefix start.held image
  pub run : Passes start story (SameOutside prefix)
  pub split : (t : ℕ) (image : Store) → IsImageSince story t image → IsImageSince start t image ⊎ IsImageSince story (moment start) image
  pub lawful : IsSound sub
  pub held_below : below prefix story.held ≡ sub.held
  pub now_below : (image : Store) → IsImage story image → IsImage sub (below prefix image)
  pub since_below : (t : ℕ) (image : Store) → t ≤ moment sub → IsImageSince story (moment start + t) image → IsImageSince sub t (below prefix image)
  pub above_below : (k : ℕ) (image : Store) → k ≤ moment sub → IsImageAbove story (moment start + k) image → IsImageAbove sub k (below prefix image)

-- ---- lists

-- what the names of a list become: each is cut behind the prefix, unless memory was wanting; a refusal is handed on
abbrev pub Cuts : List ℕ → Result (List (List ℕ)) DiskFault → Result (List (List ℕ)) DiskFault → Type 0
Cuts prefix (Ok paths) (Ok names) = map (λ name. prefix ++ name) names ≡ paths
Cuts prefix (Ok paths) (Err Failed) = ⊥
Cuts prefix (Ok paths) (Err Memory) = Unit {0}
Cuts prefix (Err fault) (Ok names) = ⊥
Cuts prefix (Err fault) (Err same) = same ≡ fault

-- whether memory was wanting for the names of a list that the other disk answered
abbrev pub is_lost : {T : Type 0} → Result T DiskFault → Result T DiskFault → Bool
is_lost (Ok paths) (Ok names) = false
is_lost (Ok paths) (Err fault) = true
is_lost (Err fault) answer = false
