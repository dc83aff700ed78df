-- The disk model: what is told of a disk, and what a crash may leave of it (own rules).
--
-- A story is what a disk holds, and all calls that it answered. An image is what a crash may leave. It comes about
-- step by step, call by call: after each call a crash leaves an image of the moment before, changed at that call's own
-- paths alone. After a write or a removal that is any entry or nothing at its path; after a rename the whole old or
-- whole new entry at the target, and the old entry or nothing at the source. After a sync that answered Ok it is just
-- what is held; after the end of a ticket of the moment k that answered Ok it comes about from what was held at k, by the
-- calls behind k. Reads, lists, and syncs and ends that failed change no image. Each image is something that a disk may hold.
use Rattle.std.specs.Prelude.{◌≡◌, ◌⊎◌, ◌≤◌, ◌-◌, min, ℕ, zero, suc, List, [], ◌∷◌, length, Option, IsSome}
use Rattle.tree_model.specs.declared.entry.Entry.{Entry}
use Rattle.tree_model.specs.Path.{IsClean}
use Rattle.outside_traits.specs.declared.call.Call.{Call}
use Rattle.outside_traits.specs.declared.call.Call.TheVariants.{Looked, Synced, Ended, Put, Moved}
use Rattle.outside_traits.specs.Store.{Store, IsTreelike, put, ChangesAt, Moves}

-- what is held, and the calls so far, the last of them first
pub record Story : Type 0 where
  pub held : Store
  pub calls : List Call

-- the moment: how many calls were answered so far
abbrev pub moment : Story → ℕ
moment story = length story.calls

-- a fresh disk: no call was made
abbrev pub IsFresh : Story → Type 0
IsFresh story = story.calls ≡ []

-- what a disk may hold: entries at clean paths, none of which is a proper ancestor of another
pub record IsContent (held : Store) : Type 0 where
  pub treelike : IsTreelike held
  pub clean : (path : List ℕ) → IsSome (held path) → IsClean path

-- what was held before a call
abbrev pub before : Call → Store → Store
before Looked held = held
before Synced held = held
before (Ended k) held = held
before (Put path was) held = put held path was
before (Moved from to was replaced) held = put (put held to replaced) from was

-- How many calls were answered since the newest moment that is durable. A ticket that is older than this moment changes nothing.
abbrev pub unsynced : List Call → ℕ
unsynced [] = zero
unsynced (Looked ∷ calls) = suc (unsynced calls)
unsynced (Synced ∷ calls) = zero
unsynced (Ended k ∷ calls) = suc (min (length calls - k) (unsynced calls))
unsynced (Put path was ∷ calls) = suc (unsynced calls)
unsynced (Moved from to was replaced ∷ calls) = suc (unsynced calls)

-- A crash after these calls may leave the image, where all but the last n of them are durable: it comes about from what was held then, step by
-- step. What is held is one; at a rename that is said, elsewhere it follows.
abbrev pub LeftBy : ℕ → Store → List Call → Store → Type 0
LeftBy zero held calls image = image ≡ held
LeftBy (suc n) held [] image = image ≡ held
LeftBy (suc n) held (Looked ∷ calls) image = LeftBy n held calls image
LeftBy (suc n) held (Synced ∷ calls) image = LeftBy n held calls image
LeftBy (suc n) held (Ended k ∷ calls) image = LeftBy n held calls image
LeftBy (suc n) held (Put path was ∷ calls) image =
    IsContent image × ((earlier : Store) × LeftBy n (before (Put path was) held) calls earlier × ChangesAt path earlier image)
LeftBy (suc n) held (Moved from to was replaced ∷ calls) image =
    IsContent image × ((image ≡ held) ⊎ ((earlier : Store) × LeftBy n (before (Moved from to was replaced) held) calls earlier × Moves from to was earlier image))

-- a crash after these calls may leave the image
abbrev pub Leaves : Store → List Call → Store → Type 0
Leaves held calls image = LeftBy (unsynced calls) held calls image

-- a crash at the moment t or at a later one of these calls may have left the image
abbrev pub LeftSince : Store → List Call → ℕ → Store → Type 0
LeftSince held [] t image = (t ≤ 0) × (image ≡ held)
LeftSince held (call ∷ calls) t image =
    ((t ≤ length (call ∷ calls)) × Leaves held (call ∷ calls) image) ⊎ LeftSince (before call held) calls t image

-- a crash now may leave the image
abbrev pub IsImage : Story → Store → Type 0
IsImage story image = Leaves story.held story.calls image

-- a crash at some moment from t to now may have left the image
abbrev pub IsImageSince : Story → ℕ → Store → Type 0
IsImageSince story t image = LeftSince story.held story.calls t image

-- a crash now may leave the image, where besides all that was called up to the moment k is durable
abbrev pub IsImageAbove : Story → ℕ → Store → Type 0
IsImageAbove story k image = LeftBy (min (moment story - k) (unsynced story.calls)) story.held story.calls image

-- what was held k calls ago
abbrev pub held_before : ℕ → Store → List Call → Store
held_before zero held calls = held
held_before (suc k) held [] = held
held_before (suc k) held (call ∷ calls) = held_before k (before call held) calls

-- the law of every disk: what it holds, and held at each earlier moment, is what a disk may hold
pub record IsSound (story : Story) : Type 0 where
  pub content : (k : ℕ) → IsContent (held_before k story.held story.calls)

-- How a story goes on by one call.

-- after a call that changes nothing
abbrev pub looked : Story → Story
looked story = record { held = story.held; calls = Looked ∷ story.calls }

-- after a sync that answered Ok
abbrev pub synced : Story → Story
synced story = record { held = story.held; calls = Synced ∷ story.calls }

-- after a ticket of the moment k was ended, with Ok
abbrev pub ended : ℕ → Story → Story
ended k story = record { held = story.held; calls = Ended k ∷ story.calls }

-- after a call that left this at the path
abbrev pub put_at : List ℕ → Option Entry → Story → Story
put_at path x story = record { held = put story.held path x; calls = Put path (story.held path) ∷ story.calls }

-- after a rename that left the first at its source, and the second at its target
abbrev pub moved : List ℕ → List ℕ → Option Entry → Option Entry → Story → Story
moved from to x y story = record {
  held = put (put story.held from x) to y;
  calls = Moved from to (story.held from) (story.held to) ∷ story.calls;
}
