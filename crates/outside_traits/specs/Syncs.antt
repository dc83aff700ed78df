-- The model with syncs alone, in which the end of a ticket counts as a sync: the model with tickets says the same where each ticket is ended
-- at once (own rules).
use Rattle.std.specs.Prelude.{◌≡◌, ◌⊎◌, ◌≤◌, ℕ, List, [], ◌∷◌, length}
use Rattle.outside_traits.specs.declared.call.Call.{Call}
use Rattle.outside_traits.specs.declared.call.Call.TheVariants.{Looked, Synced, Ended, Put, Moved}
use Rattle.outside_traits.specs.Store.{Store, ChangesAt, Moves}
use Rattle.outside_traits.specs.Story.{Story, before, moment, ended, IsContent, IsImage, Leaves, LeftSince}

-- a crash after these calls may leave the image
abbrev pub SyncLeaves : Store → List Call → Store → Type 0
SyncLeaves held [] image = image ≡ held
SyncLeaves held (Looked ∷ calls) image = SyncLeaves held calls image
SyncLeaves held (Synced ∷ calls) image = image ≡ held
SyncLeaves held (Ended k ∷ calls) image = image ≡ held
SyncLeaves held (Put path was ∷ calls) image =
    IsContent image × ((earlier : Store) × SyncLeaves (before (Put path was) held) calls earlier × ChangesAt path earlier image)
SyncLeaves held (Moved from to was replaced ∷ calls) image =
    IsContent image × ((image ≡ held) ⊎ ((earlier : Store) × SyncLeaves (before (Moved from to was replaced) held) calls earlier × Moves from to was earlier image))

-- a crash at the moment t or at a later one of these calls may have left the image
abbrev pub SyncLeftSince : Store → List Call → ℕ → Store → Type 0
SyncLeftSince held [] t image = (t ≤ 0) × (image ≡ held)
SyncLeftSince held (call ∷ calls) t image =
    ((t ≤ length (call ∷ calls)) × SyncLeaves held (call ∷ calls) image) ⊎ SyncLeftSince (before call held) calls t image

-- each ticket was ended at the moment that it is of
abbrev pub AreAtOnce : List Call → Type 0
AreAtOnce [] = Unit {0}
AreAtOnce (Looked ∷ calls) = AreAtOnce calls
AreAtOnce (Synced ∷ calls) = AreAtOnce calls
AreAtOnce (Ended k ∷ calls) = (k ≡ length calls) × AreAtOnce calls
AreAtOnce (Put path was ∷ calls) = AreAtOnce calls
AreAtOnce (Moved from to was replaced ∷ calls) = AreAtOnce calls

-- the images are the same, now and since each moment
pub record AreSame (held : Store) (calls : List Call) : Type 0 where
  pub now : (image : Store) → Leaves held calls image → SyncLeaves held calls image
  pub now_back : (image : Store) → SyncLeaves held calls image → Leaves held calls image
  pub since : (t : ℕ) (image : Store) → LeftSince held calls t image → SyncLeftSince held calls t image
  pub since_back : (t : ℕ) (image : Store) → SyncLeftSince held calls t image → LeftSince held calls t image

-- where each ticket is ended at once, and so where there is none
abbrev pub AtOnceIsSame : Type 0
AtOnceIsSame = (held : Store) (calls : List Call) → AreAtOnce calls → AreSame held calls

-- a ticket that is ended at once is a sync
abbrev pub AtOnceIsSync : Type 0
AtOnceIsSync = (s : Story) (image : Store) → IsImage (ended (moment s) s) image → image ≡ s.held
