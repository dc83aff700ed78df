-- What follows for tickets (own rules). A ticket is of the moment of a story in which it is taken; it is ended in a later one.
use Rattle.std.specs.Prelude.{◌≡◌, ◌≢◌, ◌⊎◌, ◌≤◌, ◌-◌, ℕ, Bool, true, zero, suc, List, [], ◌∷◌, Option, Some, Result, Ok}
use Rattle.tree_model.specs.declared.entry.Entry.{Entry}
use Rattle.outside_traits.specs.declared.call.Call.{Call}
use Rattle.outside_traits.specs.declared.call.Call.TheVariants.{Looked, Synced, Ended, Put, Moved}
use Rattle.outside_traits.specs.declared.fault.DiskFault.{DiskFault}
use Rattle.outside_traits.specs.Store.{Store}
use Rattle.outside_traits.specs.Story.{Story, moment, unsynced, ended, held_before, IsImage, IsImageSince, IsSound}
use Rattle.outside_traits.specs.Passes.{Passes, Same}
use Rattle.outside_traits.specs.Answers.{Ends, IsSettled, Renames}

-- the path stays as it is
abbrev pub Keeps : List ℕ → Store → Store → Type 0
Keeps q old new = new q ≡ old q

-- all of these paths stay as they are
abbrev pub KeepsAll : (List ℕ → Bool) → Store → Store → Type 0
KeepsAll is_kept old new = (q : List ℕ) → is_kept q ≡ true → new q ≡ old q

-- none of the last n calls is at the path
abbrev pub IsNotTouched : ℕ → List ℕ → List Call → Type 0
IsNotTouched zero q calls = Unit {0}
IsNotTouched (suc n) q [] = Unit {0}
IsNotTouched (suc n) q (Looked ∷ calls) = IsNotTouched n q calls
IsNotTouched (suc n) q (Synced ∷ calls) = IsNotTouched n q calls
IsNotTouched (suc n) q (Ended k ∷ calls) = IsNotTouched n q calls
IsNotTouched (suc n) q (Put path was ∷ calls) = (q ≢ path) × IsNotTouched n q calls
IsNotTouched (suc n) q (Moved from to was replaced ∷ calls) = (q ≢ from) × (q ≢ to) × IsNotTouched n q calls

-- What is durable.

-- What was held at a path at the moment k, and was not touched since, is held there in every image behind the end of a ticket of k.
abbrev pub NotTouchedStays : Type 0
NotTouchedStays = (s : Story) (k : ℕ) (q : List ℕ) → IsNotTouched (moment s - k) q s.calls → (image : Store) → IsImage (ended k s) image
    → (image q ≡ s.held q) × (image q ≡ held_before (moment s - k) s.held s.calls q)

-- What a run kept of what was held as a ticket was taken, each image behind the ticket's end has.
abbrev pub DurableFrom : Type 0
DurableFrom = (is_kept : List ℕ → Bool) (a b : Story) → Passes a b (KeepsAll is_kept)
    → (image : Store) → IsImage (ended (moment a) b) image → KeepsAll is_kept a.held image

-- What a run between the two kept, and one behind the end, is held in each image since the end.
abbrev pub DurableStays : Type 0
DurableStays = (q : List ℕ) (a b c : Story) → Passes a b (Keeps q) → Passes (ended (moment a) b) c (Keeps q)
    → (image : Store) → IsImageSince c (moment (ended (moment a) b)) image → image q ≡ a.held q

-- Images that are no more.

-- whatever the end of a ticket answers, it changes nothing
abbrev pub EndPasses : Type 0
EndPasses = (k : ℕ) (a b : Story) (r : Result (Unit {0}) DiskFault) → IsSound a → Ends k a b r → Passes a b Same

-- the end of a ticket only takes images away, now and since each moment
abbrev pub EndNarrows : Type 0
EndNarrows = (s : Story) (k : ℕ) → IsSound s → ((image : Store) → IsImage (ended k s) image → IsImage s image)
    × ((t : ℕ) (image : Store) → t ≤ moment s → IsImageSince (ended k s) t image → IsImageSince s t image)

-- where a newer moment is durable, a ticket changes nothing
abbrev pub OlderIsNothing : Type 0
OlderIsNothing = (s : Story) (k : ℕ) → unsynced s.calls ≤ moment s - k → (image : Store)
    → (IsImage (ended k s) image → IsImage s image) × (IsImage s image → IsImage (ended k s) image)

-- And it takes no more: all that was called behind the moment may be lost.
abbrev pub LaterMayBeLost : Type 0
LaterMayBeLost = (s : Story) (k : ℕ) → IsSound s → moment s - k ≤ unsynced s.calls
    → IsImage (ended k s) (held_before (moment s - k) s.held s.calls)

-- Renames.

-- what was held as the ticket was taken, and is kept since, may be renamed
abbrev pub SettledByTicket : Type 0
SettledByTicket = (p : List ℕ) (x : Entry) (a b : Story) → a.held p ≡ Some x → Passes a b (Keeps p) → IsSettled p (ended (moment a) b)

-- and so it stays, whatever is done elsewhere
abbrev pub SettledStays : Type 0
SettledStays = (p : List ℕ) (a b : Story) → Passes a b (Keeps p) → IsSettled p a → IsSettled p b

-- Whatever isn't durable besides, and whatever the rename answers, each image since has at the target what each image had there before, or the
-- whole of what the source held.
abbrev pub RenameIsWhole : Type 0
RenameIsWhole = (from to : List ℕ) (y : Option Entry) (a b c : Story) (r : Result (Unit {0}) DiskFault) → IsSound a → IsSettled from a
    → ((image : Store) → IsImage a image → image to ≡ y) → Renames from to a b r → Passes b c (Keeps to)
    → (image : Store) → IsImageSince c (moment a) image → (image to ≡ y) ⊎ (image to ≡ a.held from)

-- behind the end of a ticket that was taken after the rename it is the latter
abbrev pub RenamedIsDurable : Type 0
RenamedIsDurable = (from to : List ℕ) (a b c d : Story) → Renames from to a b {T = Unit {0}} (Ok (tt {0})) → Passes b c (Keeps to)
    → Passes (ended (moment b) c) d (Keeps to) → (image : Store) → IsImageSince d (moment (ended (moment b) c)) image → image to ≡ a.held from
