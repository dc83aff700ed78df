-- What each call of a disk did, by its answer.
use Rattle.std.specs.Prelude.{◌≡◌, ◌⊎◌, ℕ, List, Option, Some, None, Result, Ok, Err, IsSome}
use Rattle.tree_model.specs.declared.entry.Entry.{Entry}
use Rattle.outside_traits.specs.declared.fault.DiskFault.{DiskFault}
use Rattle.outside_traits.specs.declared.fault.DiskFault.TheVariants.{Failed, Memory}
use Rattle.outside_traits.specs.Store.{Store, IsListing}
use Rattle.outside_traits.specs.Story.{Story, IsImage, looked, synced, ended, put_at, moved}

-- what holds at each answer
abbrev pub Answers : {T : Type 0} → Result T DiskFault → (T → Type 0) → Type 0 → Type 0 → Type 0
Answers (Ok v) ok failed memory = ok v
Answers (Err Failed) ok failed memory = failed
Answers (Err Memory) ok failed memory = memory

-- a read gives what the path holds, and changes nothing
pub record Reads (path : List ℕ) (old new : Story) (result : Result (Option Entry) DiskFault) : Type 0 where
  pub answers : Answers result (λ found. (found ≡ old.held path) × (new ≡ looked old)) (new ≡ looked old) (new ≡ old)

-- a list gives just the held paths that begin with the prefix, and changes nothing
pub record Lists (prefix : List ℕ) (old new : Story) (result : Result (List (List ℕ)) DiskFault) : Type 0 where
  pub answers : Answers result (λ paths. IsListing prefix old.held paths × (new ≡ looked old)) (new ≡ looked old) (new ≡ old)

-- after a write the path holds the entry; after a failed one it holds any entry or nothing
pub record Writes (path : List ℕ) (entry : Entry) (old new : Story) {T : Type 0} (result : Result T DiskFault) : Type 0 where
  pub answers : Answers result (λ _. new ≡ put_at path (Some entry) old) ((x : Option Entry) × (new ≡ put_at path x old)) (new ≡ old)

-- after a removal the path holds nothing; after a failed one it holds any entry or nothing
pub record Removes (path : List ℕ) (old new : Story) {T : Type 0} (result : Result T DiskFault) : Type 0 where
  pub answers : Answers result (λ _. new ≡ put_at path None old) ((x : Option Entry) × (new ≡ put_at path x old)) (new ≡ old)

-- what a failed rename leaves: the source holds what it held or nothing, and the target what it held or what the source did
pub record HalfMoved (from to : List ℕ) (held : Store) (x y : Option Entry) : Type 0 where
  pub source : (x ≡ held from) ⊎ (x ≡ None)
  pub target : (y ≡ held to) ⊎ (y ≡ held from)

-- after a rename the target holds what the source held, and the source nothing
pub record Renames (from to : List ℕ) (old new : Story) {T : Type 0} (result : Result T DiskFault) : Type 0 where
  pub answers : Answers result (λ _. new ≡ moved from to None (old.held from) old)
      ((x y : Option Entry) × HalfMoved from to old.held x y × (new ≡ moved from to x y old))
      (new ≡ old)

-- the path is held, and each crash now leaves it as it is held
pub record IsSettled (path : List ℕ) (story : Story) : Type 0 where
  pub held : IsSome (story.held path)
  pub kept : (image : Store) → IsImage story image → image path ≡ story.held path

-- a sync changes nothing that is held
pub record Syncs (old new : Story) {T : Type 0} (result : Result T DiskFault) : Type 0 where
  pub answers : Answers result (λ _. new ≡ synced old) (new ≡ looked old) (new ≡ old)

-- the end of a ticket of the moment k changes nothing that is held
pub record Ends (k : ℕ) (old new : Story) {T : Type 0} (result : Result T DiskFault) : Type 0 where
  pub answers : Answers result (λ _. new ≡ ended k old) (new ≡ looked old) (new ≡ old)
