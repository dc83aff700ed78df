-- What a device holds, as a function from paths, and how one store differs from another.
use Rattle.std.specs.Prelude.{◌≡◌, ◌≢◌, ◌⊎◌, ◌==◌, ℕ, suc, List, [], ◌∷◌, Option, Some, None, IsSome, Contains, if◌then◌else◌}
use Rattle.std.specs.Ordering.{nat_cmp}
use Rattle.std.specs.List.Sorted.{IsStrictlySortedBy}
use Rattle.std.specs.Cmp.Lexicographic.{slice_cmp}
use Rattle.std.specs.Str.{bytes_eq}
use Rattle.tree_model.specs.declared.entry.Entry.{Entry}
use Rattle.tree_model.specs.Path.{BeginsWith, IsBelow, inside}
use Rattle.tree_model.specs.Tree.{entry_at}

-- what each path holds
abbrev pub Store : Type 0
Store = List ℕ → Option Entry

-- no held path is a proper ancestor of another
abbrev pub IsTreelike : Store → Type 0
IsTreelike held = (p q : List ℕ) → IsBelow p q → IsSome (held p) → IsSome (held q) → ⊥

-- no held path is a proper ancestor or descendant of p
pub record IsFree (held : Store) (p : List ℕ) : Type 0 where
  pub above : (q : List ℕ) → IsBelow q p → held q ≡ None
  pub below : (q : List ℕ) → IsBelow p q → held q ≡ None

-- the store with this at the path
abbrev pub put : Store → List ℕ → Option Entry → Store
put held p x = λ q. if bytes_eq p q then x else held q

-- the new store differs from the old at the path alone
pub record ChangesAt (p : List ℕ) (old new : Store) : Type 0 where
  pub others : (q : List ℕ) → q ≢ p → new q ≡ old q

-- the entry x moves: the target holds x or what it held, the source what it held or nothing, and all else stays
pub record Moves (from to : List ℕ) (x : Option Entry) (old new : Store) : Type 0 where
  pub others : (q : List ℕ) → q ≢ from → q ≢ to → new q ≡ old q
  pub source : (new from ≡ old from) ⊎ (new from ≡ None)
  pub target : (new to ≡ old to) ⊎ (new to ≡ x)

-- just the paths with the prefix at which something is held, each once, in byte order
pub record IsListing {V : Type 0} (prefix : List ℕ) (held : List ℕ → Option V) (paths : List (List ℕ)) : Type 0 where
  pub ascending : IsStrictlySortedBy (slice_cmp nat_cmp) paths
  pub are_held : (q : List ℕ) → Contains paths q → BeginsWith prefix q × IsSome (held q)
  pub all : (q : List ℕ) → BeginsWith prefix q → IsSome (held q) → Contains paths q

-- A call changed no file. The files are what a device holds, read off it before the call and after it.
abbrev pub SameFiles : {T : Type 0} → (T → List ℕ → Option (List ℕ)) → T → T → Type 0
SameFiles files old new = files new ≡ files old

-- the path is neither the folder nor above it nor under it
pub record IsApart (folder q : List ℕ) : Type 0 where
  pub not_folder : q ≢ folder
  pub not_above : IsBelow q folder → ⊥
  pub not_under : IsBelow folder q → ⊥

-- the stores agree on all paths but the folder, those above it and those under it
pub record AgreesApart (folder : List ℕ) (old new : Store) : Type 0 where
  pub apart : (q : List ℕ) → IsApart folder q → new q ≡ old q

-- the path is the folder or above it
abbrev pub IsAround : List ℕ → List ℕ → Type 0
IsAround folder q = (q ≡ folder) ⊎ IsBelow q folder

-- The stores agree apart from the folder, and besides on the folder's path and those above it at which this store holds nothing: where
-- nothing is in the way of a folder nothing is removed.
pub record AgreesRound (folder : List ℕ) (held old new : Store) : Type 0 where
  pub apart : (q : List ℕ) → IsApart folder q → new q ≡ old q
  pub around : (q : List ℕ) → IsAround folder q → held q ≡ None → new q ≡ old q

-- What is in the way of a folder goes: the stores agree but on the folder's path and those above it at which this store holds something.
pub record MakesWay (folder : List ℕ) (held old new : Store) : Type 0 where
  pub others : (q : List ℕ) → (IsAround folder q → ⊥) → new q ≡ old q
  pub around : (q : List ℕ) → IsAround folder q → held q ≡ None → new q ≡ old q

-- The entry comes to stand at the path: the stores differ at that path alone, and not there either where this store holds the entry there.
pub record PutsEntry (path : List ℕ) (entry : Entry) (held old new : Store) : Type 0 where
  pub others : (q : List ℕ) → q ≢ path → new q ≡ old q
  pub right : held path ≡ Some entry → new path ≡ old path

-- The folder becomes the tree: the stores agree round the folder, and besides at each path under it at which this store holds what the tree
-- has there. What is held already isn't written again, and what isn't held isn't removed.
pub record LaysTree (folder : List ℕ) (tree : List (List ℕ × Entry)) (held old new : Store) : Type 0 where
  pub round : AgreesRound folder held old new
  pub right : (path : List ℕ) → held (inside folder path) ≡ entry_at tree path → new (inside folder path) ≡ old (inside folder path)

-- nothing is held at the folder or above it
pub record IsOpen (folder : List ℕ) (held : Store) : Type 0 where
  pub at : held folder ≡ None
  pub above : (q : List ℕ) → IsBelow q folder → held q ≡ None

-- exactly the tree is held under the folder, and nothing at the folder or above it
pub record HoldsTree (folder : List ℕ) (tree : List (List ℕ × Entry)) (held : Store) : Type 0 where
  pub entries : (path : List ℕ) → held (inside folder path) ≡ entry_at tree path
  pub outside : IsOpen folder held

-- What is held under the folder is held at paths that the tree has too, and each of these is listed; and nothing is held at the folder or
-- above it. The list ascends by its bytes.
pub record IsCleared (folder : List ℕ) (tree : List (List ℕ × Entry)) (listed : List (List ℕ)) (held : Store) : Type 0 where
  pub ascending : IsStrictlySortedBy (slice_cmp nat_cmp) listed
  pub within : (path : List ℕ) → IsSome (held (inside folder path)) → IsSome (entry_at tree path)
  pub are_listed : (path : List ℕ) → IsSome (held (inside folder path)) → Contains listed (inside folder path)
  pub outside : IsOpen folder held

-- how many slashes a text has
abbrev pub slashes : List ℕ → ℕ
slashes [] = 0
slashes (b ∷ bs) = if b == 47 then suc (slashes bs) else slashes bs
