-- Which records are believed.
use Rattle.std.specs.Prelude.{◌≡◌, ◌⊎◌, ℕ, zero, suc, ◌<◌, List, AllPairs, Some, slice_get}
use Rattle.std.specs.Ordering.{nat_cmp}
use Rattle.std.specs.declared.cmp.Ordering.{Ordering}
use Rattle.std.specs.declared.cmp.Ordering.TheVariants.{Less}
use Rattle.std.specs.Cmp.Lexicographic.{slice_cmp}
use Rattle.tree_model.specs.declared.hash.Hash.{Hash}
use Rattle.store_model.specs.declared.signature.DepLine.{DepLine}
use Rattle.store_model.specs.declared.signature.ShortStored.{ShortStored}
use Rattle.store_model.specs.declared.candidate.Candidate.{Candidate}

-- names by their bytes, and so by the texts of files
abbrev pub name_cmp : Hash → Hash → Ordering
name_cmp a b = slice_cmp nat_cmp a.bytes b.bytes

-- the candidates ascend by name, as a listing gives them; so their names differ
abbrev pub Ascend : List Candidate → Type 0
Ascend candidates = AllPairs (λ a b. name_cmp a.name b.name ≡ Less) candidates

-- one of the candidates
abbrev pub IsAmong : List Candidate → Candidate → Type 0
IsAmong candidates c = (k : ℕ) × (slice_get candidates k ≡ Some c)

-- the records are of one PN and task, and have one manifest
pub record AreAlike (a b : ShortStored) : Type 0 where
  pub pn : a.sig.pn ≡ b.sig.pn
  pub task : a.sig.task ≡ b.sig.task
  pub manifest : a.manifest ≡ b.manifest

-- one that P admits has this name
pub record IsNamed (P : Candidate → Type 0) (name : Hash) : Type 0 where
  pub other : Candidate
  pub admitted : P other
  pub name_is : other.name ≡ name

-- one that P admits, and that is alike, has the candidate's unihash for its name
pub record IsShared (P : Candidate → Type 0) (c : Candidate) : Type 0 where
  pub other : Candidate
  pub admitted : P other
  pub name_is : other.name ≡ c.stored.unihash
  pub alike : AreAlike other.stored c.stored

-- A candidate may be believed where those that P admits are: each record that its signature names is one of them, and its
-- unihash is its own name or names one of them that is alike (own rule).
pub record MayBeBelieved (candidates : List Candidate) (P : Candidate → Type 0) (c : Candidate) : Type 0 where
  pub among : IsAmong candidates c
  pub deps : (i : ℕ) (dep : DepLine) → slice_get c.stored.sig.deps i ≡ Some dep → IsNamed P dep.name
  pub unihash : (c.stored.unihash ≡ c.name) ⊎ IsShared P c

-- believed within so many rounds, from none at all
abbrev pub IsBelievedWithin : List Candidate → ℕ → Candidate → Type 0
IsBelievedWithin candidates zero c = ⊥
IsBelievedWithin candidates (suc n) c = MayBeBelieved candidates (IsBelievedWithin candidates n) c

-- The believed candidates are the least set that has each candidate which may be believed where they are (own rule): what is
-- believed within some number of rounds. A ring, and what stands above one, never is.
abbrev pub IsBelieved : List Candidate → Candidate → Type 0
IsBelieved candidates c = (n : ℕ) × IsBelievedWithin candidates n c

-- a candidate's depth is the number of rounds before the first that believes it
pub record HasDepth (candidates : List Candidate) (depth : ℕ) (c : Candidate) : Type 0 where
  pub within : IsBelievedWithin candidates (suc depth) c
  pub first : (n : ℕ) → IsBelievedWithin candidates n c → depth < n

-- the candidate at this place has this depth
pub record HasDepthAt (candidates : List Candidate) (place depth : ℕ) : Type 0 where
  pub candidate : Candidate
  pub stands : slice_get candidates place ≡ Some candidate
  pub depth_is : HasDepth candidates depth candidate

-- the first place comes before the second: by depth, then by name, as the candidates stand
pub record ComesBefore (candidates : List Candidate) (p q : ℕ) : Type 0 where
  pub depth_p : ℕ
  pub depth_q : ℕ
  pub at_p : HasDepthAt candidates p depth_p
  pub at_q : HasDepthAt candidates q depth_q
  pub before : (depth_p < depth_q) ⊎ ((depth_p ≡ depth_q) × (p < q))

-- the candidate's place stands among these before one of them
pub record StandsBefore (candidates : List Candidate) (places : List ℕ) (k : ℕ) (c : Candidate) : Type 0 where
  pub index : ℕ
  pub place : ℕ
  pub earlier : index < k
  pub listed : slice_get places index ≡ Some place
  pub stands : slice_get candidates place ≡ Some c

-- These are the places of the believed candidates, each once, by depth, then by name; what a record names stands before it.
pub record AreBelieved (candidates : List Candidate) (places : List ℕ) : Type 0 where
  pub each : (k p : ℕ) → slice_get places k ≡ Some p → (c : Candidate) × (slice_get candidates p ≡ Some c) × IsBelieved candidates c
  pub whole : (c : Candidate) → IsBelieved candidates c → (k p : ℕ) × (slice_get places k ≡ Some p) × (slice_get candidates p ≡ Some c)
  pub named : (k p : ℕ) (c : Candidate) → slice_get places k ≡ Some p → slice_get candidates p ≡ Some c → MayBeBelieved candidates (StandsBefore candidates places k) c
  pub order : AllPairs (ComesBefore candidates) places
