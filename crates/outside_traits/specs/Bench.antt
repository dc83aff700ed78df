-- What is told of a bench, and what each of its calls did, by its answer.
use Rattle.std.specs.Prelude.{◌≡◌, ◌≢◌, ◌⊎◌, ℕ, Bool, true, List, [], ◌∷◌, ◌++◌, Option, Some, None, Result, Ok, Err, MatchResult}
use Rattle.tree_model.specs.declared.entry.Entry.{Entry}
use Rattle.tree_model.specs.declared.tree.Size.{Size}
use Rattle.tree_model.specs.Tree.{entry_at, IsTree}
use Rattle.tree_model.specs.Size.{Exceeds, size_of}
use Rattle.outside_traits.specs.declared.bench.Taken.{Taken}
use Rattle.outside_traits.specs.declared.bench.Taken.TheVariants.{Tree, TooLarge}
use Rattle.outside_traits.specs.declared.fault.BenchFault.{BenchFault}
use Rattle.outside_traits.specs.declared.fault.BenchFault.TheVariants.{Failed, Memory}
use Rattle.outside_traits.specs.Store.{put, IsFree}
pub use Rattle.tree_model.specs.Entries.{Entries, Gives}

-- The tree that is laid so far, whether the bench was cleared since its last run, the tree of the last run since it was
-- cleared, where that run answered 0, and the runs so far, each a script with the tree that was laid for it.
pub record Workplace : Type 0 where
  pub laid : Entries
  pub cleared : Bool
  pub output : Option Entries
  pub runs : List (List ℕ × Entries)

-- no laid path equals the path, or is a proper ancestor or descendant of it
pub record IsVacant (laid : Entries) (path : List ℕ) : Type 0 where
  pub at : entry_at laid path ≡ None
  pub around : IsFree (entry_at laid) path

-- the tree with one entry more
pub record Adds (path : List ℕ) (entry : Entry) (old new : Entries) : Type 0 where
  pub tree : IsTree new
  pub entries : entry_at new ≡ put (entry_at old) path (Some entry)

-- the script ran over the tree that was laid
abbrev pub run_on : Workplace → List ℕ → List (List ℕ × Entries)
run_on old script = old.runs ++ (script, old.laid) ∷ []

-- the run answered 0 and this tree is its output, or it answered the status with which the script fails, which isn't 0
abbrev pub Gave : Result Entries ℕ → ℕ → Option Entries → Type 0
Gave outcome status output = MatchResult outcome (λ tree. (status ≡ 0) × (output ≡ Some tree)) (λ code. (status ≡ code) × (code ≢ 0) × (output ≡ None))

-- what is taken is the output, or the output exceeds the limit
abbrev pub IsTaken : Entries → Size → Taken → Type 0
IsTaken output limit (Tree tree) = (tree ≡ output) × (Exceeds (size_of output) limit → ⊥)
IsTaken output limit TooLarge = Exceeds (size_of output) limit

-- what holds at each answer
abbrev pub BenchAnswers : {T : Type 0} → Result T BenchFault → (T → Type 0) → Type 0 → Type 0 → Type 0
BenchAnswers (Ok v) ok failed memory = ok v
BenchAnswers (Err Failed) ok failed memory = failed
BenchAnswers (Err Memory) ok failed memory = memory

-- nothing is laid; after a failure no more is known than the runs
pub record Clears (old new : Workplace) {T : Type 0} (result : Result T BenchFault) : Type 0 where
  pub answers : BenchAnswers result
      (λ _. new ≡ record { laid = []; cleared = true; output = None; runs = old.runs })
      (new.runs ≡ old.runs)
      (new ≡ old)

-- one entry more is laid; after a failure no more is known than the runs
pub record Puts (path : List ℕ) (entry : Entry) (old new : Workplace) {T : Type 0} (result : Result T BenchFault) : Type 0 where
  pub answers : BenchAnswers result
      (λ _. Adds path entry old.laid new.laid × (new.cleared ≡ old.cleared) × (new.output ≡ old.output) × (new.runs ≡ old.runs))
      (new.runs ≡ old.runs)
      (new ≡ old)

-- the script ran once over what was laid; after a failure it ran so or not at all
pub record Runs (gives : Gives) (script : List ℕ) (old new : Workplace) (result : Result ℕ BenchFault) : Type 0 where
  pub answers : BenchAnswers result
      (λ status. Gave (gives script old.laid) status new.output × (new.runs ≡ run_on old script))
      ((new.runs ≡ old.runs) ⊎ (new.runs ≡ run_on old script))
      (new ≡ old)

-- the output, where it is within the limit
pub record Takes (max : Size) (old new : Workplace) (result : Result Taken BenchFault) : Type 0 where
  pub answers : BenchAnswers result
      (λ taken. (output : Entries) × (old.output ≡ Some output) × IsTaken output max taken × (new.runs ≡ old.runs))
      (new.runs ≡ old.runs)
      (new ≡ old)
