-- Where a store writes first, and which tasks have a place in it. (Own rules.)
use Rattle.std.specs.Prelude.{◌≡◌, ◌⊎◌, ℕ, List, codes, None, IsSome}
use Rattle.tree_model.specs.declared.hash.Hash.{Hash}
use Rattle.tree_model.specs.Hash.{hash_text}
use Rattle.tree_model.specs.Path.{IsPart, inside}
use Rattle.outside_traits.specs.Store.{Store}
use Rattle.meta_model.specs.declared.plan.PlanTask.{PlanTask}
use Rattle.outside_traits.specs.Store.{slashes}

-- a text that is one part of a path
pub record IsOnePart (text : List ℕ) : Type 0 where
  pub part : IsPart text
  pub alone : slashes text ≡ 0

-- A task has a place in a store: its PN and its name are each one part of a path. So they are of every sound plan.
pub record HasPlace (of : PlanTask) : Type 0 where
  pub pn : IsOnePart of.id.pn
  pub task : IsOnePart of.id.task

-- where it is written first: `tmp/rec2/NAME`
abbrev pub staged_record_path : Hash → List ℕ
staged_record_path name = inside (codes "tmp/rec2") (hash_text name)

-- what stands under `tmp/`: records and stamps that are written there first, and stamps that were taken away
abbrev pub IsTemporary : List ℕ → Type 0
IsTemporary path =
    ((rest : List ℕ) × (path ≡ inside (codes "rec2") rest) × (slashes rest ≡ 0))
    ⊎ (((rest : List ℕ) × (path ≡ inside (codes "stamp") rest) × (slashes rest ≡ 1))
    ⊎ ((rest : List ℕ) × (path ≡ inside (codes "old") rest) × (slashes rest ≡ 1)))

-- What is held under `rec2/`, `key/` and `tmp/` stands where records, keys and temporary files do, and nothing is held at these three, nor at `stamp`.
pub record IsLaidOut (held : Store) : Type 0 where
  pub records : (path : List ℕ) → IsSome (held (inside (codes "rec2") path)) → slashes path ≡ 0
  pub keys : (path : List ℕ) → IsSome (held (inside (codes "key") path)) → slashes path ≡ 0
  pub temporary : (path : List ℕ) → IsSome (held (inside (codes "tmp") path)) → IsTemporary path
  pub at_records : held (codes "rec2") ≡ None
  pub at_keys : held (codes "key") ≡ None
  pub at_stamps : held (codes "stamp") ≡ None
  pub at_temporary : held (codes "tmp") ≡ None
