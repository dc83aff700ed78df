-- What the calls of a publication in pieces do to a store at each moment, as relations of what was and what is.
use Rattle.std.specs.Prelude.{◌≡◌, ◌≢◌, ◌⊎◌, ℕ, true, List, Some, None, codes}
use Rattle.tree_model.specs.declared.hash.Hash.{Hash}
use Rattle.tree_model.specs.Path.{IsBelow}
use Rattle.outside_traits.specs.Store.{IsAround, Store}
use Rattle.stamp_store.specs.Stamp.{old_path, staged_path}
use Rattle.store_opening.specs.Paths.{staged_record_path}
use Rattle.store_model.specs.Available.{object_folder}
use Rattle.store_model.specs.Paths.{key_path, record_path}
use Rattle.build_store.specs.Publication.{IsPublished, IsUntouched, KeepsOthers}
use Rattle.store_model.specs.Publication.{stamp_at, work_at, Publication}
use Rattle.build_store.specs.Items.{IsDue, Item}

-- the path is one of the publication's folders, or above one
abbrev pub IsRound : Publication → List ℕ → Type 0
IsRound p q = IsAround (work_at p.folder) q ⊎ ((unihash : Hash) × (p.object ≡ Some unihash) × IsAround (object_folder unihash) q)

-- Opening takes the stamp away, and what is in the way of the folders. Nothing under the folders changes, and where nothing was in the way
-- nothing changes round them.
pub record Opens (p : Publication) (held old new : Store) : Type 0 where
  pub others : (q : List ℕ) → q ≢ stamp_at p.folder → q ≢ old_path p.folder → (IsRound p q → ⊥) → new q ≡ old q
  pub round : (q : List ℕ) → IsRound p q → held q ≡ None → new q ≡ old q
  pub honest : IsUntouched p.folder old new ⊎ (new (stamp_at p.folder) ≡ None)

-- What is in the way of a stamp goes, above its path or below it, and nothing else: where this store holds something.
pub record FreesStamp (folder : List ℕ) (held old new : Store) : Type 0 where
  pub others : (q : List ℕ) → (IsBelow q (stamp_at folder) ⊎ IsBelow (stamp_at folder) q → ⊥) → new q ≡ old q
  pub none : (q : List ℕ) → held q ≡ None → new q ≡ old q

-- nothing is held below the folder's stamp
abbrev pub HasFreeStamp : List ℕ → Store → Type 0
HasFreeStamp folder held = (q : List ℕ) → IsBelow (stamp_at folder) q → held q ≡ None

-- What is held below a path goes, and nothing else.
pub record ClearsBelow (path : List ℕ) (held old new : Store) : Type 0 where
  pub others : (q : List ℕ) → (IsBelow path q → ⊥) → new q ≡ old q
  pub none : (q : List ℕ) → held q ≡ None → new q ≡ old q

-- A step changes just the paths of its items.
pub record Works (items : List Item) (old new : Store) : Type 0 where
  pub others : (q : List ℕ) → (IsDue items q → ⊥) → new q ≡ old q

-- The end of a publication brings the record, if it is new, and the stamp, and changes nothing else but where these are staged. The record
-- comes once its key is held, the stamp once all that it tells of is there.
pub record Finishes (p : Publication) (old new : Store) : Type 0 where
  pub others : (q : List ℕ) → q ≢ staged_path p.folder → q ≢ staged_record_path p.name → q ≢ stamp_at p.folder → (p.is_new ≡ true → q ≢ record_path p.name) → new q ≡ old q
  pub stored : (new (record_path p.name) ≡ old (record_path p.name))
      ⊎ ((p.is_new ≡ true) × (new (record_path p.name) ≡ Some p.file) × (new (key_path p.key) ≡ Some p.key_file))
  pub stamp : (new (stamp_at p.folder) ≡ old (stamp_at p.folder)) ⊎ IsPublished p new

-- What others have staged stays, and their records and keys: of what is under `tmp/` a publication changes no more than where its stamp is put aside,
-- and where its stamp and its record are staged.
pub record KeepsStaged (p : Publication) (old new : Store) : Type 0 where
  pub temporary : (q : List ℕ) → IsBelow (codes "tmp") q → q ≢ old_path p.folder → q ≢ staged_path p.folder → q ≢ staged_record_path p.name → new q ≡ old q
  pub records : (q : List ℕ) → IsBelow (codes "rec2") q → q ≢ record_path p.name → new q ≡ old q
  pub keys : (q : List ℕ) → IsBelow (codes "key") q → (p.writes_key ≡ true → q ≢ key_path p.key) → new q ≡ old q

-- Of what is under `tmp/` a restoring changes no more than where its folder's stamp is put aside and staged; and it changes no record and no key.
pub record KeepsTemporary (folder : List ℕ) (old new : Store) : Type 0 where
  pub temporary : (q : List ℕ) → IsBelow (codes "tmp") q → q ≢ old_path folder → q ≢ staged_path folder → new q ≡ old q
  pub records : (q : List ℕ) → IsBelow (codes "rec2") q → new q ≡ old q
  pub keys : (q : List ℕ) → IsBelow (codes "key") q → new q ≡ old q

-- what others have stays, and what they have staged
pub record KeepsAround (folder : List ℕ) (held old new : Store) : Type 0 where
  pub others : KeepsOthers folder None held old new
  pub own : KeepsTemporary folder old new

-- what is held at other paths than these two stays
abbrev pub MovesOnly : List ℕ → List ℕ → Store → Store → Type 0
MovesOnly from to old new = (q : List ℕ) → q ≢ from → q ≢ to → new q ≡ old q

-- of what is under `tmp/` all but what is at this path stays
abbrev pub KeepsBut : List ℕ → Store → Store → Type 0
KeepsBut from old new = (q : List ℕ) → IsBelow (codes "tmp") q → q ≢ from → new q ≡ old q
