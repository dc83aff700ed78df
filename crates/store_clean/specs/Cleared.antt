-- What stands on a disk while a store is cleared, and behind that.
use Rattle.std.specs.Prelude.{◌≡◌, ◌≢◌, ◌⊎◌, ℕ, Bool, true, false, List, Contains, IsSome, Option, Some, None, codes, is_some}
use Rattle.tree_model.specs.declared.entry.Entry.{Entry}
use Rattle.tree_model.specs.declared.hash.Hash.{Hash}
use Rattle.tree_model.specs.Path.{IsAtOrBelow, IsBelow, inside}
use Rattle.outside_traits.specs.Passes.{EachNow}
use Rattle.outside_traits.specs.Store.{Store}
use Rattle.outside_traits.specs.Story.{Story}
use Rattle.store_model.specs.declared.signature.EquivRow.{EquivRow}
use Rattle.store_model.specs.Available.{object_folder}
use Rattle.store_model.specs.Opened.{IsOpened}
use Rattle.store_model.specs.Paths.{key_path, record_path}
use Rattle.store_model.specs.Publication.{stamp_file}
use Rattle.store_model.specs.Readable.{IsRow}
use Rattle.store_clean.specs.declared.clearing.Cleaned.{Cleaned}
use Rattle.store_clean.specs.Naming.{RowNames}
use Rattle.store_clean.specs.Deciding.{IsCounted, IsDecided, keeps}

-- The disk was just opened: what is held is what an opening left, with these rows, and it is all that a crash leaves.
pub record IsJustOpened (rows : List EquivRow) (story : Story) : Type 0 where
  pub before : Store
  pub opened : IsOpened before story.held rows
  pub durable : EachNow story (λ image. image ≡ story.held)

-- where what goes is renamed to, one after another
abbrev pub gone_path : List ℕ
gone_path = codes "tmp/gone"

-- a row whose record goes
pub record Goes (rows : List EquivRow) (keep : Hash → Bool) (row : EquivRow) : Type 0 where
  pub among : Contains rows row
  pub gone : keep row.name ≡ false

-- a row whose record stays
pub record Stays (rows : List EquivRow) (keep : Hash → Bool) (row : EquivRow) : Type 0 where
  pub among : Contains rows row
  pub kept : keep row.name ≡ true

-- a stamp that names a record that goes
pub record NamesGone (rows : List EquivRow) (keep : Hash → Bool) (entry : Option Entry) : Type 0 where
  pub row : EquivRow
  pub goes : Goes rows keep row
  pub is : entry ≡ Some (stamp_file row.name)

-- the path is at or below the object of a record that stays
pub record IsKeptObject (rows : List EquivRow) (keep : Hash → Bool) (q : List ℕ) : Type 0 where
  pub row : EquivRow
  pub stays : Stays rows keep row
  pub at : IsAtOrBelow (object_folder row.unihash) q

-- the path is that of the key of a record that stays
pub record IsKeptKey (rows : List EquivRow) (keep : Hash → Bool) (q : List ℕ) : Type 0 where
  pub row : EquivRow
  pub stays : Stays rows keep row
  pub known : IsRow row
  pub at : q ≡ key_path known.stored.sig.key

-- A path that isn't touched: it is no record that goes, no stamp that names one, nothing under `obj/` or `key/` but what a record that stays needs, and not where
-- what goes is renamed to.
pub record IsBeside (rows : List EquivRow) (keep : Hash → Bool) (held : Store) (q : List ℕ) : Type 0 where
  pub records : (row : EquivRow) → Goes rows keep row → q ≢ record_path row.name
  pub stamps : IsBelow (codes "stamp") q → NamesGone rows keep (held q) → ⊥
  pub objects : IsBelow (codes "obj") q → IsKeptObject rows keep q
  pub keys : IsBelow (codes "key") q → IsKeptKey rows keep q
  pub temporary : q ≢ gone_path

-- What stands at each moment of a clearing: all beside as it was; of the records some, and with each all that it names, and its key; and of the stamps that name
-- records that go some.
pub record IsClearing (rows : List EquivRow) (keep : Hash → Bool) (held image : Store) : Type 0 where
  pub beside : (q : List ℕ) → IsBeside rows keep held q → image q ≡ held q
  pub records : (path : List ℕ) → (image (inside (codes "rec2") path) ≡ held (inside (codes "rec2") path)) ⊎ (image (inside (codes "rec2") path) ≡ None)
  pub closed : (row other : EquivRow) → Contains rows row → Contains rows other → RowNames row other.name → IsSome (image (record_path row.name)) → IsSome (image (record_path other.name))
  pub keys : (row : EquivRow) → Contains rows row → IsSome (image (record_path row.name)) → (known : IsRow row) → image (key_path known.stored.sig.key) ≡ held (key_path known.stored.sig.key)
  pub stamps : (q : List ℕ) → IsBelow (codes "stamp") q → (image q ≡ held q) ⊎ (NamesGone rows keep (held q) × (image q ≡ None))

-- Behind a clearing nothing else is left: no record that goes, no stamp that names one, no object and no key that no record names that stays, and nothing where what went was
-- renamed to.
pub record IsCleared (rows : List EquivRow) (keep : Hash → Bool) (held now : Store) : Type 0 where
  pub moment : IsClearing rows keep held now
  pub records : (row : EquivRow) → Goes rows keep row → now (record_path row.name) ≡ None
  pub stamps : (q : List ℕ) → IsBelow (codes "stamp") q → NamesGone rows keep (now q) → ⊥
  pub objects : (q : List ℕ) → IsBelow (codes "obj") q → IsSome (now q) → IsKeptObject rows keep q
  pub keys : (q : List ℕ) → IsBelow (codes "key") q → IsSome (now q) → IsKeptKey rows keep q
  pub temporary : now gone_path ≡ None

-- what stands at a moment: what stood at first, or with marks that are decided what a clearing by these makes of it
abbrev pub IsMoment : List EquivRow → List Hash → ℕ → Store → Store → Type 0
IsMoment rows roots limit held image = (image ≡ held) ⊎ ((marks : List Bool) × IsDecided rows roots limit marks × IsClearing rows (keeps rows marks) held image)

-- The clearing was done, with marks that are decided, and counted; all is durable.
pub record IsDone (rows : List EquivRow) (roots : List Hash) (limit : ℕ) (held : Store) (after : Story) (cleaned : Cleaned) : Type 0 where
  pub marks : List Bool
  pub decided : IsDecided rows roots limit marks
  pub counted : IsCounted rows marks cleaned
  pub cleared : IsCleared rows (keeps rows marks) held after.held
  pub durable : EachNow after (λ image. image ≡ after.held)

-- the record of this name is held
abbrev pub is_there : Store → Hash → Bool
is_there held name = is_some (held (record_path name))
