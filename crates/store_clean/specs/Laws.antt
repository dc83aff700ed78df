-- What becomes of valid stores, and of what is available, while a store is cleared.
use Rattle.std.specs.Prelude.{◌≡◌, ℕ, Bool, true, List, Contains, Some}
use Rattle.std.specs.List.{AllByRecursion, slice_get}
use Rattle.tree_model.specs.declared.hash.Hash.{Hash}
use Rattle.meta_model.specs.declared.event.Avail.{Avail}
use Rattle.meta_model.specs.declared.plan.PlanTask.{PlanTask}
use Rattle.meta_model.specs.CleanBuild.{Gives}
use Rattle.outside_traits.specs.Store.{Store}
use Rattle.store_model.specs.declared.signature.EquivRow.{EquivRow}
use Rattle.store_model.specs.Available.{IsAvailable}
use Rattle.store_model.specs.Opened.{IsOpened}
use Rattle.store_model.specs.Origins.{Book, Reading, rows_of}
use Rattle.store_model.specs.Readable.{IsReadable}
use Rattle.store_model.specs.Recording.{HasRow}
use Rattle.store_model.specs.Signatures.{Signed, signatures}
use Rattle.store_model.specs.Valid.{IsValid}
use Rattle.book_change.specs.Going.{KeepsPlan, kept_of}
use Rattle.store_clean.specs.Deciding.{IsDecided, keeps}
use Rattle.store_clean.specs.Cleared.{IsCleared, IsClearing, is_there}

-- The store is valid with the lines whose records are there, and readable; each line that stays is there.
pub record IsPartThere (gives : Gives) (reading : Reading) (keep : Hash → Bool) (book : Book) (image : Store) : Type 0 where
  pub valid : IsValid gives reading image (kept_of (is_there image) book)
  pub readable : AllByRecursion IsReadable (kept_of (is_there image) book)
  pub kept : (name : Hash) → keep name ≡ true → HasRow (rows_of book) name → is_there image name ≡ true

-- At each moment of a clearing a store that was valid is so with some of its lines, and all that stay are among them.
abbrev pub ClearingIsValid : Type 0
ClearingIsValid = (before held image : Store) (rows : List EquivRow) (keep : Hash → Bool) → IsOpened before held rows → IsClearing rows keep held image →
    (gives : Gives) (reading : Reading) (book : Book) → IsValid gives reading held book → AllByRecursion IsReadable book → rows ≡ rows_of book → IsPartThere gives reading keep book image

-- Behind it the store is valid with just those that stay, in their order.
abbrev pub ClearedIsValid : Type 0
ClearedIsValid = (before held now : Store) (rows : List EquivRow) (keep : Hash → Bool) → IsOpened before held rows → IsCleared rows keep held now →
    (gives : Gives) (reading : Reading) (book : Book) → IsValid gives reading held book → AllByRecursion IsReadable book → rows ≡ rows_of book → IsValid gives reading now (kept_of keep book)

-- Where each name of a plan's tasks that has a row stays, each task is available at each moment in the way in which it was, Missing included.
abbrev pub ClearingIsAvailable : Type 0
ClearingIsAvailable = (before held image : Store) (rows : List EquivRow) (keep : Hash → Bool) → IsOpened before held rows → IsClearing rows keep held image →
    (book : Book) → rows ≡ rows_of book → (tasks : List PlanTask) → KeepsPlan keep book tasks → (setscene : Bool) (n : ℕ) (s : Signed) (a : Avail) →
    slice_get (signatures (rows_of book) tasks) n ≡ Some s → IsAvailable held (rows_of book) setscene s a → IsAvailable image (rows_of (kept_of (is_there image) book)) setscene s a

-- Roots that have a row stay.
abbrev pub RootsStay : Type 0
RootsStay = (rows : List EquivRow) (roots : List Hash) (limit : ℕ) (marks : List Bool) → IsDecided rows roots limit marks → (name : Hash) → Contains roots name → HasRow rows name → keeps rows marks name ≡ true
