-- Open publications.
use Rattle.std.specs.Prelude.{◌≡◌, ◌≢◌, ◌≤◌, ℕ, true, List, Some, None}
use Rattle.std.specs.List.{AllByRecursion}
use Rattle.tree_model.specs.declared.hash.Hash.{Hash}
use Rattle.tree_model.specs.Hash.{hash_text}
use Rattle.outside_traits.specs.Passes.{EachNow}
use Rattle.outside_traits.specs.Store.{IsApart}
use Rattle.outside_traits.specs.Story.{Story, moment}
use Rattle.meta_model.specs.CleanBuild.{Entries}
use Rattle.store_model.specs.declared.signature.EquivRow.{EquivRow}
use Rattle.store_model.specs.Available.{object_folder}
use Rattle.store_model.specs.Signatures.{Signed}
use Rattle.store_model.specs.Publication.{stamp_at, work_at, Publication}
use Rattle.build_store.specs.Publication.{publication}
use Rattle.store_model.specs.Paths.{key_path, record_path}
use Rattle.outside_traits.specs.Phases.{EachAbove, Phase}
use Rattle.build_store.specs.Ending.{IsAt}
use Rattle.build_store.specs.Noting.{AreNoted}
use Rattle.build_store.specs.Items.{IsItemOf, IsLaidBut, Item, RemovalsFirst}

-- What a store keeps of an open publication: no crash leaves a stamp; each item is right, and removals come first; what is held in the
-- folders is the tree but for the items' paths.
pub record IsHalf (p : Publication) (left : List Item) (story : Story) : Type 0 where
  pub unstamped : EachNow story (λ image. image (stamp_at p.folder) ≡ None)
  pub items : AllByRecursion (IsItemOf p) left
  pub order : RemovalsFirst left
  pub work : IsLaidBut (work_at p.folder) p.tree left story.held
  pub shared : (unihash : Hash) → p.object ≡ Some unihash → IsLaidBut (object_folder unihash) p.tree left story.held

-- What a store keeps of an open publication whose stamp was put aside: once the ticket of this moment has ended no crash leaves one, and the items are
-- by what is held in its two folders. Nothing of these was changed.
pub record IsAside (p : Publication) (k : ℕ) (items : List Item) (story : Story) : Type 0 where
  pub past : k ≤ moment story
  pub gone : EachAbove story k (λ image. image (stamp_at p.folder) ≡ None)
  pub noted : AreNoted p items story.held

-- how far an open publication is: its stamp was put aside, items are left, or it is at a phase of its end
pub data Progress : Type 0 where
  taking : (k : ℕ) (items : List Item) → Progress
  working : (left : List Item) → Progress
  ending : (phase : Phase) → Progress

-- an open publication: the task with its signature, what it gave, and how far it is
pub record Half : Type 0 where
  pub signed : Signed
  pub tree : Entries
  pub progress : Progress

-- what a store keeps of it
abbrev pub IsOn : Publication → Progress → Story → Type 0
IsOn p (taking k items) story = IsAside p k items story
IsOn p (working left) story = IsHalf p left story
IsOn p (ending phase) story = IsAt p phase story

-- what it is to put, over these rows
abbrev pub put_of : List EquivRow → Half → Publication
put_of rows h = publication rows h.signed h.tree

-- two publications share no folder, no record and no object, and the first writes no key of the other
pub record AreApart (p r : Publication) : Type 0 where
  pub folders : IsApart p.folder r.folder
  pub names : record_path p.name ≢ record_path r.name
  pub keys : p.writes_key ≡ true → key_path p.key ≢ key_path r.key
  pub objects : (one other : Hash) → p.object ≡ Some one → r.object ≡ Some other → IsApart (hash_text one) (hash_text other)
