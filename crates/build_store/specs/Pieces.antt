-- What follows for a publication in pieces, and for those that are open beside it.
use Rattle.std.specs.Prelude.{◌≡◌, ℕ, false, List, [], ◌∷◌, ◌++◌, Option, Some, None}
use Rattle.std.specs.List.{AllByRecursion}
use Rattle.tree_model.specs.declared.entry.Entry.{Entry}
use Rattle.tree_model.specs.declared.hash.Hash.{Hash}
use Rattle.tree_model.specs.Hash.{hash_text}
use Rattle.tree_model.specs.Tree.{IsTree}
use Rattle.outside_traits.specs.Passes.{EachNow, Passes}
use Rattle.outside_traits.specs.Store.{HoldsTree, IsApart, IsFree, IsOpen, Store}
use Rattle.outside_traits.specs.Story.{IsSound, Story}
use Rattle.meta_model.specs.CleanBuild.{Entries}
use Rattle.store_model.specs.declared.signature.EquivRow.{EquivRow}
use Rattle.store_model.specs.Available.{object_folder}
use Rattle.store_model.specs.Rows.{hash_eq}
use Rattle.store_model.specs.Signatures.{Signed}
use Rattle.store_model.specs.Spelling.{name_of}
use Rattle.build_store.specs.Publication.{KeepsOthers, Publishes, publication, settled}
use Rattle.store_model.specs.Publication.{stamp_at, work_at, Publication}
use Rattle.build_store.specs.Calls.{Finishes, KeepsStaged, Opens, Works}
use Rattle.build_store.specs.Halves.{AreApart, IsHalf, IsOn, Progress}
use Rattle.build_store.specs.Ending.{HasFolders, KeepsPut}
use Rattle.build_store.specs.Noting.{AreListed, items_for}
use Rattle.build_store.specs.Items.{Does, IsItemOf, Item, writing}

-- What each call does at each moment is what a publication does: all that follows from that follows for each of the calls alone.
pub record IsPublishing (p : Publication) (held old new : Store) : Type 0 where
  pub own : Publishes p old new
  pub others : KeepsOthers p.folder p.object held old new
  pub staged : KeepsStaged p old new

abbrev pub OpensIsPublishing : Type 0
OpensIsPublishing = (p : Publication) (held old new : Store) → Opens p held old new → IsPublishing p held old new

abbrev pub WorksIsPublishing : Type 0
WorksIsPublishing = (p : Publication) (items : List Item) (held old new : Store) → AllByRecursion (IsItemOf p) items → old (stamp_at p.folder) ≡ None → Works items old new → IsPublishing p held old new

abbrev pub FinishesIsPublishing : Type 0
FinishesIsPublishing = (p : Publication) (held old new : Store) → old (stamp_at p.folder) ≡ None → Finishes p old new → IsPublishing p held old new

-- Two calls in a row are one, where no crash between them leaves a stamp of the task, and the second one writes no key.
abbrev pub InARow : Type 0
InARow = (p : Publication) (a b c : Story) → IsSound b → EachNow b (λ image. image (stamp_at p.folder) ≡ None) →
    Passes a b (IsPublishing p a.held) → Passes b c (IsPublishing (settled p) b.held) → Passes a c (IsPublishing p a.held)

-- ---- those that are open beside it

-- An open publication stays as it is, whatever another one does, or a restoring: of what others have nothing changes.
abbrev pub HalvesStay : Type 0
HalvesStay = (p : Publication) (left : List Item) (folder : List ℕ) (object : Option Hash) (a b : Story) → IsApart folder p.folder →
    ((one other : Hash) → object ≡ Some one → p.object ≡ Some other → IsApart (hash_text one) (hash_text other)) →
    Passes a b (KeepsOthers folder object a.held) → IsHalf p left a → IsHalf p left b

-- And where it is at its end, all that it has put stays.
abbrev pub OthersKeepPut : Type 0
OthersKeepPut = (p r : Publication) (held old new : Store) → AreApart r p → HasFolders p held → IsPublishing r held old new → KeepsPut p old new

-- Together: however far it is, it stays so, whatever another one does that shares nothing with it.
abbrev pub OpenOnesStay : Type 0
OpenOnesStay = (p r : Publication) (progress : Progress) (a b : Story) → IsSound a → AreApart r p → Passes a b (IsPublishing r a.held) → IsOn p progress a → IsOn p progress b

-- What is put stays the same, while rows of other tasks and names come behind.
abbrev pub PublicationStays : Type 0
PublicationStays = (rows : List EquivRow) (row : EquivRow) (s : Signed) (tree : Entries) → hash_eq row.name (name_of s.sig) ≡ false → (row.pn ≡ s.sig.pn → row.task ≡ s.sig.task → ⊥) → publication (rows ++ row ∷ []) s tree ≡ publication rows s tree

-- ---- its own steps

-- After a step what is left is left.
abbrev pub StepGoesOn : Type 0
StepGoesOn = (p : Publication) (done left : List Item) (a b : Story) → IsHalf p (done ++ left) a → Does done a.held b.held → Passes a b (Works done) → IsHalf p left b

-- With no item left the folders hold exactly the tree.
abbrev pub WholeAtLast : Type 0
WholeAtLast = (p : Publication) (a : Story) → IsHalf p [] a → HoldsTree (work_at p.folder) p.tree a.held × ((unihash : Hash) → p.object ≡ Some unihash → HoldsTree (object_folder unihash) p.tree a.held)

-- An entry that is the next item may be written: nothing stands above or below its path.
abbrev pub MayBeWritten : Type 0
MayBeWritten = (p : Publication) (path : List ℕ) (entry : Entry) (left : List Item) (a : Story) → IsTree p.tree → IsHalf p (writing path entry ∷ left) a → IsFree a.held path

-- ---- its opening

-- Where each crash leaves no stamp and nothing is in the way of the folders, the publication is open with these items.
abbrev pub NotedIsHalf : Type 0
NotedIsHalf = (p : Publication) (found shared : List (List ℕ)) (a : Story) → IsTree p.tree → EachNow a (λ image. image (stamp_at p.folder) ≡ None) →
    IsOpen (work_at p.folder) a.held → AreListed (work_at p.folder) found a.held →
    ((unihash : Hash) → p.object ≡ Some unihash → IsOpen (object_folder unihash) a.held × AreListed (object_folder unihash) shared a.held) →
    IsHalf p (items_for p found shared) a
