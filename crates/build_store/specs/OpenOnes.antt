-- Open publications as the store keeps them: what each puts, what is left of it, and how far it is.
use Rattle.std.specs.Prelude.{◌≡◌, ◌⊎◌, ◌<◌, ◌≤◌, ◌+◌, ◌^◌, min, ℕ, List, [], ◌++◌, length, map, drop, filter, is_none, codes, Option, Some, None, IsSome}
use Rattle.tree_model.specs.declared.entry.Entry.{Entry}
use Rattle.tree_model.specs.declared.hash.Hash.{Hash}
use Rattle.tree_model.specs.Hash.{hash_text}
use Rattle.tree_model.specs.Path.{IsBelow, inside}
use Rattle.tree_model.specs.Tree.{IsTree, entry_at}
use Rattle.outside_traits.specs.Phases.{kept, staged, stamped, stored}
use Rattle.outside_traits.specs.Passes.{EachNow}
use Rattle.outside_traits.specs.Store.{Store, slashes}
use Rattle.outside_traits.specs.Story.{Story}
use Rattle.meta_model.specs.CleanBuild.{Entries}
use Rattle.stamp_store.specs.Stamp.{IsFolder, old_path, staged_path}
use Rattle.store_opening.specs.Named.{IsName}
use Rattle.store_opening.specs.Paths.{staged_record_path}
use Rattle.store_model.specs.Available.{object_folder}
use Rattle.store_model.specs.Publication.{work_at, Publication}
use Rattle.build_store.specs.declared.drafting.Draft.{Draft}
use Rattle.build_store.specs.declared.pieces.OpenPublication.{OpenPublication}
use Rattle.build_store.specs.declared.pieces.Reached.{Reached}
use Rattle.build_store.specs.declared.pieces.Reached.TheVariants as reached
use Rattle.build_store.specs.Calls.{IsRound}
use Rattle.build_store.specs.Drafts.{file_of}
use Rattle.build_store.specs.Halves.{IsOn, Progress, ending, taking, working}
use Rattle.build_store.specs.Items.{Item, removal}
use Rattle.build_store.specs.Noting.{AreFound, removals, writings}
use Rattle.build_store.specs.Phases.{put_of}
use Rattle.build_store.specs.Publication.{AreShort, IsPublished}

-- what it puts, where this is its record's file
abbrev pub put_by : OpenPublication → Entry → Publication
put_by o f = put_of o.folder o.name o.tree o.object (file_of o.new) f o.sig

-- what is written into the object, if there is one
abbrev pub shared_writings : Option Hash → Entries → List Item
shared_writings None tree = []
shared_writings (Some unihash) tree = writings (object_folder unihash) tree

-- the items of a publication, where these paths are removed: behind that each entry of the tree is written, in the work folder and then in
-- the object
abbrev pub items_by : Publication → List (List ℕ) → List Item
items_by p extra = map removal extra ++ (writings (work_at p.folder) p.tree ++ shared_writings p.object p.tree)

abbrev pub items_of : OpenPublication → List Item
items_of o = map removal o.extra ++ (writings (work_at o.folder) o.tree ++ shared_writings o.object o.tree)

-- a publication as it is opened: its stamp was put aside, or there was none
abbrev pub IsFirst : Reached → Type 0
IsFirst (reached.Aside k) = Unit {0}
IsFirst (reached.Working done) = done ≡ 0
IsFirst now = ⊥

abbrev pub IsAsideAt : Reached → Type 0
IsAsideAt (reached.Aside k) = Unit {0}
IsAsideAt now = ⊥

abbrev pub opened_by : List ℕ → Option Hash → Draft → Entries → List (List ℕ) → Reached → OpenPublication
opened_by folder object draft tree extra now = record {
  folder = folder;
  name = draft.name;
  sig = draft.text;
  tree = tree;
  unihash = draft.unihash;
  object = object;
  new = draft.new;
  extra = extra;
  reached = now;
}

-- how far it is, where these are all its items
abbrev pub progress_at : List Item → Reached → Progress
progress_at items (reached.Aside k) = taking k items
progress_at items (reached.Taken k) = taking k items
progress_at items (reached.Working done) = working (drop done items)
progress_at items (reached.Staged k) = ending (staged k)
progress_at items (reached.Kept k) = ending (kept k)
progress_at items (reached.Stored k) = ending (stored k)
progress_at items (reached.Stamped k) = ending (stamped k)

-- how far it is, once it has reached this
abbrev pub progress_by : OpenPublication → Reached → Progress
progress_by o now = progress_at (items_of o) now

abbrev pub progress_of : OpenPublication → Progress
progress_of o = progress_at (items_of o) o.reached

-- Record and stamp are staged: the record's file just where it is new.
abbrev pub IsStaged : OpenPublication → Reached → Type 0
IsStaged o (reached.Staged k) = IsSome o.new
IsStaged o (reached.Kept k) = o.new ≡ None
IsStaged o now = ⊥

-- the same publication, once it has reached this
abbrev pub at_next : OpenPublication → Reached → OpenPublication
at_next o next = record o { reached = next }

-- What it has reached suits it: no more items are done than it has, and its record's file is staged where it is new.
abbrev pub Suits : OpenPublication → Reached → Type 0
Suits o (reached.Aside k) = Unit {0}
Suits o (reached.Taken k) = Unit {0}
Suits o (reached.Working done) = done ≤ length (items_of o)
Suits o (reached.Staged k) = IsSome o.new
Suits o (reached.Kept k) = o.new ≡ None
Suits o (reached.Stored k) = Unit {0}
Suits o (reached.Stamped k) = Unit {0}

-- What comes next: where its stamp was put aside a wait is asked for, and behind that its items begin; 64 items more, or all; with all done record and
-- stamp are staged; then the record is renamed, if it is new, then the stamp; and behind that all is done.
abbrev pub LeadsTo : OpenPublication → Reached → Option Reached → Type 0
LeadsTo o (reached.Aside j) (Some (reached.Taken k)) = k ≡ j
LeadsTo o (reached.Taken j) (Some (reached.Working next)) = next ≡ 0
LeadsTo o (reached.Working done) (Some (reached.Working next)) = (done < length (items_of o)) × (next ≡ min (done + 64) (length (items_of o)))
LeadsTo o (reached.Working done) (Some (reached.Staged k)) = (done ≡ length (items_of o)) × IsSome o.new
LeadsTo o (reached.Working done) (Some (reached.Kept k)) = (done ≡ length (items_of o)) × (o.new ≡ None)
LeadsTo o (reached.Staged j) (Some (reached.Stored k)) = Unit {0}
LeadsTo o (reached.Kept j) (Some (reached.Stamped k)) = Unit {0}
LeadsTo o (reached.Stored j) (Some (reached.Stamped k)) = Unit {0}
LeadsTo o (reached.Stamped j) None = Unit {0}
LeadsTo o now next = ⊥

-- Where it writes are paths that a store may write, short enough, and a machine's number counts its items.
pub record IsFit (o : OpenPublication) : Type 0 where
  pub folder : IsFolder o.folder
  pub parts : slashes o.folder ≡ 1
  pub name : IsName o.name
  pub object : (unihash : Hash) → o.object ≡ Some unihash → IsName unihash
  pub is_tree : IsTree o.tree
  pub short : AreShort o.tree
  pub few : length (items_of o) < 2 ^ 64

-- how far a publication with these items is, or, where nothing is to come, that each crash leaves all that its stamp tells of
abbrev pub IsOnOrDone : Publication → List Item → Option Reached → Story → Type 0
IsOnOrDone p items None story = EachNow story (IsPublished p)
IsOnOrDone p items (Some now) story = IsOn p (progress_at items now) story

-- what a publication that has reached this has staged, or put aside, stands at the path
abbrev pub StagesAt : OpenPublication → Reached → List ℕ → Type 0
StagesAt o (reached.Aside k) q = q ≡ old_path o.folder
StagesAt o (reached.Taken k) q = q ≡ old_path o.folder
StagesAt o (reached.Working done) q = ⊥
StagesAt o (reached.Staged k) q = (q ≡ staged_path o.folder) ⊎ (q ≡ staged_record_path o.name)
StagesAt o (reached.Kept k) q = q ≡ staged_path o.folder
StagesAt o (reached.Stored k) q = q ≡ staged_path o.folder
StagesAt o (reached.Stamped k) q = ⊥

abbrev pub StagesNext : OpenPublication → Option Reached → List ℕ → Type 0
StagesNext o None q = ⊥
StagesNext o (Some next) q = StagesAt o next q

-- Under `tmp/` nothing is left of what it had staged, and nothing comes, but for what it has staged once it has reached the next.
abbrev pub Sweeps : OpenPublication → Reached → Option Reached → Store → Store → Type 0
Sweeps o now next old new = (q : List ℕ) → IsBelow (codes "tmp") q → (StagesNext o next q → ⊥) → (old q ≡ None) ⊎ StagesAt o now q → new q ≡ None

-- where nothing was held under `tmp/` nothing is, but what it has put aside
abbrev pub AddsOwn : OpenPublication → Store → Store → Type 0
AddsOwn o old new = (q : List ℕ) → IsBelow (codes "tmp") q → (StagesAt o o.reached q → ⊥) → old q ≡ None → new q ≡ None

-- ---- opening

-- the name of the object, if there is one, is one part of a path
abbrev pub HasPlainName : Option Hash → Type 0
HasPlainName object = (unihash : Hash) → object ≡ Some unihash → slashes (hash_text unihash) ≡ 0

-- What is in the way of the folders goes, and nothing else: at a folder or above it, where this store holds something.
pub record MakesRoom (p : Publication) (held old new : Store) : Type 0 where
  pub others : (q : List ℕ) → (IsRound p q → ⊥) → new q ≡ old q
  pub round : (q : List ℕ) → IsRound p q → held q ≡ None → new q ≡ old q

-- those of the paths that the tree hasn't, by what stands behind the prefix
abbrev pub extras : List ℕ → Entries → List (List ℕ) → List (List ℕ)
extras prefix tree paths = filter (λ path. is_none (entry_at tree (drop (length prefix) path))) paths

-- Behind these paths come just those that are held under the folder and that the tree hasn't.
pub record NotesIn (folder : List ℕ) (tree : Entries) (held : Store) (before after : List (List ℕ)) : Type 0 where
  pub found : List (List ℕ)
  pub are_found : AreFound folder found held
  pub noted : map removal after ≡ map removal before ++ removals folder tree found

-- ---- a step

-- Where this store holds an entry of the tree in its place, that place stays: what is held already isn't written again.
pub record KeepsEntries (p : Publication) (held old new : Store) : Type 0 where
  pub work : (path : List ℕ) (e : Entry) → entry_at p.tree path ≡ Some e → held (inside (work_at p.folder) path) ≡ Some e → new (inside (work_at p.folder) path) ≡ old (inside (work_at p.folder) path)
  pub shared : (unihash : Hash) → p.object ≡ Some unihash → (path : List ℕ) (e : Entry) → entry_at p.tree path ≡ Some e → held (inside (object_folder unihash) path) ≡ Some e → new (inside (object_folder unihash) path) ≡ old (inside (object_folder unihash) path)
