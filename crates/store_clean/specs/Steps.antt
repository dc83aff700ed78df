-- What each step of a clearing finds and does.
use Rattle.std.specs.Prelude.{◌≡◌, ◌≢◌, ◌⊎◌, ◌↔◌, ◌<◌, ℕ, Bool, true, false, List, [], ◌∷◌, ◌++◌, ◌≤◌, Contains, IsSome, Some, None, length, map, slice_get, slice_index_or, codes, if◌then◌else◌}
use Rattle.std.specs.List.{AllByRecursion}
use Rattle.std.specs.Map.{lookup}
use Rattle.std.specs.Option.{option_or}
use Rattle.std.specs.Str.{bytes_eq}
use Rattle.tree_model.specs.declared.hash.Hash.{Hash}
use Rattle.tree_model.specs.declared.entry.Entry.{Entry}
use Rattle.tree_model.specs.Hash.{IsHash, hash_text}
use Rattle.tree_model.specs.Path.{BeginsWith, IsAtOrBelow}
use Rattle.outside_traits.specs.Store.{Store}
use Rattle.store_model.specs.declared.signature.EquivRow.{EquivRow}
use Rattle.store_model.specs.declared.signature.ShortStored.{ShortStored}
use Rattle.store_model.specs.Paths.{record_path}
use Rattle.store_model.specs.Publication.{stamp_file}
use Rattle.store_model.specs.Readable.{IsHeld, IsRow}
use Rattle.store_model.specs.Rows.{hash_eq}
use Rattle.store_opening.specs.Paths.{IsLaidOut}
use Rattle.store_opening.specs.Survey.{HeldFile}
use Rattle.store_keep.specs.Keep.{AreClosed, IsMarked, Names, named_by}
use Rattle.store_keep.specs.Tries.{AreKept}
use Rattle.store_clean.specs.declared.deciding.Chosen.{Chosen}
use Rattle.store_clean.specs.declared.deciding.Named.{Named}
use Rattle.store_clean.specs.declared.nodes.Node.{Node}
use Rattle.store_clean.specs.Naming.{RowNames, names_in, place_in}
use Rattle.store_clean.specs.Deciding.{AreRoots, IsNameOrder}
use Rattle.store_clean.specs.Cleared.{gone_path}

-- the item is put behind the others where P holds
abbrev pub Notes : {A : Type 0} → Type 0 → A → List A → List A → Type 0
Notes P item old new = (P × (new ≡ old ++ item ∷ [])) ⊎ ((P → ⊥) × (new ≡ old))

-- ---- what records say

-- what is asked of a record is read off it
pub record IsNodeOf (stored : ShortStored) (node : Node) : Type 0 where
  pub key : node.key ≡ stored.sig.key
  pub needs : node.needs ≡ names_in stored

pub record IsNode (row : EquivRow) (node : Node) : Type 0 where
  pub known : IsRow row
  pub of : IsNodeOf known.stored node

abbrev pub node_names : List Node → List Hash
node_names nodes = map (λ (n : Node). n.name) nodes

-- the name and the unihash are the row's
pub record IsTitled (row : EquivRow) (node : Node) : Type 0 where
  pub name : node.name ≡ row.name
  pub unihash : node.unihash ≡ row.unihash

-- one node for each row
pub record AreNodesBy (P : EquivRow → Node → Type 0) (rows : List EquivRow) (nodes : List Node) : Type 0 where
  pub long : length nodes ≡ length rows
  pub each : (k : ℕ) (row : EquivRow) → slice_get rows k ≡ Some row → (node : Node) × (slice_get nodes k ≡ Some node) × P row node

-- ---- places

-- the first place of each name
abbrev pub IsPlaceTable : List Hash → List (List ℕ × ℕ) → Type 0
IsPlaceTable names entries = (q : Hash) → lookup (bytes_eq q.bytes) entries ≡ place_in names q

-- the places below one's own of some names
abbrev pub ArePlaces : List Hash → ℕ → List Hash → List ℕ → Type 0
ArePlaces names own needs places = (w : ℕ) → Contains places w ↔ ((w < own) × ((name : Hash) × Contains needs name × (place_in names name ≡ Some w)))

-- one place more, where the name has one that is below one's own
abbrev pub NotesPlace : List Hash → ℕ → Hash → List ℕ → List ℕ → Type 0
NotesPlace names own name old new =
    ((w : ℕ) × ((w < own) × (place_in names name ≡ Some w)) × (new ≡ old ++ w ∷ []))
    ⊎ (((w : ℕ) → w < own → place_in names name ≡ Some w → ⊥) × (new ≡ old))

-- what each node names among the earlier ones, by places
pub record AreNodeEdges (nodes : List Node) (edges : List (List ℕ)) : Type 0 where
  pub long : length edges ≡ length nodes
  pub each : (v : ℕ) (node : Node) → slice_get nodes v ≡ Some node → ArePlaces (node_names nodes) v node.needs (named_by edges v)

-- ---- what is decided

-- the place of this name is marked besides, where it has one
pub record IsRootMarked (names : List Hash) (root : Hash) (old new : List Bool) : Type 0 where
  pub long : length new ≡ length old
  pub each : (k : ℕ) → IsMarked new k ↔ (IsMarked old k ⊎ (place_in names root ≡ Some k))

-- the names, each with its place
pub record AreNamed (names : List Hash) (made : List Named) : Type 0 where
  pub long : length made ≡ length names
  pub each : (k : ℕ) (name : Hash) → slice_get names k ≡ Some name → slice_get made k ≡ Some (record { name = name; place = k })

abbrev pub named_place : Named → ℕ
named_place named = named.place

-- the marks are those that these nodes ask for
pub record IsChosen (nodes : List Node) (roots : List Hash) (limit : ℕ) (chosen : Chosen) : Type 0 where
  pub table : IsPlaceTable (node_names nodes) chosen.table.entries
  pub edges : AreNodeEdges nodes chosen.edges.items
  pub first : List Bool
  pub are_roots : AreRoots (node_names nodes) roots first
  pub order : List ℕ
  pub in_order : IsNameOrder (node_names nodes) order
  pub kept : AreKept chosen.edges.items first order limit chosen.marks.items

-- ---- rounds

abbrev pub layer_at : List ℕ → ℕ → ℕ
layer_at layers v = slice_index_or layers v 0

-- what a node names lies in a lower layer
pub record AreLayers (edges : List (List ℕ)) (layers : List ℕ) : Type 0 where
  pub long : length layers ≡ length edges
  pub low : (v : ℕ) → v < length edges → layer_at layers v < length edges
  pub falls : (v w : ℕ) → v < length edges → Names edges v w → layer_at layers w < layer_at layers v

abbrev pub IsGone : List Bool → ℕ → Type 0
IsGone marks v = slice_index_or marks v false ≡ false

abbrev pub round_at : List (List ℕ) → ℕ → List ℕ
round_at rounds k = slice_index_or rounds k []

-- Just the places that go, in rounds; what one names that goes stands in lower rounds alone.
pub record AreRounds (edges : List (List ℕ)) (marks : List Bool) (rounds : List (List ℕ)) : Type 0 where
  pub only : (k v : ℕ) → Contains (round_at rounds k) v → (v < length edges) × IsGone marks v
  pub whole : (v : ℕ) → v < length edges → IsGone marks v → (k : ℕ) × (k < length rounds) × Contains (round_at rounds k) v
  pub falls : (j k v w : ℕ) → Contains (round_at rounds j) v → Contains (round_at rounds k) w → Names edges v w → k < j

-- ---- what goes

-- the path is that of the record of a node at one of these places
pub record IsRecordOf (nodes : List Node) (places : List ℕ) (q : List ℕ) : Type 0 where
  pub place : ℕ
  pub among : Contains places place
  pub node : Node
  pub stands : slice_get nodes place ≡ Some node
  pub is : q ≡ record_path node.name

-- the entry is a stamp that names a node that isn't marked
pub record IsGoneStamp (names : List Hash) (marks : List Bool) (entry : Entry) : Type 0 where
  pub name : Hash
  pub is_hash : IsHash name
  pub place : ℕ
  pub stands : place_in names name ≡ Some place
  pub gone : IsGone marks place
  pub is : entry ≡ stamp_file name

-- such a stamp is held there
pub record HoldsGoneStamp (names : List Hash) (marks : List Bool) (held : Store) (q : List ℕ) : Type 0 where
  pub under : BeginsWith (codes "stamp/") q
  pub entry : Entry
  pub here : held q ≡ Some entry
  pub stamp : IsGoneStamp names marks entry

-- just the paths of the files that are such stamps
abbrev pub AreGoneStamps : List Hash → List Bool → List HeldFile → List (List ℕ) → Type 0
AreGoneStamps names marks files paths = (q : List ℕ) → Contains paths q ↔ ((entry : Entry) × Contains files (q, entry) × IsGoneStamp names marks entry)

-- What is held at paths that P admits goes, or stays; something may stand where it is renamed to, and all else stays.
pub record TakesAway (P : List ℕ → Type 0) (old new : Store) : Type 0 where
  pub taken : (q : List ℕ) → q ≢ gone_path → (new q ≡ old q) ⊎ (P q × (new q ≡ None))

-- Of the records in rounds, from the last one down, those of all rounds above one went, those of that one may have, and none below it; all else stays.
pub record AreInRounds (nodes : List Node) (rounds : List (List ℕ)) (held image : Store) : Type 0 where
  pub round : ℕ
  pub above : (k : ℕ) (q : List ℕ) → round < k → IsRecordOf nodes (round_at rounds k) q → image q ≡ None
  pub taken : (q : List ℕ) → q ≢ gone_path → (image q ≡ held q) ⊎ ((k : ℕ) × (round ≤ k) × IsRecordOf nodes (round_at rounds k) q × (image q ≡ None))

-- the place stands in a round besides
pub record IsPutIn (round place : ℕ) (old new : List (List ℕ)) : Type 0 where
  pub long : length new ≡ length old
  pub each : (k v : ℕ) → Contains (round_at new k) v ↔ (Contains (round_at old k) v ⊎ ((k ≡ round) × (v ≡ place)))

-- the place stands in a round besides, unless it is marked
abbrev pub PutsUnless : Bool → ℕ → ℕ → List (List ℕ) → List (List ℕ) → Type 0
PutsUnless true round place old new = new ≡ old
PutsUnless false round place old new = IsPutIn round place old new

-- ---- what is swept

-- each marked node's digest has a place, and no other has
pub record IsKeptTable (digest : Node → Hash) (nodes : List Node) (marks : List Bool) (entries : List (List ℕ × ℕ)) : Type 0 where
  pub sound : (q : Hash) (p : ℕ) → lookup (bytes_eq q.bytes) entries ≡ Some p → (place : ℕ) × (node : Node) × IsMarked marks place × (slice_get nodes place ≡ Some node) × (digest node ≡ q)
  pub whole : (place : ℕ) (node : Node) → IsMarked marks place → slice_get nodes place ≡ Some node → lookup (bytes_eq (digest node).bytes) entries ≡ None → ⊥

-- a table with one name more, where that has none, if it is marked
abbrev pub PutsKept : Bool → Hash → ℕ → List (List ℕ × ℕ) → List (List ℕ × ℕ) → Type 0
PutsKept false name place old new = new ≡ old
PutsKept true name place old new = (q : Hash) → lookup (bytes_eq q.bytes) new ≡ option_or (lookup (bytes_eq q.bytes) old) (if hash_eq name q then Some place else None)

-- nothing stands here, or a slash
abbrev pub IsEnd : List ℕ → Type 0
IsEnd rest = (rest ≡ []) ⊎ ((more : List ℕ) × (rest ≡ 47 ∷ more))

-- the path is at or below one of these digests behind the prefix
pub record IsNeeded (prefix : List ℕ) (entries : List (List ℕ × ℕ)) (q : List ℕ) : Type 0 where
  pub name : Hash
  pub is_hash : IsHash name
  pub at : IsAtOrBelow (prefix ++ hash_text name) q
  pub place : ℕ
  pub found : lookup (bytes_eq name.bytes) entries ≡ Some place

-- the path is put to these unless it is needed
abbrev pub NotesUnneeded : List ℕ → List (List ℕ × ℕ) → List ℕ → List (List ℕ) → List (List ℕ) → Type 0
NotesUnneeded prefix entries path old new = ((IsNeeded prefix entries path → ⊥) × (new ≡ old ++ path ∷ [])) ⊎ (IsNeeded prefix entries path × (new ≡ old))

-- what stands behind the prefix and isn't needed may be anything; all else stays
pub record Sweeps (prefix : List ℕ) (entries : List (List ℕ × ℕ)) (old new : Store) : Type 0 where
  pub others : (q : List ℕ) → (BeginsWith prefix q → IsNeeded prefix entries q) → new q ≡ old q

-- just those of these paths that aren't needed
pub record AreUnneeded (prefix : List ℕ) (entries : List (List ℕ × ℕ)) (paths made : List (List ℕ)) : Type 0 where
  pub sound : (q : List ℕ) → Contains made q → Contains paths q × (IsNeeded prefix entries q → ⊥)
  pub whole : (q : List ℕ) → Contains paths q → Contains made q ⊎ IsNeeded prefix entries q

-- the path is at or below the digest of a marked node behind the prefix
pub record IsOfKept (digest : Node → Hash) (nodes : List Node) (marks : List Bool) (prefix q : List ℕ) : Type 0 where
  pub place : ℕ
  pub node : Node
  pub marked : IsMarked marks place
  pub stands : slice_get nodes place ≡ Some node
  pub at : IsAtOrBelow (prefix ++ hash_text (digest node)) q

-- ... of its object, and of its key
abbrev pub IsOfObject : List Node → List Bool → List ℕ → Type 0
IsOfObject nodes marks q = IsOfKept (λ n. n.unihash) nodes marks (codes "obj/") q

abbrev pub IsOfKey : List Node → List Bool → List ℕ → Type 0
IsOfKey nodes marks q = IsOfKept (λ n. n.key) nodes marks (codes "key/") q

-- the digests of marked nodes are digests
pub record AreHashes (nodes : List Node) : Type 0 where
  pub each : (place : ℕ) (node : Node) → slice_get nodes place ≡ Some node → IsHash node.unihash × IsHash node.key

-- what is swept: objects and keys that no marked node names, and what was renamed away
pub record SweepsAll (nodes : List Node) (marks : List Bool) (old new : Store) : Type 0 where
  pub others : AreHashes nodes → (q : List ℕ) → (BeginsWith (codes "obj/") q → IsOfObject nodes marks q) → (BeginsWith (codes "key/") q → IsOfKey nodes marks q) → q ≢ gone_path → new q ≡ old q

-- what is left then
pub record SweepsLeft (nodes : List Node) (marks : List Bool) (now : Store) : Type 0 where
  pub objects : (q : List ℕ) → BeginsWith (codes "obj/") q → IsSome (now q) → IsOfObject nodes marks q
  pub keys : (q : List ℕ) → BeginsWith (codes "key/") q → IsSome (now q) → IsOfKey nodes marks q
  pub gone : now gone_path ≡ None

-- ---- what a clearing begins with

-- The nodes are those of the rows, whose records are held; names differ, and each record names earlier ones and itself alone; the marks are closed.
pub record IsReady (rows : List EquivRow) (nodes : List Node) (chosen : Chosen) (held : Store) : Type 0 where
  pub titled : AreNodesBy IsTitled rows nodes
  pub nodes_are : AreNodesBy IsNode rows nodes
  pub records : AllByRecursion (IsHeld held) rows
  pub laid_out : IsLaidOut held
  pub differ : (v w : ℕ) (row other : EquivRow) → slice_get rows v ≡ Some row → slice_get rows w ≡ Some other → row.name ≡ other.name → v ≡ w
  pub named : (v w : ℕ) (row other : EquivRow) → slice_get rows v ≡ Some row → slice_get rows w ≡ Some other → RowNames row other.name → (v ≡ w) ⊎ Names chosen.edges.items v w
  pub closed : AreClosed chosen.edges.items chosen.marks.items
