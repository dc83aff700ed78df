-- What opening finds, step by step.
use Rattle.std.specs.Prelude.{◌≡◌, ◌≢◌, ◌⊎◌, ◌<◌, ℕ, Bool, true, false, List, [], ◌∷◌, ◌++◌, codes, length, map, Contains, IsSome, None, Some, if◌then◌else◌, slice_get, slice_index_or}
use Rattle.std.specs.List.{AllByRecursion}
use Rattle.std.specs.Map.{lookup}
use Rattle.std.specs.Option.{option_or}
use Rattle.std.specs.Str.{bytes_eq}
use Rattle.sha2.specs.Sha256.{sha256}
use Rattle.tree_model.specs.Path.{BeginsWith, inside}
use Rattle.tree_model.specs.declared.entry.Entry.{Entry}
use Rattle.tree_model.specs.declared.entry.Entry.TheVariants.{File}
use Rattle.tree_model.specs.declared.hash.Hash.{Hash}
use Rattle.outside_traits.specs.Store.{IsListing, Store}
use Rattle.store_model.specs.declared.signature.EquivRow.{EquivRow}
use Rattle.store_model.specs.Spelling.{short_bytes, short_name, short_record, whole_text}
use Rattle.store_model.specs.Stored.{SpellsShort}
use Rattle.store_model.specs.declared.candidate.Candidate.{Candidate}
use Rattle.store_model.specs.Believed.{Ascend, AreBelieved}
use Rattle.store_opening.specs.declared.bare.Bare.{Bare}
use Rattle.store_opening.specs.declared.records.Found.{Found}
use Rattle.store_model.specs.Opened.{AreFound, IsBlocked, IsLeft, IsRecordFile, rows_at}
use Rattle.store_model.specs.Paths.{key_path, record_path}
use Rattle.store_model.specs.Publication.{short_file, stamp_at, work_at}
use Rattle.store_model.specs.Rows.{hash_eq}
use Rattle.store_model.specs.Readable.{HasShortPaths, IsRow}

-- a path, with the entry there
abbrev pub HeldFile : Type 0
HeldFile = List ℕ × Entry

-- among these files one has the key of this name, under it
pub record IsKeyIn (files : List HeldFile) (name : Hash) (key : List ℕ) : Type 0 where
  pub among : Contains files (key_path name, File false key)
  pub digest : sha256 key ≡ name.bytes

-- keys by their names: the places of the files that have them
pub record IsKeyTable (files : List HeldFile) (entries : List (List ℕ × ℕ)) : Type 0 where
  pub sound : (name : Hash) (place : ℕ) → lookup (bytes_eq name.bytes) entries ≡ Some place → (key : List ℕ) × (slice_get files place ≡ Some (key_path name, File false key)) × (sha256 key ≡ name.bytes)
  pub whole : (name : Hash) (key : List ℕ) → IsKeyIn files name key → (place : ℕ) × (lookup (bytes_eq name.bytes) entries ≡ Some place)

-- the key that a file is: its bytes, at the path of their digest
abbrev pub IsKeyFile : HeldFile → Hash → Type 0
IsKeyFile f name = (key : List ℕ) × (f.0 ≡ key_path name) × (f.1 ≡ File false key) × (sha256 key ≡ name.bytes)

-- the file is a key, whose name leads to this place, or to an earlier one; or it is none, and nothing changes
pub data PutsKey (f : HeldFile) (place : ℕ) (old new : List (List ℕ × ℕ)) : Type 0 where
  put : (name : Hash) → IsKeyFile f name → ((q : Hash) → lookup (bytes_eq q.bytes) new ≡ option_or (lookup (bytes_eq q.bytes) old) (if hash_eq name q then Some place else None)) → PutsKey f place old new
  none : ((name : Hash) → IsKeyFile f name → ⊥) → new ≡ old → PutsKey f place old new

-- a candidate, but for where it stands: these files are those of keys
pub record IsGood (keys : List HeldFile) (c : Candidate) : Type 0 where
  pub name : c.name ≡ short_name c.stored.sig
  pub spelled : SpellsShort (short_record c.stored) c.stored
  pub short : HasShortPaths c.stored.manifest
  pub key : List ℕ
  pub key_in : IsKeyIn keys c.stored.sig.key key
  pub text : c.sig ≡ whole_text (short_bytes c.stored.sig) key

-- one candidate more, which the entry at the path is
pub record Takes (keys : List HeldFile) (path : List ℕ) (entry : Entry) (old new : Found) : Type 0 where
  pub candidate : Candidate
  pub good : IsGood keys candidate
  pub stands : path ≡ record_path candidate.name
  pub is : entry ≡ short_file candidate.stored
  pub candidates : new.candidates.items ≡ old.candidates.items ++ candidate ∷ []
  pub rejected : new.rejected.items ≡ old.rejected.items

-- the path is rejected: the entry there is no candidate
pub record Rejects (keys : List HeldFile) (path : List ℕ) (entry : Entry) (old new : Found) : Type 0 where
  pub none : (c : Candidate) → IsGood keys c → path ≡ record_path c.name → entry ≡ short_file c.stored → ⊥
  pub candidates : new.candidates.items ≡ old.candidates.items
  pub rejected : new.rejected.items ≡ old.rejected.items ++ path ∷ []

abbrev pub Visits : List HeldFile → List ℕ → Entry → Found → Found → Type 0
Visits keys path entry old new = Takes keys path entry old new ⊎ Rejects keys path entry old new

abbrev pub paths_of : List HeldFile → List (List ℕ)
paths_of files = map (λ f. f.0) files

-- the entry is held at the path
abbrev pub IsFileIn : Store → HeldFile → Type 0
IsFileIn held f = held f.0 ≡ Some f.1

-- one file more, if anything is held at the path
abbrev pub HasRead : Store → List ℕ → List HeldFile → List HeldFile → Type 0
HasRead held path old new =
    ((entry : Entry) × (held path ≡ Some entry) × (new ≡ old ++ (path, entry) ∷ []))
    ⊎ ((held path ≡ None) × (new ≡ old))

-- the files at these paths, in their order
pub record AreRead (held : Store) (paths : List (List ℕ)) (files : List HeldFile) : Type 0 where
  pub at : paths_of files ≡ paths
  pub each : AllByRecursion (IsFileIn held) files

-- the files whose paths begin with the prefix, in the order of these
pub record AreUnder (prefix : List ℕ) (held : Store) (files : List HeldFile) : Type 0 where
  pub listing : IsListing prefix held (paths_of files)
  pub each : AllByRecursion (IsFileIn held) files

-- those that stand under `rec2/`
abbrev pub AreRecords : Store → List HeldFile → Type 0
AreRecords held files = AreUnder (codes "rec2/") held files

-- ... and those under `key/`
abbrev pub AreKeys : Store → List HeldFile → Type 0
AreKeys held files = AreUnder (codes "key/") held files

-- no record stands at the path
abbrev pub HasNoRecord : Store → List ℕ → Type 0
HasNoRecord held q = (c : Candidate) → IsRecordFile held c → q ≡ record_path c.name → ⊥

-- the candidate's record stands at one of the paths
pub record StandsAmong (held : Store) (paths : List (List ℕ)) (c : Candidate) : Type 0 where
  pub file : IsRecordFile held c
  pub at : Contains paths (record_path c.name)

-- what was found at these paths
pub record IsSurveyed (held : Store) (paths : List (List ℕ)) (found : Found) : Type 0 where
  pub ascend : Ascend found.candidates.items
  pub each : AllByRecursion (StandsAmong held paths) found.candidates.items
  pub rejected : (q : List ℕ) → Contains found.rejected.items q → Contains paths q × HasNoRecord held q
  pub whole : (q : List ℕ) → Contains paths q → Contains found.rejected.items q ⊎ ((c : Candidate) × Contains found.candidates.items c × (q ≡ record_path c.name))

-- Just the candidates of what is held, and the paths of all else under `rec2/`.
pub record IsFoundIn (held : Store) (candidates : List Candidate) (rejected : List (List ℕ)) : Type 0 where
  pub found : AreFound held candidates
  pub within : (q : List ℕ) → Contains rejected q → BeginsWith (codes "rec2/") q
  pub not_left : (q : List ℕ) → Contains rejected q → IsLeft held q → ⊥
  pub whole : (path : List ℕ) → IsSome (held (inside (codes "rec2") path)) → Contains rejected (inside (codes "rec2") path) ⊎ ((c : Candidate) × Contains candidates c × (inside (codes "rec2") path ≡ record_path c.name))

-- ---- stamps of tasks that gave nothing

-- the task of the record: it gave nothing
pub record IsBareOf (c : Candidate) (one : Bare) : Type 0 where
  pub empty : c.stored.manifest ≡ []
  pub pn : one.pn ≡ c.stored.sig.pn
  pub task : one.task ≡ c.stored.sig.task

-- one task more, if the record's task gave nothing
abbrev pub NotesBare : Candidate → List Bare → List Bare → Type 0
NotesBare c old new = ((one : Bare) × IsBareOf c one × (new ≡ old ++ one ∷ [])) ⊎ ((c.stored.manifest ≢ []) × (new ≡ old))

-- just the tasks of these records that gave nothing
pub record AreBare (candidates : List Candidate) (bare : List Bare) : Type 0 where
  pub sound : (one : Bare) → Contains bare one → (c : Candidate) × Contains candidates c × IsBareOf c one
  pub whole : (c : Candidate) → Contains candidates c → c.stored.manifest ≡ [] → (one : Bare) × Contains bare one × IsBareOf c one

-- just those of what is held
pub record AreBareIn (held : Store) (bare : List Bare) : Type 0 where
  pub candidates : List Candidate
  pub found : AreFound held candidates
  pub are : AreBare candidates bare

-- where the task's stamp stands
abbrev pub stamp_of : Bare → List ℕ
stamp_of one = stamp_at (inside one.pn one.task)

-- something is held at `work` or `work/PN`
abbrev pub HasNoWay : Store → List ℕ → Type 0
HasNoWay held pn = IsSome (held (codes "work")) ⊎ IsSome (held (work_at pn))

-- the path is the stamp of one of these tasks, at whose work folder no folder can be
pub record IsBlockedOf (held : Store) (bare : List Bare) (q : List ℕ) : Type 0 where
  pub one : Bare
  pub among : Contains bare one
  pub stamp : q ≡ stamp_of one
  pub way : HasNoWay held one.pn

-- ---- what goes

-- More paths are doomed: each of them is in the area, and none that opening leaves alone; and what is held in the area is one of them, or is left
-- alone.
pub record Dooms (held : Store) (area : List ℕ → Type 0) (old new : List (List ℕ)) : Type 0 where
  pub kept : (q : List ℕ) → Contains old q → Contains new q
  pub sound : (q : List ℕ) → Contains new q → Contains old q ⊎ (area q × (IsLeft held q → ⊥))
  pub whole : (q : List ℕ) → area q → IsSome (held q) → Contains new q ⊎ IsLeft held q

-- the path itself
abbrev pub IsAt : List ℕ → List ℕ → Type 0
IsAt path q = q ≡ path

-- one of the five folders at which opening removes what is held
abbrev pub IsTop : List ℕ → Type 0
IsTop path = (path ≡ codes "rec2") ⊎ ((path ≡ codes "key") ⊎ ((path ≡ codes "stamp") ⊎ ((path ≡ codes "tmp") ⊎ (path ≡ codes "obj"))))

-- the path goes, if something is held there
abbrev pub NotesHeld : Store → List ℕ → List (List ℕ) → List (List ℕ) → Type 0
NotesHeld held path old new = (IsSome (held path) × (new ≡ old ++ path ∷ [])) ⊎ ((held path ≡ None) × (new ≡ old))

-- so does the task's stamp, where no folder can be at its work folder
abbrev pub NotesBlocked : Store → Bare → List (List ℕ) → List (List ℕ) → Type 0
NotesBlocked held one old new = (HasNoWay held one.pn × NotesHeld held (stamp_of one) old new) ⊎ ((HasNoWay held one.pn → ⊥) × (new ≡ old))

-- all other paths stay
pub record TakesOut (paths : List (List ℕ)) (old new : Store) : Type 0 where
  pub others : (q : List ℕ) → (Contains paths q → ⊥) → new q ≡ old q

-- a mark for each place, which says whether it is listed
pub record AreMarks (count : ℕ) (places : List ℕ) (marks : List Bool) : Type 0 where
  pub long : length marks ≡ count
  pub listed : (k : ℕ) → slice_index_or marks k false ≡ true → Contains places k
  pub marked : (k : ℕ) → Contains places k → slice_index_or marks k false ≡ true

abbrev pub DoomsUnless : Bool → Candidate → List (List ℕ) → List (List ℕ) → Type 0
DoomsUnless true c old new = new ≡ old
DoomsUnless false c old new = new ≡ old ++ record_path c.name ∷ []

-- more paths go: the records of those of the first n candidates that aren't marked
pub record DoomsUnmarked (candidates : List Candidate) (marks : List Bool) (n : ℕ) (old new : List (List ℕ)) : Type 0 where
  pub kept : (q : List ℕ) → Contains old q → Contains new q
  pub sound : (q : List ℕ) → Contains new q → Contains old q ⊎ ((k : ℕ) × (c : Candidate) × (slice_get candidates k ≡ Some c) × (slice_index_or marks k false ≡ false) × (q ≡ record_path c.name))
  pub whole : (k : ℕ) (c : Candidate) → k < n → slice_get candidates k ≡ Some c → slice_index_or marks k false ≡ false → Contains new (record_path c.name)

-- more paths go: the records of the candidates that aren't listed
pub record DoomsUnbelieved (candidates : List Candidate) (places : List ℕ) (old new : List (List ℕ)) : Type 0 where
  pub kept : (q : List ℕ) → Contains old q → Contains new q
  pub sound : (q : List ℕ) → Contains new q → Contains old q ⊎ ((k : ℕ) × (c : Candidate) × (slice_get candidates k ≡ Some c) × (Contains places k → ⊥) × (q ≡ record_path c.name))
  pub whole : (k : ℕ) (c : Candidate) → slice_get candidates k ≡ Some c → Contains new (record_path c.name) ⊎ Contains places k

-- what stands under `rec2/` and `key/`: the rows of the records that are believed, what goes, and the tasks that gave nothing
pub record IsRecordSurvey (held : Store) (rows : List EquivRow) (doomed : List (List ℕ)) (bare : List Bare) : Type 0 where
  pub candidates : List Candidate
  pub found : AreFound held candidates
  pub places : List ℕ
  pub believed : AreBelieved candidates places
  pub rows_are : rows ≡ rows_at candidates places
  pub within : (q : List ℕ) → Contains doomed q → BeginsWith (codes "rec2/") q ⊎ BeginsWith (codes "key/") q
  pub not_left : (q : List ℕ) → Contains doomed q → IsLeft held q → ⊥
  pub whole : (path : List ℕ) → IsSome (held (inside (codes "rec2") path)) → Contains doomed (inside (codes "rec2") path) ⊎ IsLeft held (inside (codes "rec2") path)
  pub keys : (q : List ℕ) → BeginsWith (codes "key/") q → IsSome (held q) → Contains doomed q ⊎ IsLeft held q
  pub bare_are : AreBare candidates bare

-- the rows are those of the believed records
abbrev pub AreJudged : Store → List EquivRow → Type 0
AreJudged held rows = (doomed : List (List ℕ)) × (bare : List Bare) × IsRecordSurvey held rows doomed bare

-- ... wherever these files are all that stands there, and these all that stands under `key/`
pub record IsSurveyOf (files keys : List HeldFile) (rows : List EquivRow) (doomed : List (List ℕ)) (bare : List Bare) : Type 0 where
  pub are_rows : AllByRecursion IsRow rows
  pub survey : (held : Store) → AreRecords held files → AreKeys held keys → IsRecordSurvey held rows doomed bare

-- what is neither under `rec2/` nor under `key/`: the stamps that are blocked, what is under `tmp/`, and the five folders themselves
abbrev pub IsOtherArea : Store → List ℕ → Type 0
IsOtherArea held q =
    IsBlocked held q ⊎ (BeginsWith (codes "tmp/") q
    ⊎ (IsAt (codes "rec2") q ⊎ (IsAt (codes "key") q ⊎ (IsAt (codes "stamp") q ⊎ (IsAt (codes "tmp") q ⊎ IsAt (codes "obj") q)))))
