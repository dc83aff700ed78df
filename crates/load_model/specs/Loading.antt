-- The entries of a file, with those of all the files that it includes and of all the classes that it inherits in place.
use Rattle.std.specs.Prelude.{◌≡◌, ◌&&◌, not, ℕ, zero, suc, Bool, true, false, List, [], ◌∷◌, ◌++◌, length, nat_lt, Option, Some, None, unwrap_or, Result, Ok, Err, codes, if◌then◌else◌}
use Rattle.std.specs.Option.{option_map}
use Rattle.meta_model.specs.declared.line.Kind.{Kind}
use Rattle.meta_model.specs.declared.line.Kind.TheVariants.{Class}
use Rattle.meta_model.specs.declared.entry.EntryLine.{EntryLine}
use Rattle.meta_model.specs.declared.statement.Statement.{Statement}
use Rattle.meta_model.specs.declared.statement.Statement.TheVariants.{Include, Require, Inherit}
use Rattle.meta_model.specs.Text.{is_in, words, colon_pieces}
use Rattle.meta_model.specs.Lines.{OrFault}
use Rattle.meta_model.specs.Statements.{statements}
use Rattle.meta_model.specs.Refusal.{Refusal}
use Rattle.meta_model.specs.Active.{value, expand}
use Rattle.meta_model.specs.Entries.{lines_of}
use Rattle.load_model.specs.Paths.{is_absolute, paths_in, folder_of, file_name, without_ending}
use Rattle.load_model.specs.LoadRefusal.{LoadCause, missing_required, missing_class, include_depth, syntax, file_bytes, Place, nowhere, LoadRefusal, refused_at, ◌>>=◌, refused_as, asked_at}

-- What a file holds: its statements, each with its line; or what is wrong with it, with the line, or 0.
abbrev pub Contents : Type 0
Contents = Result (List (ℕ × Statement)) (ℕ × LoadCause)

-- what each path holds, read as a file of a kind
abbrev pub Sources : Type 0
Sources = List ℕ → Kind → Option Contents

-- the most bytes of a file (own rule)
abbrev pub most_bytes : ℕ
most_bytes = 1_048_576

abbrev pub with_cause : OrFault (List (ℕ × Statement)) → Contents
with_cause result = refused_as (λ e. (e.0, syntax e.1)) result

-- How long a file is counts before what is wrong with its lines.
abbrev pub contents_of : Kind → List ℕ → Contents
contents_of kind bytes = if nat_lt most_bytes (length bytes) then Err (0, file_bytes) else with_cause (statements kind bytes)

-- the files of a map from paths to bytes
abbrev pub sources_of : (List ℕ → Option (List ℕ)) → Sources
sources_of files path kind = option_map (contents_of kind) (files path)

-- What was loaded so far: all entries, in order, and the names of the classes of which the reading has begun.
pub record Loaded : Type 0 where
  pub lines : List EntryLine
  pub classes : List (List ℕ)

abbrev pub with_lines : List EntryLine → Loaded → Loaded
with_lines lines loaded = record { lines = loaded.lines ++ lines; classes = loaded.classes }

abbrev pub with_class : List ℕ → Loaded → Loaded
with_class name loaded = record { lines = loaded.lines; classes = name ∷ loaded.classes }

-- The file that is read: its path, its kind, and, where that is a class, the name of the class that it belongs to.
pub record Origin : Type 0 where
  pub path : List ℕ
  pub kind : Kind
  pub class : List ℕ

-- the class that a file of its own is: its name without `.bbclass`
abbrev pub class_of : List ℕ → List ℕ
class_of path = without_ending (codes ".bbclass") (file_name path)

-- a file that isn't included has its own kind, and is a class of its own where that is its kind
abbrev pub origin_of : Kind → List ℕ → Origin
origin_of kind path = record { path = path; kind = kind; class = class_of path }

-- An included file has the kind and the class of the file that includes it (own rule).
abbrev pub included_by : Origin → List ℕ → Origin
included_by origin path = record { path = path; kind = origin.kind; class = origin.class }

-- a file that was found: its path and what it holds
abbrev pub Found : Type 0
Found = List ℕ × Contents

abbrev pub found_there : List ℕ → Option Contents → Option Found → Option Found
found_there path (Some contents) later = Some (path, contents)
found_there path None later = later

-- the first of some paths at which a file stands
abbrev pub first_found : Sources → Kind → List (List ℕ) → Option Found
first_found sources kind [] = None
first_found sources kind (path ∷ paths) = found_there path (sources path kind) (first_found sources kind paths)

-- The folders in which files are searched: the first ones, which depend on the statement; then the project folder; then those of
-- BBPATH, which is expanded over the entries so far and cut at its colons; an empty piece is none (BitBake User Manual,
-- "Variables Glossary", BBPATH; the order is an own rule).
abbrev pub search_folders : List EntryLine → List (List ℕ) → Result (List (List ℕ)) Refusal
search_folders lines first = value lines (codes "BBPATH") >>= λ path. Ok (first ++ (codes "." ∷ colon_pieces (unwrap_or path [])))

-- The file that a path names: the first one in these folders. An absolute path names none, and isn't searched (own rule).
abbrev pub searched : Sources → Kind → List EntryLine → List (List ℕ) → List ℕ → Result (Option Found) Refusal
searched sources kind lines first path = elim (is_absolute path) [
  | true ↦ Ok None
  | false ↦ search_folders lines first >>= λ folders. Ok (first_found sources kind (paths_in folders path))
]

-- How a file that was found is read: for the place of the statement that names it, or nowhere, and what was loaded before.
abbrev pub Reads : Type 0
Reads = Place → Origin → Contents → Loaded → Result Loaded LoadRefusal

-- A word of `include` or `require` names a file, which is searched in the folder of the file that holds the statement
-- first. Where there is none, `include` passes it over, and `require` is refused ("include Directive", "require Directive").
abbrev pub include_found : Reads → Place → Origin → Bool → List ℕ → Option Found → Loaded → Result Loaded LoadRefusal
include_found read place origin must word (Some found) loaded = read place (included_by origin found.0) found.1 loaded
include_found read place origin false word None loaded = Ok loaded
include_found read place origin true word None loaded = Err (refused_at place (missing_required word))

abbrev pub include_after : Reads → Sources → Place → Origin → Bool → List ℕ → Loaded → Result Loaded LoadRefusal
include_after read sources place origin must word loaded = do
  found ← asked_at place (searched sources origin.kind loaded.lines (folder_of origin.path ∷ []) word)
  include_found read place origin must word found loaded

-- the words of one statement, in order (own rule)
abbrev pub includes_after : Reads → Sources → Place → Origin → Bool → List (List ℕ) → Loaded → Result Loaded LoadRefusal
includes_after read sources place origin must [] loaded = Ok loaded
includes_after read sources place origin must (word ∷ rest) loaded = do
  next ← include_after read sources place origin must word loaded
  includes_after read sources place origin must rest next

-- A class NAME is the file `classes/NAME.bbclass`, searched like others ("inherit Directive"); an absolute NAME isn't searched.
-- Each class is read once: one whose reading has begun is passed over, and isn't searched (own rules).
abbrev pub class_path : List ℕ → List ℕ
class_path name = codes "classes/" ++ (name ++ codes ".bbclass")

abbrev pub class_searched : Sources → List EntryLine → List ℕ → Result (Option Found) Refusal
class_searched sources lines name = elim (is_absolute name) [ true ↦ Ok None | false ↦ searched sources Class lines [] (class_path name) ]

abbrev pub class_found : Reads → Place → Bool → List ℕ → Option Found → Loaded → Result Loaded LoadRefusal
class_found read place must name (Some found) loaded = read place (origin_of Class found.0) found.1 (with_class name loaded)
class_found read place false name None loaded = Ok loaded
class_found read place true name None loaded = Err (refused_at place (missing_class name))

abbrev pub class_after : Reads → Sources → Place → Bool → List ℕ → Loaded → Result Loaded LoadRefusal
class_after read sources place must name loaded = elim (is_in name loaded.classes) [
  | true ↦ Ok loaded
  | false ↦ asked_at place (class_searched sources loaded.lines name) >>= λ found. class_found read place must name found loaded
]

abbrev pub classes_after : Reads → Sources → Place → Bool → List (List ℕ) → Loaded → Result Loaded LoadRefusal
classes_after read sources place must [] loaded = Ok loaded
classes_after read sources place must (name ∷ rest) loaded = do
  next ← class_after read sources place must name loaded
  classes_after read sources place must rest next

-- What a statement adds. The text of `include`, `require` and `inherit` is expanded over all entries so far, and its words
-- are the names; without a word nothing is read (own rule). All other statements add entries of their own.
abbrev pub statement_after : Reads → Sources → Place → Origin → Statement → Loaded → Result Loaded LoadRefusal
statement_after read sources place origin (Include text) loaded = do
  named ← asked_at place (expand loaded.lines text)
  includes_after read sources place origin false (words named) loaded
statement_after read sources place origin (Require text) loaded = do
  named ← asked_at place (expand loaded.lines text)
  includes_after read sources place origin true (words named) loaded
statement_after read sources place origin (Inherit text) loaded = do
  named ← asked_at place (expand loaded.lines text)
  classes_after read sources place true (words named) loaded
statement_after read sources place origin statement loaded = do
  lines ← asked_at place (lines_of origin.class loaded.lines statement)
  Ok (with_lines lines loaded)

abbrev pub place_in : Origin → ℕ → Place
place_in origin line = record { file = origin.path; line = line }

-- the statements of a file, each over the entries before it
abbrev pub statements_after : Reads → Sources → Origin → List (ℕ × Statement) → Loaded → Result Loaded LoadRefusal
statements_after read sources origin [] loaded = Ok loaded
statements_after read sources origin (s ∷ rest) loaded = do
  next ← statement_after read sources (place_in origin s.0) origin s.1 loaded
  statements_after read sources origin rest next

-- What is wrong with a file is refused before any of its statements counts.
abbrev pub contents_after : Reads → Sources → Origin → Contents → Loaded → Result Loaded LoadRefusal
contents_after read sources origin (Ok list) loaded = statements_after read sources origin list loaded
contents_after read sources origin (Err e) loaded = Err (refused_at (place_in origin e.0) e.1)

-- A file that was found, where so many more may be nested. One beyond them is refused at the statement that names it.
abbrev pub read_within : ℕ → Sources → Reads
read_within zero sources place origin contents loaded = Err (refused_at place include_depth)
read_within (suc left) sources place origin contents loaded = contents_after (read_within left sources) sources origin contents loaded

-- The most files that are nested, the one that is read first among them (own rule).
abbrev pub most_nested : ℕ
most_nested = 32

abbrev pub read_first : Sources → Reads
read_first sources = read_within most_nested sources

-- A path that no statement names: where no file stands there it is passed over or refused, without a place.
abbrev pub file_found : Sources → Kind → Bool → List ℕ → Option Found → Loaded → Result Loaded LoadRefusal
file_found sources kind must path (Some found) loaded = read_first sources nowhere (origin_of kind found.0) found.1 loaded
file_found sources kind false path None loaded = Ok loaded
file_found sources kind true path None loaded = Err (refused_at nowhere (missing_required path))

-- The entries of a file: what reading it adds to what was loaded before. (BitBake User Manual, "Syntax and Operators", section
-- "Sharing Functionality".)
abbrev pub entries : Sources → Kind → List ℕ → Loaded → Result Loaded LoadRefusal
entries sources kind path loaded = file_found sources kind true path (option_map (λ contents. (path, contents)) (sources path kind)) loaded

-- the entries of a class by its name, which has to be there or may be missing
abbrev pub class_entries : Sources → Bool → List ℕ → Loaded → Result Loaded LoadRefusal
class_entries sources must name loaded = class_after (read_first sources) sources nowhere must name loaded

-- the entries of a file that is searched by a path
abbrev pub searched_entries : Sources → Kind → Bool → List ℕ → Loaded → Result Loaded LoadRefusal
searched_entries sources kind must path loaded = do
  found ← asked_at nowhere (searched sources kind loaded.lines [] path)
  file_found sources kind must path found loaded

-- each text stands once
abbrev pub are_once : List (List ℕ) → Bool
are_once [] = true
are_once (text ∷ texts) = not (is_in text texts) && are_once texts

-- What is said of reading: what was loaded before stays, what is new stands behind it, and each class is counted once.
pub record Extends (old new : Loaded) : Type 0 where
  pub lines : (more : List EntryLine) × (new.lines ≡ old.lines ++ more)
  pub classes : (more : List (List ℕ)) × (new.classes ≡ more ++ old.classes)
  pub once : are_once old.classes ≡ true → are_once new.classes ≡ true
