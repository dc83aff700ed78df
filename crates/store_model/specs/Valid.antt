-- Stores that are valid with a book.
use Rattle.std.specs.Prelude.{◌≡◌, ◌≢◌, ◌⊎◌, ℕ, false, List, ◌∷◌, ◌++◌, map, codes, All, Ok, Some}
use Rattle.tree_model.specs.declared.entry.Entry.{Entry}
use Rattle.tree_model.specs.declared.entry.Entry.TheVariants.{File}
use Rattle.tree_model.specs.declared.entry.EntryKind.TheVariants as kind
use Rattle.tree_model.specs.Hash.{hash_text}
use Rattle.tree_model.specs.Manifest.{manifest_lines, kind_of}
use Rattle.tree_model.specs.Path.{inside}
use Rattle.tree_model.specs.Tree.{IsTree, entry_at}
use Rattle.outside_traits.specs.Store.{Store}
use Rattle.meta_model.specs.CleanBuild.{Entries, Gives}
use Rattle.store_model.specs.declared.signature.DepLine.{DepLine}
use Rattle.store_model.specs.declared.signature.StoredSig.{StoredSig}
use Rattle.meta_model.specs.declared.value.Key.{Key}
use Rattle.store_model.specs.Paths.{key_path}
use Rattle.store_model.specs.Spelling.{key_bytes, key_name, name_of, record_bytes}
use Rattle.store_model.specs.Signatures.{file_hash}
use Rattle.store_model.specs.Spelled.{IsSpelled}
use Rattle.store_model.specs.Origins.{Reading, Line, Book, origin}

-- The line stands in the book, behind these lines.
pub record StandsIn (book before : Book) (line : Line) : Type 0 where
  pub rest : Book
  pub is : book ≡ before ++ (line ∷ rest)

-- the lines are of one PN and task, and have one manifest
pub record AreAlike (a b : Line) : Type 0 where
  pub pn : a.sig.pn ≡ b.sig.pn
  pub task : a.sig.task ≡ b.sig.task
  pub manifest : a.manifest ≡ b.manifest

-- Among the lines is one of the needed task's PN and task, under the name that stands for it.
pub record IsNamedBefore (before : Book) (dep : DepLine) : Type 0 where
  pub line : Line
  pub behind : Book
  pub stands : StandsIn before behind line
  pub name : name_of line.sig ≡ dep.name
  pub pn : line.sig.pn ≡ dep.pn
  pub task : line.sig.task ≡ dep.task

-- a file that can't be executed
abbrev pub IsPlain : List ℕ × Entry → Type 0
IsPlain e = kind_of e.1 ≡ kind.File

-- A line's unihash is its own name, or that of an earlier line that is alike.
pub record IsNamedAlike (before : Book) (line : Line) : Type 0 where
  pub first : Line
  pub behind : Book
  pub stands : StandsIn before behind first
  pub alike : AreAlike first line
  pub name : line.unihash ≡ name_of first.sig

-- What is asked of a line behind others (own rule).
pub record IsValidLine (gives : Gives) (reading : Reading) (before : Book) (line : Line) : Type 0 where
  -- its signature has one spelling
  pub spelled : IsSpelled line.sig
  -- no earlier line has its name
  pub new : (behind : Book) (earlier : Line) → StandsIn before behind earlier → name_of earlier.sig ≢ name_of line.sig
  -- its files are plain and a tree, and have the names and digests of its signature
  pub plain : All IsPlain line.files
  pub tree : IsTree line.files
  pub files : map file_hash line.files ≡ line.sig.files
  -- each needed task is named by an earlier line
  pub deps : All (IsNamedBefore before) line.sig.deps
  -- its origin is a tree, whose manifest it has
  pub output : Entries
  pub origin : origin gives reading before line ≡ Ok output
  pub manifest : line.manifest ≡ manifest_lines output
  -- lines that are alike have one unihash, which is the name of the first of them or of one that is alike
  pub shared : (behind : Book) (earlier : Line) → StandsIn before behind earlier → AreAlike earlier line → earlier.unihash ≡ line.unihash
  pub named : (line.unihash ≡ name_of line.sig) ⊎ IsNamedAlike before line

-- every line of the book is valid
abbrev pub IsValidBook : Gives → Reading → Book → Type 0
IsValidBook gives reading book = (before : Book) (line : Line) → StandsIn book before line → IsValidLine gives reading before line

abbrev pub stored_of : Line → StoredSig
stored_of line = record { sig = line.sig; manifest = line.manifest; unihash = line.unihash }

-- the file of a line's stored record, under its name
abbrev pub record_entry : Line → List ℕ × Entry
record_entry line = (hash_text (name_of line.sig), File false (record_bytes (stored_of line)))

-- the file of a key
abbrev pub key_file : Key → Entry
key_file key = File false (key_bytes key)

-- the key is held, under its name
abbrev pub HasKey : Store → Key → Type 0
HasKey held key = held (key_path (key_name key)) ≡ Some (key_file key)

-- the key of each line is held
abbrev pub HasKeys : Store → Book → Type 0
HasKeys held book = (before : Book) (line : Line) → StandsIn book before line → HasKey held line.sig.key

-- A store is valid with a book: under `rec2/` it holds exactly the stored records of the book's lines, each under its name; the lines
-- are valid; and the key of each is held. Nothing is asked of what it holds elsewhere (own rule).
pub record IsValid (gives : Gives) (reading : Reading) (held : Store) (book : Book) : Type 0 where
  pub records : (path : List ℕ) → held (inside (codes "rec2") path) ≡ entry_at (map record_entry book) path
  pub lines : IsValidBook gives reading book
  pub keys : HasKeys held book
