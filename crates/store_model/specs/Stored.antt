-- Which keys and stored records have a spelling.
use Rattle.std.specs.Prelude.{◌≡◌, ℕ, ◌<◌, ◌^◌, false, List, [], ◌∷◌}
use Rattle.std.specs.List.{AllByRecursion}
use Rattle.std.specs.Ordering.{nat_cmp}
use Rattle.std.specs.declared.cmp.Ordering.{Ordering}
use Rattle.std.specs.Cmp.Lexicographic.{slice_cmp}
use Rattle.tree_model.specs.declared.manifest.ManifestLine.{ManifestLine}
use Rattle.tree_model.specs.Hash.{IsHash}
use Rattle.tree_model.specs.Path.{IsBelow, IsClean}
use Rattle.meta_model.specs.declared.value.Key.{Key}
use Rattle.store_model.specs.declared.signature.ShortStored.{ShortStored}
use Rattle.store_model.specs.declared.signature.StoredSig.{StoredSig}
use Rattle.store_model.specs.OneSpelling.{AllFit, Fits}
use Rattle.store_model.specs.Signatures.{dep_cmp, line_cmp}
use Rattle.store_model.specs.Spelled.{Ascends, file_cmp}
use Rattle.store_model.specs.Spelling.{key_bytes, record_bytes, short_bytes, short_of, short_record}
use Rattle.store_model.specs.Sound.{IsDep, IsFile, IsKeyLine, IsSignature, IsText}

-- manifest lines by their paths
abbrev pub path_cmp : ManifestLine → ManifestLine → Ordering
path_cmp a b = slice_cmp nat_cmp a.path b.path

pub record IsManifestLine (line : ManifestLine) : Type 0 where
  pub path : IsText line.path
  pub length : line.length < 2 ^ 64
  pub hash : IsHash line.hash

-- Paths of ascending lines are a tree's: each is clean, and none is a proper ancestor of a later one (own rule).
abbrev pub ArePaths : List ManifestLine → Type 0
ArePaths [] = Unit {0}
ArePaths (line ∷ lines) = IsClean line.path × (AllByRecursion (λ l. IsBelow line.path l.path → ⊥) lines × ArePaths lines)

-- A stored record that has a spelling, but for its paths.
pub record IsStored (stored : StoredSig) : Type 0 where
  pub sig : IsSignature stored.sig
  pub few : Fits (short_bytes (short_of stored.sig))
  pub lines : AllFit IsManifestLine stored.manifest
  pub ascends : Ascends path_cmp stored.manifest
  pub unihash : IsHash stored.unihash

-- The bytes are the one spelling of this stored record.
pub record SpellsStored (bytes : List ℕ) (stored : StoredSig) : Type 0 where
  pub sound : IsStored stored
  pub paths : ArePaths stored.manifest
  pub is : bytes ≡ record_bytes stored

-- The bytes are the one spelling of this key.
pub record SpellsKey (bytes : List ℕ) (key : Key) : Type 0 where
  pub lines : AllFit IsKeyLine key.lines
  pub ascends : Ascends line_cmp key.lines
  pub excluded : key.excluded ≡ false
  pub is : bytes ≡ key_bytes key

-- The bytes are the one spelling of a stored record, whatever its key.
pub record SpellsShort (bytes : List ℕ) (s : ShortStored) : Type 0 where
  pub pn : IsText s.sig.pn
  pub task : IsText s.sig.task
  pub key : IsHash s.sig.key
  pub files : AllFit IsFile s.sig.files
  pub files_ascend : Ascends file_cmp s.sig.files
  pub deps : AllFit IsDep s.sig.deps
  pub deps_ascend : Ascends dep_cmp s.sig.deps
  pub few : Fits (short_bytes s.sig)
  pub lines : AllFit IsManifestLine s.manifest
  pub ascends : Ascends path_cmp s.manifest
  pub unihash : IsHash s.unihash
  pub paths : ArePaths s.manifest
  pub is : bytes ≡ short_record s
