-- The entries of a recipe: its file's name, its appends, and all that is read for it.
use Rattle.std.specs.Prelude.{ℕ, Bool, true, false, ◌&&◌, ◌||◌, not, nat_le, List, [], ◌∷◌, ◌++◌, length, filter, Option, Some, None, unwrap_or, Result, Ok, ◌==◌, codes, bytes_eq, if◌then◌else◌}
use Rattle.std.specs.List.{slice_split, list_any}
use Rattle.meta_model.specs.declared.line.Kind.TheVariants.{Recipe as RecipeFile}
use Rattle.meta_model.specs.declared.entry.Op.TheVariants.{Set as Assigned}
use Rattle.meta_model.specs.declared.entry.EntryLine.{EntryLine}
use Rattle.meta_model.specs.declared.entry.EntryLine.TheVariants.{Set}
use Rattle.meta_model.specs.Text.{is_empty, is_in, is_made_of, begins_with, without_last}
use Rattle.meta_model.specs.Refusal.{Refusal}
use Rattle.meta_model.specs.Active.{value}
use Rattle.meta_model.specs.Frozen.{frozen}
use Rattle.load_model.specs.Paths.{folder_of, file_name, has_ending, without_ending}
use Rattle.load_model.specs.LoadRefusal.{LoadRefusal, nowhere, ◌>>=◌, refused_as, asked_at, require, there}
use Rattle.load_model.specs.Loading.{Sources, Loaded, with_lines, read_first, classes_after, class_entries, entries}
use Rattle.load_model.specs.Layers.{words_of, starting_with}

-- what the name of a recipe's file says
pub record FileName : Type 0 where
  pub pn : List ℕ
  pub pv : List ℕ
  pub pr : List ℕ

abbrev pub is_underscore : ℕ → Bool
is_underscore c = c == 95

abbrev pub named : List ℕ → List ℕ → List ℕ → Option FileName
named pn pv pr = if is_empty pn || (is_empty pv || is_empty pr) then None else Some (record { pn = pn; pv = pv; pr = pr })

abbrev pub name_of_parts : List (List ℕ) → Option FileName
name_of_parts (pn ∷ []) = named pn (codes "1.0") (codes "r0")
name_of_parts (pn ∷ (pv ∷ [])) = named pn pv (codes "r0")
name_of_parts (pn ∷ (pv ∷ (pr ∷ []))) = named pn pv pr
name_of_parts _ = None

-- A recipe's file is `PN.bb`, `PN_PV.bb` or `PN_PV_PR.bb`; the defaults are `1.0` and `r0` (BitBake User Manual, "Variables
-- Glossary", PN, PV and PR). More underscores and empty parts give no name (own rule).
abbrev pub name_of_file : List ℕ → Option FileName
name_of_file path = name_of_parts (slice_split is_underscore (without_ending (codes ".bb") (file_name path)))

-- A PN is made of letters, digits, `+`, `-` and `.`, is neither `.` nor `..`, and has at most 255 bytes (own rule).
abbrev pub is_pn : List ℕ → Bool
is_pn pn = is_made_of (codes "+-.") pn && (nat_le (length pn) 255 && not (is_in pn (codes "." ∷ codes ".." ∷ [])))

-- `X.bbappend` belongs to `X.bb`, and `X%.bbappend` to each recipe whose file's name begins with X (BitBake User Manual,
-- "Syntax and Operators", section "Appending Metadata"; that the ending counts as part of that name is an own rule).
abbrev pub belongs : List ℕ → List ℕ → Bool
belongs recipe append =
    let x = without_ending (codes ".bbappend") (file_name append) in
    if has_ending (codes "%") x then begins_with (without_last x) (file_name recipe)
    else bytes_eq x (without_ending (codes ".bb") (file_name recipe))

abbrev pub appends_of : List ℕ → List (List ℕ) → List (List ℕ)
appends_of recipe appends = filter (belongs recipe) appends

-- FILE is the file that is read, and THISDIR its folder.
abbrev pub file_lines : List ℕ → List EntryLine
file_lines path = Set (codes "FILE") Assigned path ∷ Set (codes "THISDIR") Assigned (folder_of path) ∷ []

abbrev pub name_lines : FileName → List EntryLine
name_lines name = Set (codes "PN") Assigned name.pn ∷ Set (codes "PV") Assigned name.pv ∷ Set (codes "PR") Assigned name.pr ∷ []

-- the appends of a recipe, each with its own FILE and THISDIR (own rule); a file that one includes has those of the append
abbrev pub appended : Sources → List (List ℕ) → Loaded → Result Loaded LoadRefusal
appended sources [] loaded = Ok loaded
appended sources (append ∷ rest) loaded = do
  next ← entries sources RecipeFile append (with_lines (file_lines append) loaded)
  appended sources rest next

-- the classes that INHERIT names, which is expanded once behind class `base`; no file is at fault here (own rule)
abbrev pub with_inherit : Sources → Loaded → Result Loaded LoadRefusal
with_inherit sources loaded = do
  names ← asked_at nowhere (words_of loaded.lines (codes "INHERIT"))
  classes_after (read_first sources) sources nowhere true names loaded

-- class `base`, where it is there, and the classes of INHERIT
abbrev pub classes_read : Sources → Loaded → Result Loaded LoadRefusal
classes_read sources loaded = class_entries sources false (codes "base") loaded >>= λ based. with_inherit sources based

-- the recipe's file, these appends, and the recipe's FILE and THISDIR again
abbrev pub files_read : Sources → List ℕ → List (List ℕ) → Loaded → Result Loaded LoadRefusal
files_read sources path appends loaded = do
  own ← entries sources RecipeFile path loaded
  whole ← appended sources appends own
  Ok (with_lines (file_lines path) whole)

-- The entries of a recipe with these appends, in this order (own rule): the configuration; PN, PV, PR, FILE and THISDIR; the
-- classes; the files (BitBake User Manual, "Execution", section "Locating and Parsing Recipes").
abbrev pub entries_with : Sources → List EntryLine → List ℕ → FileName → List (List ℕ) → Result Loaded LoadRefusal
entries_with sources config path name appends =
    classes_read sources (starting_with (config ++ (name_lines name ++ file_lines path))) >>= λ inherited. files_read sources path appends inherited

abbrev pub recipe_entries : Sources → List EntryLine → List ℕ → FileName → List (List ℕ) → Result Loaded LoadRefusal
recipe_entries sources config path name appends = entries_with sources config path name (appends_of path appends)

-- Why recipes can't be read: a file's name or the PN is none; an append belongs to no recipe; a file can't be loaded; there
-- are more than 2,000 recipe files; a value of the file, or, without a file, of the configuration, is refused.
pub data SetRefusal : Type 0 where
  bad_name : (file : List ℕ) → SetRefusal
  dangling_append : (file : List ℕ) → SetRefusal
  load : LoadRefusal → SetRefusal
  too_many : SetRefusal
  no_value : (file : List ℕ) → Refusal → SetRefusal

abbrev pub asked_of : {A : Type 0} → List ℕ → Result A Refusal → Result A SetRefusal
asked_of file result = refused_as (no_value file) result

-- a recipe that was read: its file, its expanded name, and its entries once names are moved
pub record Recipe : Type 0 where
  pub file : List ℕ
  pub pn : List ℕ
  pub pv : List ℕ
  pub pr : List ℕ
  pub lines : List EntryLine

-- the expanded value, or the empty text
abbrev pub text_of : List EntryLine → List ℕ → Result (List ℕ) Refusal
text_of lines name = value lines name >>= λ text. Ok (unwrap_or text [])

-- the three values of a recipe's name
abbrev pub three_values : List ℕ → List EntryLine → Result FileName SetRefusal
three_values path lines = do
  pn ← asked_of path (text_of lines (codes "PN"))
  pv ← asked_of path (text_of lines (codes "PV"))
  pr ← asked_of path (text_of lines (codes "PR"))
  Ok (record { pn = pn; pv = pv; pr = pr })

-- a name whose PN is one
abbrev pub good_name : List ℕ → FileName → Result FileName SetRefusal
good_name path name = require (is_pn name.pn) (bad_name path) >>= λ good. Ok name

-- The name of a recipe with these entries. It counts as it is after all files (own rule).
abbrev pub name_in : List ℕ → List EntryLine → Result FileName SetRefusal
name_in path lines = three_values path lines >>= good_name path

-- a recipe of this name
abbrev pub recipe_with : List ℕ → List EntryLine → FileName → Recipe
recipe_with path lines name = record { file = path; pn = name.pn; pv = name.pv; pr = name.pr; lines = lines }

abbrev pub recipe_of : List ℕ → List EntryLine → Result Recipe SetRefusal
recipe_of path lines = name_in path lines >>= λ name. Ok (recipe_with path lines name)

-- the recipe of what was read for it
abbrev pub recipe_over : List ℕ → Loaded → Result Recipe SetRefusal
recipe_over path loaded = asked_of path (frozen loaded.lines) >>= λ lines. recipe_of path lines

abbrev pub recipe_read : Sources → List EntryLine → List (List ℕ) → List ℕ → FileName → Result Recipe SetRefusal
recipe_read sources config appends path name = refused_as load (recipe_entries sources config path name appends) >>= λ loaded. recipe_over path loaded

abbrev pub recipes_read : Sources → List EntryLine → List (List ℕ) → List (List ℕ × FileName) → Result (List Recipe) SetRefusal
recipes_read sources config appends [] = Ok []
recipes_read sources config appends (file ∷ rest) = do
  first ← recipe_read sources config appends file.0 file.1
  others ← recipes_read sources config appends rest
  Ok (first ∷ others)

-- a file's path with what its name says, which has to be a name
abbrev pub file_named : List ℕ → Result (List ℕ × FileName) SetRefusal
file_named path = there (bad_name path) (name_of_file path) >>= λ name. Ok (path, name)

abbrev pub names_of_files : List (List ℕ) → Result (List (List ℕ × FileName)) SetRefusal
names_of_files [] = Ok []
names_of_files (path ∷ paths) = do
  file ← file_named path
  others ← names_of_files paths
  Ok (file ∷ others)

-- An append that belongs to no recipe is refused (own rule).
abbrev pub all_belong : List (List ℕ) → List (List ℕ) → Result (List (List ℕ)) SetRefusal
all_belong recipes [] = Ok []
all_belong recipes (append ∷ rest) = do
  good ← require (list_any (λ recipe. belongs recipe append) recipes) (dangling_append append)
  others ← all_belong recipes rest
  Ok (append ∷ others)
