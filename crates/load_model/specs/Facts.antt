-- What all recipes say: the chosen recipe of each name, and its facts.
use Rattle.std.specs.Prelude.{◌≡◌, ℕ, Bool, false, All, Contains, ◌||◌, List, [], ◌∷◌, ◌++◌, map, filter, filter_map, flat_map, fold, length, drop, nat_le, Option, Some, None, unwrap_or, Result, Ok, ◌==◌, codes, bytes_eq, if◌then◌else◌}
use Rattle.std.specs.List.{join_with_byte}
use Rattle.std.specs.Map.{lookup}
use Rattle.std.specs.Ordering.{nat_cmp, on, then_cmp, is_lt, is_gt}
use Rattle.std.specs.Cmp.Lexicographic.{slice_cmp}
use Rattle.std.specs.declared.cmp.Ordering.{Ordering}
use Rattle.meta_model.specs.declared.entry.EntryLine.{EntryLine}
use Rattle.meta_model.specs.declared.facts.FactSet.{FactSet}
use Rattle.meta_model.specs.declared.facts.RecipeFacts.{RecipeFacts}
use Rattle.meta_model.specs.declared.facts.Package.{Package}
use Rattle.meta_model.specs.declared.facts.TaskFacts.{TaskFacts}
use Rattle.meta_model.specs.Text.{colon, is_empty, begins_with, words, cuts, split_at_first, without_last, in_byte_order}
use Rattle.meta_model.specs.Refusal.{Refusal}
use Rattle.meta_model.specs.Base.{flag, names}
use Rattle.meta_model.specs.Active.{value, expand}
use Rattle.meta_model.specs.Frozen.{frozen}
use Rattle.meta_model.specs.Tasks.{tasks}
use Rattle.load_model.specs.Versions.{version_cmp}
use Rattle.load_model.specs.Paths.{has_ending}
use Rattle.load_model.specs.LoadRefusal.{◌>>=◌, require}
use Rattle.load_model.specs.Loading.{Sources}
use Rattle.load_model.specs.Layers.{words_of}
use Rattle.load_model.specs.Recipes.{FileName, Recipe, SetRefusal, too_many, asked_of, recipes_read, names_of_files, all_belong}

-- The names that may have a value: those of the entries, and what stands before a colon of one, since a name may have a value
-- through a form alone. They are in byte order, and the empty name is left out.
abbrev pub fronts_of : List ℕ → List (List ℕ)
fronts_of name = map (λ cut. cut.0) (filter (λ cut. is_empty cut.1 || begins_with (colon ∷ []) cut.1) (cuts name))

abbrev pub valued_names : List EntryLine → List (List ℕ)
valued_names lines = in_byte_order (flat_map fronts_of (names lines))

abbrev pub with_value : List ℕ → Option (List ℕ) → List (List ℕ × List ℕ) → List (List ℕ × List ℕ)
with_value key None rest = rest
with_value key (Some text) rest = (key, text) ∷ rest

-- names without their front, each with its expanded value, where it has one
abbrev pub values_behind : List EntryLine → List ℕ → List (List ℕ) → Result (List (List ℕ × List ℕ)) Refusal
values_behind lines front [] = Ok []
values_behind lines front (name ∷ rest) = do
  text ← value lines name
  others ← values_behind lines front rest
  Ok (with_value (drop (length front) name) text others)

-- The names that have a value, in byte order, each with its expanded value (own rule).
abbrev pub environment : List EntryLine → Result (List (List ℕ × List ℕ)) Refusal
environment lines = values_behind lines [] (valued_names lines)

-- what a family of names says, as PREFERRED_VERSION_x of each x
abbrev pub family : List EntryLine → List ℕ → Result (List (List ℕ × List ℕ)) Refusal
family lines front = values_behind lines front (filter (begins_with front) (valued_names lines))

-- What the configuration says of recipes. It is read once names are moved (own rule).
pub record Wishes : Type 0 where
  pub assumed : List (List ℕ)
  pub providers : List (List ℕ × List ℕ)
  pub versions : List (List ℕ × List ℕ)

-- what entries say whose names are moved
abbrev pub wishes_over : List EntryLine → Result Wishes Refusal
wishes_over lines = do
  assumed ← words_of lines (codes "ASSUME_PROVIDED")
  providers ← family lines (codes "PREFERRED_PROVIDER_")
  versions ← family lines (codes "PREFERRED_VERSION_")
  Ok (record { assumed = assumed; providers = providers; versions = versions })

abbrev pub wishes : List EntryLine → Result Wishes Refusal
wishes config = frozen config >>= wishes_over

-- The order of recipes of one PN: by version, then by PR, which is compared as a version, then by the bytes of the path (own
-- rule; the manual's section is "Preferences").
abbrev pub path_cmp : List ℕ → List ℕ → Ordering
path_cmp = slice_cmp nat_cmp

abbrev pub recipe_cmp : Recipe → Recipe → Ordering
recipe_cmp = then_cmp (on (λ r. r.pv) version_cmp) (then_cmp (on (λ r. r.pr) version_cmp) (on (λ r. r.file) path_cmp))

abbrev pub greater : Option Recipe → Recipe → Option Recipe
greater None recipe = Some recipe
greater (Some best) recipe = if is_lt (recipe_cmp best recipe) then Some recipe else Some best

-- the greatest of some recipes
abbrev pub greatest : List Recipe → Option Recipe
greatest recipes = fold greater None recipes

-- What is said of the greatest: it is one of the recipes, and none of them is greater; there is none among no recipes.
abbrev pub IsGreatest : List Recipe → Option Recipe → Type 0
IsGreatest recipes None = recipes ≡ []
IsGreatest recipes (Some best) = Contains recipes best × All (λ r. is_gt (recipe_cmp r best) ≡ false) recipes

-- A preference names a PV; a `%` at its end stands for any rest (BitBake User Manual, "Variables Glossary",
-- PREFERRED_VERSION).
abbrev pub fits : List ℕ → Recipe → Bool
fits preference recipe =
    if has_ending (codes "%") preference then begins_with (without_last preference) recipe.pv
    else bytes_eq preference recipe.pv

-- Where no recipe fits the preference, all count (own rule).
abbrev pub that_count : Option (List ℕ) → List Recipe → List Recipe
that_count None recipes = recipes
that_count (Some preference) recipes =
    let fitting = filter (fits preference) recipes in
    if is_empty fitting then recipes else fitting

-- The chosen recipe of a PN: the greatest of those that fit the preference.
abbrev pub chosen : List (List ℕ × List ℕ) → List Recipe → List ℕ → Option Recipe
chosen versions recipes pn = greatest (that_count (lookup (bytes_eq pn) versions) (filter (λ r. bytes_eq r.pn pn) recipes))

-- the chosen recipe of each PN, in byte order of the PNs
abbrev pub all_chosen : List (List ℕ × List ℕ) → List Recipe → List Recipe
all_chosen versions recipes = filter_map (chosen versions recipes) (in_byte_order (map (λ r. r.pn) recipes))

-- A text cut at the `)` that close nothing, the last text first read. A `(` takes away all up to the `)` that belongs to it;
-- one that is never closed is a character like others.
abbrev pub onto_front : ℕ → List (List ℕ) → List (List ℕ)
onto_front c [] = (c ∷ []) ∷ []
onto_front c (text ∷ rest) = (c ∷ text) ∷ rest

abbrev pub opened : List (List ℕ) → List (List ℕ)
opened (inside ∷ (behind ∷ rest)) = behind ∷ rest
opened texts = onto_front 40 texts

abbrev pub bracket_before : ℕ → List (List ℕ) → List (List ℕ)
bracket_before c texts = if c == 41 then [] ∷ texts else (if c == 40 then opened texts else onto_front c texts)

abbrev pub outside_brackets : List ℕ → List (List ℕ)
outside_brackets [] = [] ∷ []
outside_brackets (c ∷ text) = bracket_before c (outside_brackets text)

-- Text in parentheses, as a version that is asked for, is dropped from RDEPENDS where they are balanced (own rule).
abbrev pub without_brackets : List ℕ → List ℕ
without_brackets text = join_with_byte 41 (outside_brackets text)

abbrev pub needed_words : List EntryLine → List ℕ → Result (List (List ℕ)) Refusal
needed_words lines name = value lines name >>= λ text. Ok (words (without_brackets (unwrap_or text [])))

abbrev pub form : List ℕ → List ℕ → List ℕ
form name pkg = name ++ colon ∷ pkg

-- What the recipe says for a package: the words for all its packages, and behind them those for this one (BitBake User Manual,
-- "Variables Glossary", RDEPENDS and RPROVIDES).
abbrev pub package_facts : List EntryLine → List (List ℕ) → List (List ℕ) → List ℕ → Result Package Refusal
package_facts lines provided needed name = do
  provides ← words_of lines (form (codes "RPROVIDES") name)
  needs ← needed_words lines (form (codes "RDEPENDS") name)
  Ok (record { name = name; rdepends = needed ++ needs; rprovides = provided ++ provides })

abbrev pub all_packages : List EntryLine → List (List ℕ) → List (List ℕ) → List (List ℕ) → Result (List Package) Refusal
all_packages lines provided needed [] = Ok []
all_packages lines provided needed (name ∷ rest) = do
  first ← package_facts lines provided needed name
  others ← all_packages lines provided needed rest
  Ok (first ∷ others)

-- What the recipe says of these packages. Where it names none, the words for all packages stand for one without a name, so that they
-- count all the same (own rule).
abbrev pub recipe_packages : List EntryLine → List (List ℕ) → List (List ℕ) → List (List ℕ) → Result (List Package) Refusal
recipe_packages lines provided needed [] = Ok (record { name = []; rdepends = needed; rprovides = provided } ∷ [])
recipe_packages lines provided needed (name ∷ rest) = all_packages lines provided needed (name ∷ rest)

-- the words of a flag's expanded text
abbrev pub flag_words : List EntryLine → List ℕ → List ℕ → Result (List (List ℕ)) Refusal
flag_words lines name f = expand lines (unwrap_or (flag lines name f) []) >>= λ text. Ok (words text)

-- A word NAME:TASK is cut at its first colon. One without a colon, or with nothing behind it, names no task (own rule).
abbrev pub pair_of : List ℕ → Option (List ℕ × List ℕ) → List ℕ × List ℕ
pair_of word None = (word, [])
pair_of word (Some cut) = if is_empty cut.1 then (word, []) else cut

abbrev pub named_task : List ℕ → List ℕ × List ℕ
named_task word = pair_of word (split_at_first colon word)

-- what a recipe says of one of its tasks ("Dependencies")
abbrev pub task_facts : List EntryLine → List ℕ × List (List ℕ) → Result TaskFacts Refusal
task_facts lines task = do
  depends ← flag_words lines task.0 (codes "depends")
  deptask ← flag_words lines task.0 (codes "deptask")
  rdeptask ← flag_words lines task.0 (codes "rdeptask")
  recrdeptask ← flag_words lines task.0 (codes "recrdeptask")
  Ok (record { task = task.0; after = task.1; depends = map named_task depends; deptask = deptask; rdeptask = rdeptask; recrdeptask = recrdeptask })

abbrev pub all_tasks : List EntryLine → List (List ℕ × List (List ℕ)) → Result (List TaskFacts) Refusal
all_tasks lines [] = Ok []
all_tasks lines (task ∷ rest) = do
  first ← task_facts lines task
  others ← all_tasks lines rest
  Ok (first ∷ others)

-- What a recipe says of itself, over its entries once names are moved.
abbrev pub facts_of : Recipe → Result RecipeFacts Refusal
facts_of recipe = do
  provides ← words_of recipe.lines (codes "PROVIDES")
  depends ← words_of recipe.lines (codes "DEPENDS")
  names ← words_of recipe.lines (codes "PACKAGES")
  provided ← words_of recipe.lines (codes "RPROVIDES")
  needed ← needed_words recipe.lines (codes "RDEPENDS")
  packages ← recipe_packages recipe.lines provided needed names
  list ← all_tasks recipe.lines (tasks recipe.lines)
  Ok (record { file = recipe.file; pn = recipe.pn; pv = recipe.pv; pr = recipe.pr; provides = provides; depends = depends; packages = packages; tasks = list })

abbrev pub all_facts : List Recipe → Result (List RecipeFacts) SetRefusal
all_facts [] = Ok []
all_facts (recipe ∷ rest) = do
  first ← asked_of recipe.file (facts_of recipe)
  others ← all_facts rest
  Ok (first ∷ others)

-- the facts, and for each recipe of them its entries
pub record RecipeSet : Type 0 where
  pub facts : FactSet
  pub stores : List (List EntryLine)

-- the most recipe files (own rule)
abbrev pub most_recipes : ℕ
most_recipes = 2000

-- what some chosen recipes say, with their entries
abbrev pub set_over : Wishes → List Recipe → Result RecipeSet SetRefusal
set_over wished picked = do
  facts ← all_facts picked
  Ok (record {
    facts = record { recipes = facts; preferred = wished.providers; assumed = wished.assumed };
    stores = map (λ r. r.lines) picked;
  })

-- the set of those that are chosen among some files' recipes
abbrev pub read_over : Sources → List EntryLine → Wishes → List (List ℕ × FileName) → List (List ℕ) → Result RecipeSet SetRefusal
read_over sources config wished files appends = recipes_read sources config appends files >>= λ read. set_over wished (all_chosen wished.versions read)

-- the named files of recipes, of which there may not be too many, and to which each append belongs
abbrev pub files_over : List (List ℕ) → List (List ℕ) → Result (List (List ℕ × FileName)) SetRefusal
files_over recipes appends = do
  few ← require (nat_le (length recipes) most_recipes) too_many
  files ← names_of_files recipes
  belonging ← all_belong recipes appends
  Ok files

-- the set under what the configuration says of recipes
abbrev pub set_under : Sources → List EntryLine → List (List ℕ) → List (List ℕ) → Wishes → Result RecipeSet SetRefusal
set_under sources config recipes appends wished = files_over recipes appends >>= λ files. read_over sources config wished files appends

-- All recipes, over the configuration, the recipe files in byte order, and the appends in their order. Of several refusals
-- the first in this order is given: the configuration, the number of files, their names, the appends, each recipe in order,
-- each chosen recipe in order (own rule).
abbrev pub recipe_set : Sources → List EntryLine → List (List ℕ) → List (List ℕ) → Result RecipeSet SetRefusal
recipe_set sources config recipes appends = asked_of [] (wishes config) >>= set_under sources config recipes appends
