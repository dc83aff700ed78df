-- The configuration: layers, and the lists of recipe files and appends.
use Rattle.std.specs.Prelude.{ℕ, zero, suc, ◌-◌, Bool, true, false, ◌&&◌, List, [], ◌∷◌, ◌++◌, length, filter, nat_lt, Option, Some, None, unwrap_or, is_some, Result, Ok, Err, map, flat_map, ◌==◌, codes, if◌then◌else◌}
use Rattle.std.specs.List.{list_any}
use Rattle.std.specs.Option.{option_map, option_map_or}
use Rattle.meta_model.specs.declared.line.Kind.TheVariants.{Conf}
use Rattle.meta_model.specs.declared.entry.Op.TheVariants.{Set as Assigned, Weak}
use Rattle.meta_model.specs.declared.entry.EntryLine.{EntryLine}
use Rattle.meta_model.specs.declared.entry.EntryLine.TheVariants.{Set}
use Rattle.meta_model.specs.declared.statement.Statement.{Statement}
use Rattle.meta_model.specs.declared.statement.Statement.TheVariants.{Assign, Flag, Include, Require}
use Rattle.meta_model.specs.Text.{begins_with, words, in_byte_order, open_bracket}
use Rattle.meta_model.specs.Refusal.{Refusal}
use Rattle.meta_model.specs.Active.{value}
use Rattle.load_model.specs.Paths.{slash, path_named, has_ending, without_ending}
use Rattle.load_model.specs.Patterns.{names_path}
use Rattle.load_model.specs.LoadRefusal.{LoadRefusal, ◌>>=◌, refused_as}
use Rattle.load_model.specs.Loading.{Contents, Sources, Loaded, entries, searched_entries}

-- Why there is no configuration: a word of BBLAYERS is no layer, a word of BBFILES holds `[`, a file can't be loaded, BBLAYERS
-- or BBFILES can't be expanded.
pub data LayerRefusal : Type 0 where
  no_such_layer : (path : List ℕ) → LayerRefusal
  bad_pattern : (word : List ℕ) → LayerRefusal
  load : LoadRefusal → LayerRefusal
  no_list : Refusal → LayerRefusal

-- What is there before the first file is read (own rule). Without `conf/bblayers.conf` the recipes stand in one folder.
abbrev pub built_in : List EntryLine
built_in = Set (codes "TOPDIR") Assigned (codes ".")
    ∷ Set (codes "BB_DEFAULT_TASK") Weak (codes "build")
    ∷ Set (codes "BB_NUMBER_THREADS") Weak (codes "4")
    ∷ Set (codes "PACKAGES") Weak (codes "${PN}")
    ∷ []

abbrev pub flat_files : List EntryLine
flat_files = Set (codes "BBFILES") Weak (codes "recipes/*.bb recipes/*.bbappend") ∷ []

-- a text with another one put in the place of a part, wherever the part stands; `skip` characters belong to the last one
abbrev pub with_put : List ℕ → List ℕ → ℕ → List ℕ → List ℕ
with_put part new skip [] = []
with_put part new (suc skip) (c ∷ text) = with_put part new skip text
with_put part new zero (c ∷ text) = elim (begins_with part (c ∷ text)) [
  | true ↦ new ++ with_put part new (length part - 1) text
  | false ↦ c ∷ with_put part new zero text
]

-- The layer that a word of BBLAYERS names: a slash at the end is left out (own rule).
abbrev pub layer_named : List ℕ → List ℕ
layer_named word = without_ending (slash ∷ []) word

-- In the files of a layer's configuration `${LAYERDIR}` stands for the layer as BBLAYERS names it: in quoted texts, and in
-- the texts of `include` and `require` (BitBake User Manual, "Variables Glossary", LAYERDIR; that it is put in where the file
-- is read, and in no names, are own rules).
abbrev pub with_folder : List ℕ → List ℕ → List ℕ
with_folder layer text = with_put (codes "${LAYERDIR}") layer 0 text

abbrev pub statement_in_layer : List ℕ → Statement → Statement
statement_in_layer layer (Assign export name op text) = Assign export name op (with_folder layer text)
statement_in_layer layer (Flag name flag op text) = Flag name flag op (with_folder layer text)
statement_in_layer layer (Include path) = Include (with_folder layer path)
statement_in_layer layer (Require path) = Require (with_folder layer path)
statement_in_layer layer statement = statement

abbrev pub contents_in_layer : List ℕ → Contents → Contents
contents_in_layer layer (Ok list) = Ok (map (λ s. (s.0, statement_in_layer layer s.1)) list)
contents_in_layer layer (Err e) = Err e

abbrev pub sources_in_layer : List ℕ → Sources → Sources
sources_in_layer layer sources path kind = option_map (contents_in_layer layer) (sources path kind)

-- A layer is a folder with the file `conf/layer.conf`, which is read; a word of BBLAYERS that names none is refused.
abbrev pub layer_file : List ℕ → Option (List ℕ)
layer_file layer = path_named (layer ++ codes "/conf/layer.conf")

abbrev pub layer_at : Sources → List ℕ → Option (List ℕ) → Loaded → Result Loaded LayerRefusal
layer_at sources layer None loaded = Err (no_such_layer layer)
layer_at sources layer (Some path) loaded = elim (is_some (sources path Conf)) [
  | true ↦ refused_as load (entries (sources_in_layer layer sources) Conf path loaded)
  | false ↦ Err (no_such_layer layer)
]

abbrev pub layers_after : Sources → List (List ℕ) → Loaded → Result Loaded LayerRefusal
layers_after sources [] loaded = Ok loaded
layers_after sources (layer ∷ rest) loaded = do
  next ← layer_at sources layer (layer_file layer) loaded
  layers_after sources rest next

-- the words of an expanded value, or none where it is absent
abbrev pub words_of : List EntryLine → List ℕ → Result (List (List ℕ)) Refusal
words_of lines name = value lines name >>= λ text. Ok (words (unwrap_or text []))

abbrev pub starting_with : List EntryLine → Loaded
starting_with lines = record { lines = lines; classes = [] }

abbrev pub bitbake_conf : Sources → Bool → Loaded → Result Loaded LayerRefusal
bitbake_conf sources must loaded = refused_as load (searched_entries sources Conf must (codes "conf/bitbake.conf") loaded)

-- the entries of the configuration, and the layers as BBLAYERS names them
pub record Configured : Type 0 where
  pub lines : List EntryLine
  pub layers : List (List ℕ)

-- the configuration behind its first file, with these layers
abbrev pub layered_over : Sources → Loaded → List (List ℕ) → Result Configured LayerRefusal
layered_over sources first layers = do
  all ← layers_after sources layers first
  last ← bitbake_conf sources true all
  Ok (record { lines = last.lines; layers = layers })

-- the configuration behind its first file
abbrev pub layered_from : Sources → Loaded → Result Configured LayerRefusal
layered_from sources first = refused_as no_list (words_of first.lines (codes "BBLAYERS")) >>= λ words. layered_over sources first (map layer_named words)

-- With layers: `conf/bblayers.conf`, then each layer's `conf/layer.conf` in the order of BBLAYERS, then `conf/bitbake.conf`,
-- which has to be there (BitBake User Manual, "Execution", section "Parsing the Base Configuration Metadata").
abbrev pub layered : Sources → Result Configured LayerRefusal
layered sources = refused_as load (entries sources Conf (codes "conf/bblayers.conf") (starting_with built_in)) >>= layered_from sources

-- Without layers `conf/bitbake.conf` may be missing (own rule).
abbrev pub flat : Sources → Result Configured LayerRefusal
flat sources = do
  last ← bitbake_conf sources false (starting_with (built_in ++ flat_files))
  Ok (record { lines = last.lines; layers = [] })

-- The configuration. There are layers where `conf/bblayers.conf` is there.
abbrev pub configured : Sources → Result Configured LayerRefusal
configured sources = elim (is_some (sources (codes "conf/bblayers.conf") Conf)) [ true ↦ layered sources | false ↦ flat sources ]

-- a word of BBFILES with a `[`, which begins a set of characters elsewhere, is refused (own rule)
abbrev pub patterns : List (List ℕ) → Result (List (List ℕ)) LayerRefusal
patterns [] = Ok []
patterns (word ∷ rest) = elim (list_any (λ c. c == open_bracket) word) [
  | true ↦ Err (bad_pattern word)
  | false ↦ patterns rest >>= λ others. Ok (word ∷ others)
]

-- Of some paths those that a word names and that have the ending, each once and in byte order (own rule).
abbrev pub named_files : List (List ℕ) → List ℕ → List (List ℕ) → List (List ℕ)
named_files words ending paths = in_byte_order (filter (λ path. has_ending ending path && list_any (λ word. names_path word path) words) paths)

-- the length of the layer's folder, where it holds the path; the project folder holds all paths
abbrev pub held_by : List ℕ → List ℕ → Option ℕ
held_by path [] = Some 0
held_by path (c ∷ folder) = if begins_with (c ∷ (folder ++ slash ∷ [])) path then Some (length (c ∷ folder)) else None

-- the greater number, of equal ones the first, with its place
abbrev pub longer : ℕ → Option ℕ → Option (ℕ × ℕ) → Option (ℕ × ℕ)
longer k None later = later
longer k (Some n) None = Some (k, n)
longer k (Some n) (Some later) = if nat_lt n later.1 then Some later else Some (k, n)

abbrev pub folder_length : List ℕ → List ℕ → Option ℕ
folder_length path layer = option_map_or (held_by path) (path_named layer) None

abbrev pub nearest_from : ℕ → List (List ℕ) → List ℕ → Option (ℕ × ℕ)
nearest_from k [] path = None
nearest_from k (layer ∷ layers) path = longer k (folder_length path layer) (nearest_from (suc k) layers path)

-- The place of a file's layer among the layers: the one with the longest folder that holds the file, of two spellings of one
-- folder the first. A file of no layer comes behind all of them (own rule).
abbrev pub layer_place : List (List ℕ) → List ℕ → ℕ
layer_place layers path = option_map_or (λ found. found.0) (nearest_from 0 layers path) (length layers)

abbrev pub numbers_to : ℕ → List ℕ
numbers_to zero = 0 ∷ []
numbers_to (suc n) = numbers_to n ++ (suc n ∷ [])

-- paths in the order of their layers, and as they are given within one
abbrev pub in_layer_order : List (List ℕ) → List (List ℕ) → List (List ℕ)
in_layer_order layers paths = flat_map (λ k. filter (λ path. layer_place layers path == k) paths) (numbers_to (length layers))

-- The configuration with its lists: the entries, the layers, the recipe files in byte order, and the appends in the order of
-- their layers and in byte order within one.
pub record Config : Type 0 where
  pub lines : List EntryLine
  pub layers : List (List ℕ)
  pub recipes : List (List ℕ)
  pub appends : List (List ℕ)

-- the words of BBFILES, none of which holds a `[`
abbrev pub patterns_over : List EntryLine → Result (List (List ℕ)) LayerRefusal
patterns_over lines = refused_as no_list (words_of lines (codes "BBFILES")) >>= patterns

-- the configuration with its lists: of the paths of all files those that these words name
abbrev pub lists_over : Configured → List (List ℕ) → List (List ℕ) → Config
lists_over made words paths = record {
  lines = made.lines;
  layers = made.layers;
  recipes = named_files words (codes ".bb") paths;
  appends = in_layer_order made.layers (named_files words (codes ".bbappend") paths);
}

-- the configuration with its lists over the paths of all files
abbrev pub with_lists : List (List ℕ) → Configured → Result Config LayerRefusal
with_lists paths made = patterns_over made.lines >>= λ words. Ok (lists_over made words paths)

abbrev pub config : Sources → List (List ℕ) → Result Config LayerRefusal
config sources paths = configured sources >>= with_lists paths
