-- What the metadata says of configurations (BitBake User Manual, "Variables Glossary", BBMULTICONFIG, and "The BitBake Command", section "Executing a
-- Multiple Configuration Build"; the order of the entries, and that the lists of recipes and appends stay, are own rules).
use Rattle.std.specs.Prelude.{ℕ, true, List, [], ◌∷◌, ◌++◌, Result, Ok, codes}
use Rattle.meta_model.specs.declared.line.Kind.TheVariants.{Conf}
use Rattle.meta_model.specs.declared.entry.Op.TheVariants.{Set as Assigned}
use Rattle.meta_model.specs.declared.entry.EntryLine.{EntryLine}
use Rattle.meta_model.specs.declared.entry.EntryLine.TheVariants.{Set}
use Rattle.meta_model.specs.Refusal.{Refusal}
use Rattle.load_model.specs.LoadRefusal.{◌>>=◌, refused_as}
use Rattle.load_model.specs.Loading.{Loaded, Sources, searched_entries}
use Rattle.load_model.specs.Layers.{Config, LayerRefusal, load, starting_with, words_of}

-- the names of the further configurations: the words of the default configuration's BBMULTICONFIG
abbrev pub configs_of : List EntryLine → Result (List (List ℕ)) Refusal
configs_of lines = words_of lines (codes "BBMULTICONFIG")

-- the file of a configuration, which has to be there, and is searched as `conf/bitbake.conf` is
abbrev pub config_file : List ℕ → List ℕ
config_file name = codes "conf/multiconfig/" ++ name ++ codes ".conf"

-- what stands before that file is read: the default configuration, then the name
abbrev pub before_file : List ℕ → Config → Loaded
before_file name made = starting_with (made.lines ++ Set (codes "BB_CURRENT_MC") Assigned name ∷ [])

-- A configuration by its name, over the default one. That is the one without a name.
abbrev pub config_named : Sources → List ℕ → Config → Result Config LayerRefusal
config_named sources [] made = Ok made
config_named sources (c ∷ name) made =
    refused_as load (searched_entries sources Conf true (config_file (c ∷ name)) (before_file (c ∷ name) made)) >>= λ loaded. Ok (record made { lines = loaded.lines })
