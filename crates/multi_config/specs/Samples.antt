-- What a small project with configurations gives, as the worked examples use it.
use Rattle.std.specs.Prelude.{ℕ, List, [], ◌∷◌, map, Option, Result, codes}
use Rattle.meta_model.specs.Active.{value}
use Rattle.load_model.specs.LoadRefusal.{◌>>=◌, refused_as}
use Rattle.load_model.specs.Layers.{Config, LayerRefusal, no_list}
use Rattle.load_model.specs.LoadSamples.{Files, config_in, sample}
use Rattle.multi_config.specs.Reading.{config_named, configs_of}
use Rattle.multi_config.specs.declared.parts.ConfigTargets.{ConfigTargets}
use Rattle.multi_config.specs.Words.{WordRefusal, parts_of}

-- a configuration of a project
abbrev pub named_in : Files → List ℕ → Result Config LayerRefusal
named_in files name = config_in files >>= config_named (sample files) name

-- the expanded value of a name in a configuration
abbrev pub named_value : Files → List ℕ → List ℕ → Result (Option (List ℕ)) LayerRefusal
named_value files mc name = named_in files mc >>= λ made. refused_as no_list (value made.lines name)

-- the names of the further configurations
abbrev pub configs_in : Files → Result (List (List ℕ)) LayerRefusal
configs_in files = config_in files >>= λ made. refused_as no_list (configs_of made.lines)

-- two configurations, which set one name each in its own way
abbrev pub two_configs : Files
two_configs = (codes "conf/bitbake.conf", codes "BBMULTICONFIG = \"a b\"")
    ∷ (codes "conf/multiconfig/a.conf", codes "T = \"A\"")
    ∷ (codes "conf/multiconfig/b.conf", codes "T = \"B\"")
    ∷ []

-- the parts of words over the configurations `a` and `b`, where the default task is `build`
abbrev pub parts : List (List ℕ) → Result (List ConfigTargets) WordRefusal
parts words = parts_of (codes "a" ∷ codes "b" ∷ []) (codes "build") words

-- a part whose targets are these names with their tasks
abbrev pub part : List ℕ → List (List ℕ × List ℕ) → ConfigTargets
part mc targets = record { mc = mc; targets = map (λ t. record { name = t.0; task = t.1 }) targets }
