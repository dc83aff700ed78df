-- The entries of a configuration that has a name.
use Rattle.std.specs.Prelude.{ℕ, true, List, [], ◌∷◌, ◌++◌, Result, Ok, codes}
use Rattle.meta_model.specs.declared.line.Kind.TheVariants.{Conf}
use Rattle.meta_model.specs.declared.entry.Op.TheVariants.{Set as Assigned}
use Rattle.meta_model.specs.declared.entry.EntryLine.{EntryLine}
use Rattle.meta_model.specs.declared.entry.EntryLine.TheVariants.{Set}
use Rattle.meta_model.specs.declared.event.Status.{Status}
use Rattle.load_model.specs.LoadRefusal.{◌>>=◌, refused_as}
use Rattle.load_model.specs.Loading.{Sources, searched_entries}
use Rattle.load_model.specs.Layers.{load, starting_with}
use Rattle.answer_model.specs.Said.{layer_status}
use Rattle.multi_config.specs.Reading.{config_file}

-- what the file of a name makes of these entries
abbrev pub entries_named : Sources → List ℕ → List EntryLine → Result (List EntryLine) Status
entries_named sources name lines =
    refused_as layer_status (refused_as load (searched_entries sources Conf true (config_file name) (starting_with (lines ++ Set (codes "BB_CURRENT_MC") Assigned name ∷ [])))) >>= λ loaded. Ok loaded.lines
