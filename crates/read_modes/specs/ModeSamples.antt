-- What the modes print over small projects, as the worked examples use it.
use Rattle.std.specs.Prelude.{ℕ, List, Result, Ok, Err, map}
use Rattle.meta_model.specs.declared.event.Status.{Status}
use Rattle.meta_model.specs.GraphRefusal.{pn_of}
use Rattle.load_model.specs.LoadRefusal.{◌>>=◌}
use Rattle.load_model.specs.LoadSamples.{Files, sample}
use Rattle.answer_model.specs.declared.asked.ReadMode.{ReadMode}
use Rattle.run_model.specs.Texts.{fault_text}
use Rattle.answer_model.specs.Project.{read_config, read_recipes}
use Rattle.answer_model.specs.Modes.{target_recipes, mode_text}

abbrev pub paths_of : Files → List (List ℕ)
paths_of files = map (λ file. file.0) files

-- what a mode gives over these files
abbrev pub mode_over : Files → ReadMode → List (List ℕ) → Result (List ℕ) Status
mode_over files mode targets = mode_text mode (sample files) (paths_of files) targets

-- the PNs of the recipes that targets name over these files
abbrev pub named : Files → List (List ℕ) → Result (List (List ℕ)) Status
named files targets = do
  made ← read_config (sample files) (paths_of files)
  set ← read_recipes (sample files) made
  numbers ← target_recipes set.facts targets
  Ok (map (pn_of set.facts) numbers)

-- what is printed: the text, or the line of the status
abbrev pub text_or_fault : Result (List ℕ) Status → List ℕ
text_or_fault (Ok text) = text
text_or_fault (Err status) = fault_text status

abbrev pub printed : Files → ReadMode → List (List ℕ) → List ℕ
printed files mode targets = text_or_fault (mode_over files mode targets)
