-- The parts of words, step by step.
use Rattle.std.specs.Prelude.{ℕ, List, Option, Result}
use Rattle.meta_model.specs.declared.entry.EntryLine.{EntryLine}
use Rattle.meta_model.specs.declared.event.Status.{Status}
use Rattle.load_model.specs.LoadRefusal.{◌>>=◌}
use Rattle.answer_model.specs.RunAsked.{moved}
use Rattle.multi_config.specs.declared.parts.ConfigTargets.{ConfigTargets}
use Rattle.multi_config.specs.Project.{parts_over}

-- over the entries of the default configuration as they are written
abbrev pub parts_moved : List (List ℕ) → List (List ℕ) → Option (List ℕ) → List EntryLine → Result (List ConfigTargets) Status
parts_moved configs words task lines = moved lines >>= parts_over configs words task
