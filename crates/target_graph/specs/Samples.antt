-- What words ask for in small projects, as the worked examples use it.
use Rattle.std.specs.Prelude.{ℕ, List, Option, Result, Ok, map}
use Rattle.meta_model.specs.declared.facts.Target.{Target}
use Rattle.meta_model.specs.declared.event.Status.{Status}
use Rattle.load_model.specs.LoadRefusal.{◌>>=◌}
use Rattle.load_model.specs.LoadSamples.{Files, sample}
use Rattle.answer_model.specs.RunAsked.{asked}

-- the targets of words over these files
abbrev pub targets_over : Files → List (List ℕ) → Option (List ℕ) → Result (List Target) Status
targets_over files words task = asked (sample files) (map (λ file. file.0) files) words task >>= λ what. Ok what.targets
