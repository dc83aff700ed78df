-- Why no run is found.
use Rattle.std.specs.Prelude.{◌≡◌, ◌⊎◌, ℕ, List, Option, Ok, Err}
use Rattle.meta_model.specs.declared.event.Status.{Status}
use Rattle.meta_model.specs.declared.event.Status.TheVariants.{ReadFault, OutOfMemory}
use Rattle.meta_model.specs.declared.facts.Graph.{Graph}
use Rattle.meta_model.specs.Threads.{AreThreads}
use Rattle.load_model.specs.Loading.{Sources}
use Rattle.answer_model.specs.Said.{threads_status}
use Rattle.answer_model.specs.GraphStatus.{IsGraphStatus}
use Rattle.answer_model.specs.RunAsked.{Asked, threads_text}
use Rattle.answer_model.specs.Runs.{HasGraph, HasThreads, IsRunRefused, graph}
use Rattle.multi_config.specs.declared.parts.ConfigTargets.{ConfigTargets}
use Rattle.multi_config.specs.Plans.{IsPartRunRefused}

-- the layers failed, or memory ran out
abbrev pub IsDeviceStatus : Status → Type 0
IsDeviceStatus status = (status ≡ OutOfMemory) ⊎ (status ≡ ReadFault)

-- the status of a text that is no number of threads, or that is refused
pub data HasNoThreads (what : Asked) (status : Status) : Type 0 where
  value : threads_text what ≡ Err status → HasNoThreads what status
  threads : (text : List ℕ) → threads_text what ≡ Ok text → ((threads : ℕ) → AreThreads text threads → ⊥) → status ≡ threads_status text → HasNoThreads what status

-- The targets that are asked for have this graph, and the run this number of threads.
pub record HasRun (what : Asked) (made : Graph) (number : ℕ) : Type 0 where
  pub graph : HasGraph what made
  pub threads : HasThreads what number

-- why what is asked for has no graph, or no number of threads
pub data HasNoRun (what : Asked) (status : Status) : Type 0 where
  device : IsDeviceStatus status → HasNoRun what status
  no_graph : IsGraphStatus what.set.facts what.targets status → HasNoRun what status
  no_threads : (graph : Graph) → HasGraph what graph → HasNoThreads what status → HasNoRun what status

-- why no run was found: the layers failed, memory ran out, or the words have none
abbrev pub IsNoRun : Sources → List (List ℕ) → List (List ℕ) → Option (List ℕ) → Status → Type 0
IsNoRun sources paths words task status = IsDeviceStatus status ⊎ IsRunRefused sources paths words task status

-- why no run of a part was found: the layers failed, memory ran out, or it has none
abbrev pub IsNoPartRun : Sources → List (List ℕ) → ConfigTargets → Status → Type 0
IsNoPartRun sources paths part status = IsDeviceStatus status ⊎ IsPartRunRefused sources paths part status
