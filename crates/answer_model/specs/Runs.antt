-- Which words have a run, and what other words are refused with.
use Rattle.std.specs.Prelude.{◌≡◌, ℕ, ◌≤◌, List, length, Option, Ok, Err}
use Rattle.meta_model.specs.declared.event.Status.{Status}
use Rattle.meta_model.specs.declared.facts.Graph.{Graph}
use Rattle.meta_model.specs.TaskGraph.{IsGraph, HasNoRefusal}
use Rattle.meta_model.specs.Threads.{AreThreads}
use Rattle.load_model.specs.Loading.{Sources}
use Rattle.answer_model.specs.Said.{threads_status}
use Rattle.answer_model.specs.GraphStatus.{IsGraphStatus}
use Rattle.answer_model.specs.RunAsked.{Asked, asked, threads_text}

-- The targets have this graph, in which nothing is refused, and it has at most 65,536 tasks.
pub record HasGraph (what : Asked) (made : Graph) : Type 0 where
  pub graph : IsGraph what.set.facts what.targets made
  pub whole : HasNoRefusal what.set.facts what.targets
  pub few : length made.nodes ≤ 65536

-- The text of BB_NUMBER_THREADS stands for this number.
pub record HasThreads (what : Asked) (threads : ℕ) : Type 0 where
  pub text : List ℕ
  pub is : threads_text what ≡ Ok text
  pub number : AreThreads text threads

-- A run: what the words ask for, its graph, and the number of threads.
pub record IsRun (sources : Sources) (paths words : List (List ℕ)) (task : Option (List ℕ)) (what : Asked) (made : Graph) (number : ℕ) : Type 0 where
  pub asked : asked sources paths words task ≡ Ok what
  pub graph : HasGraph what made
  pub threads : HasThreads what number

-- The words have no run, and this status says why: what they ask for is refused, there is no graph, the value of BB_NUMBER_THREADS
-- is refused, or it is no number of threads. Of these steps the first that is refused is told (own rule).
pub data IsRunRefused (sources : Sources) (paths words : List (List ℕ)) (task : Option (List ℕ)) (status : Status) : Type 0 where
  asking : asked sources paths words task ≡ Err status → IsRunRefused sources paths words task status
  graph : (what : Asked) → asked sources paths words task ≡ Ok what → IsGraphStatus what.set.facts what.targets status → IsRunRefused sources paths words task status
  value : (what : Asked) (graph : Graph) → asked sources paths words task ≡ Ok what → HasGraph what graph → threads_text what ≡ Err status → IsRunRefused sources paths words task status
  threads : (what : Asked) (graph : Graph) (text : List ℕ) → asked sources paths words task ≡ Ok what → HasGraph what graph → threads_text what ≡ Ok text → ((threads : ℕ) → AreThreads text threads → ⊥)
      → status ≡ threads_status text → IsRunRefused sources paths words task status
