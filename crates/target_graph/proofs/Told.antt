-- Statuses of what has no run.
use Rattle.std.proofs.Common.{◌≡◌, ℕ, List, ◌⊎◌, inl, inr, Option, Ok}
use Rattle.meta_model.specs.declared.event.Status.{Status}
use Rattle.meta_model.specs.declared.event.Status.TheVariants.{OutOfMemory}
use Rattle.meta_model.specs.declared.facts.FactSet.{FactSet}
use Rattle.meta_model.specs.declared.facts.Target.{Target}
use Rattle.meta_model.specs.declared.facts.Graph.{Graph}
use Rattle.meta_model.specs.GraphRefusal.{nothing_provides, several_provide, no_such_task}
use Rattle.meta_model.specs.Threads.{AreThreads}
use Rattle.load_model.specs.Loading.{sources_of}
use Rattle.project_reading.specs.Faults.{IsAnswered, fault_status}
use Rattle.answer_model.specs.Said.{threads_status}
use Rattle.task_graph.specs.Reached.{IsGraphFault}
use Rattle.task_graph.specs.declared.fault.GraphFault.{GraphFault}
use Rattle.task_graph.specs.declared.fault.GraphFault.TheVariants.{NoSuchTask, TaskCycle, NothingProvides, SeveralProvide, Tasks, BadThreads, Memory}
use Rattle.answer_model.specs.GraphStatus.{IsGraphStatus, lacking, cycle, many}
use Rattle.answer_model.specs.RunAsked.{Asked, asked, threads_text}
use Rattle.answer_model.specs.Runs.{HasGraph, IsRunRefused, value as no_value_of, threads as no_threads_of}
use Rattle.target_graph.specs.Runs.{IsDeviceStatus, HasNoThreads, value, threads}

-- the status of a fault of the graph
pub graph_told : (facts : FactSet) (targets : List Target) (fault : GraphFault) (status : Status) → IsGraphFault facts targets fault → IsAnswered status (fault_status fault) → (status ≡ OutOfMemory) ⊎ IsGraphStatus facts targets status
graph_told facts targets fault status h (inl out) = inl out
graph_told facts targets (NoSuchTask pn task) status h (inr is) = inr (lacking (no_such_task pn task) h is)
graph_told facts targets (TaskCycle ids) status h (inr is) = inr (cycle ids h is)
graph_told facts targets (NothingProvides name) status h (inr is) = inr (lacking (nothing_provides name) h is)
graph_told facts targets (SeveralProvide name pns) status h (inr is) = inr (lacking (several_provide name pns) h is)
graph_told facts targets Tasks status h (inr is) = inr (many h is)
graph_told facts targets (BadThreads text) status h (inr is) = absurd h
graph_told facts targets Memory status h (inr is) = inl is

-- the status of a text that is no number of threads
pub threads_told : (what : Asked) (text : List ℕ) (status : Status) → threads_text what ≡ Ok text → (status ≡ OutOfMemory) ⊎ (((number : ℕ) → AreThreads text number → ⊥) × (status ≡ threads_status text)) → IsDeviceStatus status ⊎ HasNoThreads what status
threads_told what text status e (inl out) = inl (inl out)
threads_told what text status e (inr h) = inr (threads text e h.0 h.1)

-- what the words ask for has no number of threads
pub threads_refused : (files : List ℕ → Option (List ℕ)) (paths words : List (List ℕ)) (task : Option (List ℕ)) (what : Asked) (graph : Graph) (status : Status) → asked (sources_of files) paths words task ≡ Ok what → HasGraph what graph → HasNoThreads what status → IsRunRefused (sources_of files) paths words task status
threads_refused files paths words task what graph status e g (value h) = no_value_of what graph e g h
threads_refused files paths words task what graph status e g (threads text h none is) = no_threads_of what graph text e g h none is
