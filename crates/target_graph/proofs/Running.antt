-- A run of what is asked for, as one of the words.
use Rattle.std.proofs.Common.{◌≡◌, subst, sym, ℕ, List, ◌⊎◌, inl, inr, Option, Result, Ok, Err, IfOk}
use Rattle.meta_model.specs.declared.event.Status.{Status}
use Rattle.meta_model.specs.declared.event.Status.TheVariants.{OutOfMemory}
use Rattle.meta_model.specs.declared.facts.Graph.{Graph}
use Rattle.load_model.specs.Loading.{sources_of}
use Rattle.project_reading.specs.Answered.{IsRefusedAs}
use Rattle.answer_model.specs.GraphStatus.{IsGraphStatus}
use Rattle.answer_model.specs.RunAsked.{Asked, asked}
use Rattle.answer_model.specs.Runs.{HasGraph, IsRun, asking, graph as graph_refused}
use Rattle.target_graph.specs.Runs.{HasNoThreads, IsDeviceStatus, HasRun, HasNoRun, device, no_graph, no_threads, IsNoRun}
use Rattle.target_graph.proofs.Told.{threads_refused}

-- the targets have no graph
pub graph_missing : (what : Asked) (status : Status) → (status ≡ OutOfMemory) ⊎ IsGraphStatus what.set.facts what.targets status → HasNoRun what status
graph_missing what status (inl out) = device (inl out)
graph_missing what status (inr h) = no_graph h

-- there is no number of threads
pub threads_missing : (what : Asked) (graph : Graph) (status : Status) → HasGraph what graph → IsDeviceStatus status ⊎ HasNoThreads what status → HasNoRun what status
threads_missing what graph status g (inl d) = device d
threads_missing what graph status g (inr h) = no_threads graph g h

-- the run of what the words ask for is theirs
pub run_asked : (files : List ℕ → Option (List ℕ)) (paths words : List (List ℕ)) (task : Option (List ℕ)) (what other : Asked) (graph : Graph) (number : ℕ) → asked (sources_of files) paths words task ≡ Ok what → other ≡ what → HasRun what graph number
    → IsRun (sources_of files) paths words task other graph number
run_asked files paths words task what other graph number e same h =
    subst (λ w. IsRun (sources_of files) paths words task w graph number) (sym same) (record { asked = e; graph = h.graph; threads = h.threads })

-- what has no run, as of the words
pub no_run_asked : (files : List ℕ → Option (List ℕ)) (paths words : List (List ℕ)) (task : Option (List ℕ)) (what : Asked) (status : Status) → asked (sources_of files) paths words task ≡ Ok what → HasNoRun what status
    → IsNoRun (sources_of files) paths words task status
no_run_asked files paths words task what status e (device d) = inl d
no_run_asked files paths words task what status e (no_graph h) = inr (graph_refused what e h)
no_run_asked files paths words task what status e (no_threads graph g h) = inr (threads_refused files paths words task what graph status e g h)

-- what the words ask for is refused
pub asking_refused : (files : List ℕ → Option (List ℕ)) (paths words : List (List ℕ)) (task : Option (List ℕ)) (status : Status) → IsRefusedAs status (asked (sources_of files) paths words task)
    → IsNoRun (sources_of files) paths words task status
asking_refused files paths words task status (inl out) = inl (inl out)
asking_refused files paths words task status (inr (inl read)) = inl (inr read)
asking_refused files paths words task status (inr (inr e)) = inr (asking e)

-- two things that hold of an answer give a third
pub ok_and_ok : {X Y : Type 0} (r : Result X Y) (P Q R : X → Type 0) → ((x : X) → P x → Q x → R x) → IfOk r P → IfOk r Q → IfOk r R
ok_and_ok (Ok x) P Q R f p q = f x p q
ok_and_ok (Err e) P Q R f p q = tt
