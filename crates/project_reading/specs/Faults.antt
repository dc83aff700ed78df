-- What the statuses of faults say of what was meant.
use Rattle.std.specs.Prelude.{◌≡◌, ◌⊎◌, Option, Some, MatchOption}
use Rattle.std.specs.Option.{option_map}
use Rattle.meta_model.specs.declared.event.Status.{Status}
use Rattle.meta_model.specs.declared.event.Status.TheVariants.{ReadFault, OutOfMemory}
use Rattle.meta_model.specs.GraphRefusal.{nothing_provides, several_provide, no_such_task}
use Rattle.class_inherit.specs.declared.fault.LoadFault.{LoadFault}
use Rattle.class_inherit.specs.declared.fault.LoadKind.{LoadKind}
use Rattle.class_inherit.specs.declared.fault.LoadKind.TheVariants.{MissingRequired, MissingClass, IncludeDepth, Read, Parse, Data, FileBytes, Memory}
use Rattle.class_inherit.specs.Faults.{cause_of}
use Rattle.task_graph.specs.declared.fault.GraphFault.{GraphFault}
use Rattle.task_graph.specs.declared.fault.GraphFault.TheVariants as graph
use Rattle.answer_model.specs.Said.{cause_status, lack_status, cycle_status, too_many_status, threads_status}

-- the status is the wanted one, unless memory ran out
abbrev pub IsAnswered : Status → Status → Type 0
IsAnswered status wanted = (status ≡ OutOfMemory) ⊎ (status ≡ wanted)

-- the status is that of the refusal, unless memory ran out; without a refusal memory did
abbrev pub IsAnsweredAs : {R : Type 0} → Status → (R → Status) → Option R → Type 0
IsAnsweredAs status said refusal = MatchOption refusal (status ≡ OutOfMemory) (λ r. IsAnswered status (said r))

-- the status is that of the refusal, unless the layers failed or memory ran out; without a refusal one of these did
abbrev pub IsToldAs : {R : Type 0} → Status → (R → Status) → Option R → Type 0
IsToldAs status said refusal = (status ≡ OutOfMemory) ⊎ ((status ≡ ReadFault) ⊎ (option_map said refusal ≡ Some status))

-- the status of a fault without a refusal: the layers failed, or memory ran out
abbrev pub free_status : LoadKind → Status
free_status (MissingRequired path) = OutOfMemory
free_status (MissingClass name) = OutOfMemory
free_status IncludeDepth = OutOfMemory
free_status Read = ReadFault
free_status (Parse wrong) = OutOfMemory
free_status (Data fault) = OutOfMemory
free_status FileBytes = OutOfMemory
free_status Memory = OutOfMemory

-- the status of a fault of loading
abbrev pub IsLoadAnswer : LoadFault → Status → Type 0
IsLoadAnswer fault status = MatchOption (cause_of fault.kind) (status ≡ free_status fault.kind) (λ cause. IsAnswered status (cause_status fault.file fault.line cause))

-- the status of a fault of providers, graphs and numbers of threads, which is want of memory where memory ran out
abbrev pub fault_status : GraphFault → Status
fault_status (graph.NoSuchTask pn task) = lack_status (no_such_task pn task)
fault_status (graph.TaskCycle ids) = cycle_status ids
fault_status (graph.NothingProvides name) = lack_status (nothing_provides name)
fault_status (graph.SeveralProvide name pns) = lack_status (several_provide name pns)
fault_status graph.Tasks = too_many_status
fault_status (graph.BadThreads text) = threads_status text
fault_status graph.Memory = OutOfMemory
