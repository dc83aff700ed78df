-- What a fault says.
use Rattle.std.specs.Prelude.{◌≡◌, ℕ, List, Result, Err}
use Rattle.meta_model.specs.GraphRefusal.{GraphRefusal, nothing_provides, several_provide, no_such_task, unprovided}
use Rattle.meta_model.specs.declared.facts.TaskId.{TaskId}
use Rattle.meta_model.specs.Threads.{AreThreads}
use Rattle.task_graph.specs.declared.fault.GraphFault.{GraphFault}
use Rattle.task_graph.specs.declared.fault.GraphFault.TheVariants.{NoSuchTask, TaskCycle, NothingProvides, SeveralProvide, Tasks, BadThreads, Memory}

-- Memory ran out.
abbrev pub IsWantOfMemory : GraphFault → Type 0
IsWantOfMemory fault = fault ≡ Memory

-- The fault is a refusal of which this is so. Of want of memory nothing is claimed.
abbrev pub IsRefusalOf : (GraphRefusal → Type 0) → GraphFault → Type 0
IsRefusalOf stands (NoSuchTask pn task) = stands (no_such_task pn task)
IsRefusalOf stands (TaskCycle tasks) = ⊥
IsRefusalOf stands (NothingProvides name) = stands (nothing_provides name)
IsRefusalOf stands (SeveralProvide name pns) = stands (several_provide name pns)
IsRefusalOf stands Tasks = ⊥
IsRefusalOf stands (BadThreads text) = ⊥
IsRefusalOf stands Memory = Unit {0}

-- The refusal is that of a name without a provider.
abbrev pub IsUnprovided : List ℕ → Result ℕ (List (List ℕ)) → GraphRefusal → Type 0
IsUnprovided name answer refusal = (pns : List (List ℕ)) × (answer ≡ Err pns) × (refusal ≡ unprovided name pns)

-- The text is no number of threads, and the fault carries it; or memory ran out.
abbrev pub IsNoNumberOfThreads : List ℕ → GraphFault → Type 0
IsNoNumberOfThreads text (NoSuchTask pn task) = ⊥
IsNoNumberOfThreads text (TaskCycle tasks) = ⊥
IsNoNumberOfThreads text (NothingProvides name) = ⊥
IsNoNumberOfThreads text (SeveralProvide name pns) = ⊥
IsNoNumberOfThreads text Tasks = ⊥
IsNoNumberOfThreads text (BadThreads told) = (told ≡ text) × ((threads : ℕ) → AreThreads text threads → ⊥)
IsNoNumberOfThreads text Memory = Unit {0}

-- The fault is a refusal of which the first is so, or a cycle of which the second is, or says that there are too many tasks,
-- which the third means. Of want of memory nothing is claimed.
abbrev pub IsFaultOf : (GraphRefusal → Type 0) → (List TaskId → Type 0) → Type 0 → GraphFault → Type 0
IsFaultOf stands closes beyond (NoSuchTask pn task) = stands (no_such_task pn task)
IsFaultOf stands closes beyond (TaskCycle tasks) = closes tasks
IsFaultOf stands closes beyond (NothingProvides name) = stands (nothing_provides name)
IsFaultOf stands closes beyond (SeveralProvide name pns) = stands (several_provide name pns)
IsFaultOf stands closes beyond Tasks = beyond
IsFaultOf stands closes beyond (BadThreads text) = ⊥
IsFaultOf stands closes beyond Memory = Unit {0}
