-- The statuses of targets that have no graph.
use Rattle.std.specs.Prelude.{◌≡◌, List}
use Rattle.meta_model.specs.declared.event.Status.{Status}
use Rattle.meta_model.specs.declared.facts.FactSet.{FactSet}
use Rattle.meta_model.specs.declared.facts.Target.{Target}
use Rattle.meta_model.specs.declared.facts.TaskId.{TaskId}
use Rattle.meta_model.specs.GraphRefusal.{GraphRefusal}
use Rattle.meta_model.specs.TaskGraph.{IsTaskCycle, HasMoreTasks, IsGraphRefusal}
use Rattle.answer_model.specs.Said.{lack_status, cycle_status, too_many_status}

-- The targets have no graph, and this status says why: something is asked for that nobody has, tasks need each other, or there are
-- more than 65,536 tasks. Of several reasons each may be told (own rule).
pub data IsGraphStatus (facts : FactSet) (targets : List Target) (status : Status) : Type 0 where
  lacking : (refusal : GraphRefusal) → IsGraphRefusal facts targets refusal → status ≡ lack_status refusal → IsGraphStatus facts targets status
  cycle : (ids : List TaskId) → IsTaskCycle facts targets ids → status ≡ cycle_status ids → IsGraphStatus facts targets status
  many : HasMoreTasks facts targets 65536 → status ≡ too_many_status → IsGraphStatus facts targets status
