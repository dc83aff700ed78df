-- The tasks of a sound plan have a place in a store.
use Rattle.std.proofs.Common.{◌≡◌, refl, ℕ, suc, arith, false, List, [], ◌∷◌, All, Some}
use Rattle.std.specs.Prelude.{◌==◌}
use Rattle.std.specs.List.{slice_get}
use Rattle.meta_model.specs.declared.plan.Plan.{Plan}
use Rattle.meta_model.specs.declared.plan.PlanTask.{PlanTask}
use Rattle.plan_model.specs.Sound.{IsSound}
use Rattle.task_worker.specs.Work.{IsName}
use Rattle.task_worker.proofs.Building.{sound_is_runnable}
use Rattle.task_worker.proofs.Names.{has_names}
use Rattle.store_opening.specs.Paths.{HasPlace, IsOnePart}
use Rattle.outside_traits.specs.Store.{slashes}

no_slashes : (text : List ℕ) → All (λ b. (b == 47) ≡ false) text → slashes text ≡ 0
no_slashes [] none = refl
no_slashes (b ∷ bs) none =
    let first : (b == 47) ≡ false = none 0 b (omega arith) in
    simp first (no_slashes bs (λ k d lt. none (suc k) d (omega (arith, lt))))

name_is_part : (text : List ℕ) → IsName text → IsOnePart text
name_is_part text name = record { part = name.part; alone = no_slashes text name.no_slash }

pub has_place : (plan : Plan) (t : ℕ) (task : PlanTask) → IsSound plan → slice_get plan.tasks t ≡ Some task → HasPlace task
has_place plan t task sound at =
    let names = has_names t task ((sound_is_runnable plan sound).tasks t task at) in
    record { pn = name_is_part task.id.pn names.pn; task = name_is_part task.id.task names.task }
