use Rattle.std.proofs.Common.{◌≡◌, ◌++◌, take}
use Rattle.meta_model.specs.Script.{function_texts}
use Rattle.task_model.specs.Scripts.{ended_bodies}
use Rattle.script_gen.proofs.text.push_functions.Given as goal

abbrev pub invariant-loop-body : goal.invariant-loop-body
invariant-loop-body l = l.out ≡ l.fn.out ++ function_texts (ended_bodies (take l.body-index l.bodies))
