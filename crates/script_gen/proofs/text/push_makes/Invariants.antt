use Rattle.std.proofs.Common.{◌≡◌, ◌++◌, take}
use Rattle.std.specs.Prelude.{flat_map}
use Rattle.task_model.specs.Scripts.{make_line}
use Rattle.script_gen.proofs.text.push_makes.Given as goal

abbrev pub invariant-loop-folder : goal.invariant-loop-folder
invariant-loop-folder l = l.out ≡ l.fn.out ++ flat_map make_line (take l.folder-index l.folders)
