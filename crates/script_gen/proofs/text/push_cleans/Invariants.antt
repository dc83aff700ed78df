use Rattle.std.proofs.Common.{◌≡◌, ◌++◌, take}
use Rattle.std.specs.Prelude.{flat_map}
use Rattle.task_model.specs.Scripts.{clean_lines}
use Rattle.script_gen.proofs.text.push_cleans.Given as goal

abbrev pub invariant-loop-folder : goal.invariant-loop-folder
invariant-loop-folder l = l.out ≡ l.fn.out ++ flat_map clean_lines (take l.folder-index l.folders)
