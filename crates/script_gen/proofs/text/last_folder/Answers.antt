use Rattle.std.proofs.Common.{◌∙◌}
use Rattle.task_model.specs.Scripts.{work_folder}
use Rattle.script_gen.proofs.Ends.{last_there}
use Rattle.script_gen.proofs.text.last_folder.Goals as goal

pub returns-in-Some : goal.returns-in-Some
returns-in-Some c = c.as_str.ensures ∙ last_there work_folder c.in-Some.dir.now c.args.dirs.now c.in-Some.ensures.value
