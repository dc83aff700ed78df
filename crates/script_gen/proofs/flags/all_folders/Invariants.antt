use Rattle.std.proofs.Common.{◌≡◌, take, drop}
use Rattle.task_model.specs.Scripts.{all_folders}
use Rattle.meta_model.specs.Passing.{behind}
use Rattle.script_gen.proofs.flags.all_folders.Given as goal

abbrev pub invariant-loop-word : goal.invariant-loop-word
invariant-loop-word l = all_folders l.flag l.words ≡ behind (take l.word-index l.words) (all_folders l.flag (drop l.word-index l.words))
