use Rattle.std.proofs.Common.{◌≡◌, take, drop}
use Rattle.task_model.specs.Scripts.{all_functions}
use Rattle.meta_model.specs.Passing.{behind}
use Rattle.script_gen.proofs.calls.all_functions.Given as goal

abbrev pub invariant-loop-word : goal.invariant-loop-word
invariant-loop-word g l = all_functions (g.S.Lookup.finds l.from) l.flag l.words ≡ behind (take l.word-index l.words) (all_functions (g.S.Lookup.finds l.from) l.flag (drop l.word-index l.words))
