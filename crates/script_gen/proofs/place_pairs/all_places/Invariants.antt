use Rattle.std.proofs.Common.{◌≡◌, drop}
use Rattle.task_model.specs.Scripts.{all_places}
use Rattle.meta_model.specs.Passing.{behind}
use Rattle.script_gen.proofs.place_pairs.all_places.Given as goal

abbrev pub invariant-loop-word : goal.invariant-loop-word
invariant-loop-word l = all_places l.flag l.words ≡ behind l.list (all_places l.flag (drop l.word-index l.words))
