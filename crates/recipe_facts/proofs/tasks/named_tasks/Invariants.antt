use Rattle.std.proofs.Common.{◌≡◌, take, map}
use Rattle.load_model.specs.Facts.{named_task}
use Rattle.recipe_facts.proofs.tasks.named_tasks.Given as goal

abbrev pub invariant-loop-word : goal.invariant-loop-word
invariant-loop-word l = l.made ≡ map named_task (take l.word-index l.words)
