use Rattle.std.proofs.Common.{◌≡◌, ◌<◌, All, length, drop}
use Rattle.meta_model.specs.Passing.{behind}
use Rattle.answer_model.specs.Modes as modes
use Rattle.read_modes.proofs.targets.target_recipes.Given as goal

-- the numbers so far, and what is left of the targets
abbrev pub invariant-loop-target : goal.invariant-loop-target
invariant-loop-target l = record {
  made : modes.target_recipes l.facts l.targets ≡ behind l.found (modes.target_recipes l.facts (drop l.target-index l.targets));
  within : All (λ n. n < length l.facts.recipes) l.found;
}
