use Rattle.std.proofs.Common.{◌≡◌, ◌++◌, map, String}
use Rattle.std.specs.Global.{Global}
use Rattle.recipe_set.specs.declared.choice.Pick.{Pick}
use Rattle.recipe_set.proofs.picks.chosen.Given as goal

abbrev pub invariant-loop-pick : goal.invariant-loop-pick
invariant-loop-pick l = l.made.items ++ map (λ (e : String Global × Pick). e.1.recipe) l.pick-iterator ≡ map (λ (e : String Global × Pick). e.1.recipe) l.fn.picks.entries
