use Rattle.std.proofs.Common.{◌≡◌, ◌++◌, take}
use Rattle.recipe_facts.proofs.packages.with_all.Given as goal

abbrev pub invariant-loop-text : goal.invariant-loop-text
invariant-loop-text l = l.made ≡ l.first ++ take l.text-index l.text-items
