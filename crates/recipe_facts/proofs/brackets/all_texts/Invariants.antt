use Rattle.std.proofs.Common.{◌≡◌, ◌++◌, List, ℕ, take, reverse}
use Rattle.recipe_facts.specs.Brackets.{open_texts}
use Rattle.recipe_facts.proofs.brackets.all_texts.Given as goal

abbrev pub invariant-loop-text : goal.invariant-loop-text
invariant-loop-text l = (last : List ℕ) → l.made ++ last ≡ open_texts (reverse (take l.text-index l.kept)) last
