use denote.Text.{Utf8}
use denote.Shadow.{shadow}
use Rattle.std.proofs.Common.{◌≡◌, length, reverse}
use Rattle.load_model.specs.Facts.{outside_brackets, without_brackets}
use Rattle.recipe_facts.specs.Brackets.{with_open}
use Rattle.recipe_facts.proofs.brackets.without_brackets.Given as goal

-- the open texts and the one that goes on, with what the rest gives
abbrev pub invariant-loop-end : goal.invariant-loop-end
invariant-loop-end l = record {
  text : shadow (Utf8 l.rest);
  texts : with_open (reverse l.kept.items) l.last (outside_brackets l.rest) ≡ without_brackets l.text;
}

abbrev pub decreases-loop-end : goal.decreases-loop-end
decreases-loop-end l = length l.rest
