use denote.Text.{Utf8}
use denote.Shadow.{shadow}
use Rattle.std.proofs.Common.{◌≡◌, ◌++◌, length}
use Rattle.load_model.specs.Layers.{with_folder}
use Rattle.class_inherit.proofs.layer_text.with_folder.Given as goal

-- what is made, and the rest
abbrev pub invariant-loop-front : goal.invariant-loop-front
invariant-loop-front l = record {
  text : shadow (Utf8 l.rest);
  made : l.made ++ with_folder l.layer l.rest ≡ with_folder l.layer l.text;
}

abbrev pub decreases-loop-front : goal.decreases-loop-front
decreases-loop-front l = length l.rest
