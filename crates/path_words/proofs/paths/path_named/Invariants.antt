use denote.Text.{Utf8}
use denote.Shadow.{shadow}
use Rattle.std.proofs.Common.{◌≡◌, [], Some, fold, length, reverse}
use Rattle.tree_model.specs.Path.{parts_of}
use Rattle.load_model.specs.Paths.{further}
use Rattle.path_words.proofs.paths.path_named.Given as goal

-- where the parts so far lead, and those of the rest
abbrev pub invariant-loop-part : goal.invariant-loop-part
invariant-loop-part l = record {
  text : shadow (Utf8 l.rest);
  leads : fold further (Some (reverse l.parts.items)) (parts_of l.rest) ≡ fold further (Some []) (parts_of l.text);
}

abbrev pub decreases-loop-part : goal.decreases-loop-part
decreases-loop-part l = length l.rest
