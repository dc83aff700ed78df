use denote.Text.{Utf8}
use denote.Shadow.{shadow}
use Rattle.std.proofs.Common.{◌≡◌, ◌++◌, length}
use Rattle.meta_model.specs.Text.{colon_pieces}
use Rattle.override_eval.proofs.pieces.active.Given as goal

-- the pieces so far, and those of the rest
abbrev pub invariant-loop-piece : goal.invariant-loop-piece
invariant-loop-piece l = record {
  text : shadow (Utf8 l.rest);
  pieces : l.pieces ++ colon_pieces l.rest ≡ colon_pieces l.list;
}

abbrev pub decreases-loop-piece : goal.decreases-loop-piece
decreases-loop-piece l = length l.rest
