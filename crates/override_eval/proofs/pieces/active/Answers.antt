use Rattle.std.proofs.Common.{ap, sym, ◌∙◌, ◌++◌, rules}
use Rattle.override_eval.proofs.ColonPieces.{pieces_step, pieces_last}
use Rattle.override_eval.proofs.pieces.active.Goals as goal

pub loop-piece-preserved : goal.loop-piece-preserved
loop-piece-preserved c = record {
  text = search rules;
  pieces = pieces_step c.args.list.now c.loop-piece.rest.now c.in-Some.piece.now c.in-Some.after.now c.loop-piece.pieces c.push_piece.new.list c.in-Some.ensures.parts c.loop-piece.invariant.pieces c.in_ok-push_piece.ensures;
}

pub returns : goal.returns
returns c = c.in_ok-push_piece-2.ensures ∙ ap (λ l. c.loop-piece.pieces ++ l) (sym (pieces_last c.loop-piece.rest.now c.in_default.ensures.parts)) ∙ c.loop-piece.invariant.pieces
