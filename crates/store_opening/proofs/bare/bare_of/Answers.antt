use Rattle.store_opening.proofs.Doomed.{bare_more}
use Rattle.store_opening.proofs.bare.bare_of.Goals as goal

pub loop-candidate-preserved : goal.loop-candidate-preserved
loop-candidate-preserved c =
    bare_more c.args.candidates.now c.loop-candidate.candidate-index c.candidate-item.result c.loop-candidate.bare.items c.note_bare.new.bare.items c.loop-candidate-test.true c.candidate-item.is c.loop-candidate.invariant c.in_ok-note_bare.ensures
