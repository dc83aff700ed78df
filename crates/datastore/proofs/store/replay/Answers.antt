use Rattle.std.proofs.Common.{◌∙◌, ap, ◌++◌}
use Rattle.datastore.specs.Anew.{moved}
use Rattle.datastore.specs.Parts.{moved_with}
use Rattle.datastore.proofs.Retold.{past_turn}
use Rattle.datastore.proofs.store.replay.Goals as goal

pub loop-part-preserved : goal.loop-part-preserved
loop-part-preserved c =
    let xs = c.args.past.now in
    let i = c.loop-part.part-index in
    let x = c.part-item.result in
    c.in_ok-made.ensures ∙ ap (λ l. moved (c.loop-part.made ++ l)) c.as_slice.ensures.value ∙ ap (λ l. moved_with l x) c.loop-part.invariant ∙ past_turn c.args.store xs i x c.part-item.is c.loop-part-test.true
