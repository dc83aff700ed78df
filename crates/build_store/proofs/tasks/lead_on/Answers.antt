use Rattle.std.proofs.Common.{◌∙◌, ap, ◌∷◌, ◌++◌}
use Rattle.build_store.specs.OpenOnes.{at_next}
use Rattle.build_store.proofs.Stepped.{got_there, set_there}
use Rattle.build_store.proofs.tasks.lead_on.Goals as goal

pub returns : goal.returns
returns c before one after is at =
    set_there c.args.open_ones.now.items before one after c.args.place is at (at_next c.index_mut.result.now c.args.next)
    ∙ ap (λ o. before ++ at_next o c.args.next ∷ after) (got_there c.args.open_ones.now.items before one after c.args.place is at c.index_mut.result.now c.index_mut.ensures.value)
