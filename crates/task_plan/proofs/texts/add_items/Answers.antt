use Rattle.std.proofs.Common.{arith, ap, length}
use Rattle.std.specs.List.{flat_map}
use Rattle.std.proofs.lemmas.List.{take_all}
use Rattle.task_plan.proofs.Inputting.{more_bytes}
use Rattle.task_plan.proofs.texts.add_items.Goals as goal

pub loop-item-preserved : goal.loop-item-preserved
loop-item-preserved g c =
    let more = more_bytes g.T.Measured.spell c.args.items.now c.loop-item.item-index c.item-item.result c.item-item.is c.loop-item-test.true in
    omega (arith, more, c.loop-item.invariant, c.add_to.ensures)

pub returns : goal.returns
returns g c =
    let all = ap (λ l. length (flat_map g.T.Measured.spell l)) (take_all c.loop-item.item-index c.args.items.now c.loop-item-test.false) in
    omega (arith, all, c.loop-item.invariant, c.saturating_add.ensures)
