use Rattle.std.proofs.Common.{◌≡◌, ◌-◌, suc, subst, List, arith}
use Rattle.meta_model.specs.declared.plan.PlanTask.{PlanTask}
use Rattle.setscene_plan.specs.Sets.{Adds, IsBelow}
use Rattle.setscene_plan.proofs.Sweeping.{IsSwept, swept_all, swept_step}
use Rattle.setscene_plan.proofs.sweep.sweep.Goals as goal

pub loop-place-preserved : goal.loop-place-preserved
loop-place-preserved c =
    let up : c.loop-place.place ≡ suc (c.loop-place.place - 1) = omega (arith, c.loop-place-test.true) in
    swept_step c.args.plan.now c.args.avail.now c.loop-place.set c.add_below.new.set (c.loop-place.place - 1) c.requires.ordered
    (subst (IsSwept c.args.plan.now c.args.avail.now c.loop-place.set) up c.loop-place.invariant)
    (subst (λ (ts : List PlanTask). Adds (IsBelow ts c.args.avail.now c.loop-place.set (c.loop-place.place - 1)) c.loop-place.set c.add_below.new.set) c.as_slice-tasks.ensures c.add_below.ensures)

pub returns : goal.returns
returns c =
    let at : c.loop-place.place ≡ 0 = omega (arith, c.loop-place-test.false) in
    swept_all c.args.plan.now c.args.avail.now c.loop-place.set (subst (IsSwept c.args.plan.now c.args.avail.now c.loop-place.set) at c.loop-place.invariant)
