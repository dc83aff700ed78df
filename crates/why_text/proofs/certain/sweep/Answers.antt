use Rattle.std.proofs.Common.{◌≡◌, ◌-◌, suc, subst, sym, List, Bool, ℕ, Contains, arith}
use Rattle.meta_model.specs.declared.plan.PlanTask.{PlanTask}
use Rattle.setscene_plan.specs.Sets.{Adds, IsForced}
use Rattle.setscene_plan.proofs.Sweeping.{IsSwept, swept_all, swept_step}
use Rattle.why_model.specs.Seen.{narrowed}
use Rattle.why_text.proofs.CertainTasks.{begun, narrowed_ordered}
use Rattle.why_text.proofs.certain.sweep.Goals as goal

pub loop-place-init : goal.loop-place-init
loop-place-init c =
    let start : IsSwept (narrowed c.args.seen.now c.args.plan.now) c.args.avail.now c.add_forced.new.set _ =
    begun c.args.seen.now c.args.plan.now c.args.avail.now c.add_all.new.set c.add_forced.new.set
    (subst (λ (old : List Bool). Adds (Contains c.args.plan.now.targets) old c.add_all.new.set) c.requires.empty
    (subst (λ (ts : List ℕ). Adds (Contains ts) c.args.set.now c.add_all.new.set) c.as_slice.ensures c.add_all.ensures))
    (subst (λ (ts : List PlanTask). Adds (IsForced ts) c.add_all.new.set c.add_forced.new.set) c.as_slice-2.ensures c.add_forced.ensures) in
    subst (λ (n : ℕ). IsSwept (narrowed c.args.seen.now c.args.plan.now) c.args.avail.now c.add_forced.new.set n) (sym c.len-place.ensures) start

pub loop-place-preserved : goal.loop-place-preserved
loop-place-preserved c =
    let up : c.loop-place.place ≡ suc (c.loop-place.place - 1) = omega (arith, c.loop-place-test.true) in
    swept_step (narrowed c.args.seen.now c.args.plan.now) c.args.avail.now c.loop-place.set c.add_firm.new.set (c.loop-place.place - 1) (narrowed_ordered c.args.seen.now c.args.plan.now c.requires.ordered)
    (subst (IsSwept (narrowed c.args.seen.now c.args.plan.now) c.args.avail.now c.loop-place.set) up c.loop-place.invariant)
    c.in_ok-add_firm.ensures

pub returns : goal.returns
returns c =
    let at : c.loop-place.place ≡ 0 = omega (arith, c.loop-place-test.false) in
    swept_all (narrowed c.args.seen.now c.args.plan.now) c.args.avail.now c.loop-place.set (subst (IsSwept (narrowed c.args.seen.now c.args.plan.now) c.args.avail.now c.loop-place.set) at c.loop-place.invariant)
