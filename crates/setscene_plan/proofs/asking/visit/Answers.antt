use Rattle.std.proofs.Common.{◌≡◌, List, ℕ, ◌<◌, ◌∙◌, All, Contains, Some, length, ap, sym, subst, arith}
use Rattle.meta_model.specs.declared.plan.PlanTask.{PlanTask}
use Rattle.tale_model.specs.Need.{deps_of}
use Rattle.setscene_plan.specs.Sets.{Adds}
use Rattle.setscene_plan.proofs.Sweeping.{below_within, below_put, is_in, deps_read}
use Rattle.setscene_plan.proofs.Learning.{asks_in}
use Rattle.setscene_plan.proofs.asking.visit.Goals as goal

pub add_all-requires : goal.add_all-requires
add_all-requires g c =
    let inside : c.args.place < length c.as_slice-tasks.result.now = omega (arith, c.requires.place, ap (λ (ts : List PlanTask). length ts) c.as_slice-tasks.ensures) in
    let deps : c.as_slice.result.now ≡ deps_of c.args.plan.now.tasks c.args.place = deps_read c.as_slice-tasks.result.now c.args.place c.index-tasks-place.result c.as_slice.result.now inside c.as_slice.ensures ∙ ap (λ (ts : List PlanTask). deps_of ts c.args.place) c.as_slice-tasks.ensures in
    subst (λ (ds : List ℕ). All (λ d. d < length c.args.set.now) ds) (sym deps) (below_within c.args.plan.now.tasks c.args.place (length c.args.set.now) c.requires.ordered (omega arith))

pub returns-in-Missing-clause-set : goal.returns-in-Missing-clause-set
returns-in-Missing-clause-set g c =
    let inside : c.args.place < length c.as_slice-tasks.result.now = omega (arith, c.requires.place, ap (λ (ts : List PlanTask). length ts) c.as_slice-tasks.ensures) in
    let deps : c.as_slice.result.now ≡ deps_of c.args.plan.now.tasks c.args.place = deps_read c.as_slice-tasks.result.now c.args.place c.index-tasks-place.result c.as_slice.result.now inside c.as_slice.ensures ∙ ap (λ (ts : List PlanTask). deps_of ts c.args.place) c.as_slice-tasks.ensures in
    below_put c.args.plan.now.tasks _ c.args.set.now c.add_all.new.set c.args.place
    (is_in c.args.set.now c.args.place (omega arith) c.if-not-set-place.false)
    (c.in_ok-learn.ensures.there ∙ ap Some c.in-Missing.is)
    (subst (λ (ds : List ℕ). Adds (Contains ds) c.args.set.now c.add_all.new.set) deps c.add_all.ensures)

pub returns-in-Missing-clause-asked : goal.returns-in-Missing-clause-asked
returns-in-Missing-clause-asked g c = asks_in c.args.set.now c.args.known.now c.args.place _ _ (is_in c.args.set.now c.args.place (omega arith) c.if-not-set-place.false) c.in_ok-learn.ensures.asked

pub returns-in-Work-clause-asked : goal.returns-in-Work-clause-asked
returns-in-Work-clause-asked g c = asks_in c.args.set.now c.args.known.now c.args.place _ _ (is_in c.args.set.now c.args.place (omega arith) c.if-not-set-place.false) c.in_ok-learn.ensures.asked

pub returns-in-Object-clause-asked : goal.returns-in-Object-clause-asked
returns-in-Object-clause-asked g c = asks_in c.args.set.now c.args.known.now c.args.place _ _ (is_in c.args.set.now c.args.place (omega arith) c.if-not-set-place.false) c.in_ok-learn.ensures.asked
