use Rattle.std.proofs.Common.{◌≡◌, ◌<◌, ℕ, subst, List, length, All, below_more, true, rules, arith}
use Rattle.run_core.proofs.Standing.{deps_here}
use Rattle.run_tests.proofs.Orders.{ordered_all}
use Rattle.run_tests.proofs.plans.are_ordered.Goals as goal

pub loop-place-preserved : goal.loop-place-preserved
loop-place-preserved c =
    let lt : c.loop-place.place < length c.args.tasks.now = omega arith in
    below_more _ _ c.loop-place.invariant
    (subst (λ (ds : List ℕ). All (λ d. d < c.loop-place.place) ds) (deps_here c.args.tasks.now c.loop-place.place c.index-tasks-place.result c.as_slice.result.now lt c.as_slice.ensures) (let yes : c.are_below.result ≡ true = search (rules, c.if-not-are_below.false) in c.are_below.ensures yes))

pub returns : goal.returns
returns c = λ yes. ordered_all c.args.tasks.now c.loop-place.place (omega arith) c.loop-place.invariant
