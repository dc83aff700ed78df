use Rattle.std.proofs.Common.{[], ap, sym, ◌∙◌, subst, ℕ, ◌<◌, List, length, arith}
use Rattle.std.proofs.lemmas.List.{length-replicate}
use Rattle.run_core.specs.Above.{PutAbove}
use Rattle.run_core.proofs.Standing.{deps_below, deps_here, only_first, only_more, said_more, said_all}
use Rattle.run_core.proofs.front.all_above.Goals as goal

pub put_above-requires : goal.put_above-requires
put_above-requires c = deps_below c.args.tasks.now c.loop-place.place (length c.loop-place.above.items) c.index-tasks-place.result c.as_slice.result.now c.requires.ordered (omega arith) (sym c.loop-place.invariant.long) c.as_slice.ensures

pub loop-place-preserved : goal.loop-place-preserved
loop-place-preserved c =
    let tasks = c.args.tasks.now in
    let lt : c.loop-place.place < length c.args.tasks.now = omega arith in
    let put = subst (λ (ds : List ℕ). PutAbove c.loop-place.above.items c.put_above.new.above.items ds c.loop-place.place) (deps_here tasks c.loop-place.place c.index-tasks-place.result c.as_slice.result.now lt c.as_slice.ensures) c.in_ok-put_above.ensures in
    record {
      long = put.long ∙ c.loop-place.invariant.long;
      said = said_more tasks c.loop-place.above.items c.put_above.new.above.items c.loop-place.place c.loop-place.invariant.said put;
      only = only_more tasks c.loop-place.above.items c.put_above.new.above.items c.loop-place.place c.loop-place.invariant.only put;
    }

pub returns : goal.returns
returns c =
    said_all c.args.tasks.now c.loop-place.above.items (λ u t lt h. c.loop-place.invariant.said u t (omega (arith, lt, c.loop-place-test.false)) h) c.loop-place.invariant.only

pub loop-place-init : goal.loop-place-init
loop-place-init c = record {
  long = ap (λ (xs : List (List ℕ)). length xs) c.in_ok-above.ensures ∙ length-replicate (length c.args.tasks.now) [];
  said = λ u t lt h. absurd (omega (arith, lt));
  only = only_first c.args.tasks.now c.in_ok-above.above.items (length c.args.tasks.now) c.in_ok-above.ensures;
}
