use Rattle.std.proofs.Common.{◌≡◌, ◌∙◌, sym, subst, List, ℕ, get_or}
use Rattle.std.specs.Prelude.{Contains}
use Rattle.std.proofs.lemmas.List.{get_or_default, take_all}
use Rattle.outside_traits.proofs.Calls.{removes_passes}
use Rattle.outside_traits.proofs.Runs.{passes_again, passes_so}
use Rattle.store_opening.specs.Survey.{TakesOut}
use Rattle.store_opening.proofs.Doomed.{gone_more, takes_join, takes_one}
use Rattle.store_opening.proofs.survey.remove_all.Goals as goal

pub returns-in_err-remove-clause-others : goal.returns-in_err-remove-clause-others
returns-in_err-remove-clause-others g c told =
    let path : c.as_str.result.now ≡ get_or c.args.paths.now c.loop-path.path-index c.as_str.result.now =
    c.as_str.ensures ∙ c.path-item.is ∙ get_or_default c.args.paths.now c.loop-path.path-index c.path-item.result c.as_str.result.now c.loop-path-test.true in
    passes_again (takes_join c.args.paths.now) (c.loop-path.invariant.run told) (passes_so (TakesOut c.args.paths.now) (removes_passes (c.remove.ensures.told told))
    (λ i j change. takes_one c.args.paths.now c.as_str.result.now i j (c.loop-path.path-index, c.loop-path-test.true, sym path) change))

pub loop-path-preserved : goal.loop-path-preserved
loop-path-preserved g c =
    let path : c.as_str.result.now ≡ get_or c.args.paths.now c.loop-path.path-index c.as_str.result.now =
    c.as_str.ensures ∙ c.path-item.is ∙ get_or_default c.args.paths.now c.loop-path.path-index c.path-item.result c.as_str.result.now c.loop-path-test.true in
    record {
      faults = c.in_ok-remove.ensures.cause.stayed ∙ c.loop-path.invariant.faults;
      run = λ told. passes_again (takes_join c.args.paths.now) (c.loop-path.invariant.run told) (passes_so (TakesOut c.args.paths.now) (removes_passes (c.remove.ensures.told told))
          (λ i j change. takes_one c.args.paths.now c.as_str.result.now i j (c.loop-path.path-index, c.loop-path-test.true, sym path) change));
      gone = λ told. gone_more c.args.paths.now c.loop-path.path-index c.as_str.result.now c.loop-path-test.true path (c.loop-path.invariant.gone told) (c.in_ok-remove.ensures.told told);
    }

pub returns-clause-gone : goal.returns-clause-gone
returns-clause-gone g c told q has =
    c.loop-path.invariant.gone told q (subst (λ (l : List (List ℕ)). Contains l q) (sym (take_all c.loop-path.path-index c.args.paths.now c.loop-path-test.false)) has)
