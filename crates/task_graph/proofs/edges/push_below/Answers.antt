use Rattle.std.proofs.Common.{◌∙◌, sym, subst, List, ℕ, refl}
use Rattle.std.proofs.lemmas.Result.{err_from_is_err_and}
use Rattle.task_graph.specs.declared.needed.Needed.{Needed}
use Rattle.graph_walk.specs.Frontier.{Has}
use Rattle.task_graph.specs.Edges.{LacksBelow, LacksFrom}
use Rattle.task_graph.specs.Below.{AreRecipesFrom}
use Rattle.task_graph.proofs.Refusals.{refusal_weaker}
use Rattle.task_graph.proofs.edges.push_below.Goals as goal

pub returns-in_err-check_below-clause-err : goal.returns-in_err-check_below-clause-err
returns-in_err-check_below-clause-err c =
    let p = err_from_is_err_and c.from_residual-in_err-check_below.result c.from_residual-in_err-check_below.ensures.1 in
    let led = subst (λ (l : List Needed). AreRecipesFrom l c.args.spot.recipe c.in_ok-below.below.items) c.deref.ensures.value c.in_ok-below.ensures in
    rw (p.1, p.2) (refusal_weaker (LacksBelow c.args.facts.now c.as_slice.result.now) (LacksFrom c.args.facts.now c.args.context.now.needed.items c.args.spot.recipe)
    (λ r h. (h.0, led.sound h.0 (subst (λ (l : List ℕ). Has l h.0) c.as_slice.ensures.value h.1), h.2)) c.in_err-check_below.field-0.0 c.in_err-check_below.ensures.err)

pub returns-clause-ok : goal.returns-clause-ok
returns-clause-ok c = record {
  below = c.in_ok-below.below.items;
  put = c.in_ok-push_others.ensures ∙ rw (c.as_slice-4.ensures.value, c.in_ok-push_tasks.ensures, c.new-numbers.ensures.items, c.as_slice-2.ensures.value, c.as_slice-3.ensures) refl;
  led = λ some. subst (λ (l : List Needed). AreRecipesFrom l c.args.spot.recipe c.in_ok-below.below.items) c.deref.ensures.value c.in_ok-below.ensures;
  provided = λ some n r h at. c.in_ok-check_below.ensures.ok n r (subst (λ (l : List ℕ). Has l n) (sym c.as_slice.ensures.value) h) at;
}
