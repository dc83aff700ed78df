use Rattle.std.proofs.Common.{sym, ◌∙◌}
use Rattle.task_graph.specs.Candidates.{test_of}
use Rattle.task_graph.proofs.Numbers.{found_first, found_none, found_second}
use Rattle.task_graph.proofs.providers.only_one.Goals as goal
use Rattle.task_graph.proofs.providers.only_one.Goals.{then-passes+else-is_some, else-passes}

pub returns-then-is_some-clause-err : goal.returns-then-is_some-clause-err
returns-then-is_some-clause-err c =
    found_second (test_of c.args.test c.args.facts.now c.args.name.now) c.args.name.now c.in_ok-from_str.field-0 c.in_ok-passing_pns.field-0 c.args.facts.now.recipes c.as_slice-recipe-items.result.now c.loop-n.n c.recipe-item.result c.loop-n.found
    c.as_slice-recipe-items.ensures c.loop-n-test.true c.recipe-item.is (sym c.passes.ensures ∙ c.if-passes.true) c.loop-n.invariant (sym c.is_some.ensures ∙ c.if-is_some.true) c.in_ok-from_str.ensures c.in_ok-passing_pns.ensures

pub loop-n-preserved : goal.loop-n-preserved
loop-n-preserved c =
    elim c.if-passes.branch [
      | then-passes+else-is_some w ↦ found_first (test_of c.args.test c.args.facts.now c.args.name.now) c.args.facts.now.recipes c.as_slice-recipe-items.result.now c.loop-n.n c.recipe-item.result c.loop-n.found c.if-passes.found
          c.as_slice-recipe-items.ensures c.loop-n-test.true c.recipe-item.is (sym c.passes.ensures ∙ w.if-passes.true) c.loop-n.invariant (sym w.is_some.ensures ∙ w.if-is_some.false) w.found-is
      | else-passes w ↦ found_none (test_of c.args.test c.args.facts.now c.args.name.now) c.args.facts.now.recipes c.as_slice-recipe-items.result.now c.loop-n.n c.recipe-item.result c.loop-n.found c.if-passes.found
          c.as_slice-recipe-items.ensures c.loop-n-test.true c.recipe-item.is (sym c.passes.ensures ∙ w.if-passes.false) c.loop-n.invariant w.found-is
    ]
