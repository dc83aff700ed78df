use Rattle.std.proofs.Common.{◌∙◌, ◌<◌, ◌≤◌, arith, length}
use Rattle.task_graph.proofs.Belows.{found_within, recipes_step, recipes_first, recipes_done}
use Rattle.task_graph.proofs.closure.recipes_from.Goals as goal

pub loop-next-init : goal.loop-next-init
loop-next-init c = record {
  frontier = c.in_ok-add_all.ensures.frontier;
  count = c.in_ok-add_all.ensures.count ∙ c.in_ok-frontier.ensures.count;
  search = recipes_first c.args.all.now c.args.recipe c.in_ok-frontier.frontier.found.items c.add_all.new.self.found.items c.in_ok-frontier.ensures.empty c.in_ok-add_all.ensures.found;
}

pub find_needed-requires-clause-within : goal.find_needed-requires-clause-within
find_needed-requires-clause-within c =
    let lt : c.loop-next.next < length c.loop-next.frontier.found.items = omega (arith, c.loop-next-test.true, c.len.ensures, c.loop-next.frontier.found.ok.0) in
    omega (arith, found_within c.loop-next.frontier.found.items c.loop-next.frontier.numbers.items c.loop-next.next c.index-at.result.now c.loop-next.invariant.frontier lt c.index-at.ensures, c.loop-next.invariant.count)

pub loop-next-preserved : goal.loop-next-preserved
loop-next-preserved c =
    let lt : c.loop-next.next < length c.loop-next.frontier.found.items = omega (arith, c.loop-next-test.true, c.len.ensures, c.loop-next.frontier.found.ok.0) in
    record {
      frontier = c.in_ok-find_needed.ensures.frontier;
      count = c.in_ok-find_needed.ensures.count;
      search = recipes_step c.args.all.now _ c.loop-next.frontier.found.items c.find_needed.new.frontier.found.items c.loop-next.next c.index-at.result.now c.loop-next.invariant.search lt c.index-at.ensures c.in_ok-find_needed.ensures.found;
    }

pub returns : goal.returns
returns c =
    let end : length c.loop-next.frontier.found.items ≤ c.loop-next.next = omega (arith, c.loop-next-test.false, c.len.ensures, c.loop-next.frontier.found.ok.0) in
    recipes_done c.args.all.now c.args.recipe c.loop-next.frontier.found.items c.loop-next.next c.loop-next.invariant.search end
