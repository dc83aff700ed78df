use Rattle.std.proofs.Common.{◌≡◌, ◌+◌, ◌<◌, ◌≤◌, arith, length, sym, subst, refl, List, ℕ, Some, slice_get}
use Rattle.std.proofs.lemmas.Option.{slice_get_read}
use Rattle.std.proofs.lemmas.Result.{err_from_is_err_and}
use Rattle.meta_model.specs.TaskGraph.{HasMoreTasks, IsGraphRefusal}
use Rattle.task_graph.specs.Edges.{IsRefusedAt}
use Rattle.task_graph.specs.Reached.{GoesBeyond, IsReaching, AreReached}
use Rattle.task_graph.proofs.Reaching.{reaching_number, next_refused, next_beyond, reaching_step, reaching_done, fault_weaker}
use Rattle.task_graph.proofs.reach.reach.Goals as goal

pub find_next-requires-clause-numbered : goal.find_next-requires-clause-numbered
find_next-requires-clause-numbered c =
    let found = c.loop-next.frontier.found.items in
    let lt : c.loop-next.next < length c.loop-next.frontier.found.items = omega (arith, c.loop-next-test.true, c.len.ensures, c.loop-next.frontier.found.ok.0) in
    let here : slice_get found c.loop-next.next ≡ Some c.index-at.result.now = slice_get_read found (length found) c.loop-next.next c.index-at.result.now refl lt c.index-at.ensures in
    reaching_number c.args.facts.now c.args.context.now.table c.requires.context.table c.args.targets.now found c.loop-next.frontier.numbers.items c.loop-next.next c.loop-next.edges.items c.ends.inside.items.items c.loop-next.invariant c.index-at.result.now (c.loop-next.next, here)

pub returns-in_err-places-clause-err : goal.returns-in_err-places-clause-err
returns-in_err-places-clause-err c =
    let p = err_from_is_err_and c.from_residual-in_err-places.result c.from_residual-in_err-places.ensures.1 in
    let facts = c.args.facts.now in
    let table = c.args.context.now.table in
    let targets = c.args.targets.now in
    let found = c.loop-next.frontier.found.items in
    let at = c.index-at.result.now in
    let lt : c.loop-next.next < length c.loop-next.frontier.found.items = omega (arith, c.loop-next-test.true, c.len.ensures, c.loop-next.frontier.found.ok.0) in
    let here : slice_get found c.loop-next.next ≡ Some at = slice_get_read found (length found) c.loop-next.next at refl lt c.index-at.ensures in
    rw (p.1, p.2) (fault_weaker (IsRefusedAt facts table at) (IsGraphRefusal facts targets) (λ ids. ⊥) (λ ids. ⊥) (GoesBeyond facts table at found) (HasMoreTasks facts targets 65536)
    (next_refused facts table c.requires.context.table targets found c.loop-next.frontier.numbers.items c.loop-next.next c.loop-next.edges.items c.ends.inside.items.items c.loop-next.invariant at here) (λ ids h. h)
    (next_beyond facts table c.requires.context.table targets found c.loop-next.frontier.numbers.items c.loop-next.next c.loop-next.edges.items c.ends.inside.items.items c.loop-next.invariant at here) c.in_err-places.field-0.0 c.in_err-places.ensures.err)

pub loop-next-preserved : goal.loop-next-preserved
loop-next-preserved c =
    let facts = c.args.facts.now in
    let table = c.args.context.now.table in
    let targets = c.args.targets.now in
    let found = c.loop-next.frontier.found.items in
    let at = c.index-at.result.now in
    let lt : c.loop-next.next < length c.loop-next.frontier.found.items = omega (arith, c.loop-next-test.true, c.len.ensures, c.loop-next.frontier.found.ok.0) in
    let here : slice_get found c.loop-next.next ≡ Some at = slice_get_read found (length found) c.loop-next.next at refl lt c.index-at.ensures in
    subst (λ (l : List (List ℕ)). IsReaching facts table targets c.find_next.new.frontier.found.items c.find_next.new.frontier.numbers.items (c.loop-next.next + 1) l c.ends.inside.items.items) (sym c.in_ok-push.ensures.items)
    (reaching_step facts table c.requires.context.table targets found c.loop-next.frontier.numbers.items c.loop-next.next c.loop-next.edges.items c.ends.inside.items.items c.loop-next.invariant at here c.find_next.new.frontier.found.items
    c.find_next.new.frontier.numbers.items c.in_ok-places.places c.in_ok-places.ensures.found c.in_ok-places.ensures.frontier c.in_ok-places.ensures.count c.in_ok-places.ensures.within)

pub returns-clause-ok : goal.returns-clause-ok
returns-clause-ok c =
    let found = c.loop-next.frontier.found.items in
    let end : length c.loop-next.frontier.found.items ≤ c.loop-next.next = omega (arith, c.loop-next-test.false, c.len.ensures, c.loop-next.frontier.found.ok.0) in
    let same : c.ends.inside.items.items ≡ c.in_ok-begun.begun.ends = cc (c.ends.view_is) in
    subst (λ (l : List ℕ). AreReached c.args.facts.now c.args.context.now.table c.args.targets.now found c.loop-next.edges.items l) same
    (reaching_done c.args.facts.now c.args.context.now.table c.requires.context.table c.args.targets.now found c.loop-next.frontier.numbers.items c.loop-next.next c.loop-next.edges.items c.ends.inside.items.items c.loop-next.invariant end)
