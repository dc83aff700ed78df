use Rattle.std.proofs.Common.{◌≡◌, ◌<◌, ◌∙◌, arith, length, sym, subst, List, ℕ, [], All, ap, Some, slice_get}
use Rattle.std.specs.List.{AllZip}
use Rattle.std.proofs.lemmas.Result.{err_from_is_err_and}
use Rattle.meta_model.specs.TaskGraph.{HasMoreTasks, IsGraphRefusal}
use Rattle.graph_walk.specs.Frontier.{with_nodes, IsSearch}
use Rattle.task_graph.specs.Reached.{TaskEdge}
use Rattle.graph_walk.proofs.Searching.{search_first}
use Rattle.task_graph.proofs.Reaching.{starts_within, all_weaker, reaching_first, fault_weaker, more_tasks}
use Rattle.task_graph.proofs.reach.find_targets.Goals as goal

pub add_all-requires-clause-within : goal.add_all-requires-clause-within
add_all-requires-clause-within c =
    let within = starts_within c.args.facts.now c.args.context.now.table c.requires.context.table c.args.targets.now c.in_ok-starts.starts.items c.in_ok-starts.ensures.ok in
    subst (λ (l : List ℕ). All (λ n. n < length c.in_ok-frontier.frontier.numbers.items) l) (sym c.as_slice.ensures.value)
    (all_weaker (λ n. n < length c.args.context.now.table.spots.items) (λ n. n < length c.in_ok-frontier.frontier.numbers.items) c.in_ok-starts.starts.items (λ n lt. omega (arith, lt, c.in_ok-frontier.ensures.count, c.len.ensures, c.args.context.now.table.spots.ok.0)) within)

pub returns-in_err-check_limit-clause-err : goal.returns-in_err-check_limit-clause-err
returns-in_err-check_limit-clause-err c =
    let p = err_from_is_err_and c.from_residual-in_err-check_limit.result c.from_residual-in_err-check_limit.ensures.1 in
    let starts = c.in_ok-starts.starts.items in
    let put : c.add_all.new.self.found.items ≡ with_nodes [] starts = c.in_ok-places.ensures.found ∙ ap (λ (l : List ℕ). with_nodes l c.as_slice.result.now) c.in_ok-frontier.ensures.empty ∙ ap (with_nodes []) c.as_slice.ensures.value in
    let search = subst (λ (l : List ℕ). IsSearch (TaskEdge c.args.facts.now c.args.context.now.table) starts l 0) (sym put) (search_first (TaskEdge c.args.facts.now c.args.context.now.table) starts) in
    rw (p.1, p.2) (fault_weaker (λ r. ⊥) (IsGraphRefusal c.args.facts.now c.args.targets.now) (λ ids. ⊥) (λ ids. ⊥) (65536 < c.len-2.result) (HasMoreTasks c.args.facts.now c.args.targets.now 65536) (λ r h. absurd h) (λ ids h. h)
    (λ many. more_tasks c.args.facts.now c.args.context.now.table c.requires.context.table c.args.targets.now starts c.add_all.new.self.found.items c.add_all.new.self.numbers.items 0 c.in_ok-starts.ensures.ok search c.in_ok-places.ensures.frontier
    (omega (arith, many, c.len-2.ensures, c.add_all.new.self.found.ok.0)))
    c.in_err-check_limit.field-0.0 c.in_err-check_limit.ensures.err)

pub returns-clause-ok : goal.returns-clause-ok
returns-clause-ok c =
    let starts = c.in_ok-starts.starts.items in
    let put : c.add_all.new.self.found.items ≡ with_nodes [] starts = c.in_ok-places.ensures.found ∙ ap (λ (l : List ℕ). with_nodes l c.as_slice.result.now) c.in_ok-frontier.ensures.empty ∙ ap (with_nodes []) c.as_slice.ensures.value in
    let placed = subst (λ (l : List ℕ). AllZip (λ n p. slice_get c.add_all.new.self.found.items p ≡ Some n) starts l) (sym c.from_vec.ensures)
    (subst (λ (l : List ℕ). AllZip (λ n p. slice_get c.add_all.new.self.found.items p ≡ Some n) l c.in_ok-places.places.items) c.as_slice.ensures.value c.in_ok-places.ensures.places) in
    reaching_first c.args.facts.now c.args.context.now.table c.requires.context.table c.args.targets.now starts c.add_all.new.self.found.items c.from_vec.result c.add_all.new.self.numbers.items c.in_ok-starts.ensures.ok put c.in_ok-places.ensures.frontier
    (omega (arith, c.in_ok-places.ensures.count, c.in_ok-frontier.ensures.count, c.len.ensures, c.args.context.now.table.spots.ok.0))
    (omega (arith, c.in_ok-check_limit.ensures.ok, c.len-2.ensures, c.add_all.new.self.found.ok.0)) placed
