use Rattle.std.proofs.Common.{◌<◌, arith, length, sym, subst, List, ℕ, All}
use Rattle.task_graph.proofs.Reaching.{edges_within, all_weaker}
use Rattle.task_graph.proofs.reach.find_next.Goals as goal

pub add_all-requires-clause-within : goal.add_all-requires-clause-within
add_all-requires-clause-within c =
    let within = edges_within c.args.facts.now c.args.context.now.table c.requires.context.table c.args.number c.in_ok-needed.needed.items c.requires.numbered c.in_ok-needed.ensures.ok in
    subst (λ (l : List ℕ). All (λ n. n < length c.args.frontier.now.numbers.items) l) (sym c.as_slice.ensures.value) (all_weaker (λ n. n < length c.args.context.now.table.spots.items) (λ n. n < length c.args.frontier.now.numbers.items) c.in_ok-needed.needed.items (λ n lt. omega (arith, lt, c.requires.count)) within)
