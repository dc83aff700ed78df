use Rattle.task_graph.proofs.Contexts.{numbers_within}
use Rattle.task_graph.proofs.context.Context.new.Goals as goal

pub returns : goal.returns
returns c = record {
  index = c.in_ok-index.ensures;
  table = c.in_ok-table.ensures;
  needed = c.in_ok-needed.ensures;
  numbers = numbers_within c.args.facts.now c.in_ok-needed.needed.items c.in_ok-needed.ensures;
}
