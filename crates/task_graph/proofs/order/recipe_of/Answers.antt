use Rattle.std.proofs.Common.{arith}
use Rattle.task_graph.proofs.Drafted.{number_within, recipe_fits, recipe_told}
use Rattle.task_graph.proofs.order.recipe_of.Goals as goal

pub index-requires : goal.index-requires
index-requires c = omega (arith, number_within c.args.facts.now c.args.table.now c.requires.table c.args.number c.requires.numbered, c.args.table.now.spots.ok.0)

pub overflow_cast-result : goal.overflow_cast-result
overflow_cast-result c = omega (arith, recipe_fits c.args.facts.now c.args.table.now c.requires.table c.args.number c.index.result.now c.requires.numbered c.index.ensures, c.requires.few)

pub returns : goal.returns
returns c = recipe_told c.args.facts.now c.args.table.now c.requires.table c.args.number c.index.result.now c.requires.numbered c.index.ensures
