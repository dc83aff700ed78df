use Rattle.graph_walk.specs.Marks.{round_at}
use Rattle.graph_walk.proofs.Maps.{map_end}
use Rattle.graph_walk.proofs.rounds.rounds_in.Goals as goal

pub returns : goal.returns
returns c = map_end round_at c.args.marks.now c.loop-mark.mark-index c.loop-mark.made.items c.loop-mark-test.false c.loop-mark.invariant
