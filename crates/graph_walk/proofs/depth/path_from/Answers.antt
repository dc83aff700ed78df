use Rattle.graph_walk.proofs.Maps.{taken_from}
use Rattle.graph_walk.proofs.depth.path_from.Goals as goal

pub returns : goal.returns
returns c = (c.place_of-place.result, c.place_of-place.ensures.within, c.place_of-place.ensures.met, taken_from c.args.path.now c.place_of-place.result c.loop-other.other-index c.loop-other.cycle.items c.loop-other-test.false c.loop-other.invariant)
