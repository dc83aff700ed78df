use Rattle.std.proofs.Common.{◌≡◌, take, map}
use Rattle.graph_walk.specs.Marks.{round_at}
use Rattle.graph_walk.proofs.rounds.rounds_in.Given as goal

abbrev pub invariant-loop-mark : goal.invariant-loop-mark
invariant-loop-mark l = l.made.items ≡ map round_at (take l.mark-index l.marks)
