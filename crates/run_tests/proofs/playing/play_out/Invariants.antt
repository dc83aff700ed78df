use Rattle.run_tests.specs.Index.{view_of}
use Rattle.run_tests.specs.Playing.{Stands}
use Rattle.run_tests.proofs.playing.play_out.Given as goal

abbrev pub invariant-loop-done : goal.invariant-loop-done
invariant-loop-done l = Stands (view_of l.index) l.play
