use Rattle.std.proofs.Common.{sym, subst}
use Rattle.setscene_plan.specs.View.{View}
use Rattle.run_tests.specs.Index.{view_of}
use Rattle.run_tests.specs.Playing.{Stands}
use Rattle.run_tests.proofs.BoardSteps.{begun}
use Rattle.run_tests.proofs.playing.begin.Goals as goal

pub returns : goal.returns
returns c =
    subst (λ (v : View). Stands v (record { replan = c.in_ok-replan.replan; front = c.in_ok-front.front; board = c.in_ok-board.board })) (sym c.new.ensures.same)
    (begun (view_of c.args.index.now) c.in_ok-replan.replan c.in_ok-front.front c.in_ok-board.board c.len.result c.requires c.in_ok-replan.ensures.current c.in_ok-board.ensures c.len.ensures c.in_ok-front.ensures)
