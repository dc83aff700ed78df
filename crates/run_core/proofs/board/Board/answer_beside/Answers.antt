use Rattle.std.proofs.Common.{refl, arith}
use Rattle.run_core.proofs.Besides.{found_unfinished, rests_beside}
use Rattle.run_core.proofs.Ending.{goes_on}
use Rattle.run_core.proofs.board.Board.answer_beside.Goals as goal

pub returns-in-Some-clause-finished : goal.returns-in-Some-clause-finished
returns-in-Some-clause-finished c =
    let may = rw c.in-Some.is at c.requires.found in
    found_unfinished c.args.options.now c.args.plan.now.tasks c.args.need.now c.args.avail.now c.args.self.now c.args.taken.now c.in-Some.next may

pub returns-else-is_at_work-clause-answer : goal.returns-else-is_at_work-clause-answer
returns-else-is_at_work-clause-answer c =
    let idle = rw c.in-None.is at c.requires.found in
    rests_beside c.args.options.now c.args.plan.now.tasks c.args.need.now c.args.avail.now c.args.self.now c.args.taken.now c.requires.ordered c.requires.closed (omega arith) idle
    (c.is_at_work-in-None.ensures.none c.if-is_at_work.false) (goes_on c.args.options.now c.args.self.now c.is_stopped.result c.is_stopped.ensures c.if-is_stopped.false)

pub returns-else-is_at_work-clause-finished : goal.returns-else-is_at_work-clause-finished
returns-else-is_at_work-clause-finished c = ((λ e. returns-else-is_at_work-clause-answer c), (λ done. refl))
