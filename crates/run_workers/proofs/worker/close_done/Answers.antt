use Rattle.std.proofs.Common.{◌++◌, ◌∙◌, ap, subst, Ok, Some}
use Rattle.turn_lock.specs.Seats.{view_of}
use Rattle.run_workers.specs.declared.shared.Closing.{Closing}
use Rattle.run_workers.specs.declared.shared.Closing.TheVariants as closing
use Rattle.run_workers.specs.declared.worker.Halt.TheVariants as halts
use Rattle.run_workers.specs.Seats.{EndAdds}
use Rattle.run_workers.specs.Worked.{Closes}
use Rattle.run_workers.proofs.Ending.{closes_stopped}
use Rattle.run_workers.proofs.worker.close_done.Goals as goal

pub returns-in-Ok-Stopped-clause-closes : goal.returns-in-Ok-Stopped-clause-closes
returns-in-Ok-Stopped-clause-closes g c =
    let v = view_of c.args.seat.now in
    let w = view_of c.loop.seat in
    let u = view_of c.ended_turn.new.seat in
    let t = c.args.job.now.task in
    let ends = c.in-Ok-Stopped.ensures.ends in
    let adds : EndAdds w.number t c.loop.given (Ok closing.Stopped) ends.0 = subst (λ (x : Closing). EndAdds w.number t c.loop.given (Ok x) ends.0) c.in-Ok-Stopped.field-0-is ends.1 in
    subst (λ n. Closes n (Some halts.Stopped) v.own u.own) c.loop.invariant.same.number (closes_stopped w.number t c.loop.given v.own u.own ends.0 adds (ends.2.mine ∙ ap (λ l. l ++ ends.0) c.loop.invariant.own))
