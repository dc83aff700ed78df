use Rattle.std.proofs.Common.{rules, ◌≡◌, ◌∙◌, ap, false, Some, inr}
use Rattle.turn_lock.specs.Seats.{view_of}
use Rattle.run_workers.specs.Ended.{WasFaulty}
use Rattle.run_workers.specs.Told.{logged_in}
use Rattle.run_workers.specs.declared.worker.Halt.TheVariants as halts
use Rattle.run_workers.proofs.Ending.{halts_later, halts_now, turned_seen}
use Rattle.run_workers.proofs.Telling.{logged_split}
use Rattle.run_workers.proofs.worker.do_claimed.Goals as goal

pub returns-then-not-printed-clause-ends : goal.returns-then-not-printed-clause-ends
returns-then-not-printed-clause-ends g c =
    let first = g.K.Began.first in
    let faulty = WasFaulty g.D.Disk.faults g.W.Sink.faults first g.K.Began.faults in
    let v = view_of c.args.seat.now in
    let w = view_of c.broke.new.seat in
    let breaks = c.broke.ensures.breaks in
    let on = turned_seen v w breaks.0 breaks.2 in
    let unheard : c.args.printed ≡ false = search rules in
    halts_later first faulty (Some halts.Stopped) (logged_in v.seen) (logged_in w.seen) (logged_in on.0) (ap logged_in on.1 ∙ logged_split v.seen on.0)
    (halts_now first faulty halts.Stopped (logged_in v.seen) (inr (c.requires.faulty unheard)))
