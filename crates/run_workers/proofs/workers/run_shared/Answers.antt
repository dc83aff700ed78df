use Rattle.std.proofs.Common.{◌≡◌, sym, subst, arith, List, None, Some}
use Rattle.tale_model.specs.History.{EachAfter}
use Rattle.run_core.specs.History.{IsOrderly}
use Rattle.meta_model.specs.declared.event.Logged.{Logged}
use Rattle.run_queue.specs.Seen.{RunView}
use Rattle.run_queue.specs.Turns.{fates_of}
use Rattle.turn_lock.specs.Seats.{view_of}
use Rattle.run_workers.specs.Ended.{AllEnded, WasFaulty}
use Rattle.run_workers.specs.Left.{AllDid}
use Rattle.run_workers.proofs.Ending.{all_wanting}
use Rattle.run_workers.proofs.Idle.{none_runs_first}
use Rattle.run_workers.proofs.Leaving.{all_did, none_did}
use Rattle.run_workers.proofs.Spreading.{has_all, none_hold}
use Rattle.run_workers.proofs.workers.run_shared.Goals as goal

pub close-requires-clause-all : goal.close-requires-clause-all
close-requires-clause-all g c n lt =
    let seats = c.in-Ok.ensures.queue.1 in
    let len = c.len.ensures in
    let long = c.args.benches.ok.0 in
    has_all g.D.Disk.tells g.B.Bench.tells g.K.Began.alike g.B.Bench.place g.B.Bench.gives g.B.Bench.faults g.K.Began.first g.K.Began.gives (view_of c.spread-seat.result.0) c.args.benches.items c.spread-seat.result.1.items c.spread-seat.ensures.joined c.spread-seat.ensures.worked n (omega (arith, lt, seats, len, long))

pub returns-in-Ok-clause-did : goal.returns-in-Ok-clause-did
returns-in-Ok-clause-did g c =
    let v = view_of c.spread-seat.result.0 in
    let joined = c.spread-seat.ensures.joined in
    let worked = c.spread-seat.ensures.worked in
    all_did g.D.Disk.tells g.B.Bench.tells g.W.Sink.tells g.K.Began.alike g.D.Disk.story g.B.Bench.place g.B.Bench.gives g.B.Bench.faults g.W.Sink.written g.W.Sink.faults g.K.Began.first g.K.Began.faults g.K.Began.gives v c.args.benches.items c.spread-seat.result.1.items c.close.result joined worked c.close.ensures.left
    (c.close.ensures.none (none_hold g.D.Disk.tells g.B.Bench.tells g.K.Began.alike g.B.Bench.place g.B.Bench.gives g.B.Bench.faults g.K.Began.first g.K.Began.gives v c.args.benches.items c.spread-seat.result.1.items joined worked))

pub returns-in-Err-clause-did : goal.returns-in-Err-clause-did
returns-in-Err-clause-did g c =
    let s = c.args.state in
    let orderly : EachAfter (IsOrderly s.plan.tasks) s.tale = subst (EachAfter (IsOrderly s.plan.tasks)) (sym c.requires.none) (λ k entry is. absurd (let n : None ≡ Some entry = is in cc)) in
    subst (λ (now : RunView g.row.D.Denot g.row.W.Denot). AllDid g.D.Disk.tells g.B.Bench.tells g.W.Sink.tells g.K.Began.alike g.D.Disk.story g.B.Bench.place g.B.Bench.gives g.B.Bench.faults g.W.Sink.written g.W.Sink.faults g.K.Began.first g.K.Began.faults g.K.Began.gives c.args.benches.items c.args.benches.items now) (sym c.in-Err.ensures.refused)
    (none_did g.D.Disk.tells g.B.Bench.tells g.W.Sink.tells g.K.Began.alike g.D.Disk.story g.B.Bench.place g.B.Bench.gives g.B.Bench.faults g.W.Sink.written g.W.Sink.faults g.K.Began.first g.K.Began.faults g.K.Began.gives c.args.benches.items s c.requires.first c.requires.faults c.requires.none
    (none_runs_first (fates_of s) s.tale (λ t seat. c.seat_laws.ensures.last s.plan.tasks s.tale orderly t seat) c.requires.none))

pub returns-in-Ok-clause-ended : goal.returns-in-Ok-clause-ended
returns-in-Ok-clause-ended g c =
    let faulty = WasFaulty g.D.Disk.faults g.W.Sink.faults g.K.Began.first g.K.Began.faults in
    subst (λ (l : List Logged). AllEnded g.K.Began.first faulty g.B.Bench.faults c.spread-seat.result.2 l c.args.benches.items c.spread-seat.result.1.items) c.close.ensures.seen c.spread-seat.ensures.ended

pub returns-in-Err-clause-ended : goal.returns-in-Err-clause-ended
returns-in-Err-clause-ended g c =
    all_wanting g.K.Began.first (WasFaulty g.D.Disk.faults g.W.Sink.faults g.K.Began.first g.K.Began.faults) g.B.Bench.faults c.in-Err.state.tale c.args.benches.items c.args.benches.items
