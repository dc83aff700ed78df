use Rattle.std.proofs.Common.{◌∙◌, sym, ap, subst}
use Rattle.tale_model.specs.Fates.{NoneRuns}
use Rattle.run_queue.specs.Seen.{RunView}
use Rattle.run_queue.specs.Turns.{fates_of}
use Rattle.turn_lock.specs.Seats.{view_of}
use Rattle.turn_lock.specs.Views.{records_of}
use Rattle.run_workers.specs.Left.{IsLeft}
use Rattle.run_workers.specs.Told.{logged_in}
use Rattle.run_workers.proofs.Idle.{none_run}
use Rattle.run_workers.proofs.Telling.{logged_told}
use Rattle.run_workers.proofs.queue.close.Goals as goal

pub returns-clause-left : goal.returns-clause-left
returns-clause-left g c =
    let s = c.close-story.result in
    subst (λ (now : RunView g.row.D.Denot g.row.W.Denot). IsLeft g.D.Disk.tells g.W.Sink.tells g.K.Began.alike g.D.Disk.story g.W.Sink.written g.W.Sink.faults g.K.Began.first g.K.Began.faults g.K.Began.gives (records_of (view_of c.args.seat)) now)
    (sym c.into_state.ensures) (record {
      printed = s.printed;
      whole = s.whole;
      kept = c.kept.ensures.since;
      entries = c.close-story.ensures.records;
      others = c.close-story.ensures.others;
    })

pub returns-clause-none : goal.returns-clause-none
returns-clause-none g c none =
    let s = c.close-story.result in
    subst (λ (now : RunView g.row.D.Denot g.row.W.Denot). NoneRuns (fates_of now)) (sym c.into_state.ensures)
    (none_run (fates_of s.state) s.state.tale s.printed (records_of (view_of c.args.seat)) (λ t seat. c.seat_laws.ensures.last s.state.plan.tasks s.state.tale c.kept.ensures.orderly t seat) c.close-story.ensures.records c.close-story.ensures.others none)

pub returns-clause-seen : goal.returns-clause-seen
returns-clause-seen g c =
    let s = c.close-story.result in
    ap logged_in (sym c.close-story.ensures.seen) ∙ logged_told s.state.tale s.printed ∙ ap (λ r. r.tale) (sym c.into_state.ensures)
