use Rattle.std.proofs.Common.{◌++◌, sym, subst, ap, ◌∙◌, map}
use Rattle.run_model.specs.Opening.{Opening}
use Rattle.run_queue.specs.Seen.{seen}
use Rattle.std.specs.Prelude.{Result}
use Rattle.tree_model.specs.declared.text.Mem.{Mem}
use Rattle.run_queue.specs.Turns.{IsCleanJob}
use Rattle.run_workers.specs.declared.shared.Closing.{Closing}
use Rattle.run_workers.specs.Seats.{EndAdds, tale_of}
use Rattle.run_workers.specs.Told.{tell}
use Rattle.run_workers.proofs.Ending.{ended_stops}
use Rattle.run_workers.proofs.Sinces.{grows, kept_turn, since_turn}
use Rattle.run_workers.proofs.Handing.{clean_job, ended_adds, marked_ended}
use Rattle.run_workers.proofs.shared.Shared.ended_turn.Goals as goal

pub invariant_of-self : goal.invariant_of-self
invariant_of-self g c =
    let e = c.ended_turn-ended.ensures in
    let old = c.self.inside.state in
    let new = c.ended_turn-ended.new.self in
    let job = c.args.job.now in
    let m = marked_ended c.args.number job.task c.args.given.now old new c.ended_turn-ended.result e.ends in
    let first = seen g.D.Disk.story g.W.Sink.written old in
    let still : (o : Opening) → IsCleanJob o g.K.Began.first job → IsCleanJob o first job = λ o. clean_job o g.K.Began.first first job c.self.invariant.since.plan in
    let since = since_turn g.D.Disk.tells g.W.Sink.tells g.K.Began.alike g.D.Disk.story g.W.Sink.written g.W.Sink.faults g.K.Began.first g.K.Began.faults g.K.Began.gives old new c.self.invariant.since e.same
    (λ t u o is first run. let j = c.requires.clean t u o is first in e.run t o run j.0 (still o j.1))
    (λ t u o is first run. let j = c.requires.clean t u o is first in e.steady t o run j.0 (still o j.1)) e.sink e.text e.stays in
    kept_turn g.D.Disk.tells g.W.Sink.tells g.K.Began.alike g.D.Disk.story g.W.Sink.written g.W.Sink.faults g.K.Began.first g.K.Began.faults g.K.Began.gives old new c.self.inside.printed c.self.inside.whole c.heard_on-printed.result.0 c.heard_on-printed.result.1 m.added c.self.invariant e.same m.grown c.heard_on-printed.ensures since e.stays c.kept.ensures.heard (λ some. (e.rests some).1)

pub returns-clause-adds : goal.returns-clause-adds
returns-clause-adds g c =
    let e = c.ended_turn-ended.ensures in
    let old = c.self.inside.state in
    let new = c.ended_turn-ended.new.self in
    let answer = c.ended_turn-ended.result in
    let job = c.args.job.now in
    let m = marked_ended c.args.number job.task c.args.given.now old new answer e.ends in
    let still = c.heard_on-printed.result.1 in
    let added = map (tell still) m.added in (
      added,
      record {
        is = grows g.D.Disk.tells g.W.Sink.tells g.K.Began.alike g.D.Disk.story g.W.Sink.written g.W.Sink.faults g.K.Began.first g.K.Began.faults g.K.Began.gives old new c.self.inside.printed c.self.inside.whole c.heard_on-printed.result.0 still m.added c.self.invariant e.same m.grown c.heard_on-printed.ensures ∙ ap (λ v. tale_of v ++ added) c.self.view_is;
        by = m.by still;
      },
      subst (λ (r : Result Closing Mem). EndAdds c.args.number job.task c.args.given.now r added) (sym c.answered.ensures) (ended_adds c.args.number job.task c.args.given.now old new still c.has_fault.result answer c.has_fault.ensures e.ends),
    )

pub returns-clause-stops : goal.returns-clause-stops
returns-clause-stops g c is = ended_stops c.ended_turn-ended.result c.has_fault.result c.ended_turn-ended.new.self.fault c.has_fault.ensures (sym c.answered.ensures ∙ is)
