use Rattle.std.proofs.Common.{◌++◌, ap, ◌∙◌, map}
use Rattle.run_workers.specs.Seats.{tale_of}
use Rattle.run_workers.specs.Told.{tell}
use Rattle.run_workers.proofs.Sinces.{grows, kept_turn, since_turn}
use Rattle.run_workers.proofs.Handing.{marked_mended, mended_adds, mended_stops}
use Rattle.run_workers.proofs.shared.Shared.restore_turn.Goals as goal

pub invariant_of-self : goal.invariant_of-self
invariant_of-self g c =
    let e = c.restore_turn-mending.ensures in
    let old = c.self.inside.state in
    let new = c.restore_turn-mending.new.self in
    let m = marked_mended c.args.number c.args.task old new c.restore_turn-mending.result e.mends in
    let since = since_turn g.D.Disk.tells g.W.Sink.tells g.K.Began.alike g.D.Disk.story g.W.Sink.written g.W.Sink.faults g.K.Began.first g.K.Began.faults g.K.Began.gives old new c.self.invariant.since e.same
    (λ t u o is first run. e.run t o run) (λ t u o is first run. e.steady) e.sink e.text e.stays in
    kept_turn g.D.Disk.tells g.W.Sink.tells g.K.Began.alike g.D.Disk.story g.W.Sink.written g.W.Sink.faults g.K.Began.first g.K.Began.faults g.K.Began.gives old new c.self.inside.printed c.self.inside.whole c.heard_on-printed.result.0 c.heard_on-printed.result.1 m.added c.self.invariant e.same m.grown c.heard_on-printed.ensures since e.stays c.kept.ensures.heard (λ some. (e.rests some).1)

pub returns-clause-adds : goal.returns-clause-adds
returns-clause-adds g c =
    let e = c.restore_turn-mending.ensures in
    let old = c.self.inside.state in
    let new = c.restore_turn-mending.new.self in
    let m = marked_mended c.args.number c.args.task old new c.restore_turn-mending.result e.mends in
    let still = c.heard_on-printed.result.1 in
    let added = map (tell still) m.added in (
      added,
      record {
        is = grows g.D.Disk.tells g.W.Sink.tells g.K.Began.alike g.D.Disk.story g.W.Sink.written g.W.Sink.faults g.K.Began.first g.K.Began.faults g.K.Began.gives old new c.self.inside.printed c.self.inside.whole c.heard_on-printed.result.0 still m.added c.self.invariant e.same m.grown c.heard_on-printed.ensures ∙ ap (λ v. tale_of v ++ added) c.self.view_is;
        by = m.by still;
      },
      mended_adds c.args.number c.args.task old new still c.restore_turn-mending.result e.mends,
    )

pub returns-clause-stops : goal.returns-clause-stops
returns-clause-stops g c is = mended_stops c.args.number c.args.task c.self.inside.state c.restore_turn-mending.new.self c.restore_turn-mending.result c.restore_turn-mending.ensures.mends is
