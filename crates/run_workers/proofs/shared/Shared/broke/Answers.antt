use Rattle.std.proofs.Common.{◌++◌, ap, ◌∙◌, map, inl, inr}
use Rattle.std.specs.Prelude.{refl}
use Rattle.meta_model.specs.declared.event.Event.TheVariants as events
use Rattle.run_workers.specs.Seats.{tale_of}
use Rattle.run_workers.specs.Told.{tell}
use Rattle.run_workers.proofs.Sinces.{grows, kept_turn, since_turn}
use Rattle.run_workers.proofs.Handing.{marked_one}
use Rattle.run_workers.proofs.shared.Shared.broke.Goals as goal

pub invariant_of-self : goal.invariant_of-self
invariant_of-self g c =
    let e = c.broke.ensures in
    let old = c.self.inside.state in
    let new = c.broke.new.self in
    let m = marked_one c.args.number (events.Broke c.args.job.task e.marks.broke) old.tale new.tale e.marks.marks in
    let since = since_turn g.D.Disk.tells g.W.Sink.tells g.K.Began.alike g.D.Disk.story g.W.Sink.written g.W.Sink.faults g.K.Began.first g.K.Began.faults g.K.Began.gives old new c.self.invariant.since e.same (λ t u o is first run. e.run t o run) (λ t u o is first run. e.steady) e.sink e.text e.stays in
    kept_turn g.D.Disk.tells g.W.Sink.tells g.K.Began.alike g.D.Disk.story g.W.Sink.written g.W.Sink.faults g.K.Began.first g.K.Began.faults g.K.Began.gives old new c.self.inside.printed c.self.inside.whole c.heard_on-printed.result.0 c.heard_on-printed.result.1 m.added c.self.invariant e.same m.grown c.heard_on-printed.ensures since e.stays c.kept.ensures.heard e.fault

pub returns : goal.returns
returns g c =
    let e = c.broke.ensures in
    let old = c.self.inside.state in
    let new = c.broke.new.self in
    let m = marked_one c.args.number (events.Broke c.args.job.task e.marks.broke) old.tale new.tale e.marks.marks in
    let still = c.heard_on-printed.result.1 in
    let added = map (tell still) m.added in record {
      adds = (
        added,
        record {
          is = grows g.D.Disk.tells g.W.Sink.tells g.K.Began.alike g.D.Disk.story g.W.Sink.written g.W.Sink.faults g.K.Began.first g.K.Began.faults g.K.Began.gives old new c.self.inside.printed c.self.inside.whole c.heard_on-printed.result.0 still m.added c.self.invariant e.same m.grown c.heard_on-printed.ensures ∙ ap (λ v. tale_of v ++ added) c.self.view_is;
          by = m.by still;
        },
        record { printed = still; broke = e.marks.broke; entry = record { moment = e.marks.marks.moment; is = refl }; as_asked = elim e.marks.as_asked [ inl same ↦ inl same | inr other ↦ inr other.0 ] },
      );
    }
