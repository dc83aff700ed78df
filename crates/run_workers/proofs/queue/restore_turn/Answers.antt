use Rattle.std.proofs.Common.{◌≡◌, ◌↔◌, ℕ, Some, sym, subst, ap, ◌∙◌}
use Rattle.meta_model.specs.declared.event.Event.TheVariants as events
use Rattle.tale_model.specs.declared.fate.Fate.TheVariants.{Running}
use Rattle.tale_model.specs.Fates.{fate_at, IsFree}
use Rattle.run_core.specs.History.{last_of}
use Rattle.run_queue.specs.Turns.{fates_of}
use Rattle.turn_lock.specs.declared.rule.Stage.TheVariants.{Holding}
use Rattle.turn_lock.specs.Seats.{view_of}
use Rattle.turn_lock.specs.Views.{tale_out}
use Rattle.run_workers.specs.Seats.{MendAdds, tale_of}
use Rattle.run_workers.proofs.Ending.{was_faulty}
use Rattle.run_workers.proofs.Turning.{free_by_own, own_of, turned}
use Rattle.run_workers.proofs.queue.restore_turn.Goals as goal

pub restore_turn-mending-requires-clause-free : goal.restore_turn-mending-requires-clause-free
restore_turn-mending-requires-clause-free g c =
    let s = c.begin-story.result in
    let v = view_of c.args.seat.now in
    let law : (t seat : ℕ) → (fate_at (fates_of s.state) t ≡ Running seat) ↔ (last_of seat s.state.tale ≡ Some (events.Started t seat)) = λ t seat. c.seat_laws.ensures.last s.state.plan.tasks s.state.tale c.kept.ensures.orderly t seat in
    subst (IsFree (fates_of s.state)) (sym (c.number.ensures ∙ ap (λ x. x.number) c.begin-story.ensures.turn.1))
    (free_by_own (fates_of s.state) s.state.tale s.printed v.own v.number law (own_of v (tale_of s) c.begin-story.ensures.records) c.requires.none)

pub end-requires-clause-turn : goal.end-requires-clause-turn
end-requires-clause-turn g c =
    let turn = c.begin-story.ensures.turn in
    (turn.0, ap (λ v. v.stage) turn.1 ∙ ap (Holding turn.0) (sym (ap tale_out turn.1)), turn.2)

pub returns-clause-mends : goal.returns-clause-mends
returns-clause-mends g c =
    let turn = c.begin-story.ensures.turn in
    let v = view_of c.args.seat.now in
    let a = c.restore_turn-mending.ensures.adds in (
      a.0,
      subst (λ n. MendAdds n c.args.task c.restore_turn-mending.result a.0) (c.number.ensures ∙ ap (λ x. x.number) turn.1) a.2,
      turned v (view_of c.begin-story.new.seat) (view_of c.end.new.seat) turn.0 (tale_of c.begin-story.result) (tale_of c.restore_turn-mending.new.self) a.0 c.begin-story.ensures.seen turn.1 a.1.is c.end.ensures.seat,
    )

pub returns-clause-stops : goal.returns-clause-stops
returns-clause-stops g c stopped =
    let s = c.restore_turn-mending.new.self in
    let seen = (view_of c.end.new.seat).seen in
    let is : seen ≡ tale_of s = ap (λ x. x.seen) c.end.ensures.seat in
    was_faulty g.D.Disk.tells g.W.Sink.tells g.K.Began.alike g.D.Disk.story g.W.Sink.written g.D.Disk.faults g.W.Sink.faults g.K.Began.first g.K.Began.faults g.K.Began.gives s seen c.kept-2.ensures.since c.kept-2.ensures.state is (c.restore_turn-mending.ensures.stops stopped)
