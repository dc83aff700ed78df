use Rattle.std.proofs.Common.{◌≡◌, ◌∙◌, sym, ap, subst, Ok}
use Rattle.std.specs.Prelude.{Option}
use Rattle.meta_model.specs.declared.event.Cut.TheVariants as cuts
use Rattle.meta_model.specs.declared.event.Event.TheVariants as events
use Rattle.run_queue.specs.declared.closing.Ending.{Ending}
use Rattle.run_queue.specs.Seen.{RunView}
use Rattle.run_queue.specs.Turns.{EndsTry, Marks, RunsUnder}
use Rattle.run_queue.proofs.state.RunState.rest_turn.Goals as goal

pub wanting-requires-clause-faultless : goal.wanting-requires-clause-faultless
wanting-requires-clause-faultless g c =
    let V : Type 0 = RunView g.row.D.Denot g.row.W.Denot in
    let old = c.args.self.now in
    let mid = c.step_turn.new.self in
    let same : mid ≡ record old { ends_wait = mid.ends_wait } = subst (λ (x : Option Ending). EndsTry c.args.number c.args.task old mid (Ok x)) c.in-None.is c.in_ok-ending.ensures.ends in
    ap (λ (v : V). v.fault) same ∙ c.requires.faultless

pub wanting-requires-clause-runs : goal.wanting-requires-clause-runs
wanting-requires-clause-runs g c =
    let V : Type 0 = RunView g.row.D.Denot g.row.W.Denot in
    let old = c.args.self.now in
    let mid = c.step_turn.new.self in
    let same : mid ≡ record old { ends_wait = mid.ends_wait } = subst (λ (x : Option Ending). EndsTry c.args.number c.args.task old mid (Ok x)) c.in-None.is c.in_ok-ending.ensures.ends in
    subst (λ (v : V). RunsUnder v c.args.task c.args.number) (sym same) c.requires.runs

pub returns-in-None-clause-ends : goal.returns-in-None-clause-ends
returns-in-None-clause-ends g c =
    let V : Type 0 = RunView g.row.D.Denot g.row.W.Denot in
    let old = c.args.self.now in
    let mid = c.step_turn.new.self in
    let same : mid ≡ record old { ends_wait = mid.ends_wait } = subst (λ (x : Option Ending). EndsTry c.args.number c.args.task old mid (Ok x)) c.in-None.is c.in_ok-ending.ensures.ends in
    (subst (λ (v : V). Marks c.args.number (events.Broke c.args.task cuts.Memory) v.tale c.wanting.new.self.tale) same c.wanting.ensures.marks, c.wanting.ensures.fault)
