use Rattle.std.proofs.Common.{◌≡◌, ◌∙◌, sym, ap, subst, Ok, Some}
use Rattle.std.specs.Prelude.{IfSome, Option}
use Rattle.meta_model.specs.declared.plan.Plan.{Plan}
use Rattle.task_worker.specs.declared.given.Given.TheVariants as givens
use Rattle.run_queue.specs.declared.closing.Ending.{Ending}
use Rattle.run_queue.specs.Causes.{IsOfGiven}
use Rattle.run_queue.specs.Puts.{IsCleanOutput}
use Rattle.run_queue.specs.Seen.{RunView}
use Rattle.run_queue.specs.Turns.{EndsTry, RunsUnder}
use Rattle.run_queue.proofs.States.{ends_from}
use Rattle.run_queue.proofs.state.RunState.tree_turn.Goals as goal

pub open_turn-requires-clause-faultless : goal.open_turn-requires-clause-faultless
open_turn-requires-clause-faultless g c =
    let V : Type 0 = RunView g.row.D.Denot g.row.W.Denot in
    let old = c.args.self.now in
    let mid = c.step_turn.new.self in
    let same : mid ≡ record old { ends_wait = mid.ends_wait } = subst (λ (x : Option Ending). EndsTry c.args.number c.args.task old mid (Ok x)) c.in-None.is c.in_ok-ending.ensures.ends in
    ap (λ (v : V). v.fault) same ∙ c.requires.faultless

pub open_turn-requires-clause-runs : goal.open_turn-requires-clause-runs
open_turn-requires-clause-runs g c =
    let V : Type 0 = RunView g.row.D.Denot g.row.W.Denot in
    let old = c.args.self.now in
    let mid = c.step_turn.new.self in
    let same : mid ≡ record old { ends_wait = mid.ends_wait } = subst (λ (x : Option Ending). EndsTry c.args.number c.args.task old mid (Ok x)) c.in-None.is c.in_ok-ending.ensures.ends in
    subst (λ (v : V). RunsUnder v c.args.task c.args.number) (sym same) c.requires.runs

pub returns-in_err-ending-clause-run : goal.returns-in_err-ending-clause-run
returns-in_err-ending-clause-run g c tells o run output = c.step_turn.ensures.run tells o run

pub returns-in-None-clause-ends : goal.returns-in-None-clause-ends
returns-in-None-clause-ends g c =
    let V : Type 0 = RunView g.row.D.Denot g.row.W.Denot in
    let old = c.args.self.now in
    let mid = c.step_turn.new.self in
    let same : mid ≡ record old { ends_wait = mid.ends_wait } = subst (λ (x : Option Ending). EndsTry c.args.number c.args.task old mid (Ok x)) c.in-None.is c.in_ok-ending.ensures.ends in
    ends_from c.args.number c.args.task (Some (givens.Tree c.args.tree c.args.manifest.now)) old mid c.open_turn.new.self mid.ends_wait c.open_turn.result same c.open_turn.ensures.ends

pub returns-in-None-clause-given : goal.returns-in-None-clause-given
returns-in-None-clause-given g c =
    subst (λ (p : Plan). IfSome c.open_turn.new.self.fault (IsOfGiven p.tasks c.args.task (givens.Tree c.args.tree c.args.manifest.now))) c.step_turn.ensures.same.plan c.open_turn.ensures.given

pub returns-in-None-clause-run : goal.returns-in-None-clause-run
returns-in-None-clause-run g c tells o run output =
    c.open_turn.ensures.run tells o (c.step_turn.ensures.run tells o run)
    (subst (λ (p : Plan). IsCleanOutput o.gives p.tasks c.args.task c.args.tree) (sym c.step_turn.ensures.same.plan) output)

pub returns-in-None-clause-steady : goal.returns-in-None-clause-steady
returns-in-None-clause-steady g c tells o run output =
    c.open_turn.ensures.steady tells o (c.step_turn.ensures.run tells o run)
    (subst (λ (p : Plan). IsCleanOutput o.gives p.tasks c.args.task c.args.tree) (sym c.step_turn.ensures.same.plan) output)
