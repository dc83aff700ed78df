use Rattle.std.proofs.Common.{◌≢◌, ◌⊎◌, subst, List, [], inl, inr}
use Rattle.tale_model.specs.declared.fate.Fate.{Fate}
use Rattle.run_core.specs.Fates.{SomeRuns}
use Rattle.run_queue.specs.Seen.{RunView}
use Rattle.run_queue.specs.Turns.{IsHeldUp, fates_of}
use Rattle.run_queue.proofs.state.RunState.is_held_up.Goals as goal

pub returns-else-not-is_empty-clause-held : goal.returns-else-not-is_empty-clause-held
returns-else-not-is_empty-clause-held g c some =
    let V : Type 0 = RunView g.row.D.Denot g.row.W.Denot in
    subst (λ (v : V). (SomeRuns (fates_of v) ⊎ (v.restoring ≢ [])) × IsHeldUp v) c.self.view_is
    (inl (subst (λ (l : List Fate). SomeRuns l) c.self.invariant.1 (c.some_runs.ensures.0 some)), inr c.if-self.true)
