use Rattle.std.proofs.Common.{◌∙◌, sym, ap, subst}
use Rattle.build_store.specs.View.{NothingOpen}
use Rattle.run_queue.specs.Seen.{RunView}
use Rattle.run_queue.proofs.state.RunState.into_parts.Goals as goal

pub returns-clause-swept : goal.returns-clause-swept
returns-clause-swept g c tells none nothing =
    let V : Type 0 = RunView g.row.D.Denot g.row.W.Denot in
    c.into_disk.ensures.swept tells (c.self.invariant.3.clean (ap (λ (v : V). v.fault) c.self.view_is ∙ none)) (subst (λ (v : V). NothingOpen v.store.opened) (sym c.self.view_is) nothing)
