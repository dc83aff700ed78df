use Rattle.std.proofs.Common.{sym, ◌∙◌, refl, inl, inr}
use Rattle.std.proofs.lemmas.Bool.{false≢true}
use Rattle.run_queue.proofs.state.RunState.settle.Goals as goal

pub returns-then-is_held_up-clause-turns : goal.returns-then-is_held_up-clause-turns
returns-then-is_held_up-clause-turns g c =
    let held = c.is_held_up.ensures.held c.if-is_held_up.true in
    (refl, held.0, inr held.1)

pub returns-then-is_held_up-clause-clean : goal.returns-then-is_held_up-clause-clean
returns-then-is_held_up-clause-clean g c tells o run empty quiet =
    absurd (elim (c.is_held_up.ensures.waits c.if-is_held_up.true) [ inl some ↦ some empty | inr waits ↦ false≢true (sym quiet ∙ waits) ])
