use Rattle.std.proofs.Common.{◌≡◌, ◌∙◌, sym, ap, subst, refl, rules, ℕ, List, nat_eq, None, inr}
use Rattle.std.specs.Prelude.{Contains}
use Rattle.std.specs.List.{list_any}
use Rattle.run_queue.specs.Seen.{RunView}
use Rattle.run_queue.proofs.Hands.{found_in, not_found_in}
use Rattle.run_queue.proofs.state.RunState.restore_turn.Goals as goal

pub step_restoring-requires-clause-among : goal.step_restoring-requires-clause-among
step_restoring-requires-clause-among g c =
    let V : Type 0 = RunView g.row.D.Denot g.row.W.Denot in
    subst (λ (v : V). Contains v.restoring c.args.task) c.self.view_is (found_in c.args.task c.self.inside.restoring.items (ap (λ (l : List ℕ). list_any (λ u. nat_eq u c.args.task) l) (sym c.deref.ensures.value) ∙ sym c.contains.ensures.value ∙ c.if-not-contains.false))

pub returns-then-not-contains-clause-mends : goal.returns-then-not-contains-clause-mends
returns-then-not-contains-clause-mends g c =
    let V : Type 0 = RunView g.row.D.Denot g.row.W.Denot in
    let none : c.args.self.now.fault ≡ None = search rules in
    (none, inr (refl, λ hand. not_found_in c.args.task c.self.inside.restoring.items (ap (λ (l : List ℕ). list_any (λ u. nat_eq u c.args.task) l) (sym c.deref.ensures.value) ∙ sym c.contains.ensures.value ∙ c.if-not-contains.true) (subst (λ (v : V). Contains v.restoring c.args.task) (sym c.self.view_is) hand)))
