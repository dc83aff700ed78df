use Rattle.std.proofs.Common.{rules, ◌≡◌, ◌∷◌, Some, All, sym, ap, ◌∙◌, subst}
use Rattle.atomic_table.specs.Table.{rest}
use Rattle.turn_lock.specs.Views.{after_turn, tale_out}
use Rattle.turn_lock.proofs.Keeps.{serves}
use Rattle.turn_lock.proofs.lock.TurnLock.end.Goals as goal

pub fetch_add-served-requires : goal.fetch_add-served-requires
fetch_add-served-requires g c = let now = c.exchange-left.ensures.3 in let turn = c.requires.turn in let e = ap (λ m. m.0) now in let has = ap (λ m. m.1) now ∙ ap (λ cs. (0, Some c.args.story) ∷ rest cs) turn.2 in (
  search rules,
  search rules,
  serves g.S.Story.name g.S.Story.tale g.S.Story.author _ _ _ _ _ turn.0 _ c.requires.tale.0 c.args.story (ap (λ v. v.live) e ∙ c.args.seat.now.live) (ap (λ v. v.stage) e ∙ turn.1) has
      (ap (λ v. v.name) e ∙ c.requires.name) c.requires.tale.1 (subst (λ v. All (λ x. g.S.Story.author x ≡ v.number) c.requires.tale.0) (sym e) c.requires.tale.2),
)

pub returns-clause-seat : goal.returns-clause-seat
returns-clause-seat g c = let now = c.exchange-left.ensures.3 in let turn = c.requires.turn in let e = ap (λ m. m.0) now in let has = ap (λ m. m.1) now ∙ ap (λ cs. (0, Some c.args.story) ∷ rest cs) turn.2 in
    let did = c.fetch_add-served.ensures.2 turn.0 _ c.args.story (ap (λ v. v.stage) e ∙ turn.1) has in did.0 ∙ ap (λ v. after_turn v (tale_out c.args.seat.now.pass.me.0) (g.S.Story.tale c.args.story)) e

pub returns-clause-free : goal.returns-clause-free
returns-clause-free g c = let now = c.exchange-left.ensures.3 in let turn = c.requires.turn in let e = ap (λ m. m.0) now in let has = ap (λ m. m.1) now ∙ ap (λ cs. (0, Some c.args.story) ∷ rest cs) turn.2 in
    let did = c.fetch_add-served.ensures.2 turn.0 _ c.args.story (ap (λ v. v.stage) e ∙ turn.1) has in (ap (λ v. v.stage) did.0, did.1)

pub invariant_of-seat : goal.invariant_of-seat
invariant_of-seat g c = let now = c.exchange-left.ensures.3 in let turn = c.requires.turn in let e = ap (λ m. m.0) now in let has = ap (λ m. m.1) now ∙ ap (λ cs. (0, Some c.args.story) ∷ rest cs) turn.2 in
    let did = c.fetch_add-served.ensures.2 turn.0 _ c.args.story (ap (λ v. v.stage) e ∙ turn.1) has in let is = did.0 ∙ ap (λ v. after_turn v (tale_out c.args.seat.now.pass.me.0) (g.S.Story.tale c.args.story)) e in record {
      live = ap (λ v. v.live) is ∙ c.args.seat.now.live;
      small = c.args.seat.now.small;
      numbers = (c.args.seat.now.numbers.0 ∙ sym (ap (λ v. v.number) is), c.args.seat.now.numbers.1 ∙ sym (ap (λ v. v.spare) is));
    }
