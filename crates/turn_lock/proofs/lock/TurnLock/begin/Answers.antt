use Rattle.std.proofs.Common.{rules, ◌≡◌, ◌∷◌, [], Some, None, sym, ap, ◌∙◌, subst}
use Rattle.atomic_table.specs.Table.{rest}
use Rattle.turn_lock.specs.declared.rule.Stage.TheVariants.{Holding}
use Rattle.turn_lock.specs.Views.{Fits, staged}
use Rattle.turn_lock.proofs.Keeps.{draws, looks}
use Rattle.turn_lock.proofs.Tales.{fits_staged}
use Rattle.turn_lock.proofs.lock.TurnLock.begin.Goals as goal

pub fetch_add-ticket-requires : goal.fetch_add-ticket-requires
fetch_add-ticket-requires g c = (search rules, search rules, draws g.S.Story.name g.S.Story.tale g.S.Story.author _ _ _ _ _ c.args.seat.now.live c.requires.free.0)

pub load-serving-requires : goal.load-serving-requires
load-serving-requires g c = let is = c.loop.invariant.waits in
    (search rules, search rules, looks g.S.Story.name g.S.Story.tale g.S.Story.author _ _ _ _ _ c.fetch_add-ticket.result (ap (λ v. v.live) is ∙ c.args.seat.now.live) (ap (λ v. v.stage) is))

pub exchange-requires : goal.exchange-requires
exchange-requires g c = let is = c.loop.invariant.waits in let took = (c.load-serving.ensures.2 _ (ap (λ v. v.stage) is)).0 c.if-serving-ticket.true in
    (search rules, (_, took.2 ∙ ap (λ cs. (0, Some took.0) ∷ rest cs) (sym took.2)))

pub unwrap-requires : goal.unwrap-requires
unwrap-requires g c = let is = c.loop.invariant.waits in let took = (c.load-serving.ensures.2 _ (ap (λ v. v.stage) is)).0 c.if-serving-ticket.true in let had = took.2 in let has = c.exchange.ensures.2 in search rules

pub returns-then-serving-ticket-clause-turn : goal.returns-then-serving-ticket-clause-turn
returns-then-serving-ticket-clause-turn g c = let is = c.loop.invariant.waits in let took = (c.load-serving.ensures.2 _ (ap (λ v. v.stage) is)).0 c.if-serving-ticket.true in let had = took.2 in let has = c.exchange.ensures.2 in
    let now = c.exchange.ensures.3 in let same : took.0 ≡ c.unwrap.result = search rules in (
      c.fetch_add-ticket.result,
      ap (λ m. m.0) now ∙ (took.1 ∙ (λ i. staged (Holding c.fetch_add-ticket.result (g.S.Story.tale (same i))) (is i))),
      ap (λ m. m.1) now ∙ ap (λ cs. (0, None) ∷ cs) (ap rest took.2 ∙ (c.loop.invariant.bare ∙ c.requires.free.1)),
    )

pub returns-then-serving-ticket-clause-name : goal.returns-then-serving-ticket-clause-name
returns-then-serving-ticket-clause-name g c = let is = c.loop.invariant.waits in let took = (c.load-serving.ensures.2 _ (ap (λ v. v.stage) is)).0 c.if-serving-ticket.true in let had = took.2 in let has = c.exchange.ensures.2 in
    let same : took.0 ≡ c.unwrap.result = search rules in sym (ap (λ v. v.name) is) ∙ (took.3 ∙ ap (λ x. g.S.Story.name x ∷ []) same)

pub returns-then-serving-ticket-clause-seen : goal.returns-then-serving-ticket-clause-seen
returns-then-serving-ticket-clause-seen g c = let is = c.loop.invariant.waits in let took = (c.load-serving.ensures.2 _ (ap (λ v. v.stage) is)).0 c.if-serving-ticket.true in let had = took.2 in let has = c.exchange.ensures.2 in
    let same : took.0 ≡ c.unwrap.result = search rules in
    (fits_staged g.S.Story.author c.args.seat.now.pass.me.0 _ _ _ is (subst (λ (x : g.row.S.Denot). Fits g.S.Story.author c.loop.seat.pass.me.0 (g.S.Story.tale x)) same took.4)).seen

pub returns-then-serving-ticket-clause-records : goal.returns-then-serving-ticket-clause-records
returns-then-serving-ticket-clause-records g c = let is = c.loop.invariant.waits in let took = (c.load-serving.ensures.2 _ (ap (λ v. v.stage) is)).0 c.if-serving-ticket.true in let had = took.2 in let has = c.exchange.ensures.2 in
    let same : took.0 ≡ c.unwrap.result = search rules in
    (fits_staged g.S.Story.author c.args.seat.now.pass.me.0 _ _ _ is (subst (λ (x : g.row.S.Denot). Fits g.S.Story.author c.loop.seat.pass.me.0 (g.S.Story.tale x)) same took.4)).records
