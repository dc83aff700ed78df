use Rattle.std.proofs.Common.{rules, ◌≡◌, ◌∷◌, [], sym, ap, ◌∙◌, subst}
use Rattle.turn_lock.specs.Views.{HasEntries, HasNoOthers, records_of}
use Rattle.turn_lock.proofs.Keeps.{closes}
use Rattle.turn_lock.proofs.lock.TurnLock.close.Goals as goal

pub unwrap-story-requires : goal.unwrap-story-requires
unwrap-story-requires g c = let f = closes g.S.Story.name g.S.Story.tale g.S.Story.author _ _ _ _ _ _ _ c.close_with-closed.ensures.values.2 c.take.ensures.value c.args.seat.live c.requires.free.0 c.requires.all in let is = f.1 in search rules

pub returns-clause-name : goal.returns-clause-name
returns-clause-name g c = let f = closes g.S.Story.name g.S.Story.tale g.S.Story.author _ _ _ _ _ _ _ c.close_with-closed.ensures.values.2 c.take.ensures.value c.args.seat.live c.requires.free.0 c.requires.all in let is = f.1 in
    let same : f.0 ≡ c.unwrap-story.result = search rules in f.2 ∙ ap (λ x. g.S.Story.name x ∷ []) same

pub returns-clause-seen : goal.returns-clause-seen
returns-clause-seen g c = let f = closes g.S.Story.name g.S.Story.tale g.S.Story.author _ _ _ _ _ _ _ c.close_with-closed.ensures.values.2 c.take.ensures.value c.args.seat.live c.requires.free.0 c.requires.all in let is = f.1 in
    let same : f.0 ≡ c.unwrap-story.result = search rules in sym (ap g.S.Story.tale same) ∙ f.3

pub returns-clause-records : goal.returns-clause-records
returns-clause-records g c = let f = closes g.S.Story.name g.S.Story.tale g.S.Story.author _ _ _ _ _ _ _ c.close_with-closed.ensures.values.2 c.take.ensures.value c.args.seat.live c.requires.free.0 c.requires.all in let is = f.1 in
    let same : f.0 ≡ c.unwrap-story.result = search rules in subst (λ x. HasEntries g.S.Story.author (records_of c.args.seat.pass.me.0) (g.S.Story.tale x)) same f.4

pub returns-clause-others : goal.returns-clause-others
returns-clause-others g c = let f = closes g.S.Story.name g.S.Story.tale g.S.Story.author _ _ _ _ _ _ _ c.close_with-closed.ensures.values.2 c.take.ensures.value c.args.seat.live c.requires.free.0 c.requires.all in let is = f.1 in
    let same : f.0 ≡ c.unwrap-story.result = search rules in subst (λ x. HasNoOthers g.S.Story.author (records_of c.args.seat.pass.me.0) (g.S.Story.tale x)) same f.5
