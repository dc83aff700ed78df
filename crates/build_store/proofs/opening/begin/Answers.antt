use Rattle.std.proofs.Common.{◌≡◌, ◌∙◌, sym, ap, subst, refl, List, ℕ, None, inl, inr}
use Rattle.std.proofs.lemmas.Bool.{OnFalse_at}
use Rattle.outside_traits.specs.Passes.{EachNow, Passes}
use Rattle.outside_traits.specs.Store.{IsOpen, Store}
use Rattle.outside_traits.proofs.Calls.{then_same}
use Rattle.stamp_store.specs.Stamp.{TakesAway, old_path}
use Rattle.store_model.specs.Publication.{stamp_at, work_at}
use Rattle.store_opening.specs.Paths.{IsLaidOut}
use Rattle.build_store.proofs.AsideRuns.{aside_on, begun_on, opens_noted}
use Rattle.build_store.proofs.OpeningRuns.{any_of, aside_opens, room_laid, room_opens, room_swept}
use Rattle.build_store.proofs.Phasing.{laid_aside}
use Rattle.build_store.proofs.opening.begin.Goals as goal

pub returns-in_err-put_aside-clause-noted : goal.returns-in_err-put_aside-clause-noted
returns-in_err-put_aside-clause-noted g c told = λ p folder object items noted.
    let aside = subst (λ (f : List ℕ). Passes (g.D.Disk.story c.args.disk.now) (g.D.Disk.story c.put_aside.new.disk) (TakesAway f)) (sym folder) (c.put_aside.ensures.images told) in
    opens_noted p items (g.D.Disk.story c.args.disk.now).held (g.D.Disk.story c.args.disk.now).held (g.D.Disk.story c.put_aside.new.disk).held (aside_opens p aside).held noted

pub returns-in_err-put_aside-clause-opens : goal.returns-in_err-put_aside-clause-opens
returns-in_err-put_aside-clause-opens g c told = λ p folder object.
    let aside = subst (λ (f : List ℕ). Passes (g.D.Disk.story c.args.disk.now) (g.D.Disk.story c.put_aside.new.disk) (TakesAway f)) (sym folder) (c.put_aside.ensures.images told) in
    aside_opens p aside

pub returns-in_err-put_aside-clause-laid_out : goal.returns-in_err-put_aside-clause-laid_out
returns-in_err-put_aside-clause-laid_out g c told =
    laid_aside c.args.folder.now (g.D.Disk.story c.args.disk.now).held (g.D.Disk.story c.put_aside.new.disk).held c.requires.parts (c.put_aside.ensures.images told).held (c.requires.laid_out told)

pub returns-in_err-take_ticket-clause-noted : goal.returns-in_err-take_ticket-clause-noted
returns-in_err-take_ticket-clause-noted g c told = λ p folder object items noted.
    let aside = subst (λ (f : List ℕ). Passes (g.D.Disk.story c.args.disk.now) (g.D.Disk.story c.put_aside.new.disk) (TakesAway f)) (sym folder) (c.put_aside.ensures.images told) in
    opens_noted p items (g.D.Disk.story c.args.disk.now).held (g.D.Disk.story c.args.disk.now).held (g.D.Disk.story c.take_ticket.new.disk).held (then_same (aside_opens p aside) (c.take_ticket.ensures.same told)).held noted

pub returns-in_err-take_ticket-clause-opens : goal.returns-in_err-take_ticket-clause-opens
returns-in_err-take_ticket-clause-opens g c told = λ p folder object.
    let aside = subst (λ (f : List ℕ). Passes (g.D.Disk.story c.args.disk.now) (g.D.Disk.story c.put_aside.new.disk) (TakesAway f)) (sym folder) (c.put_aside.ensures.images told) in
    then_same (aside_opens p aside) (c.take_ticket.ensures.same told)

pub returns-in_err-take_ticket-clause-laid_out : goal.returns-in_err-take_ticket-clause-laid_out
returns-in_err-take_ticket-clause-laid_out g c told =
    subst (λ (h : Store). IsLaidOut h) (sym (c.take_ticket.ensures.same told).held) (laid_aside c.args.folder.now (g.D.Disk.story c.args.disk.now).held (g.D.Disk.story c.put_aside.new.disk).held c.requires.parts (c.put_aside.ensures.images told).held (c.requires.laid_out told))

pub returns-then-branch-clause-noted : goal.returns-then-branch-clause-noted
returns-then-branch-clause-noted g c told = λ p folder object items noted.
    let aside = subst (λ (f : List ℕ). Passes (g.D.Disk.story c.args.disk.now) (g.D.Disk.story c.put_aside.new.disk) (TakesAway f)) (sym folder) (c.put_aside.ensures.images told) in
    opens_noted p items (g.D.Disk.story c.args.disk.now).held (g.D.Disk.story c.args.disk.now).held (g.D.Disk.story c.take_ticket.new.disk).held (then_same (aside_opens p aside) (c.take_ticket.ensures.same told)).held noted

pub returns-then-branch-clause-opens : goal.returns-then-branch-clause-opens
returns-then-branch-clause-opens g c told = λ p folder object.
    let aside = subst (λ (f : List ℕ). Passes (g.D.Disk.story c.args.disk.now) (g.D.Disk.story c.put_aside.new.disk) (TakesAway f)) (sym folder) (c.put_aside.ensures.images told) in
    then_same (aside_opens p aside) (c.take_ticket.ensures.same told)

pub returns-then-branch-clause-laid_out : goal.returns-then-branch-clause-laid_out
returns-then-branch-clause-laid_out g c told =
    subst (λ (h : Store). IsLaidOut h) (sym (c.take_ticket.ensures.same told).held) (laid_aside c.args.folder.now (g.D.Disk.story c.args.disk.now).held (g.D.Disk.story c.put_aside.new.disk).held c.requires.parts (c.put_aside.ensures.images told).held (c.requires.laid_out told))

pub returns-then-branch-clause-on : goal.returns-then-branch-clause-on
returns-then-branch-clause-on g c told = λ p folder object is_tree items noted.
    let aside = subst (λ (f : List ℕ). Passes (g.D.Disk.story c.args.disk.now) (g.D.Disk.story c.put_aside.new.disk) (TakesAway f)) (sym folder) (c.put_aside.ensures.images told) in
    let none = subst (λ (f : List ℕ). (g.D.Disk.story c.put_aside.new.disk).held (stamp_at f) ≡ None) (sym folder) (c.in_ok-put_aside.ensures.gone told) in
    aside_on p items c.in_ok-take_ticket.field-0 aside none (c.take_ticket.ensures.same told) (c.in_ok-take_ticket.ensures.ticket told) noted

pub returns-then-branch-clause-swept : goal.returns-then-branch-clause-swept
returns-then-branch-clause-swept g c told = λ none. inl tt

pub returns-in_err-make_way-clause-noted : goal.returns-in_err-make_way-clause-noted
returns-in_err-make_way-clause-noted g c told = λ p folder object items noted.
    let aside = subst (λ (f : List ℕ). Passes (g.D.Disk.story c.args.disk.now) (g.D.Disk.story c.put_aside.new.disk) (TakesAway f)) (sym folder) (c.put_aside.ensures.images told) in
    let gone = subst (λ (f : List ℕ). EachNow (g.D.Disk.story c.put_aside.new.disk) (λ image. image (stamp_at f) ≡ None)) (sym folder) (OnFalse_at c.if-branch.false (c.in_ok-put_aside.ensures.none told)) in
    opens_noted p items (g.D.Disk.story c.args.disk.now).held (g.D.Disk.story c.args.disk.now).held (g.D.Disk.story c.make_way.new.disk).held (room_opens p (g.met.D.Disk.sound c.put_aside.new.disk told) aside gone (c.make_way.ensures.way told p folder object)).held noted

pub returns-in_err-make_way-clause-opens : goal.returns-in_err-make_way-clause-opens
returns-in_err-make_way-clause-opens g c told = λ p folder object.
    let aside = subst (λ (f : List ℕ). Passes (g.D.Disk.story c.args.disk.now) (g.D.Disk.story c.put_aside.new.disk) (TakesAway f)) (sym folder) (c.put_aside.ensures.images told) in
    let gone = subst (λ (f : List ℕ). EachNow (g.D.Disk.story c.put_aside.new.disk) (λ image. image (stamp_at f) ≡ None)) (sym folder) (OnFalse_at c.if-branch.false (c.in_ok-put_aside.ensures.none told)) in
    room_opens p (g.met.D.Disk.sound c.put_aside.new.disk told) aside gone (c.make_way.ensures.way told p folder object)

pub returns-in_err-make_way-clause-laid_out : goal.returns-in_err-make_way-clause-laid_out
returns-in_err-make_way-clause-laid_out g c told =
    let p = any_of c.args.folder.now c.args.object.now in
    room_laid p (c.make_way.ensures.way told p refl refl) (laid_aside c.args.folder.now (g.D.Disk.story c.args.disk.now).held (g.D.Disk.story c.put_aside.new.disk).held c.requires.parts (c.put_aside.ensures.images told).held (c.requires.laid_out told))

pub returns-clause-noted : goal.returns-clause-noted
returns-clause-noted g c told = λ p folder object items noted.
    let aside = subst (λ (f : List ℕ). Passes (g.D.Disk.story c.args.disk.now) (g.D.Disk.story c.put_aside.new.disk) (TakesAway f)) (sym folder) (c.put_aside.ensures.images told) in
    let gone = subst (λ (f : List ℕ). EachNow (g.D.Disk.story c.put_aside.new.disk) (λ image. image (stamp_at f) ≡ None)) (sym folder) (OnFalse_at c.if-branch.false (c.in_ok-put_aside.ensures.none told)) in
    opens_noted p items (g.D.Disk.story c.args.disk.now).held (g.D.Disk.story c.args.disk.now).held (g.D.Disk.story c.make_way.new.disk).held (room_opens p (g.met.D.Disk.sound c.put_aside.new.disk told) aside gone (c.make_way.ensures.way told p folder object)).held noted

pub returns-clause-opens : goal.returns-clause-opens
returns-clause-opens g c told = λ p folder object.
    let aside = subst (λ (f : List ℕ). Passes (g.D.Disk.story c.args.disk.now) (g.D.Disk.story c.put_aside.new.disk) (TakesAway f)) (sym folder) (c.put_aside.ensures.images told) in
    let gone = subst (λ (f : List ℕ). EachNow (g.D.Disk.story c.put_aside.new.disk) (λ image. image (stamp_at f) ≡ None)) (sym folder) (OnFalse_at c.if-branch.false (c.in_ok-put_aside.ensures.none told)) in
    room_opens p (g.met.D.Disk.sound c.put_aside.new.disk told) aside gone (c.make_way.ensures.way told p folder object)

pub returns-clause-laid_out : goal.returns-clause-laid_out
returns-clause-laid_out g c told =
    let p = any_of c.args.folder.now c.args.object.now in
    room_laid p (c.make_way.ensures.way told p refl refl) (laid_aside c.args.folder.now (g.D.Disk.story c.args.disk.now).held (g.D.Disk.story c.put_aside.new.disk).held c.requires.parts (c.put_aside.ensures.images told).held (c.requires.laid_out told))

pub returns-clause-on : goal.returns-clause-on
returns-clause-on g c told = λ p folder object is_tree items noted.
    let aside = subst (λ (f : List ℕ). Passes (g.D.Disk.story c.args.disk.now) (g.D.Disk.story c.put_aside.new.disk) (TakesAway f)) (sym folder) (c.put_aside.ensures.images told) in
    let gone = subst (λ (f : List ℕ). EachNow (g.D.Disk.story c.put_aside.new.disk) (λ image. image (stamp_at f) ≡ None)) (sym folder) (OnFalse_at c.if-branch.false (c.in_ok-put_aside.ensures.none told)) in
    begun_on p items is_tree (g.met.D.Disk.sound c.put_aside.new.disk told) aside gone (c.make_way.ensures.way told p folder object)
    (subst (λ (f : List ℕ). IsOpen (work_at f) (g.D.Disk.story c.make_way.new.disk).held) (sym folder) (c.in_ok-make_way.ensures.work told))
    (λ unihash some. c.in_ok-make_way.ensures.shared told unihash (sym object ∙ some)) noted

pub returns-clause-swept : goal.returns-clause-swept
returns-clause-swept g c told = λ none. inr
    (let p = any_of c.args.folder.now c.args.object.now in
    room_swept p (c.make_way.ensures.way told p refl refl) ∙ ap (λ (h : Store). h (old_path c.args.folder.now)) (OnFalse_at c.if-branch.false (c.in_ok-put_aside.ensures.same told)).held ∙ none)
