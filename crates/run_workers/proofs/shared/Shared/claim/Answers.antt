use Rattle.std.proofs.Common.{◌++◌, sym, refl, subst, ap, ◌∙◌, map}
use Rattle.std.proofs.lemmas.Result.{err_from_is_err_and}
use Rattle.run_queue.specs.Seen.{seen}
use Rattle.std.specs.Prelude.{IsSome, Result, Ok, Err, length}
use Rattle.run_workers.specs.Ended.{ClaimSays}
use Rattle.tree_model.specs.declared.text.Mem.{Mem}
use Rattle.run_queue.specs.declared.state.Claim.{Claim}
use Rattle.run_workers.specs.declared.shared.Claimed.{Claimed}
use Rattle.run_queue.specs.Turns.{Claims, ClaimsClean}
use Rattle.run_workers.specs.Seats.{ClaimAdds, tale_of}
use Rattle.run_workers.specs.Told.{tell}
use Rattle.run_workers.proofs.Ending.{says_why, unheard_faulty}
use Rattle.run_workers.proofs.Sinces.{grows, kept_turn, since_turn}
use Rattle.run_workers.proofs.Handing.{adds_by, hands, marked_by}
use Rattle.run_workers.proofs.shared.Shared.claim.Goals as goal

pub invariant_of-self-2 : goal.invariant_of-self-2
invariant_of-self-2 g c =
    let e = c.claim-claim.ensures in
    let old = c.self.inside.state in
    let new = c.claim-claim.new.self in
    let m = marked_by c.args.number old new c.claim-claim.result e.claims in
    let since = since_turn g.D.Disk.tells g.W.Sink.tells g.K.Began.alike g.D.Disk.story g.W.Sink.written g.W.Sink.faults g.K.Began.first g.K.Began.faults g.K.Began.gives old new c.self.invariant.since e.same (λ t u o is first run. e.run t o run) (λ t u o is first run. e.steady) e.sink e.text e.stays in
    kept_turn g.D.Disk.tells g.W.Sink.tells g.K.Began.alike g.D.Disk.story g.W.Sink.written g.W.Sink.faults g.K.Began.first g.K.Began.faults g.K.Began.gives old new c.self.inside.printed c.self.inside.whole c.heard_on-printed.result.0 c.heard_on-printed.result.1 m.added c.self.invariant e.same m.grown c.heard_on-printed.ensures since e.stays c.kept.ensures.heard (λ some. (e.rests some).1)

pub returns-clause-adds : goal.returns-clause-adds
returns-clause-adds g c =
    let e = c.claim-claim.ensures in
    let old = c.self.inside.state in
    let new = c.claim-claim.new.self in
    let was = c.in_ok-claim.was in
    let claims : Claims c.args.number old new (Ok c.in_ok-claim.field-0) = subst (λ (r : Result Claim Mem). Claims c.args.number old new r) was e.claims in
    let m = marked_by c.args.number old new (Ok c.in_ok-claim.field-0) claims in
    let still = c.heard_on-printed.result.1 in
    let added = map (tell still) m.added in (
      added,
      record {
        is = grows g.D.Disk.tells g.W.Sink.tells g.K.Began.alike g.D.Disk.story g.W.Sink.written g.W.Sink.faults g.K.Began.first g.K.Began.faults g.K.Began.gives old new c.self.inside.printed c.self.inside.whole c.heard_on-printed.result.0 still m.added c.self.invariant e.same m.grown c.heard_on-printed.ensures ∙ ap (λ v. tale_of v ++ added) c.self.view_is;
        by = m.by still;
      },
      adds_by c.args.number old new still c.in_ok-claim.field-0 claims,
    )

pub returns-in_err-claim-clause-adds : goal.returns-in_err-claim-clause-adds
returns-in_err-claim-clause-adds g c =
    let e = c.claim-claim.ensures in
    let old = c.self.inside.state in
    let new = c.claim-claim.new.self in
    let fault = c.in_err-claim.field-0.0 in
    let claims : Claims c.args.number old new (Err fault) = subst (λ (r : Result Claim Mem). Claims c.args.number old new r) c.in_err-claim.was e.claims in
    let m = marked_by c.args.number old new (Err fault) claims in
    let still = c.heard_on-printed.result.1 in
    let added = map (tell still) m.added in
    let answer = err_from_is_err_and c.from_residual.result c.from_residual.ensures.1 in (
      added,
      record {
        is = grows g.D.Disk.tells g.W.Sink.tells g.K.Began.alike g.D.Disk.story g.W.Sink.written g.W.Sink.faults g.K.Began.first g.K.Began.faults g.K.Began.gives old new c.self.inside.printed c.self.inside.whole c.heard_on-printed.result.0 still m.added c.self.invariant e.same m.grown c.heard_on-printed.ensures ∙ ap (λ v. tale_of v ++ added) c.self.view_is;
        by = m.by still;
      },
      subst (λ (r : Result Claimed Mem). ClaimAdds c.args.number r added) (sym answer.1) refl,
    )

pub returns-clause-says : goal.returns-clause-says
returns-clause-says g c =
    let e = c.claim-claim.ensures in
    let old = c.self.inside.state in
    let new = c.claim-claim.new.self in
    let since = c.self.invariant.since in
    let claims : Claims c.args.number old new (Ok c.in_ok-claim.field-0) = subst (λ (r : Result Claim Mem). Claims c.args.number old new r) c.in_ok-claim.was e.claims in (
      says_why c.args.number old new g.K.Began.first since.plan since.options c.in_ok-claim.field-0 claims,
      unheard_faulty old.fault new.fault (length new.tale) c.self.inside.printed c.heard_on-printed.result.0 c.self.inside.whole c.heard_on-printed.result.1 c.heard_on-printed.ensures c.self.invariant.faulty (λ some. (e.rests some).1),
    )

pub returns-in_err-claim-clause-says : goal.returns-in_err-claim-clause-says
returns-in_err-claim-clause-says g c =
    let new = c.claim-claim.new.self in
    let answer = err_from_is_err_and c.from_residual.result c.from_residual.ensures.1 in
    subst (λ (r : Result Claimed Mem). ClaimSays g.K.Began.first new.tale (IsSome new.fault) r) (sym answer.1) tt

pub returns-clause-clean : goal.returns-clause-clean
returns-clause-clean g c t u o is run =
    let old = seen g.D.Disk.story g.W.Sink.written c.self.inside.state in
    hands o old g.K.Began.first c.in_ok-claim.field-0 (sym c.self.invariant.since.plan) c.self.inside.state.ends_wait
    (subst (λ (r : Result Claim Mem). ClaimsClean o c.self.inside.state.ends_wait old r) (c.in_ok-claim.was) (c.claim-claim.ensures.clean t o (c.self.invariant.since.run t u o is run)))
