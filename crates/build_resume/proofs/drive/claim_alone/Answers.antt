use Rattle.std.proofs.Common.{◌≡◌, ◌≢◌, ◌∙◌, sym, ap, subst, ℕ, List, [], length, Ok, inl, inr}
use Rattle.std.specs.Prelude.{Contains, IsSome, Result}
use Rattle.std.proofs.lemmas.List.Elements.{Contains-push}
use Rattle.tree_model.specs.declared.text.Mem.{Mem}
use Rattle.meta_model.specs.declared.event.Logged.{Logged}
use Rattle.meta_model.specs.declared.plan.Plan.{Plan}
use Rattle.tale_model.specs.Fates.{NoneRuns, fates_told}
use Rattle.run_queue.specs.declared.state.Claim.{Claim}
use Rattle.run_queue.specs.declared.state.Claim.TheVariants as claim
use Rattle.run_queue.specs.Seen.{RunView, seen}
use Rattle.run_queue.specs.Turns.{Claims, ClaimsClean, RestoresBy}
use Rattle.build_resume.proofs.Restoring.{claims_from, free_seat, kept_in_hand, none_waited, settled_clean, settled_taken}
use Rattle.build_resume.proofs.drive.claim_alone.Goals as goal

pub restore_alone-requires-clause-none : goal.restore_alone-requires-clause-none
restore_alone-requires-clause-none g c =
    let old = c.args.state.now in
    let mid = c.claim.new.self in
    let claims : Claims 0 old mid (Ok c.in-Ok-Restore.field-0) = c.in-Ok-Restore.ensures.claims in
    let tale : mid.tale ≡ old.tale = subst (λ (x : Claim). Claims 0 old mid (Ok x)) c.in-Ok-Restore.field-0-is claims in
    subst (λ (l : List Logged). NoneRuns (fates_told (length mid.plan.tasks) l)) (sym tale) (subst (λ (p : Plan). NoneRuns (fates_told (length p.tasks) old.tale)) (sym c.in-Ok-Restore.ensures.same.plan) c.requires.none)

pub restore_alone-requires-clause-hand : goal.restore_alone-requires-clause-hand
restore_alone-requires-clause-hand g c =
    let old = c.args.state.now in
    let mid = c.claim.new.self in
    let by : RestoresBy old mid (Ok c.in-Ok-Restore.field-0) = c.in-Ok-Restore.ensures.restores in
    let hands = subst (λ (x : Claim). RestoresBy old mid (Ok x)) c.in-Ok-Restore.field-0-is by in
    subst (λ (l : List ℕ). Contains l c.in-Ok-Restore.task) (sym hands) (Contains-push old.restoring c.in-Ok-Restore.task)

pub returns-in-Ok-Restore-clause-claims : goal.returns-in-Ok-Restore-clause-claims
returns-in-Ok-Restore-clause-claims g c =
    let old = c.args.state.now in
    let mid = c.claim.new.self in
    let claims : Claims 0 old mid (Ok c.in-Ok-Restore.field-0) = c.in-Ok-Restore.ensures.claims in
    let tale : mid.tale ≡ old.tale = subst (λ (x : Claim). Claims 0 old mid (Ok x)) c.in-Ok-Restore.field-0-is claims in
    let same = c.in-Ok-Restore.ensures.same in
    claims_from 0 old mid c.restore_alone.new.state c.restore_alone.result same.plan same.options tale c.restore_alone.ensures.claims

pub returns-in-Ok-Restore-clause-taken : goal.returns-in-Ok-Restore-clause-taken
returns-in-Ok-Restore-clause-taken g c = settled_taken c.in-Ok-Restore.task c.restore_alone.result c.restore_alone.ensures.ends

pub returns-in-Ok-Restore-clause-clean : goal.returns-in-Ok-Restore-clause-clean
returns-in-Ok-Restore-clause-clean g c tells o run =
    settled_clean o c.args.state.now.ends_wait (seen g.D.Disk.story g.W.Sink.written c.args.state.now) c.in-Ok-Restore.task c.restore_alone.result c.restore_alone.ensures.ends

pub returns-in-Ok-Wait-clause-claims : goal.returns-in-Ok-Wait-clause-claims
returns-in-Ok-Wait-clause-claims g c =
    let V : Type 0 = RunView g.row.D.Denot g.row.W.Denot in
    let old = c.args.state.now in
    let mid = c.claim.new.self in
    let new = c.close_restorings.new.self in
    let claims : Claims 0 old mid (Ok c.in-Ok-Wait.field-0) = c.in-Ok-Wait.ensures.claims in
    let waits : Claims 0 old mid (Ok claim.Wait) = subst (λ (x : Claim). Claims 0 old mid (Ok x)) c.in-Ok-Wait.field-0-is claims in
    let same = c.close_restorings.ensures.same in
    let hands : mid.restoring ≢ [] = none_waited old mid c.requires.none waits in (
      ap (λ (v : V). v.tale) same ∙ waits.0,
      inr (kept_in_hand new (subst (λ (v : V). v.restoring ≢ []) (sym same) hands) c.close_restorings.ensures.free),
    )
