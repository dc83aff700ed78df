use Rattle.std.proofs.Common.{◌≡◌, ◌∙◌, sym, subst, Bool, true, List, inr}
use Rattle.std.specs.Prelude.{Result}
use Rattle.std.specs.Bool.{OnTrue}
use Rattle.outside_traits.specs.Fault.{Counts}
use Rattle.outside_traits.specs.Passes.{Passes}
use Rattle.build_store.specs.Faults.{store_failed}
use Rattle.build_store.specs.declared.fault.StoreFault.{StoreFault}
use Rattle.task_worker.specs.declared.given.Given.TheVariants as givens
use Rattle.run_queue.specs.Causes.{IsStoreCause, IsStoreOfGiven}
use Rattle.run_queue.specs.Keeps.{IsSteadyAnswer}
use Rattle.store_model.specs.declared.signature.EquivRow.{EquivRow}
use Rattle.store_model.specs.Available.{task_folder}
use Rattle.store_model.specs.Signatures.{Signed}
use Rattle.build_store.specs.Openings.{OpensTask}
use Rattle.build_store.specs.Pieces.{IsPublishing}
use Rattle.build_store.specs.Keys.{HasNewKey, is_new_key}
use Rattle.build_store.specs.Publication.{IsAgreed, first_publication}
use Rattle.build_store.specs.View.{opened_at, signed_by}
use Rattle.run_queue.specs.Puts.{IsSignedAt, MayOpen}
use Rattle.run_queue.proofs.Causing.{refusal_given, store_cause}
use Rattle.run_queue.proofs.Openable.{none_there, opens_so, or_own, touched_so}
use Rattle.run_queue.proofs.OwnSignature.{handed_on, indexed, known_is, known_signature}
use Rattle.setscene_plan.proofs.Naming.{signed_at}
use Rattle.run_queue.proofs.Placing.{has_place}
use Rattle.run_queue.proofs.Steady.{refusal_steady}
use Rattle.run_queue.proofs.closing.open_in.Goals as goal

pub publish_open-requires-clause-place : goal.publish_open-requires-clause-place
publish_open-requires-clause-place g c =
    let tasks = c.args.plan.now.tasks in
    has_place c.args.plan.now c.args.task c.index-as_slice-task.result c.requires.sound (indexed tasks c.as_slice.result.now c.args.task c.index-as_slice-task.result c.as_slice.ensures c.requires.task c.index-as_slice-task.is)

pub publish_open-requires-clause-sig : goal.publish_open-requires-clause-sig
publish_open-requires-clause-sig g c =
    let tasks = c.args.plan.now.tasks in
    let task = c.index-as_slice-task.result in
    let at = indexed tasks c.as_slice.result.now c.args.task task c.as_slice.ensures c.requires.task c.index-as_slice-task.is in
    (known_is c.args.plan.now c.args.store.now.rows c.args.replan.now c.args.task task c.in_ok-sig.sig c.requires.sound c.requires.task at c.requires.current c.in_ok-sig.ensures.known c.in_ok-sig.ensures.is).0

pub publish_open-requires-clause-named : goal.publish_open-requires-clause-named
publish_open-requires-clause-named g c =
    let tasks = c.args.plan.now.tasks in
    let task = c.index-as_slice-task.result in
    let at = indexed tasks c.as_slice.result.now c.args.task task c.as_slice.ensures c.requires.task c.index-as_slice-task.is in
    (known_is c.args.plan.now c.args.store.now.rows c.args.replan.now c.args.task task c.in_ok-sig.sig c.requires.sound c.requires.task at c.requires.current c.in_ok-sig.ensures.known c.in_ok-sig.ensures.is).1

pub returns-in_err-publish_open-clause-cause : goal.returns-in_err-publish_open-clause-cause
returns-in_err-publish_open-clause-cause g c =
    let plan = c.args.plan.now in
    let rows = c.args.store.now.rows in
    let count = g.D.Disk.faults c.publish_open.new.self.disk in
    let tasks = c.args.plan.now.tasks in
    let task = c.index-as_slice-task.result in
    let at = indexed tasks c.as_slice.result.now c.args.task task c.as_slice.ensures c.requires.task c.index-as_slice-task.is in
    let x = signed_at rows plan.tasks c.args.task c.requires.task in
    let same = known_signature c.args.plan.now c.args.store.now.rows c.args.replan.now c.args.task task c.in_ok-sig.sig x.0 c.requires.sound at c.requires.current c.in_ok-sig.ensures.known c.in_ok-sig.ensures.is x.1 in
    let signed = subst (λ (y : Signed). IsSignedAt rows plan.tasks c.args.task y) same x.1 in
    let f = c.in_err-publish_open.field-0.0 in
    let counts = subst (λ (r : Result Bool StoreFault). Counts (g.D.Disk.faults c.args.store.now.disk) count (store_failed r)) c.in_err-publish_open.was c.publish_open.ensures.cause in
    handed_on c.from_residual-in_err-publish_open.result f (IsStoreCause count plan c.publish_open.new.self.rows) c.from_residual-in_err-publish_open.ensures.1
    (subst (λ (l : List EquivRow). IsStoreCause count plan l f) (sym c.in_err-publish_open.ensures.rows)
    (store_cause (g.D.Disk.faults c.args.store.now.disk) count plan rows c.args.store.now.keys c.args.task (signed_by task c.in_ok-sig.sig) c.args.tree f signed c.requires.unharmed counts c.in_err-publish_open.ensures.refused))

pub returns-in_err-publish_open-clause-given : goal.returns-in_err-publish_open-clause-given
returns-in_err-publish_open-clause-given g c =
    let tasks = c.args.plan.now.tasks in
    let task = c.index-as_slice-task.result in
    let at = indexed tasks c.as_slice.result.now c.args.task task c.as_slice.ensures c.requires.task c.index-as_slice-task.is in
    let f = c.in_err-publish_open.field-0.0 in
    handed_on c.from_residual-in_err-publish_open.result f (IsStoreOfGiven tasks c.args.task (givens.Tree c.args.tree c.args.manifest.now)) c.from_residual-in_err-publish_open.ensures.1
    (refusal_given tasks c.args.store.now.rows c.args.store.now.keys c.args.task (signed_by task c.in_ok-sig.sig) c.args.tree c.args.manifest.now f at c.requires.listed c.in_err-publish_open.ensures.refused)

pub returns-in_err-publish_open-clause-steady : goal.returns-in_err-publish_open-clause-steady
returns-in_err-publish_open-clause-steady g c agrees =
    let tasks = c.args.plan.now.tasks in
    let task = c.index-as_slice-task.result in
    let at = indexed tasks c.as_slice.result.now c.args.task task c.as_slice.ensures c.requires.task c.index-as_slice-task.is in
    let x = signed_at c.args.store.now.rows tasks c.args.task c.requires.task in
    let same = known_signature c.args.plan.now c.args.store.now.rows c.args.replan.now c.args.task task c.in_ok-sig.sig x.0 c.requires.sound at c.requires.current c.in_ok-sig.ensures.known c.in_ok-sig.ensures.is x.1 in
    let agreed = subst (λ (y : Signed). IsAgreed c.args.store.now.rows y c.args.tree) same (agrees c.in_ok-sig.ensures.known x.0 x.1) in
    let f = c.in_err-publish_open.field-0.0 in
    handed_on c.from_residual-in_err-publish_open.result f IsSteadyAnswer c.from_residual-in_err-publish_open.ensures.1
    (refusal_steady c.args.store.now.rows c.args.store.now.keys (signed_by task c.in_ok-sig.sig) c.args.tree f agreed c.in_err-publish_open.ensures.refused)

pub returns-in_err-publish_open-clause-may : goal.returns-in_err-publish_open-clause-may
returns-in_err-publish_open-clause-may g c =
    let tasks = c.args.plan.now.tasks in
    let task = c.index-as_slice-task.result in
    let at = indexed tasks c.as_slice.result.now c.args.task task c.as_slice.ensures c.requires.task c.index-as_slice-task.is in
    let closed : opened_at c.args.store.now.opened (task_folder task) ≡ _ = none_there (opened_at c.args.store.now.opened (task_folder task)) (sym c.is_open.ensures ∙ c.if-is_open.false) in
    or_own (λ (s : Signed). MayOpen c.args.store.now.rows c.args.store.now.opened s c.args.tree) c.args.store.now.rows tasks c.args.task (signed_by task c.in_ok-sig.sig) (λ (s : Signed) (here : IsSignedAt c.args.store.now.rows tasks c.args.task s). known_signature c.args.plan.now c.args.store.now.rows c.args.replan.now c.args.task task c.in_ok-sig.sig s
    c.requires.sound at c.requires.current c.in_ok-sig.ensures.known c.in_ok-sig.ensures.is here)
    (touched_so c.args.store.now c.publish_open.new.self (signed_by task c.in_ok-sig.sig) c.args.tree c.publish_open.ensures.apart closed c.publish_open.ensures.readable)

pub returns-in_err-publish_open-clause-publishing : goal.returns-in_err-publish_open-clause-publishing
returns-in_err-publish_open-clause-publishing g c tells s is =
    let tasks = c.args.plan.now.tasks in
    let task = c.index-as_slice-task.result in
    let at = indexed tasks c.as_slice.result.now c.args.task task c.as_slice.ensures c.requires.task c.index-as_slice-task.is in
    subst (λ (x : Signed). Passes (g.D.Disk.story c.args.store.now.disk) (g.D.Disk.story c.publish_open.new.self.disk) (IsPublishing (first_publication c.args.store.now.keys c.args.store.now.rows x c.args.tree) (g.D.Disk.story c.args.store.now.disk).held)) (sym (known_signature c.args.plan.now c.args.store.now.rows c.args.replan.now c.args.task task c.in_ok-sig.sig s c.requires.sound
    at c.requires.current c.in_ok-sig.ensures.known c.in_ok-sig.ensures.is is))
    (c.publish_open.ensures.publishing tells)

pub returns-then-branch-clause-opens : goal.returns-then-branch-clause-opens
returns-then-branch-clause-opens g c s is =
    let tasks = c.args.plan.now.tasks in
    let task = c.index-as_slice-task.result in
    let at = indexed tasks c.as_slice.result.now c.args.task task c.as_slice.ensures c.requires.task c.index-as_slice-task.is in
    let opens = subst (λ (b : Bool). OnTrue b (OpensTask c.args.store.now c.publish_open.new.self (signed_by task c.in_ok-sig.sig) c.args.tree)) c.if-branch.true c.in_ok-publish_open.ensures.opens in
    subst (λ (x : Signed). OpensTask c.args.store.now c.publish_open.new.self x c.args.tree × MayOpen c.args.store.now.rows c.args.store.now.opened x c.args.tree) (sym (known_signature c.args.plan.now c.args.store.now.rows c.args.replan.now c.args.task task c.in_ok-sig.sig s c.requires.sound at c.requires.current c.in_ok-sig.ensures.known c.in_ok-sig.ensures.is is))
    (opens, opens_so c.args.store.now c.publish_open.new.self (signed_by task c.in_ok-sig.sig) c.args.tree c.publish_open.ensures.apart opens)

pub returns-then-branch-clause-may : goal.returns-then-branch-clause-may
returns-then-branch-clause-may g c =
    let tasks = c.args.plan.now.tasks in
    let task = c.index-as_slice-task.result in
    let at = indexed tasks c.as_slice.result.now c.args.task task c.as_slice.ensures c.requires.task c.index-as_slice-task.is in
    let opens = subst (λ (b : Bool). OnTrue b (OpensTask c.args.store.now c.publish_open.new.self (signed_by task c.in_ok-sig.sig) c.args.tree)) c.if-branch.true c.in_ok-publish_open.ensures.opens in
    or_own (λ (s : Signed). MayOpen c.args.store.now.rows c.args.store.now.opened s c.args.tree) c.args.store.now.rows tasks c.args.task (signed_by task c.in_ok-sig.sig) (λ (s : Signed) (here : IsSignedAt c.args.store.now.rows tasks c.args.task s). known_signature c.args.plan.now c.args.store.now.rows c.args.replan.now c.args.task task c.in_ok-sig.sig s
    c.requires.sound at c.requires.current c.in_ok-sig.ensures.known c.in_ok-sig.ensures.is here)
    (inr (opens_so c.args.store.now c.publish_open.new.self (signed_by task c.in_ok-sig.sig) c.args.tree c.publish_open.ensures.apart opens))

pub returns-then-branch-clause-publishing : goal.returns-then-branch-clause-publishing
returns-then-branch-clause-publishing g c tells s is =
    let tasks = c.args.plan.now.tasks in
    let task = c.index-as_slice-task.result in
    let at = indexed tasks c.as_slice.result.now c.args.task task c.as_slice.ensures c.requires.task c.index-as_slice-task.is in
    subst (λ (x : Signed). Passes (g.D.Disk.story c.args.store.now.disk) (g.D.Disk.story c.publish_open.new.self.disk) (IsPublishing (first_publication c.args.store.now.keys c.args.store.now.rows x c.args.tree) (g.D.Disk.story c.args.store.now.disk).held)) (sym (known_signature c.args.plan.now c.args.store.now.rows c.args.replan.now c.args.task task c.in_ok-sig.sig s c.requires.sound
    at c.requires.current c.in_ok-sig.ensures.known c.in_ok-sig.ensures.is is))
    (c.publish_open.ensures.publishing tells)

pub returns-in_err-publish_open-clause-new_key : goal.returns-in_err-publish_open-clause-new_key
returns-in_err-publish_open-clause-new_key g c =
    let tasks = c.args.plan.now.tasks in
    let task = c.index-as_slice-task.result in
    let at = indexed tasks c.as_slice.result.now c.args.task task c.as_slice.ensures c.requires.task c.index-as_slice-task.is in
    inr (λ s is new. subst (λ (x : Signed). HasNewKey c.args.store.now.rows c.args.store.now.opened x.sig)
    (sym (known_signature c.args.plan.now c.args.store.now.rows c.args.replan.now c.args.task task c.in_ok-sig.sig s c.requires.sound at c.requires.current c.in_ok-sig.ensures.known c.in_ok-sig.ensures.is is))
    (c.publish_open.ensures.new_key (subst (λ (x : Signed). is_new_key c.args.store.now.keys x.sig ≡ true)
    (known_signature c.args.plan.now c.args.store.now.rows c.args.replan.now c.args.task task c.in_ok-sig.sig s c.requires.sound at c.requires.current c.in_ok-sig.ensures.known c.in_ok-sig.ensures.is is) new)))

pub returns-then-branch-clause-new_key : goal.returns-then-branch-clause-new_key
returns-then-branch-clause-new_key g c =
    let tasks = c.args.plan.now.tasks in
    let task = c.index-as_slice-task.result in
    let at = indexed tasks c.as_slice.result.now c.args.task task c.as_slice.ensures c.requires.task c.index-as_slice-task.is in
    inr (λ s is new. subst (λ (x : Signed). HasNewKey c.args.store.now.rows c.args.store.now.opened x.sig)
    (sym (known_signature c.args.plan.now c.args.store.now.rows c.args.replan.now c.args.task task c.in_ok-sig.sig s c.requires.sound at c.requires.current c.in_ok-sig.ensures.known c.in_ok-sig.ensures.is is))
    (c.publish_open.ensures.new_key (subst (λ (x : Signed). is_new_key c.args.store.now.keys x.sig ≡ true)
    (known_signature c.args.plan.now c.args.store.now.rows c.args.replan.now c.args.task task c.in_ok-sig.sig s c.requires.sound at c.requires.current c.in_ok-sig.ensures.known c.in_ok-sig.ensures.is is) new)))
