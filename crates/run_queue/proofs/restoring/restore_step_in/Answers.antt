use Rattle.std.proofs.Common.{◌≡◌, sym, subst, ◌⊎◌}
use Rattle.outside_traits.specs.Passes.{Passes}
use Rattle.meta_model.specs.CleanBuild.{Entries}
use Rattle.store_model.specs.Signatures.{Signed}
use Rattle.build_store.specs.declared.step.Step.{Step}
use Rattle.build_store.specs.Openings.{IsOpen, LandsOn, StepsTo}
use Rattle.build_store.specs.Pieces.{IsPublishing}
use Rattle.build_store.specs.Publication.{publication}
use Rattle.build_store.specs.View.{signed_by, unshared}
use Rattle.run_queue.specs.Puts.{IsSignedAt}
use Rattle.run_queue.proofs.Openable.{for_own}
use Rattle.run_queue.proofs.OwnSignature.{indexed, known_is, known_signature, rows_by_result, steps_faultless, stored_name}
use Rattle.run_queue.proofs.Placing.{has_place}
use Rattle.run_queue.proofs.restoring.restore_step_in.Goals as goal

pub restore_step-requires-clause-place : goal.restore_step-requires-clause-place
restore_step-requires-clause-place g c =
    let tasks = c.args.plan.now.tasks in
    has_place c.args.plan.now c.args.task c.index-as_slice-task.result c.requires.sound (indexed tasks c.as_slice.result.now c.args.task c.index-as_slice-task.result c.as_slice.ensures c.requires.task c.index-as_slice-task.is)

pub restore_step-requires-clause-sig : goal.restore_step-requires-clause-sig
restore_step-requires-clause-sig g c =
    let tasks = c.args.plan.now.tasks in
    let task = c.index-as_slice-task.result in
    let at = indexed tasks c.as_slice.result.now c.args.task task c.as_slice.ensures c.requires.task c.index-as_slice-task.is in
    (known_is c.args.plan.now c.args.store.now.rows c.args.replan.now c.args.task task c.in_ok-sig.sig c.requires.sound c.requires.task at c.requires.current c.in_ok-sig.ensures.known c.in_ok-sig.ensures.is).0

pub restore_step-requires-clause-named : goal.restore_step-requires-clause-named
restore_step-requires-clause-named g c =
    let tasks = c.args.plan.now.tasks in
    let task = c.index-as_slice-task.result in
    let at = indexed tasks c.as_slice.result.now c.args.task task c.as_slice.ensures c.requires.task c.index-as_slice-task.is in
    (known_is c.args.plan.now c.args.store.now.rows c.args.replan.now c.args.task task c.in_ok-sig.sig c.requires.sound c.requires.task at c.requires.current c.in_ok-sig.ensures.known c.in_ok-sig.ensures.is).1

pub returns-clause-steps : goal.returns-clause-steps
returns-clause-steps g c =
    let tasks = c.args.plan.now.tasks in
    let task = c.index-as_slice-task.result in
    let at = indexed tasks c.as_slice.result.now c.args.task task c.as_slice.ensures c.requires.task c.index-as_slice-task.is in
    for_own c.restore_step.result (λ (s : Signed) (step : Step). StepsTo c.args.store.now c.restore_step.new.self (unshared s) step) c.args.store.now.rows tasks c.args.task (signed_by task c.in_ok-sig.sig) (λ (s : Signed) (here : IsSignedAt c.args.store.now.rows tasks c.args.task s). known_signature c.args.plan.now c.args.store.now.rows c.args.replan.now c.args.task
    task c.in_ok-sig.sig s c.requires.sound at c.requires.current c.in_ok-sig.ensures.known c.in_ok-sig.ensures.is here)
    c.restore_step.ensures.steps

pub returns-clause-published : goal.returns-clause-published
returns-clause-published g c tells =
    let tasks = c.args.plan.now.tasks in
    let task = c.index-as_slice-task.result in
    let at = indexed tasks c.as_slice.result.now c.args.task task c.as_slice.ensures c.requires.task c.index-as_slice-task.is in
    for_own c.restore_step.result (λ (s : Signed) (step : Step). LandsOn (g.D.Disk.story c.restore_step.new.self.disk) c.args.store.now.rows c.args.store.now.opened (unshared s) step) c.args.store.now.rows tasks c.args.task (signed_by task c.in_ok-sig.sig) (λ (s : Signed) (here : IsSignedAt c.args.store.now.rows tasks c.args.task s). known_signature c.args.plan.now
    c.args.store.now.rows c.args.replan.now c.args.task task c.in_ok-sig.sig s c.requires.sound at c.requires.current c.in_ok-sig.ensures.known c.in_ok-sig.ensures.is here)
    (c.restore_step.ensures.published tells)

pub returns-clause-touched : goal.returns-clause-touched
returns-clause-touched g c s is =
    let tasks = c.args.plan.now.tasks in
    let task = c.index-as_slice-task.result in
    let at = indexed tasks c.as_slice.result.now c.args.task task c.as_slice.ensures c.requires.task c.index-as_slice-task.is in
    subst (λ (x : Signed). (c.restore_step.new.self ≡ c.args.store.now) ⊎ ((tree : Entries) × IsOpen c.args.store.now.opened (unshared x) tree)) (sym (known_signature c.args.plan.now c.args.store.now.rows c.args.replan.now c.args.task task c.in_ok-sig.sig s c.requires.sound at c.requires.current c.in_ok-sig.ensures.known c.in_ok-sig.ensures.is is)) c.restore_step.ensures.touched

pub returns-clause-publishing : goal.returns-clause-publishing
returns-clause-publishing g c tells s is =
    let tasks = c.args.plan.now.tasks in
    let task = c.index-as_slice-task.result in
    let at = indexed tasks c.as_slice.result.now c.args.task task c.as_slice.ensures c.requires.task c.index-as_slice-task.is in
    subst (λ (x : Signed). (tree : Entries) → IsOpen c.args.store.now.opened (unshared x) tree → Passes (g.D.Disk.story c.args.store.now.disk) (g.D.Disk.story c.restore_step.new.self.disk) (IsPublishing (publication c.args.store.now.rows (unshared x) tree) (g.D.Disk.story c.args.store.now.disk).held)) (sym (known_signature c.args.plan.now c.args.store.now.rows c.args.replan.now
    c.args.task task c.in_ok-sig.sig s c.requires.sound at c.requires.current c.in_ok-sig.ensures.known c.in_ok-sig.ensures.is is))
    (c.restore_step.ensures.publishing tells)

pub returns-clause-rows : goal.returns-clause-rows
returns-clause-rows g c =
    let tasks = c.args.plan.now.tasks in
    let task = c.index-as_slice-task.result in
    let at = indexed tasks c.as_slice.result.now c.args.task task c.as_slice.ensures c.requires.task c.index-as_slice-task.is in
    rows_by_result c.args.store.now c.restore_step.new.self (signed_by task c.in_ok-sig.sig) c.restore_step.result c.restore_step.ensures.steps c.restore_step.ensures.refused_rows
    (stored_name c.args.plan.now c.args.store.now.rows c.args.replan.now c.args.task task c.in_ok-sig.sig at c.requires.current c.in_ok-sig.ensures.known c.in_ok-sig.ensures.is (c.is_stored.ensures c.if-not-is_stored.false))

pub returns-clause-faultless : goal.returns-clause-faultless
returns-clause-faultless g c = steps_faultless c.args.store.now c.restore_step.new.self (signed_by c.index-as_slice-task.result c.in_ok-sig.sig) c.restore_step.result c.restore_step.ensures.steps
