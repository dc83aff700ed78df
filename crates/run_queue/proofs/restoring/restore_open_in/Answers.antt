use Rattle.std.proofs.Common.{sym, subst}
use Rattle.store_model.specs.Signatures.{Signed}
use Rattle.build_store.specs.Openings.{OpensRestoring}
use Rattle.build_store.specs.Publication.{HasNoObject}
use Rattle.build_store.specs.View.{signed_by}
use Rattle.run_queue.specs.Puts.{IsSignedAt, PutsObject}
use Rattle.run_queue.proofs.OwnSignature.{false_own, indexed, known_is, known_signature, opens_faultless, restore_cause, true_own}
use Rattle.setscene_plan.proofs.Naming.{signed_at}
use Rattle.run_queue.proofs.Placing.{has_place}
use Rattle.run_queue.proofs.restoring.restore_open_in.Goals as goal

pub restore_open-requires-clause-place : goal.restore_open-requires-clause-place
restore_open-requires-clause-place g c =
    let tasks = c.args.plan.now.tasks in
    has_place c.args.plan.now c.args.task c.index-as_slice-task.result c.requires.sound (indexed tasks c.as_slice.result.now c.args.task c.index-as_slice-task.result c.as_slice.ensures c.requires.task c.index-as_slice-task.is)

pub restore_open-requires-clause-sig : goal.restore_open-requires-clause-sig
restore_open-requires-clause-sig g c =
    let tasks = c.args.plan.now.tasks in
    let task = c.index-as_slice-task.result in
    let at = indexed tasks c.as_slice.result.now c.args.task task c.as_slice.ensures c.requires.task c.index-as_slice-task.is in
    (known_is c.args.plan.now c.args.store.now.rows c.args.replan.now c.args.task task c.in_ok-sig.sig c.requires.sound c.requires.task at c.requires.current c.in_ok-sig.ensures.known c.in_ok-sig.ensures.is).0

pub restore_open-requires-clause-named : goal.restore_open-requires-clause-named
restore_open-requires-clause-named g c =
    let tasks = c.args.plan.now.tasks in
    let task = c.index-as_slice-task.result in
    let at = indexed tasks c.as_slice.result.now c.args.task task c.as_slice.ensures c.requires.task c.index-as_slice-task.is in
    (known_is c.args.plan.now c.args.store.now.rows c.args.replan.now c.args.task task c.in_ok-sig.sig c.requires.sound c.requires.task at c.requires.current c.in_ok-sig.ensures.known c.in_ok-sig.ensures.is).1

pub returns-clause-opens : goal.returns-clause-opens
returns-clause-opens g c =
    let tasks = c.args.plan.now.tasks in
    let task = c.index-as_slice-task.result in
    let at = indexed tasks c.as_slice.result.now c.args.task task c.as_slice.ensures c.requires.task c.index-as_slice-task.is in
    true_own c.restore_open.result (OpensRestoring g.D.Disk.tells g.D.Disk.story c.args.store.now c.restore_open.new.self) c.args.store.now.rows tasks c.args.task (signed_by task c.in_ok-sig.sig)
    (λ s is. known_signature c.args.plan.now c.args.store.now.rows c.args.replan.now c.args.task task c.in_ok-sig.sig s c.requires.sound at c.requires.current c.in_ok-sig.ensures.known c.in_ok-sig.ensures.is is)
    c.restore_open.ensures.opens

pub returns-clause-gone : goal.returns-clause-gone
returns-clause-gone g c tells =
    let tasks = c.args.plan.now.tasks in
    let task = c.index-as_slice-task.result in
    let at = indexed tasks c.as_slice.result.now c.args.task task c.as_slice.ensures c.requires.task c.index-as_slice-task.is in
    false_own c.restore_open.result (HasNoObject (g.D.Disk.story c.args.store.now.disk).held c.args.store.now.rows) c.args.store.now.rows tasks c.args.task (signed_by task c.in_ok-sig.sig)
    (λ s is. known_signature c.args.plan.now c.args.store.now.rows c.args.replan.now c.args.task task c.in_ok-sig.sig s c.requires.sound at c.requires.current c.in_ok-sig.ensures.known c.in_ok-sig.ensures.is is)
    (c.restore_open.ensures.gone tells)

pub returns-clause-faultless : goal.returns-clause-faultless
returns-clause-faultless g c =
    let task = c.index-as_slice-task.result in
    opens_faultless g.D.Disk.tells g.D.Disk.story c.args.store.now c.restore_open.new.self (signed_by task c.in_ok-sig.sig) c.restore_open.result c.restore_open.ensures.opens c.restore_open.ensures.unchanged

pub returns-clause-cause : goal.returns-clause-cause
returns-clause-cause g c =
    let plan = c.args.plan.now in
    let rows = c.args.store.now.rows in
    let task = c.index-as_slice-task.result in
    let at = indexed plan.tasks c.as_slice.result.now c.args.task task c.as_slice.ensures c.requires.task c.index-as_slice-task.is in
    let x = signed_at rows plan.tasks c.args.task c.requires.task in
    let same = known_signature plan rows c.args.replan.now c.args.task task c.in_ok-sig.sig x.0 c.requires.sound at c.requires.current c.in_ok-sig.ensures.known c.in_ok-sig.ensures.is x.1 in
    let signed = subst (λ (y : Signed). IsSignedAt rows plan.tasks c.args.task y) same x.1 in
    restore_cause (g.D.Disk.faults c.args.store.now.disk) (g.D.Disk.faults c.restore_open.new.self.disk) plan rows c.restore_open.new.self.rows c.args.task (signed_by task c.in_ok-sig.sig) c.restore_open.result signed c.restore_open.ensures.rows c.requires.unharmed c.restore_open.ensures.cause c.restore_open.ensures.refused

pub returns-clause-puts : goal.returns-clause-puts
returns-clause-puts g c s is =
    let tasks = c.args.plan.now.tasks in
    let task = c.index-as_slice-task.result in
    let at = indexed tasks c.as_slice.result.now c.args.task task c.as_slice.ensures c.requires.task c.index-as_slice-task.is in
    let same = known_signature c.args.plan.now c.args.store.now.rows c.args.replan.now c.args.task task c.in_ok-sig.sig s c.requires.sound at c.requires.current c.in_ok-sig.ensures.known c.in_ok-sig.ensures.is is in
    subst (λ (x : Signed). PutsObject g.D.Disk.tells (g.D.Disk.story c.args.store.now.disk) (g.D.Disk.story c.restore_open.new.self.disk) c.args.store.now.rows x) (sym same)
    (record { images = c.restore_open.ensures.images; others = c.restore_open.ensures.others })
