use Rattle.std.proofs.Common.{Option, subst}
use Rattle.build_store.specs.declared.fault.StoreFault.{StoreFault}
use Rattle.run_queue.specs.Asking.{Asks}
use Rattle.run_queue.proofs.Asked.{settled_asked, unknown_by}
use Rattle.run_queue.proofs.probe.ask_changed.Goals as goal

pub settled-requires-clause-settled : goal.settled-requires-clause-settled
settled-requires-clause-settled g c =
    let v = c.args.asking.now in
    settled_asked g.E.Before.earlier g.D.Disk.tells (g.D.Disk.story v.store.now.disk).held v.store.now.rows v.setscene v.begun.now c.args.plan.now v.plan.now c.args.task c.args.known.now c.requires.earlier c.requires.plan c.requires.settled

pub returns-clause-refused : goal.returns-clause-refused
returns-clause-refused g c =
    let v = c.args.asking.now.store.now in
    let w = c.settled.new.probe.store.now in
    unknown_by c.args.asking.now.plan.now g.D.Disk.tells g.D.Disk.story g.D.Disk.faults v w c.settled.new.probe.fault.now
    (subst (λ (f : Option StoreFault). Asks c.args.asking.now.plan.now g.D.Disk.tells g.D.Disk.story g.D.Disk.faults v w f c.settled.new.probe.fault.now) c.requires.fault c.settled.ensures.stays.5)
