use Rattle.std.proofs.Common.{Option, subst}
use Rattle.build_store.specs.declared.fault.StoreFault.{StoreFault}
use Rattle.run_queue.specs.Asking.{Asks}
use Rattle.run_queue.proofs.Asked.{first_current, unknown_by}
use Rattle.run_queue.proofs.probe.ask_all.Goals as goal

pub returns-clause-refused : goal.returns-clause-refused
returns-clause-refused g c =
    let v = c.args.asking.now.store.now in
    let w = c.new.new.probe.store.now in
    unknown_by c.args.asking.now.plan.now g.D.Disk.tells g.D.Disk.story g.D.Disk.faults v w c.new.new.probe.fault.now
    (subst (λ (f : Option StoreFault). Asks c.args.asking.now.plan.now g.D.Disk.tells g.D.Disk.story g.D.Disk.faults v w f c.new.new.probe.fault.now) c.requires.fault c.new.ensures.stays.5)

pub returns-clause-current : goal.returns-clause-current
returns-clause-current g c =
    let v = c.args.asking.now in
    first_current g.D.Disk.tells (g.D.Disk.story v.store.now.disk).held v.store.now.rows v.setscene v.begun.now c.args.plan.now v.plan.now c.new.result c.requires.plan c.new.ensures.current
