use Rattle.std.proofs.Common.{refl}
use Rattle.run_queue.proofs.Asked.{asks_met, clash_unknown, counts_none, named_text}
use Rattle.run_queue.specs.AskingLaws.{same_story}
use Rattle.run_queue.proofs.probe.AskingProbe.compare.Goals as goal

pub compare-requires : goal.compare-requires
compare-requires g c = record { named = named_text c.args.self.now.plan.now c.args.self.now.store.now.rows c.args.name.now c.args.sig.now c.requires }

pub returns-in-Err-clause-stays : goal.returns-in-Err-clause-stays
returns-in-Err-clause-stays g c =
    let v = c.args.self.now.store.now in
    let count = g.D.Disk.faults v.disk in
    let why = clash_unknown c.args.self.now.plan.now v.rows c.args.name.now c.args.sig.now count count c.in-Err.fault c.requires c.in-Err.ensures.refused (counts_none count c.in-Err.fault c.in-Err.ensures.inside) in
    (refl, refl, refl, refl, refl, asks_met c.args.self.now.plan.now g.D.Disk.tells g.D.Disk.story g.D.Disk.faults v v c.args.self.now.fault.now c.keep.new.kept c.in-Err.fault c.keep.result (record { rows = refl; keys = refl; kept = refl; opened = refl; faultless = refl }) (λ t. same_story (g.D.Disk.story v.disk)) c.in-None.is why c.keep.ensures)
