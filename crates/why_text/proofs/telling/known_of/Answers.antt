use Rattle.std.proofs.Common.{◌∙◌, ap, sym, subst, Option, None}
use Rattle.std.specs.Prelude.{unwrap_or}
use Rattle.outside_traits.specs.Fault.{Counts}
use Rattle.meta_model.specs.declared.plan.Plan.{Plan}
use Rattle.build_store.specs.Faults.{is_disk_fault}
use Rattle.build_store.specs.declared.fault.StoreFault.{StoreFault}
use Rattle.build_store.specs.declared.fault.StoreFault.TheVariants as fault_of
use Rattle.why_text.specs.Looks.{IsWhyFault, Looks}
use Rattle.why_text.proofs.Looking.{counts_by, fault_by}
use Rattle.why_text.proofs.telling.known_of.Goals as goal

pub returns-in-Err-clause-refused : goal.returns-in-Err-clause-refused
returns-in-Err-clause-refused g c =
    let v = c.args.judged.now in
    let w = c.new.new.probe in
    let looks : Looks v.plan.now v.rows g.D.Disk.tells g.D.Disk.story g.D.Disk.faults v.disk w.disk None w.fault = subst (λ (f : Option StoreFault). Looks v.plan.now v.rows g.D.Disk.tells g.D.Disk.story g.D.Disk.faults v.disk w.disk f w.fault) c.requires.fault c.new.ensures.stays.3 in
    subst (λ (p : Plan). IsWhyFault p c.unwrap_or.result) c.requires.plan
    (subst (λ (f : StoreFault). IsWhyFault v.plan.now f) (sym (c.unwrap_or.ensures ∙ ap (λ (o : Option StoreFault). unwrap_or o fault_of.Memory) c.take.ensures.value)) (fault_by v.plan.now v.rows g.D.Disk.tells g.D.Disk.story g.D.Disk.faults v.disk w.disk w.fault looks))

pub returns-in-Err-clause-cause : goal.returns-in-Err-clause-cause
returns-in-Err-clause-cause g c =
    let v = c.args.judged.now in
    let w = c.new.new.probe in
    let looks : Looks v.plan.now v.rows g.D.Disk.tells g.D.Disk.story g.D.Disk.faults v.disk w.disk None w.fault = subst (λ (f : Option StoreFault). Looks v.plan.now v.rows g.D.Disk.tells g.D.Disk.story g.D.Disk.faults v.disk w.disk f w.fault) c.requires.fault c.new.ensures.stays.3 in
    subst (λ (f : StoreFault). Counts (g.D.Disk.faults v.disk) (g.D.Disk.faults w.disk) (is_disk_fault f)) (sym (c.unwrap_or.ensures ∙ ap (λ (o : Option StoreFault). unwrap_or o fault_of.Memory) c.take.ensures.value)) (counts_by v.plan.now v.rows g.D.Disk.tells g.D.Disk.story g.D.Disk.faults v.disk w.disk w.fault looks)
