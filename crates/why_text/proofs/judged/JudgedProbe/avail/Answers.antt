use Rattle.std.proofs.Common.{◌∙◌, List, sym, subst, refl}
use Rattle.store_model.specs.declared.signature.EquivRow.{EquivRow}
use Rattle.build_store.specs.Faults.{IsClash}
use Rattle.store_model.specs.Spelling.{name_of, signature_bytes}
use Rattle.why_text.proofs.Looking.{asked_name, clash_met, looks_met, none_kept}
use Rattle.why_text.proofs.judged.JudgedProbe.avail.Goals as goal

pub returns-in-Err-clause-stays : goal.returns-in-Err-clause-stays
returns-in-Err-clause-stays g c =
    let v = c.args.self.now in
    let now = c.available.new.disk in
    let why = clash_met v.plan.now v.rows (name_of c.args.sig.now) (signature_bytes c.args.sig.now) (g.D.Disk.faults v.disk) (g.D.Disk.faults now) c.in-Err.fault
    (asked_name v.plan.now v.rows c.args.task c.args.sig.now c.requires.sig) (subst (λ (rs : List EquivRow). IsClash rs (name_of c.args.sig.now) (signature_bytes c.args.sig.now) c.in-Err.fault) c.index.ensures.index c.in-Err.ensures.refused) c.in-Err.ensures.cause in
    (refl, refl, refl, looks_met v.plan.now v.rows g.D.Disk.tells g.D.Disk.story g.D.Disk.faults v.disk now v.fault c.keep.new.kept c.in-Err.fault c.keep.result c.in-Err.ensures.others (none_kept v.fault (sym c.is_some.ensures ∙ c.if-is_some.false)) why c.keep.ensures)
