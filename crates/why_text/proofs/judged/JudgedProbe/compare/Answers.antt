use Rattle.std.proofs.Common.{◌∙◌, List, sym, subst, refl}
use Rattle.store_model.specs.declared.signature.EquivRow.{EquivRow}
use Rattle.build_store.specs.Faults.{IsClash}
use Rattle.why_text.specs.LookLaws.{same_story}
use Rattle.why_text.proofs.Looking.{clash_met, counts_none, looks_met, named_text, none_kept}
use Rattle.why_text.proofs.judged.JudgedProbe.compare.Goals as goal

pub compare_at-requires-clause-named : goal.compare_at-requires-clause-named
compare_at-requires-clause-named g c = named_text c.args.self.now.plan.now c.args.self.now.rows c.args.name.now c.args.sig.now c.requires

pub returns-in-Err-clause-stays : goal.returns-in-Err-clause-stays
returns-in-Err-clause-stays g c =
    let v = c.args.self.now in
    let count = g.D.Disk.faults v.disk in
    let why = clash_met v.plan.now v.rows c.args.name.now c.args.sig.now count count c.in-Err.fault c.requires (subst (λ (rs : List EquivRow). IsClash rs c.args.name.now c.args.sig.now c.in-Err.fault) c.index.ensures.index c.in-Err.ensures.refused) (counts_none count c.in-Err.fault c.in-Err.ensures.inside) in
    (refl, refl, refl, looks_met v.plan.now v.rows g.D.Disk.tells g.D.Disk.story g.D.Disk.faults v.disk v.disk v.fault c.keep.new.kept c.in-Err.fault c.keep.result (λ t. same_story (g.D.Disk.story v.disk)) (none_kept v.fault (sym c.is_some.ensures ∙ c.if-is_some.false)) why c.keep.ensures)
