use Rattle.std.proofs.Common.{rules, ◌≡◌, ◌∙◌, ap, ◌≤◌, ◌+◌, suc, drop}
use Rattle.std.proofs.lemmas.Result.{err_from_is_err_and}
use Rattle.meta_model.specs.Parts.{end, depth}
use Rattle.meta_model.specs.Expansion.{values_by}
use Rattle.var_expand.specs.Pieces.{part_before, parts_in, parts_in_list}
use Rattle.meta_model.specs.References.{noted}
use Rattle.var_expand.proofs.Expanding.{fault_same, ref_depth, part_depth, cut_part}
use Rattle.var_expand.proofs.Noting.{part_next, part_fault, part_plain, ref_ok, ref_err, call_ok, call_err}
use Rattle.var_expand.proofs.names.+noting.Goals as goal

pub note_parts-note_part-requires : goal.note_parts-note_part-requires
note_parts-note_part-requires g t c κs within =
    let e : depth (part_before c.part-item.result end) ≤ depth (parts_in c.args.parts.now) =
    part_depth c.deref-part-items.result.now c.args.parts.now.list.items c.loop-part.part-index c.part-item.result c.part-item.is c.loop-part-test.true c.deref-part-items.ensures.value in
    search rules

pub note_part-note_reference-requires : goal.note_part-note_reference-requires
note_part-note_reference-requires g t c κs within =
    let e : depth (part_before c.args.part.now end) ≡ suc (depth (parts_in c.in-Ref.name)) = ref_depth c.args.part.now c.in-Ref.name c.in-Ref.is in
    search rules

pub note_parts-returns-in_err-note_part-clause-err : goal.note_parts-returns-in_err-note_part-clause-err
note_parts-returns-in_err-note_part-clause-err g t c =
    let values = values_by (g.L.Lookup.finds c.args.from.now) in
    let after = parts_in_list (drop (c.loop-part.part-index + 1) c.deref-part-items.result.now) in
    let cut = cut_part c.deref-part-items.result.now c.loop-part.part-index c.part-item.result c.part-item.is c.loop-part-test.true in
    let fault = c.in_err-note_part.field-0.0 in
    let p = err_from_is_err_and c.from_residual.result c.from_residual.ensures.1 in
    rw (p.1, p.2) (fault_same fault (noted values (parts_in c.args.parts.now) c.args.names.now.items) (noted values (part_before c.part-item.result after) c.loop-part.names.items)
    (c.loop-part.invariant ∙ ap (λ q. noted values q c.loop-part.names.items) cut)
    (part_fault values c.part-item.result after c.loop-part.names.items fault c.in_err-note_part.ensures.err))

pub note_parts-loop-part-preserved : goal.note_parts-loop-part-preserved
note_parts-loop-part-preserved g t c =
    let values = values_by (g.L.Lookup.finds c.args.from.now) in
    let after = parts_in_list (drop (c.loop-part.part-index + 1) c.deref-part-items.result.now) in
    let cut = cut_part c.deref-part-items.result.now c.loop-part.part-index c.part-item.result c.part-item.is c.loop-part-test.true in
    c.loop-part.invariant ∙ ap (λ q. noted values q c.loop-part.names.items) cut ∙ part_next values c.part-item.result after c.loop-part.names.items c.note_part.new.names.items c.in_ok-note_part.ensures.ok

pub note_part-returns-in-Plain-clause-ok : goal.note_part-returns-in-Plain-clause-ok
note_part-returns-in-Plain-clause-ok g t c = part_plain (values_by (g.L.Lookup.finds c.args.from.now)) c.args.part.now c.in-Plain.field-0 c.args.names.now.items c.in-Plain.is

pub note_part-returns-in-Ref-clause-ok : goal.note_part-returns-in-Ref-clause-ok
note_part-returns-in-Ref-clause-ok g t c =
    ref_ok (values_by (g.L.Lookup.finds c.args.from.now)) c.args.part.now c.in-Ref.name c.args.names.now.items c.note_reference.new.names.items c.note_reference.result c.in-Ref.is c.note_reference.ensures.ok

pub note_part-returns-in-Ref-clause-err : goal.note_part-returns-in-Ref-clause-err
note_part-returns-in-Ref-clause-err g t c =
    ref_err (values_by (g.L.Lookup.finds c.args.from.now)) c.args.part.now c.in-Ref.name c.args.names.now.items c.note_reference.result c.in-Ref.is c.note_reference.ensures.err

pub note_part-returns-in-Call-clause-ok : goal.note_part-returns-in-Call-clause-ok
note_part-returns-in-Call-clause-ok g t c = call_ok (values_by (g.L.Lookup.finds c.args.from.now)) c.args.part.now c.in-Call.form c.args.names.now.items c.note_form.new.names.items c.note_form.result c.in-Call.is c.note_form.ensures.ok

pub note_part-returns-in-Call-clause-err : goal.note_part-returns-in-Call-clause-err
note_part-returns-in-Call-clause-err g t c = call_err (values_by (g.L.Lookup.finds c.args.from.now)) c.args.part.now c.args.names.now.items c.note_form.result c.note_form.ensures.err
