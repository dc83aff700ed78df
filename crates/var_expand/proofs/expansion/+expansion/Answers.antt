use Rattle.std.proofs.Common.{arith, rules, ◌≡◌, ◌∙◌, ap, sym, subst, ◌≤◌, ◌+◌, ◌-◌, ◌∷◌, [], length, drop, suc, false, Some, None, Ok, codes}
use Rattle.std.proofs.lemmas.Result.{err_from_is_err_and}
use Rattle.meta_model.specs.Text.{holds}
use Rattle.meta_model.specs.Forms.{words_in}
use Rattle.meta_model.specs.Parts.{end, depth}
use Rattle.meta_model.specs.Expansion.{longest, expanded_parts, expanded}
use Rattle.var_expand.specs.Faults.{IsFaultOf}
use Rattle.var_expand.specs.Going.{IsGoing}
use Rattle.var_expand.specs.Pieces.{part_before, parts_in, parts_in_list}
use Rattle.var_expand.specs.Expanding.{known, last_name, part_text, grown}
use Rattle.var_expand.proofs.Expanding.{plain_ok, plain_long, fit_whole, form_is, known_at, told_words, value_words, words_fault, ref_depth, ref_is, grown_fault, value_alone, part_depth, cut_part, fault_same, finish, finish_fault, finish_goes_on, put_ok, put_err, same_ok, same_err}
use Rattle.var_expand.proofs.Growing.{deeper_fault, deeper_going, deeper_grew, deeper_ok, deeper_told, grew_on, put_told}
use Rattle.var_expand.proofs.expansion.+expansion.Goals as goal

pub expand_owned-returns-in_err-fit-clause-err : goal.expand_owned-returns-in_err-fit-clause-err
expand_owned-returns-in_err-fit-clause-err g t c =
    let names = c.args.going.now.within.items in
    let plain : holds (codes "${") c.args.text ≡ false = ap (holds (codes "${")) (sym (c.as_bytes.ensures.value ∙ c.as_str.ensures)) ∙ sym c.holds_opening.ensures ∙ c.if-holds_opening.false in
    let p = err_from_is_err_and c.from_residual.result c.from_residual.ensures.1 in
    rw (p.1, p.2) (plain_long (known (g.L.Lookup.finds c.args.from.now) c.args.left names) (last_name names) c.args.text c.in_err-fit.field-0.0 plain
    (fit_whole c.in_err-fit.field-0.0 names c.as_slice.result.now c.args.text c.as_str-2.result.now c.as_slice.ensures.value c.as_str-2.ensures c.in_err-fit.ensures.err))

pub expand_owned-returns-clause-ok : goal.expand_owned-returns-clause-ok
expand_owned-returns-clause-ok g t c =
    let names = c.args.going.now.within.items in
    let plain : holds (codes "${") c.args.text ≡ false = ap (holds (codes "${")) (sym (c.as_bytes.ensures.value ∙ c.as_str.ensures)) ∙ sym c.holds_opening.ensures ∙ c.if-holds_opening.false in
    plain_ok (known (g.L.Lookup.finds c.args.from.now) c.args.left names) (last_name names) c.args.text plain (subst (λ s. length s ≤ longest) c.as_str-2.ensures c.in_ok-fit.ensures.ok)

pub expand_part-expand_reference-requires : goal.expand_part-expand_reference-requires
expand_part-expand_reference-requires g t c κs within =
    let e : depth (part_before c.args.part.now end) ≡ suc (depth (parts_in c.in-Ref.name)) = ref_depth c.args.part.now c.in-Ref.name c.in-Ref.is in
    search rules

pub expand_part-returns-in_err-piece-in-Ref-clause-err : goal.expand_part-returns-in_err-piece-in-Ref-clause-err
expand_part-returns-in_err-piece-in-Ref-clause-err g t c =
    let names = c.args.going.now.within.items in
    let values = known (g.L.Lookup.finds c.args.from.now) c.args.left names in
    let p = err_from_is_err_and c.from_residual.result c.from_residual.ensures.1 in
    rw (p.1, p.2) (grown_fault values (last_name names) c.args.part.now c.args.out.now c.in_err-piece-in-Ref.field-0.0
    (subst (IsFaultOf c.in_err-piece-in-Ref.field-0.0) (sym (ref_is values (last_name names) c.args.part.now c.in-Ref.name c.in-Ref.is)) c.in_err-piece-in-Ref.ensures.err))

pub expand_parts-expand_part-requires : goal.expand_parts-expand_part-requires
expand_parts-expand_part-requires g t c κs within =
    let e : depth (part_before c.part-item.result end) ≤ depth (parts_in c.args.parts.now) =
    part_depth c.deref-part-items.result.now c.args.parts.now.list.items c.loop-part.part-index c.part-item.result c.part-item.is c.loop-part-test.true c.deref-part-items.ensures.value in
    search rules

pub expand_parts-returns-in_err-expand_part-clause-err : goal.expand_parts-returns-in_err-expand_part-clause-err
expand_parts-returns-in_err-expand_part-clause-err g t c =
    let names = c.args.going.now.within.items in
    let finds = g.L.Lookup.finds c.args.from.now in
    let values = known finds c.args.left names in
    let after = parts_in_list (drop (c.loop-part.part-index + 1) c.deref-part-items.result.now) in
    let cut = cut_part c.deref-part-items.result.now c.loop-part.part-index c.part-item.result c.part-item.is c.loop-part-test.true in
    let fault = c.in_err-expand_part.field-0.0 in
    let p = err_from_is_err_and c.from_residual.result c.from_residual.ensures.1 in
    rw (p.1, p.2) (fault_same fault (expanded_parts values (last_name names) (parts_in c.args.parts.now) longest) (finish values (last_name names) c.loop-part.out (part_before c.part-item.result after))
    (c.loop-part.invariant.2 ∙ ap (finish values (last_name names) c.loop-part.out) cut)
    (finish_fault values (last_name names) c.part-item.result after c.loop-part.out fault
    (subst (λ w. IsFaultOf fault (grown (known finds c.args.left w) (last_name w) c.part-item.result c.loop-part.out)) c.loop-part.invariant.1 c.in_err-expand_part.ensures.err)))

pub expand_parts-loop-part-preserved : goal.expand_parts-loop-part-preserved
expand_parts-loop-part-preserved g t c =
    let names = c.args.going.now.within.items in
    let finds = g.L.Lookup.finds c.args.from.now in
    let values = known finds c.args.left names in
    let after = parts_in_list (drop (c.loop-part.part-index + 1) c.deref-part-items.result.now) in
    let cut = cut_part c.deref-part-items.result.now c.loop-part.part-index c.part-item.result c.part-item.is c.loop-part-test.true in
    let grew = c.in_ok-expand_part.ensures.grew in (
      c.in_ok-expand_part.ensures.room,
      c.in_ok-expand_part.ensures.same ∙ c.loop-part.invariant.1,
      c.loop-part.invariant.2 ∙ ap (finish values (last_name names) c.loop-part.out) cut
          ∙ finish_goes_on values (last_name names) c.part-item.result after c.loop-part.out c.expand_part.new.out
          (subst (λ w. grown (known finds c.args.left w) (last_name w) c.part-item.result c.loop-part.out ≡ Ok c.expand_part.new.out) c.loop-part.invariant.1 c.in_ok-expand_part.ensures.ok),
      grew_on finds c.args.left c.args.going.now c.loop-part.going c.expand_part.new.going c.loop-part.invariant.1 c.loop-part.invariant.3 grew,
      λ v telling tells. c.loop-part.invariant.4 v telling (grew.tells v tells) ∙ ap (finish v (last_name names) c.loop-part.out) cut
          ∙ finish_goes_on v (last_name names) c.part-item.result after c.loop-part.out c.expand_part.new.out
          (subst (λ w. grown v (last_name w) c.part-item.result c.loop-part.out ≡ Ok c.expand_part.new.out) c.loop-part.invariant.1 (c.in_ok-expand_part.ensures.told v telling tells)),
    )

pub expand_value-returns-then-is_empty-clause-ok : goal.expand_value-returns-then-is_empty-clause-ok
expand_value-returns-then-is_empty-clause-ok g t c =
    let names = c.args.going.now.within.items in
    value_alone (known (g.L.Lookup.finds c.args.from.now) c.args.left names) (last_name names) c.args.found c.in_ok-value.value c.in_ok-value.ensures.ok
    (c.is_empty.ensures.0 c.if-is_empty.true)

pub expand_part-returns-in-Plain-clause-ok : goal.expand_part-returns-in-Plain-clause-ok
expand_part-returns-in-Plain-clause-ok g t c =
    let names = c.args.going.now.within.items in
    let values = known (g.L.Lookup.finds c.args.from.now) c.args.left names in
    put_ok values (last_name names) c.args.part.now c.args.out.now c.in-Plain.text c.as_str.result.now c.put_piece.new.out c.put_piece.result (ap (part_text values (last_name names)) c.in-Plain.is) c.as_str.ensures c.put_piece.ensures.fits c.put_piece.ensures.ok

pub expand_part-returns-in-Plain-clause-err : goal.expand_part-returns-in-Plain-clause-err
expand_part-returns-in-Plain-clause-err g t c =
    let names = c.args.going.now.within.items in
    let values = known (g.L.Lookup.finds c.args.from.now) c.args.left names in
    put_err values names c.as_slice.result.now c.args.part.now c.args.out.now c.in-Plain.text c.as_str.result.now c.put_piece.result (ap (part_text values (last_name names)) c.in-Plain.is) c.as_slice.ensures.value c.as_str.ensures c.put_piece.ensures.err

pub value_within-returns-in_err-value-clause-err : goal.value_within-returns-in_err-value-clause-err
value_within-returns-in_err-value-clause-err g t c =
    let at = rw c.in-Deeper.is at c.in_ok-made.ensures.ok in
    let fault = c.in_err-value.field-0.0 in
    let p = err_from_is_err_and c.from_residual-in_err-value.result c.from_residual-in_err-value.ensures.1 in
    rw (p.1, p.2) (deeper_fault (g.L.Lookup.finds c.args.from.now) c.args.left c.args.going.now c.at_hand.new.going c.enter.new.going c.args.name.now c.in-Deeper.found fault at c.in_ok-outer.ensures.within c.in_err-value.ensures.err)

pub value_within-returns-clause-ok : goal.value_within-returns-clause-ok
value_within-returns-clause-ok g t c =
    let at = rw c.in-Deeper.is at c.in_ok-made.ensures.ok in
    deeper_ok (g.L.Lookup.finds c.args.from.now) c.args.left c.args.going.now c.at_hand.new.going c.enter.new.going c.args.name.now c.in_ok-value.value c.in-Deeper.found at c.in_ok-outer.ensures.within c.in_ok-value.ensures.ok

pub expand_text-returns-clause-ok : goal.expand_text-returns-clause-ok
expand_text-returns-clause-ok g t c =
    let names = c.args.going.now.within.items in
    let values = known (g.L.Lookup.finds c.args.from.now) c.args.left names in
    let is = subst (λ w. expanded values (last_name w) c.args.text.now ≡ expanded_parts values (last_name w) (parts_in c.in_ok-parts.parts) longest) c.as_slice.ensures.value (c.in_ok-parts.ensures.ok values) in
    same_ok c.expand_parts.result (expanded_parts values (last_name names) (parts_in c.in_ok-parts.parts) longest) (expanded values (last_name names) c.args.text.now) (sym is) c.expand_parts.ensures.ok

pub expand_text-returns-clause-err : goal.expand_text-returns-clause-err
expand_text-returns-clause-err g t c =
    let names = c.args.going.now.within.items in
    let values = known (g.L.Lookup.finds c.args.from.now) c.args.left names in
    let is = subst (λ w. expanded values (last_name w) c.args.text.now ≡ expanded_parts values (last_name w) (parts_in c.in_ok-parts.parts) longest) c.as_slice.ensures.value (c.in_ok-parts.ensures.ok values) in
    same_err c.expand_parts.result (expanded_parts values (last_name names) (parts_in c.in_ok-parts.parts) longest) (expanded values (last_name names) c.args.text.now) (sym is) c.expand_parts.ensures.err

pub expand_part-returns-in_ok-piece-in-Ref-clause-ok : goal.expand_part-returns-in_ok-piece-in-Ref-clause-ok
expand_part-returns-in_ok-piece-in-Ref-clause-ok g t c =
    let names = c.args.going.now.within.items in
    let values = known (g.L.Lookup.finds c.args.from.now) c.args.left names in
    put_ok values (last_name names) c.args.part.now c.args.out.now c.in_ok-piece-in-Ref.piece c.as_str-in-Ref.result.now c.put_piece-in-Ref.new.out c.put_piece-in-Ref.result
    (ref_is values (last_name names) c.args.part.now c.in-Ref.name c.in-Ref.is ∙ c.in_ok-piece-in-Ref.ensures.ok) c.as_str-in-Ref.ensures c.put_piece-in-Ref.ensures.fits c.put_piece-in-Ref.ensures.ok

pub expand_part-returns-in_ok-piece-in-Ref-clause-err : goal.expand_part-returns-in_ok-piece-in-Ref-clause-err
expand_part-returns-in_ok-piece-in-Ref-clause-err g t c =
    let names = c.args.going.now.within.items in
    let values = known (g.L.Lookup.finds c.args.from.now) c.args.left names in
    put_err values names c.as_slice-in-Ref.result.now c.args.part.now c.args.out.now c.in_ok-piece-in-Ref.piece c.as_str-in-Ref.result.now c.put_piece-in-Ref.result
    (ref_is values (last_name names) c.args.part.now c.in-Ref.name c.in-Ref.is ∙ c.in_ok-piece-in-Ref.ensures.ok) (c.as_slice-in-Ref.ensures.value ∙ c.in_ok-piece-in-Ref.ensures.same) c.as_str-in-Ref.ensures c.put_piece-in-Ref.ensures.err

pub expand_owned-returns-clause-told : goal.expand_owned-returns-clause-told
expand_owned-returns-clause-told g t c =
    let plain : holds (codes "${") c.args.text ≡ false = ap (holds (codes "${")) (sym (c.as_bytes.ensures.value ∙ c.as_str.ensures)) ∙ sym c.holds_opening.ensures ∙ c.if-holds_opening.false in
    λ v telling tells. plain_ok v (last_name c.args.going.now.within.items) c.args.text plain (subst (λ s. length s ≤ longest) c.as_str-2.ensures c.in_ok-fit.ensures.ok)

pub expand_part-returns-in_ok-piece-in-Ref-clause-told : goal.expand_part-returns-in_ok-piece-in-Ref-clause-told
expand_part-returns-in_ok-piece-in-Ref-clause-told g t c =
    let name = last_name c.args.going.now.within.items in
    let going = c.expand_reference.new.going in
    put_told (g.L.Lookup.finds c.args.from.now) going name c.args.part.now c.args.out.now c.in_ok-piece-in-Ref.piece c.as_str-in-Ref.result.now c.put_piece-in-Ref.new.out c.put_piece-in-Ref.result
    (λ v telling tells. ref_is v name c.args.part.now c.in-Ref.name c.in-Ref.is ∙ c.in_ok-piece-in-Ref.ensures.told v telling tells) c.as_str-in-Ref.ensures c.put_piece-in-Ref.ensures.fits c.put_piece-in-Ref.ensures.ok

pub expand_value-returns-then-is_empty-clause-told : goal.expand_value-returns-then-is_empty-clause-told
expand_value-returns-then-is_empty-clause-told g t c =
    λ v telling tells. value_alone v (last_name c.args.going.now.within.items) c.args.found c.in_ok-value.value (c.in_ok-value.ensures.told v telling tells) (c.is_empty.ensures.0 c.if-is_empty.true)

pub value_within-expand_value-requires : goal.value_within-expand_value-requires
value_within-expand_value-requires g t c κs within =
    let finds = g.L.Lookup.finds c.args.from.now in
    let at = rw c.in-Deeper.is at c.in_ok-made.ensures.ok in
    let room : 1 ≤ c.args.left = at.1 in
    let next : IsGoing finds (c.args.left - 1) c.enter.new.going =
    deeper_going finds c.args.left c.args.going.now c.at_hand.new.going c.enter.new.going c.args.name.now c.in-Deeper.found at c.requires.1.1.1 c.in_ok-outer.ensures.within c.in_ok-outer.ensures.values c.in_ok-outer.ensures.height in
    search rules

pub value_within-returns-clause-grew : goal.value_within-returns-clause-grew
value_within-returns-clause-grew g t c =
    let at = rw c.in-Deeper.is at c.in_ok-made.ensures.ok in
    deeper_grew (g.L.Lookup.finds c.args.from.now) c.args.left c.args.going.now c.at_hand.new.going c.enter.new.going c.args.name.now c.in-Deeper.found at c.requires.1.1.1 c.in_ok-outer.ensures.within c.in_ok-outer.ensures.values
    c.expand_value.new.going c.leave.new.going c.in_ok-outer.outer c.in_ok-value.value c.in_ok-outer.ensures.before c.in_ok-value.ensures.grew c.in_ok-value.ensures.told c.in_ok-leave.ensures.kept

pub value_within-returns-clause-told : goal.value_within-returns-clause-told
value_within-returns-clause-told g t c =
    let at = rw c.in-Deeper.is at c.in_ok-made.ensures.ok in
    deeper_told (g.L.Lookup.finds c.args.from.now) c.args.left c.args.going.now c.at_hand.new.going c.enter.new.going c.args.name.now c.in-Deeper.found at c.requires.1.1.1 c.in_ok-outer.ensures.within c.in_ok-outer.ensures.values
    c.expand_value.new.going c.leave.new.going c.in_ok-outer.outer c.in_ok-value.value c.in_ok-outer.ensures.before c.in_ok-value.ensures.grew c.in_ok-value.ensures.told c.in_ok-leave.ensures.kept

pub expand_part-returns-in_err-piece-in-Call-clause-err : goal.expand_part-returns-in_err-piece-in-Call-clause-err
expand_part-returns-in_err-piece-in-Call-clause-err g t c =
    let names = c.args.going.now.within.items in
    let values = known (g.L.Lookup.finds c.args.from.now) c.args.left names in
    let p = err_from_is_err_and c.from_residual-in_err-piece-in-Call.result c.from_residual-in_err-piece-in-Call.ensures.1 in
    rw (p.1, p.2) (grown_fault values (last_name names) c.args.part.now c.args.out.now c.in_err-piece-in-Call.field-0.0
    (subst (IsFaultOf c.in_err-piece-in-Call.field-0.0) (sym (form_is values (last_name names) c.args.part.now c.in-Call.form c.in-Call.is)) c.in_err-piece-in-Call.ensures.err))

pub expand_part-returns-in_ok-piece-in-Call-clause-ok : goal.expand_part-returns-in_ok-piece-in-Call-clause-ok
expand_part-returns-in_ok-piece-in-Call-clause-ok g t c =
    let names = c.args.going.now.within.items in
    let values = known (g.L.Lookup.finds c.args.from.now) c.args.left names in
    put_ok values (last_name names) c.args.part.now c.args.out.now c.in_ok-piece-in-Call.piece c.as_str-in-Call.result.now c.put_piece-in-Call.new.out c.put_piece-in-Call.result
    (form_is values (last_name names) c.args.part.now c.in-Call.form c.in-Call.is ∙ c.in_ok-piece-in-Call.ensures.ok) c.as_str-in-Call.ensures c.put_piece-in-Call.ensures.fits c.put_piece-in-Call.ensures.ok

pub expand_part-returns-in_ok-piece-in-Call-clause-err : goal.expand_part-returns-in_ok-piece-in-Call-clause-err
expand_part-returns-in_ok-piece-in-Call-clause-err g t c =
    let names = c.args.going.now.within.items in
    let values = known (g.L.Lookup.finds c.args.from.now) c.args.left names in
    put_err values names c.as_slice-in-Call.result.now c.args.part.now c.args.out.now c.in_ok-piece-in-Call.piece c.as_str-in-Call.result.now c.put_piece-in-Call.result
    (form_is values (last_name names) c.args.part.now c.in-Call.form c.in-Call.is ∙ c.in_ok-piece-in-Call.ensures.ok) (c.as_slice-in-Call.ensures.value ∙ c.in_ok-piece-in-Call.ensures.same) c.as_str-in-Call.ensures c.put_piece-in-Call.ensures.err

pub expand_part-returns-in_ok-piece-in-Call-clause-told : goal.expand_part-returns-in_ok-piece-in-Call-clause-told
expand_part-returns-in_ok-piece-in-Call-clause-told g t c =
    let name = last_name c.args.going.now.within.items in
    let finds = g.L.Lookup.finds c.args.from.now in
    let going = c.expand_form.new.going in
    put_told finds going name c.args.part.now c.args.out.now c.in_ok-piece-in-Call.piece c.as_str-in-Call.result.now c.put_piece-in-Call.new.out c.put_piece-in-Call.result
    (λ v telling tells. form_is v name c.args.part.now c.in-Call.form c.in-Call.is ∙ c.in_ok-piece-in-Call.ensures.told v telling tells) c.as_str-in-Call.ensures c.put_piece-in-Call.ensures.fits c.put_piece-in-Call.ensures.ok

pub words_there-returns-in-Some-clause-ok : goal.words_there-returns-in-Some-clause-ok
words_there-returns-in-Some-clause-ok g t c =
    let finds = g.L.Lookup.finds c.args.from.now in
    let names = c.args.going.now.within.items in
    told_words (known finds c.args.left names) c.args.form.now c.in-Some.told (known_at finds c.args.left names c.args.form.now (Some c.in-Some.told) (c.in_ok-told.ensures ∙ c.in-Some.is))

pub words_there-returns-in_err-value-clause-err : goal.words_there-returns-in_err-value-clause-err
words_there-returns-in_err-value-clause-err g t c =
    let finds = g.L.Lookup.finds c.args.from.now in
    let names = c.args.going.now.within.items in
    let values = known finds c.args.left names in
    let fault = c.in_err-value.field-0.0 in
    let none = known_at finds c.args.left names c.args.form.now None (c.in_ok-told.ensures ∙ c.in_default.is) in
    let p = err_from_is_err_and c.from_residual-in_err-value.result c.from_residual-in_err-value.ensures.1 in
    rw (p.1, p.2) (words_fault values c.args.form.now fault none (subst (λ n. IsFaultOf fault (values.at n)) c.as_str.ensures c.in_err-value.ensures.err))

pub words_there-returns-clause-ok : goal.words_there-returns-clause-ok
words_there-returns-clause-ok g t c =
    let finds = g.L.Lookup.finds c.args.from.now in
    let names = c.args.going.now.within.items in
    let values = known finds c.args.left names in
    let none = known_at finds c.args.left names c.args.form.now None (c.in_ok-told.ensures ∙ c.in_default.is) in
    value_words values c.args.form.now c.in_ok-value.value c.in_ok-found_words.field-0 none (subst (λ n. values.at n ≡ Ok c.in_ok-value.value) c.as_str.ensures c.in_ok-value.ensures.ok)
    (c.in_ok-found_words.ensures ∙ ap (λ w. words_in w c.in_ok-value.value) c.as_slice.ensures)
