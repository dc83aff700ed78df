use Rattle.std.proofs.Common.{◌∙◌, ap, sym, ◌++◌, ◌∷◌, []}
use Rattle.std.specs.Cmp.Lexicographic.{nat_list_eq_equiv}
use Rattle.std.specs.Map.{values_of}
use Rattle.std.proofs.lemmas.List.{map-append}
use Rattle.store_model.specs.Rows.{row_at}
use Rattle.hash_equiv.proofs.Rowing.{found_by_name, index_stays, index_more, put_last}
use Rattle.hash_equiv.proofs.index.Index.put.Goals as goal

pub invariant_of-self-in_err-put_place : goal.invariant_of-self-in_err-put_place
invariant_of-self-in_err-put_place c = index_stays _ _ _ _ c.self.invariant c.in_ok-reserve.ensures.entries c.in_err-put_place.ensures.err

pub invariant_of-self-2 : goal.invariant_of-self-2
invariant_of-self-2 c =
    let name = c.args.row.name in
    let es = c.self.inside.rows.entries in
    let none = found_by_name _ name.bytes (nat_list_eq_equiv.symm name.bytes) es c.self.invariant.named ∙ ap (λ rows. row_at rows name) c.self.view_is ∙ c.requires in
    index_more es _ _ _ c.args.row c.self.invariant (c.in_ok-insert.ensures.entries ∙ put_last _ es _ name.bytes c.args.row c.in_ok-reserve.ensures.entries none)
    (λ t. rw (sym c.in_ok-reserve.ensures.entries) (rw (c.len.ensures.len, c.as_str.ensures) at (c.in_ok-put_place.ensures.ok t)))

pub returns-clause-ok : goal.returns-clause-ok
returns-clause-ok c =
    let name = c.args.row.name in
    let es = c.self.inside.rows.entries in
    let none = found_by_name _ name.bytes (nat_list_eq_equiv.symm name.bytes) es c.self.invariant.named ∙ ap (λ rows. row_at rows name) c.self.view_is ∙ c.requires in
    ap values_of (c.in_ok-insert.ensures.entries ∙ put_last _ es _ name.bytes c.args.row c.in_ok-reserve.ensures.entries none)
    ∙ map-append (λ e. e.1) es ((name.bytes, c.args.row) ∷ []) ∙ ap (λ rows. rows ++ c.args.row ∷ []) c.self.view_is
