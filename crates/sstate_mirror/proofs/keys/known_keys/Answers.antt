use Rattle.std.proofs.Common.{◌≡◌, ◌<◌, ◌≤◌, sym, subst, arith, inl, inr, List, Some, length}
use Rattle.std.specs.Prelude.{Contains}
use Rattle.std.proofs.lemmas.List.{take_all}
use Rattle.std.proofs.lemmas.Option.{get_or_from_slice_get}
use Rattle.store_model.specs.declared.signature.EquivRow.{EquivRow}
use Rattle.store_model.specs.Spelling.{key_part}
use Rattle.record_move.specs.Known.{digest, key_named}
use Rattle.sstate_mirror.proofs.Copied.{last_of}
use Rattle.sstate_mirror.proofs.keys.known_keys.Goals as goal

pub loop-place-preserved : goal.loop-place-preserved
loop-place-preserved c row has =
    let lt : c.loop-place.place < length c.args.rows.now = omega (arith, c.len-place-end.ensures) in
    elim (last_of c.args.rows.now c.loop-place.place c.row_at.result.now row lt (sym (get_or_from_slice_get c.args.rows.now c.loop-place.place c.row_at.result.now c.row_at.result.now c.row_at.ensures)) has) [
      | inl earlier ↦ c.in_ok-know_row.ensures.kept (key_part row.sig) (c.loop-place.invariant row earlier)
      | inr same ↦ subst (λ (x : EquivRow). key_named c.know_row.new.keys (digest (key_part x.sig)) ≡ Some (key_part x.sig)) same c.in_ok-know_row.ensures.known
    ]

pub returns-clause-known : goal.returns-clause-known
returns-clause-known c row has =
    let past : length c.args.rows.now ≤ c.loop-place.place = omega (arith, c.len-place-end.ensures) in
    c.loop-place.invariant row (subst (λ (l : List EquivRow). Contains l row) (sym (take_all c.loop-place.place c.args.rows.now past)) has)
