use Rattle.std.proofs.Common.{◌≡◌, ◌++◌, ◌∷◌, [], ◌∙◌, sym, ap, refl, List, append_assoc}
use Rattle.std.specs.Vec.Iter.{into_iter_items}
use Rattle.std.proofs.lemmas.Result.{err_from_is_err_and}
use Rattle.record_move.specs.declared.records.OldRecord.{OldRecord}
use Rattle.record_move.proofs.Following.{so_far_fault, so_far_more, so_far_start}
use Rattle.record_move.proofs.moving.move_records.Goals as goal

pub loop-old-init : goal.loop-old-init
loop-old-init c = record {
  whole = c.into_iter-old-iterator.ensures.into_iter_gives.0;
  so_far = so_far_start c.args.rows c.args.keys (record { rows = c.args.rows; keys = c.args.keys; names = c.new.result; records = c.new-2.result; adding = record { added = c.new-3.result; rounds = c.new-4.result } })
      refl refl c.new.ensures.empty c.new-2.ensures.items c.new-3.ensures.items c.new-4.ensures.empty;
}

pub move_one-requires : goal.move_one-requires
move_one-requires c = c.loop-old.invariant.so_far.few

pub loop-old-preserved : goal.loop-old-preserved
loop-old-preserved c =
    let at = c.loop-old in
    let left = into_iter_items c.next.new.self in
    let steps : into_iter_items c.loop-old.old-iterator ≡ c.in-Some.old ∷ into_iter_items c.next.new.self = c.in-Some.ensures.steps.0 in
    let e = c.in_ok-move_one.ensures in
    record {
      whole = append_assoc at.yielded (c.in-Some.old ∷ []) left ∙ ap (λ (l : List OldRecord). at.yielded ++ l) (sym steps) ∙ at.invariant.whole;
      so_far = so_far_more c.args.rows c.args.keys at.yielded c.in-Some.old at.moving at.invariant.so_far c.move_one.new.moving e.few e.going e.clear e.well e.keys;
    }

pub returns-in_err-move_one-clause-err : goal.returns-in_err-move_one-clause-err
returns-in_err-move_one-clause-err c =
    let at = c.loop-old in
    let left = into_iter_items c.next.new.self in
    let steps : into_iter_items c.loop-old.old-iterator ≡ c.in-Some.old ∷ into_iter_items c.next.new.self = c.in-Some.ensures.steps.0 in
    let p = err_from_is_err_and c.from_residual.result c.from_residual.ensures.1 in
    rw (p.1, p.2) (so_far_fault c.args.rows c.args.keys at.yielded c.in-Some.old at.moving at.invariant.so_far left c.args.olds.items c.in_err-move_one.field-0.0 (sym at.invariant.whole ∙ ap (λ (l : List OldRecord). at.yielded ++ l) steps) c.in_err-move_one.ensures.err)
