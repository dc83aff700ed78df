use Rattle.std.proofs.Common.{◌≡◌, ◌∙◌, ◌++◌, ◌∷◌, [], ap, sym, subst, Some, get_or, slice_get, List}
use Rattle.std.specs.List.{AllByRecursion}
use Rattle.std.proofs.lemmas.Option.{slice_get-get_or}
use Rattle.store_model.proofs.Ordered.{each_append}
use Rattle.record_move.specs.declared.records.OldRecord.{OldRecord}
use Rattle.store_upgrade.specs.Old.{IsGoodOld}
use Rattle.store_upgrade.proofs.Olden.{good_at, olds_more, place_below}
use Rattle.store_upgrade.proofs.olds.olds_at.Goals as goal

pub stored_again-requires : goal.stored_again-requires
stored_again-requires c =
    good_at c.args.olds.now (get_or c.args.places.now c.loop-place.place-index 0) c.index-olds-place.result (place_below c.args.olds.now c.args.places.now c.loop-place.place-index c.requires.believed c.loop-place-test.true) c.index-olds-place.is c.requires.good

pub loop-place-preserved : goal.loop-place-preserved
loop-place-preserved c =
    let lt = place_below c.args.olds.now c.args.places.now c.loop-place.place-index c.requires.believed c.loop-place-test.true in
    let p = get_or c.args.places.now c.loop-place.place-index 0 in
    let at : slice_get c.args.olds.now p ≡ Some c.index-olds-place.result = slice_get-get_or c.args.olds.now p c.index-olds-place.result lt ∙ ap (λ (x : OldRecord). Some x) (sym c.index-olds-place.is) in
    let one : ◌≡◌ {A = OldRecord} (record { name = c.index-olds-place.result.name; stored = c.in_ok-stored.stored }) c.index-olds-place.result = λ i. record { name = c.index-olds-place.result.name; stored = c.in_ok-stored.ensures i } in
    let items : c.push.new.self.items ≡ c.loop-place.made.items ++ c.index-olds-place.result ∷ [] = c.in_ok-push.ensures.items ∙ ap (λ (x : OldRecord). c.loop-place.made.items ++ x ∷ []) one in
    record {
      at = items ∙ ap (λ (l : List OldRecord). l ++ c.index-olds-place.result ∷ []) c.loop-place.invariant.at ∙ sym (olds_more c.args.olds.now c.args.places.now c.loop-place.place-index c.index-olds-place.result c.loop-place-test.true at);
      good = subst (AllByRecursion IsGoodOld) (sym items) (each_append IsGoodOld c.loop-place.made.items (c.index-olds-place.result ∷ []) c.loop-place.invariant.good (good_at c.args.olds.now p c.index-olds-place.result lt c.index-olds-place.is c.requires.good, tt));
    }
