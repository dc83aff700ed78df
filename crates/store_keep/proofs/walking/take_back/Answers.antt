use Rattle.std.proofs.Common.{◌∙◌, subst, refl, arith, ℕ, false, length, get_or, ◌<◌}
use Rattle.std.proofs.lemmas.List.{get_or_default, length-set}
use Rattle.store_keep.specs.Passes.{IsTakenBack}
use Rattle.store_keep.proofs.Trails.{back_more, back_start}
use Rattle.store_keep.proofs.walking.take_back.Goals as goal

pub loop-place-init : goal.loop-place-init
loop-place-init c = record { long = refl; back = λ first long kept new. back_start first c.args.marks.now.items c.args.trail.now long kept }

pub loop-place-preserved : goal.loop-place-preserved
loop-place-preserved c =
    let p : ℕ = get_or c.args.trail.now c.loop-place.place-index 0 in
    let within : p < length c.args.marks.now.items = c.requires c.loop-place.place-index 0 c.loop-place-test.true in
    record {
      long = length-set c.loop-place.marks.items p false ∙ c.loop-place.invariant.long;
      back = λ first long kept new. back_more first c.args.marks.now.items c.loop-place.marks.items c.args.trail.now c.loop-place.place-index p c.loop-place-test.true
          (get_or_default c.args.trail.now c.loop-place.place-index 0 p c.loop-place-test.true) within long new (c.loop-place.invariant.back first long kept new);
    }

pub returns : goal.returns
returns c = λ first long kept new.
    subst (λ (i : ℕ). IsTakenBack first c.args.marks.now.items c.args.trail.now i c.loop-place.marks.items) (let e = c.loop-place-test.false in let f = c.loop-place.auto.place-index-end in omega (arith, e, f))
    (c.loop-place.invariant.back first long kept new)
