use Rattle.std.proofs.Common.{◌∙◌, sym, subst, arith, ap, ℕ, get_or, inl, inr}
use Rattle.std.proofs.lemmas.Bool.{cases_eq}
use Rattle.std.proofs.lemmas.List.{get_or_default}
use Rattle.store_keep.specs.Keep.{IsMarked}
use Rattle.store_keep.proofs.Trails.{grown_more, grown_start}
use Rattle.store_keep.proofs.walking.mark_all_new.Goals as goal

pub loop-place-init : goal.loop-place-init
loop-place-init c = record {
  trail = λ edges first start t all. t;
  marked = λ j d less. absurd (omega (arith, less));
  grows = grown_start c.args.trail.now.items c.args.marks.now.items;
}

pub mark_new-requires : goal.mark_new-requires
mark_new-requires c =
    let long = c.loop-place.invariant.grows.long in
    let within = c.requires c.loop-place.place-index 0 c.loop-place-test.true in
    omega (arith, long, within)

pub loop-place-preserved : goal.loop-place-preserved
loop-place-preserved c =
    let p : ℕ = get_or c.args.places.now c.loop-place.place-index 0 in
    record {
      trail = λ edges first start t all. c.in_ok-mark_new.ensures.trail edges first start (c.loop-place.invariant.trail edges first start t all) (all c.loop-place.place-index 0 c.loop-place-test.true);
      marked = λ j d less. elim (cases_eq j c.loop-place.place-index) [
        | inl same ↦ subst (IsMarked c.mark_new.new.marks.items) (get_or_default c.args.places.now c.loop-place.place-index 0 d c.loop-place-test.true ∙ ap (λ (x : ℕ). get_or c.args.places.now x d) (sym same)) c.in_ok-mark_new.ensures.marked
        | inr ne ↦ c.in_ok-mark_new.ensures.grows.kept (get_or c.args.places.now j d) (c.loop-place.invariant.marked j d (omega (arith, less, ne)))
      ];
      grows = grown_more c.args.trail.now.items c.loop-place.trail.items c.mark_new.new.trail.items c.args.marks.now.items c.loop-place.marks.items c.mark_new.new.marks.items c.loop-place.invariant.grows c.in_ok-mark_new.ensures.grows;
    }

pub returns-clause-marked : goal.returns-clause-marked
returns-clause-marked c = λ j d less. c.loop-place.invariant.marked j d (let e = c.loop-place-test.false in omega (arith, e, less))
