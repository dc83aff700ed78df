use Rattle.std.proofs.Common.{◌∙◌, sym, subst, false, List, ℕ, true}
use Rattle.std.specs.Prelude.{slice_set}
use Rattle.std.proofs.lemmas.List.{get_or_default}
use Rattle.store_keep.specs.Passes.{IsTrail}
use Rattle.store_keep.proofs.Trails.{trail_more}
use Rattle.store_keep.proofs.walking.mark_new.Goals as goal

pub returns-in_ok-push-clause-trail : goal.returns-in_ok-push-clause-trail
returns-in_ok-push-clause-trail c = λ edges first start t led.
    subst (λ (l : List ℕ). IsTrail edges first start l (slice_set c.args.marks.now.items c.args.place true)) (sym c.in_ok-push.ensures.items)
    (trail_more edges first start c.args.place c.args.trail.now.items c.args.marks.now.items c.requires
    (get_or_default c.args.marks.now.items c.args.place false c.index.result.now c.requires ∙ sym c.index.ensures ∙ c.if-not-index.true) t led)
