use Rattle.std.proofs.Common.{◌≡◌, sym, subst}
use Rattle.std.specs.Ordering.{nat_cmp}
use Rattle.std.specs.BTreeMap.{get}
use Rattle.task_plan.specs.Ahead.{AreAhead}
use Rattle.task_plan.specs.Meant.{AreKept}
use Rattle.task_plan.proofs.ahead.share_of.Goals.{then-wanted+in_ok-make_at, else-wanted}
use Rattle.task_plan.proofs.ahead.share_of.Goals as goal

pub loop-number-preserved : goal.loop-number-preserved
loop-number-preserved c =
    let set = c.args.set.now in
    let nodes = c.args.nodes.now in
    elim c.if-wanted.branch [
      | then-wanted+in_ok-make_at w ↦ record {
        kept = subst (λ k. AreKept set.stores (get nat_cmp k)) (sym w.kept-is) w.in_ok-make_at.ensures.kept;
        made = subst (λ s. AreAhead set nodes (get nat_cmp s)) (sym w.share-is) w.in_ok-make_at.ensures.ahead;
      }
      | else-wanted w ↦ record {
        kept = subst (λ k. AreKept set.stores (get nat_cmp k)) (sym w.kept-is) c.loop-number.invariant.kept;
        made = subst (λ s. AreAhead set nodes (get nat_cmp s)) (sym w.share-is) c.loop-number.invariant.made;
      }
    ]
