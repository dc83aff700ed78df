use Rattle.std.proofs.Common.{arith, ◌++◌, subst, sym, List, ℕ}
use Rattle.tree_model.specs.declared.entry.Entry.{Entry}
use Rattle.tree_model.proofs.MergeLemmas.{IsMerging, merge_goes_on}
use Rattle.tree_model.proofs.overlay.merge.Goals as goal

pub merging-preserved : goal.merging-preserved
merging-preserved c = (
  omega (arith, c.merging.invariant.0, c.in-Some.ensures.length, c.push_reserved.ensures.len, c.push_reserved.ensures.capacity),
  subst (λ (l : List (List ℕ × Entry)). IsMerging (c.args.one.now.items ++ c.args.other.now.items) c.take_greatest.new.one.items c.take_greatest.new.other.items l) (sym c.push_reserved.ensures.items)
      (merge_goes_on (c.args.one.now.items ++ c.args.other.now.items) c.merging.one.items c.merging.other.items c.take_greatest.new.one.items c.take_greatest.new.other.items c.merging.made.items c.in-Some.entry c.merging.invariant.1 c.in-Some.ensures.some),
)
