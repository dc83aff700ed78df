use Rattle.std.proofs.Common.{rules, arith, refl, subst, sym, ◌∙◌, ◌≡◌, ◌++◌, ℕ, List}
use Rattle.std.specs.Prelude.{IsPermutation}
use Rattle.std.specs.Fn.{CalledAt}
use Rattle.tree_model.specs.declared.entry.Entry.{Entry}
use Rattle.tree_model.specs.Path.{IsUpTo}
use Rattle.tree_model.specs.Tree.{IsSortedByPath}
use Rattle.tree_model.proofs.OverlayLemmas.{Stays, Goes, kept_by_test, pairs_kept, overlay_is}
use Rattle.tree_model.proofs.MergeLemmas.{sorted_tree_list}
use Rattle.tree_model.proofs.overlay.overlay_entries.Goals as goal

pub merge-requires : goal.merge-requires
merge-requires c = record {
  room = omega (arith, c.in-Some.ensures, c.in_ok-both.ensures.capacity, c.retain.ensures.bound, c.len.ensures, c.len-2.ensures);
  empty = c.in_ok-both.ensures.len;
  one = subst (λ (l : List (List ℕ × Entry)). IsSortedByPath l) (sym (c.in_ok-laid.ensures ∙ c.entries.ensures.value)) (sorted_tree_list c.args.later.now c.entries.ensures.tree);
  other = pairs_kept (Stays c.args.later.now) (Goes c.args.later.now) (λ a b. IsUpTo a.0 b.0) c.args.entries.now.items c.retain.new.self.items
      (kept_by_test (CalledAt _) (Stays c.args.later.now) (Goes c.args.later.now) _ c.args.entries.now.items c.retain.new.self.items (λ s. s.0 ≡ c.args.later) c.retain.ensures.filtered refl (λ s x b t h q. (search rules, search rules)))
      (sorted_tree_list c.args.entries.now.items c.requires);
}

pub returns-clause-ok : goal.returns-clause-ok
returns-clause-ok c =
    overlay_is c.args.entries.now.items c.args.later.now c.retain.new.self.items c.merge.new.made.items c.requires c.entries.ensures.tree
    (kept_by_test (CalledAt _) (Stays c.args.later.now) (Goes c.args.later.now) _ c.args.entries.now.items c.retain.new.self.items (λ s. s.0 ≡ c.args.later) c.retain.ensures.filtered refl (λ s x b t h q. (search rules, search rules)))
    (subst (λ (l : List (List ℕ × Entry)). IsPermutation (l ++ c.retain.new.self.items) c.merge.new.made.items) (c.in_ok-laid.ensures ∙ c.entries.ensures.value) c.merge.ensures.permutation)
    c.merge.ensures.sorted
