use Rattle.std.proofs.Common.{rules, ◌≡◌, subst, sym, List, ℕ}
use Rattle.std.specs.Ordering.{nat_cmp, is_lt}
use Rattle.std.specs.Cmp.Lexicographic.{slice_cmp}
use Rattle.std.proofs.lemmas.Cmp.{nat_list_cmp_total}
use Rattle.std.proofs.lemmas.Fn.{always_returns_same}
use Rattle.std.proofs.lemmas.List.Sorted.{ranks_by}
use Rattle.tree_model.specs.declared.entry.Entry.{Entry}
use Rattle.tree_model.specs.Tree.{IsSortedByPath}
use Rattle.tree_model.proofs.TreeLemmas.{sorted_pairs, refused_path}
use Rattle.tree_model.proofs.tree.Tree.from_entries.Goals as goal

pub bad_place-requires : goal.bad_place-requires
bad_place-requires c =
    let P : List (List ℕ × Entry) → Type 0 = λ l. IsSortedByPath l in
    subst P (sym c.deref.ensures.value) (sorted_pairs c.sort_by.new.self.items
    (c.in_ok-sort_by.ensures.sorted (λ a b. is_lt (slice_cmp nat_cmp a.0 b.0)) (ranks_by nat_list_cmp_total (λ e. e.0))
    (always_returns_same _ (λ a r. is_lt r ≡ is_lt (slice_cmp nat_cmp a.0.now.0 a.1.0.now.0)) _ (λ a r f' q. (search rules, search rules)))))

pub returns-in-Some-clause-refused : goal.returns-in-Some-clause-refused
returns-in-Some-clause-refused c =
    refused_path c.args.list.items c.sort_by.new.self.items c.deref.result.now c.in-Some.place c.swap_remove.result c.sort_by.ensures.permutation c.deref.ensures.value c.in-Some.ensures.within c.in-Some.ensures.first c.swap_remove.ensures.value
