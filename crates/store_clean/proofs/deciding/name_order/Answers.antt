use Rattle.std.proofs.Common.{rules, ◌≡◌, ◌∙◌, ap, map, subst, sym}
use Rattle.std.specs.Ordering.{is_lt}
use Rattle.std.proofs.lemmas.Fn.{always_returns_same}
use Rattle.std.proofs.lemmas.List.Sorted.{length_permutation, ranks_by}
use Rattle.std.proofs.lemmas.Result.{IfOk-weaker}
use Rattle.store_clean.specs.declared.deciding.Named.{Named}
use Rattle.store_clean.specs.Deciding.{IsNameOrder}
use Rattle.store_clean.specs.Steps.{named_place, node_names}
use Rattle.store_clean.proofs.Ordered.{named_cmp, named_total, ordered}
use Rattle.store_clean.proofs.deciding.name_order.Goals as goal

pub returns : goal.returns
returns c =
    let order = ordered (node_names c.args.nodes.now) c.in_ok-named.named.items c.sort_unstable_by.new.self.items c.in_ok-named.ensures c.sort_unstable_by.ensures.permutation (length_permutation c.in_ok-named.named.items c.sort_unstable_by.new.self.items c.sort_unstable_by.ensures.permutation)
    (c.sort_unstable_by.ensures.sorted (λ a b. is_lt (named_cmp a b)) (ranks_by named_total (λ (x : Named). x))
    (always_returns_same _ (λ a r. is_lt r ≡ is_lt (named_cmp a.0.now a.1.0.now)) _ (λ a r f' q. (search rules, search rules)))) in
    IfOk-weaker c.places_of.result _ _
    (λ made is. subst (IsNameOrder (node_names c.args.nodes.now)) (sym (is ∙ ap (map named_place) c.deref.ensures.value)) order)
    c.places_of.ensures
