use Rattle.std.proofs.Common.{rules, ◌≡◌}
use Rattle.std.specs.Ordering.{nat_cmp}
use Rattle.std.specs.Cmp.Lexicographic.{slice_cmp}
use Rattle.std.proofs.lemmas.Fn.{always_returns_same}
use Rattle.tree_model.proofs.TreeLemmas.{place_from_search}
use Rattle.tree_model.proofs.order.place_of_bytes.Goals as goal

pub returns : goal.returns
returns c = place_from_search c.args.entries.now c.args.path.now c.binary_search_by.result c.requires c.binary_search_by.ensures.bound
    (c.binary_search_by.ensures.position (λ e. slice_cmp nat_cmp e.0 c.args.path.now)
    (always_returns_same _ (λ a r. r ≡ slice_cmp nat_cmp a.0.now.0 c.args.path.now) _ (λ a r f' q. (search rules, search rules))))
