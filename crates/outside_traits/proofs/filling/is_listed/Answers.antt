use Rattle.std.proofs.Common.{rules}
use Rattle.std.specs.Ordering.{nat_cmp}
use Rattle.std.specs.Cmp.Lexicographic.{slice_cmp}
use Rattle.std.proofs.lemmas.Fn.{always_returns_same}
use Rattle.outside_traits.proofs.Listing.{listed_by_search}
use Rattle.outside_traits.proofs.filling.is_listed.Goals as goal

pub returns : goal.returns
returns c ascends = rw c.is_ok.ensures.value (listed_by_search c.args.listed.now c.args.path.now c.binary_search_by.result ascends c.binary_search_by.ensures.bound
    (c.binary_search_by.ensures.position (λ y. slice_cmp nat_cmp y c.args.path.now) (always_returns_same _ _ _ (λ a r f called. search rules))))
