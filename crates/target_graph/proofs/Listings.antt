-- Listings of files.
use Rattle.std.proofs.Common.{◌≡◌, ℕ, List, [], ◌∷◌, Option}
use Rattle.std.specs.List.{AllByRecursion}
use Rattle.std.specs.List.Sorted.{IsStrictlySortedBy}
use Rattle.std.specs.Ordering.{nat_cmp}
use Rattle.std.specs.Cmp.Lexicographic.{slice_cmp}
use Rattle.std.specs.declared.cmp.Ordering.TheVariants.{Less}
use Rattle.std.proofs.lemmas.Map.Keys.{sorted_head, sorted_tail}
use Rattle.meta_model.specs.Text.{is_in}
use Rattle.meta_model.specs.Ascending.{Above, Ascending}
use Rattle.meta_model.proofs.Ordered.{ascending_same}
use Rattle.outside_traits.specs.Store.{IsListing}
use Rattle.layer_conf.proofs.Listed.{in_contains, contains_in, both_ways}

above_all : (x : List ℕ) (xs : List (List ℕ)) → AllByRecursion (λ y. slice_cmp nat_cmp x y ≡ Less) xs → Above x xs
above_all x [] h = tt
above_all x (y ∷ xs) h = (h.0, above_all x xs h.1)

sorted_ascends : (xs : List (List ℕ)) → IsStrictlySortedBy (slice_cmp nat_cmp) xs → Ascending xs
sorted_ascends [] s = tt
sorted_ascends (x ∷ xs) s = (above_all x xs (sorted_head (slice_cmp nat_cmp) x xs s), sorted_ascends xs (sorted_tail (slice_cmp nat_cmp) x xs s))

-- there is one listing
pub listing_once : (prefix : List ℕ) (held : List ℕ → Option (List ℕ)) (xs ys : List (List ℕ)) → IsListing prefix held xs → IsListing prefix held ys → xs ≡ ys
listing_once prefix held xs ys a b =
    ascending_same xs ys (sorted_ascends xs a.ascending) (sorted_ascends ys b.ascending)
    (λ t. both_ways (is_in t xs) (is_in t ys)
    (λ h. let k = a.are_held t (in_contains t xs h) in contains_in t ys (b.all t k.0 k.1))
    (λ h. let k = b.are_held t (in_contains t ys h) in contains_in t xs (a.all t k.0 k.1)))
