-- Whether a path is one of a list that ascends.
use Rattle.std.proofs.Common.{◌≡◌, ◌+◌, inl, inr, ℕ, Bool, true, false, List, length, get_or, Result, Ok, Err, refl, subst, arith}
use Rattle.std.specs.Prelude.{Contains, MatchBool, is_ok}
use Rattle.std.specs.Ordering.{is_lt, nat_cmp}
use Rattle.std.specs.declared.cmp.Ordering.TheVariants.{Less, Greater}
use Rattle.std.specs.Cmp.Lexicographic.{slice_cmp}
use Rattle.std.specs.List.Sorted.{IsBinarySearchResult, IsSearchInRange, IsSortedBy, IsStrictlySortedBy}
use Rattle.std.proofs.lemmas.Bool.{cases_lt}
use Rattle.std.proofs.lemmas.Cmp.{nat_list_cmp_total, tied_itself}
use Rattle.std.proofs.lemmas.List.Sorted.{searchable_from_sorted}
use Rattle.std.proofs.lemmas.Map.Keys.{Less-from_sorted}
use Rattle.tree_model.proofs.OrderLemmas.{same_from_tie, up_to_from_before}

sorted : (listed : List (List ℕ)) → IsStrictlySortedBy (slice_cmp nat_cmp) listed → IsSortedBy (λ a b. is_lt (slice_cmp nat_cmp a b)) listed
sorted listed ascends k d low lt = up_to_from_before (get_or listed k d) (get_or listed (k + 1) d) (Less-from_sorted (slice_cmp nat_cmp) listed k (k + 1) d ascends (omega arith) lt)

-- what a binary search among the paths finds
pub listed_by_search : (listed : List (List ℕ)) (path : List ℕ) (r : Result ℕ ℕ) → IsStrictlySortedBy (slice_cmp nat_cmp) listed → IsSearchInRange r (length listed) → IsBinarySearchResult (λ y. slice_cmp nat_cmp y path) listed r
    → MatchBool (is_ok r) (Contains listed path) (Contains listed path → ⊥)
listed_by_search listed path (Ok i) ascends bound found = (i, bound, same_from_tie (get_or listed i path) path (found path))
listed_by_search listed path (Err i) ascends bound found = λ has.
    let parts = found (searchable_from_sorted nat_list_cmp_total (λ y. y) listed path (sorted listed ascends)) in
    let tie = tied_itself nat_list_cmp_total path in
    elim (cases_lt has.0 i) [
      | inl below ↦ let less : slice_cmp nat_cmp path path ≡ Less = subst (λ (y : List ℕ). slice_cmp nat_cmp y path ≡ Less) has.2 (parts.0 has.0 path (omega arith) below) in absurd cc
      | inr above ↦ let more : slice_cmp nat_cmp path path ≡ Greater = subst (λ (y : List ℕ). slice_cmp nat_cmp y path ≡ Greater) has.2 (parts.1 has.0 path above has.1) in absurd cc
    ]

-- where it is one, the answer is that it is
pub listed_true : (answer : Bool) (P : Type 0) → MatchBool answer P (P → ⊥) → P → answer ≡ true
listed_true true P told has = refl
listed_true false P told has = absurd (told has)
