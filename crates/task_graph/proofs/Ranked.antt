-- The numbers of places in the order of nodes.
use Rattle.std.proofs.Common.{◌≡◌, ◌≢◌, sym, ◌∙◌, ap, subst, refl, arith, ℕ, ◌+◌, ◌<◌, ◌≤◌, Bool, true, false, List, length, map, get_or, set, Some, ◌⊎◌, inl, inr, All, Contains, nat_eq, slice_get, slice_index, get_or-set_same, get_or-set_other, length-set}
use Rattle.std.specs.Prelude.{IsPermutation}
use Rattle.std.specs.List.{IsDistinct, range_with_len, dedup}
use Rattle.std.specs.List.Sorted.{IsSorted, IsStrictlyIncreasing}
use Rattle.std.specs.Ordering.{nat_cmp}
use Rattle.std.proofs.lemmas.Bool.{cases_eq, cases_lt}
use Rattle.std.proofs.lemmas.Cmp.{nat_eq_equiv}
use Rattle.std.proofs.lemmas.List.{get_or-map, length-map}
use Rattle.std.proofs.lemmas.List.FromFn.{length-range_with_len, get_or-range_with_len}
use Rattle.std.proofs.lemmas.List.Kept.{Contains-dedup_nat, Contains-from_dedup}
use Rattle.std.proofs.lemmas.List.Sorted.{IsPermutation-sym, All-permutation, Contains-permutation, length_permutation}
use Rattle.std.proofs.lemmas.Map.Keys.{IsDistinct-from_apart, IsDistinct-IsPermutation, apart_from_distinct, IsStrictlyIncreasing-dedup}
use Rattle.std.proofs.lemmas.Option.{get_or_from_slice_get, slice_get-get_or}
use Rattle.graph_walk.specs.Frontier.{Has}
use Rattle.graph_walk.proofs.Finding.{place_within, same_numbers}
use Rattle.task_graph.specs.declared.order.Draft.{Draft}
use Rattle.task_graph.specs.Order.{AreAllPlaces, AreNumbers, place_of}
use Rattle.task_graph.proofs.Reaching.{slice_there, there}

-- an element, said in two ways
pub has_contains : {A : Type 0} (xs : List A) (x : A) → Has xs x → Contains xs x
has_contains xs x (k, e) = (k, place_within xs k x e, get_or_from_slice_get xs k x x e)

pub contains_has : {A : Type 0} (xs : List A) (x : A) → Contains xs x → Has xs x
contains_has xs x (k, lt, is) = (k, slice_there xs k x lt is)

-- what holds of all elements holds of one
pub all_has : {A : Type 0} (P : A → Type 0) (xs : List A) → All P xs → (x : A) → Has xs x → P x
all_has P xs all x (k, e) = subst P (get_or_from_slice_get xs k x x e) (all k x (place_within xs k x e))

module _ (count : ℕ) (drafts : List Draft) (places : AreAllPlaces count drafts) where
  numbers : List ℕ
  numbers = range_with_len 0 count

  number_at : (i d : ℕ) → i < count → get_or (range_with_len 0 count) i d ≡ i
  number_at i d lt = omega (arith, get_or-range_with_len 0 count i d lt)

  pub drafts_long : length drafts ≡ count
  drafts_long = omega (arith, length_permutation (range_with_len 0 count) (map place_of drafts) places, length-range_with_len 0 count, length-map drafts place_of)

  all_within : All (λ p. p < count) (range_with_len 0 count)
  all_within k d lt = omega (arith, number_at k d (omega (arith, lt, length-range_with_len 0 count)), lt, length-range_with_len 0 count)

  place_read : (k : ℕ) (draft : Draft) (d : ℕ) → slice_get drafts k ≡ Some draft → get_or (map place_of drafts) k d ≡ draft.place
  place_read k draft d e = get_or-map place_of drafts k draft d (place_within drafts k draft e) ∙ ap place_of (get_or_from_slice_get drafts k draft draft e)

  -- the place of a draft
  pub place_small : (k : ℕ) (draft : Draft) → slice_get drafts k ≡ Some draft → draft.place < count
  place_small k draft e =
      let small = All-permutation (λ p. p < count) (range_with_len 0 count) (map place_of drafts) places all_within in
      let lt : k < length (map place_of drafts) = omega (arith, place_within drafts k draft e, length-map drafts place_of) in
      subst (λ p. p < count) (place_read k draft 0 e) (small k 0 lt)

  -- each place is a draft's
  pub place_found : (p : ℕ) → p < count → (k : ℕ) × (draft : Draft) × (slice_get drafts k ≡ Some draft) × (draft.place ≡ p)
  place_found p lt =
      let held : Contains (range_with_len 0 count) p = (p, omega (arith, lt, length-range_with_len 0 count), number_at p p lt) in
      let moved : Contains (map place_of drafts) p = Contains-permutation (range_with_len 0 count) (map place_of drafts) p places held in
      let inside : moved.0 < length drafts = omega (arith, moved.1, length-map drafts place_of) in
      let draft = there drafts moved.0 inside in
      (moved.0, draft.0, draft.1, sym (place_read moved.0 draft.0 p draft.1) ∙ moved.2)

  distinct : IsDistinct nat_eq (map place_of drafts)
  distinct = IsDistinct-IsPermutation nat_eq nat_eq_equiv.symm (range_with_len 0 count) (map place_of drafts) places (IsDistinct-from_apart nat_eq (range_with_len 0 count) apart)
    where
      apart : (i j d : ℕ) → i < j → j < length (range_with_len 0 count) → nat_eq (get_or (range_with_len 0 count) i d) (get_or (range_with_len 0 count) j d) ≡ false
      apart i j d lt within =
          let long = length-range_with_len 0 count in
          let a : get_or (range_with_len 0 count) i d ≡ i = number_at i d (omega (arith, lt, within, long)) in
          let b : get_or (range_with_len 0 count) j d ≡ j = number_at j d (omega (arith, within, long)) in
          rw (a, b) (differ (nat_eq i j) refl)
        where
          differ : (b : Bool) → nat_eq i j ≡ b → nat_eq i j ≡ false
          differ false e = e
          differ true e = absurd (omega (arith, lt, same_numbers i j e))

  apart_places : (j k : ℕ) (first second : Draft) → j < k → slice_get drafts j ≡ Some first → slice_get drafts k ≡ Some second → first.place ≡ second.place → ⊥
  apart_places j k first second lt e f same =
      let inside : k < length (map place_of drafts) = omega (arith, place_within drafts k second f, length-map drafts place_of) in
      let no : nat_eq (get_or (map place_of drafts) j 0) (get_or (map place_of drafts) k 0) ≡ false = apart_from_distinct nat_eq (map place_of drafts) j k 0 distinct lt inside in
      let one : get_or (map place_of drafts) j 0 ≡ get_or (map place_of drafts) k 0 = place_read j first 0 e ∙ same ∙ sym (place_read k second 0 f) in
      let yes : nat_eq (get_or (map place_of drafts) j 0) (get_or (map place_of drafts) k 0) ≡ true = rw one (nat_eq_equiv.refl (get_or (map place_of drafts) k 0)) in
      let false_is_true : false ≡ true = sym no ∙ yes in
      cc

  -- different drafts have different places
  pub one_draft : (j k : ℕ) (first second : Draft) → slice_get drafts j ≡ Some first → slice_get drafts k ≡ Some second → first.place ≡ second.place → j ≡ k
  one_draft j k first second e f same = by_order (cases_lt j k) (cases_lt k j)
    where
      by_order : (j < k) ⊎ (k ≤ j) → (k < j) ⊎ (j ≤ k) → j ≡ k
      by_order (inl lt) other = absurd (apart_places j k first second lt e f same)
      by_order (inr le) (inl lt) = absurd (apart_places k j second first lt f e (sym same))
      by_order (inr le) (inr ge) = omega (arith, le, ge)

  -- one more rank
  pub ranks_more : (ranks : List ℕ) (i : ℕ) (draft : Draft) → length ranks ≡ length drafts → slice_get drafts i ≡ Some draft → ((k : ℕ) (d : Draft) → k < i → slice_get drafts k ≡ Some d → slice_get ranks d.place ≡ Some k)
      → (k : ℕ) (d : Draft) → k < i + 1 → slice_get drafts k ≡ Some d → slice_get (set ranks draft.place i) d.place ≡ Some k
  ranks_more ranks i draft long here before k d lt there_is = by_place (cases_eq k i)
    where
      within : (p : ℕ) → p < count → p < length ranks
      within p small = omega (arith, small, long, drafts_long)

      by_place : (k ≡ i) ⊎ (k ≡ i → ⊥) → slice_get (set ranks draft.place i) d.place ≡ Some k
      by_place (inl same) =
          let one : Some d ≡ Some draft = sym there_is ∙ ap (slice_get drafts) same ∙ here in
          let is : d ≡ draft = cc in
          let place : d.place ≡ draft.place = ap place_of is in
          let inside : draft.place < length ranks = within draft.place (place_small i draft here) in
          rw (place, same) (slice_there (set ranks draft.place i) draft.place i (omega (arith, inside, length-set ranks draft.place i)) (get_or-set_same ranks draft.place i i inside))
      by_place (inr ne) =
          let apart : d.place ≢ draft.place = λ same. ne (one_draft k i d draft there_is here same) in
          let old : slice_get ranks d.place ≡ Some k = before k d (omega (arith, lt, ne)) there_is in
          let inside : d.place < length ranks = place_within ranks d.place k old in
          slice_there (set ranks draft.place i) d.place k (omega (arith, inside, length-set ranks draft.place i)) (get_or-set_other ranks draft.place d.place i k apart ∙ get_or_from_slice_get ranks d.place k k old)

-- what sorting and dropping repeated numbers leaves
pub numbers_are : (ranks places made sorted new : List ℕ) → All (λ p. p < length ranks) places → made ≡ map (slice_index ranks) places → IsPermutation made sorted → IsSorted nat_cmp sorted → new ≡ dedup nat_eq sorted → AreNumbers ranks places new
numbers_are ranks places made sorted new within is moved up left = record {
  ascend = subst IsStrictlyIncreasing (sym left) (IsStrictlyIncreasing-dedup sorted up);
  sound = sound;
  whole = whole;
}
  where
    sound : (k : ℕ) → Has new k → (p : ℕ) × Has places p × (slice_get ranks p ≡ Some k)
    sound k h =
        let kept : Contains sorted k = Contains-from_dedup nat_eq sorted k (subst (λ (l : List ℕ). Contains l k) left (has_contains new k h)) in
        let old : Contains (map (slice_index ranks) places) k = subst (λ (l : List ℕ). Contains l k) is (Contains-permutation sorted made k (IsPermutation-sym made sorted moved) kept) in
        let i : ℕ = old.0 in
        let lt : i < length places = omega (arith, old.1, length-map places (slice_index ranks)) in
        let place = there places i lt in
        let small : place.0 < length ranks = all_has (λ p. p < length ranks) places within place.0 (i, place.1) in
        let read : slice_index ranks place.0 ≡ k = ap (slice_index ranks) (sym (get_or_from_slice_get places i place.0 place.0 place.1)) ∙ sym (get_or-map (slice_index ranks) places i place.0 k lt) ∙ old.2 in
        (place.0, (i, place.1), slice_get-get_or ranks place.0 0 small ∙ ap Some read)

    whole : (p k : ℕ) → Has places p → slice_get ranks p ≡ Some k → Has new k
    whole p k (i, e) f =
        let lt : i < length places = place_within places i p e in
        let read : get_or (map (slice_index ranks) places) i k ≡ k = get_or-map (slice_index ranks) places i p k lt ∙ ap (slice_index ranks) (get_or_from_slice_get places i p p e) ∙ get_or_from_slice_get ranks p k 0 f in
        let first : Contains (map (slice_index ranks) places) k = (i, omega (arith, lt, length-map places (slice_index ranks)), read) in
        let second : Contains sorted k = Contains-permutation made sorted k moved (subst (λ (l : List ℕ). Contains l k) (sym is) first) in
        contains_has new k (subst (λ (l : List ℕ). Contains l k) (sym left) (Contains-dedup_nat sorted k second))
