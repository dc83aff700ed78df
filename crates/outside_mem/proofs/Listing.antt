-- The paths of a map that begin with a prefix.
use Rattle.std.proofs.Common.{◌≡◌, inl, inr, ℕ, zero, suc, ◌<◌, Bool, true, false, cond, List, [], ◌∷◌, ◌++◌, length, get_or, take, drop, map, Option, Some, refl, sym, ◌∙◌, ap, subst, arith, take-append-drop}
use Rattle.std.specs.Prelude.{String, IsSome, Contains, filter, nat_eq}
use Rattle.std.specs.declared.alloc.Global.{Global}
use Rattle.std.specs.declared.cmp.Ordering.{Ordering}
use Rattle.std.specs.declared.cmp.Ordering.TheVariants.{Less, Equal, Greater}
use Rattle.std.specs.Ordering.{nat_cmp, is_le, ordering_then, ordering_reverse}
use Rattle.std.specs.declared.ops.Bound.TheVariants.{Included, Unbounded}
use Rattle.std.specs.BTreeMap.Range.{entries_between}
use Rattle.std.proofs.lemmas.Cmp.{ranked, by_ranked, tied_itself, tied_back, nat_cmp_total}
use Rattle.std.specs.Prelude.{◌&&◌}
use Rattle.std.specs.String.{string_cmp, string_bytes}
use Rattle.std.specs.Str.{bytes_eq}
use Rattle.std.specs.Cmp.Lexicographic.{slice_cmp}
use Rattle.std.specs.List.{starts_with, AllByRecursion}
use Rattle.std.specs.List.Sorted.{IsStrictlySortedBy}
use Rattle.std.specs.Map.{lookup}
use Rattle.std.specs.BTreeMap.{BTreeMap, get_by_text, is_at, IsOrdered}
use Rattle.std.proofs.lemmas.List.{take_at, append-nil}
use Rattle.std.proofs.lemmas.List.Elements.{filter-append}
use Rattle.std.proofs.lemmas.List.Kept.{IsStrictlySortedBy-filter}
use Rattle.std.proofs.lemmas.Bool.{false≢true}
use Rattle.std.proofs.lemmas.Slice.Eq.{bytes_eq-Decides}
use Rattle.std.proofs.lemmas.Map.Text.{is_eq-slice_cmp}
use Rattle.std.specs.Borrow.{Bor}
use Rattle.std.specs.Map.Iter.{deref_pair}
use Rattle.tree_model.specs.Path.{BeginsWith}
use Rattle.outside_traits.specs.Store.{IsListing}
use Rattle.outside_traits.proofs.Puts.{bool_cases}

-- entries of a map by text
abbrev Entries : Type 0
Entries = List (String Global × (List ℕ))

-- the paths of the entries
abbrev pub names : Entries → List (List ℕ)
names es = map (λ e. string_bytes e.0) es

-- those paths that begin with the prefix
abbrev pub picked : List ℕ → List (List ℕ) → List (List ℕ)
picked prefix qs = filter (λ q. starts_with nat_eq q prefix) qs

-- a key before all keys is, by its bytes, before all paths
below_names : (k : String Global) (es : Entries) → AllByRecursion (λ y. string_cmp k y ≡ Less) (map (λ e. e.0) es) → AllByRecursion (λ y. slice_cmp nat_cmp (string_bytes k) y ≡ Less) (names es)
below_names k [] all = tt
below_names k (e ∷ es) all = (all.0, below_names k es all.1)

-- keys in order are paths in order
sorted_names : (es : Entries) → IsStrictlySortedBy string_cmp (map (λ e. e.0) es) → IsStrictlySortedBy (slice_cmp nat_cmp) (names es)
unfolding IsStrictlySortedBy
sorted_names [] sorted = tt
sorted_names (e ∷ es) sorted = (below_names e.0 es sorted.0, sorted_names es sorted.1)

module _ (p : List ℕ → Bool) where
  -- what stands in the rest stands in the whole list
  later : (x : List ℕ) (qs : List (List ℕ)) (q : List ℕ) → Contains qs q → Contains (x ∷ qs) q
  later x qs q has = (suc has.0, omega (arith, has.1), has.2)

  -- an element that passes is kept by the filter
  in_filter : (qs : List (List ℕ)) (q : List ℕ) → p q ≡ true → Contains qs q → Contains (filter p qs) q
  in_filter [] q yes' has = absurd (omega (arith, has.1))
  in_filter (x ∷ qs) q yes' (zero, lt, at) = elim (bool_cases (p x)) [
    | inl holds ↦ subst (λ (b : Bool). Contains (cond b (x ∷ filter p qs) (filter p qs)) q) (sym holds) (0, omega arith, at)
    | inr fails ↦ absurd (false≢true (sym fails ∙ ap p at ∙ yes'))
  ]
  in_filter (x ∷ qs) q yes' (suc k, lt, at) =
      let rest : Contains (filter p qs) q = in_filter qs q yes' (k, omega (arith, lt), at) in
      elim (p x) as (λ b. Contains (cond b (x ∷ filter p qs) (filter p qs)) q) [ true ↦ later x (filter p qs) q rest | false ↦ rest ]

  -- what is kept behind a first element that passes
  of_head : (x : List ℕ) (qs : List (List ℕ)) (q : List ℕ) → ((k : ℕ) → k < length (filter p qs) → get_or (filter p qs) k q ≡ q → (p q ≡ true) × Contains qs q) → p x ≡ true → Contains (x ∷ filter p qs) q → (p q ≡ true) × Contains (x ∷ qs) q
  of_head x qs q rest holds (zero, lt, at) = (ap p (sym at) ∙ holds, (0, omega arith, at))
  of_head x qs q rest holds (suc k, lt, at) = let r = rest k (omega (arith, lt)) at in (r.0, later x qs q r.1)

  -- what the filter keeps passes and stands in the list
  of_filter : (qs : List (List ℕ)) (q : List ℕ) → Contains (filter p qs) q → (p q ≡ true) × Contains qs q
  of_filter [] q has = absurd (omega (arith, has.1))
  of_filter (x ∷ qs) q has = elim (bool_cases (p x)) [
    | inl holds ↦ of_head x qs q (λ k lt at. of_filter qs q (k, lt, at)) holds (subst (λ (b : Bool). Contains (cond b (x ∷ filter p qs) (filter p qs)) q) holds has)
    | inr fails ↦
        let rest = of_filter qs q (subst (λ (b : Bool). Contains (cond b (x ∷ filter p qs) (filter p qs)) q) fails has) in
        (rest.0, later x qs q rest.1)
  ]

-- what a map holds at a path
found_in : Entries → List ℕ → Option (List ℕ)
found_in es q = lookup (is_at (λ k. slice_cmp nat_cmp q (string_bytes k))) es

-- a path that is found is among the names
in_names : (es : Entries) (q : List ℕ) → IsSome (found_in es q) → Contains (names es) q
unfolding found_in
in_names [] q some = absurd (false≢true some)
in_names (e ∷ es) q some = elim (bool_cases (bytes_eq q (string_bytes e.0))) [
  | inl is ↦ (0, omega arith, sym ((bytes_eq-Decides q (string_bytes e.0)).0 is))
  | inr differ ↦
      let rest = in_names es q (subst (λ (b : Bool). IsSome (cond b (Some e.1) (lookup (is_at (λ k. slice_cmp nat_cmp q (string_bytes k))) es))) (is_eq-slice_cmp q (string_bytes e.0) ∙ differ) some) in
      (suc rest.0, omega (arith, rest.1), rest.2)
]

-- and the other way round
of_names : (es : Entries) (q : List ℕ) → Contains (names es) q → IsSome (found_in es q)
unfolding found_in
of_names [] q has = absurd (omega (arith, has.1))
of_names (e ∷ es) q (zero, lt, at) =
    subst (λ (b : Bool). IsSome (cond b (Some e.1) (lookup (is_at (λ k. slice_cmp nat_cmp q (string_bytes k))) es))) (sym (is_eq-slice_cmp q (string_bytes e.0) ∙ (bytes_eq-Decides q (string_bytes e.0)).1 (sym at))) refl
of_names (e ∷ es) q (suc k, lt, at) =
    let rest = of_names es q (k, omega (arith, lt), at) in
    elim (is_at (λ k. slice_cmp nat_cmp q (string_bytes k)) e.0) as (λ b. IsSome (cond b (Some e.1) (lookup (is_at (λ k. slice_cmp nat_cmp q (string_bytes k))) es))) [ true ↦ refl | false ↦ rest ]

-- the test of a prefix, where it passes
pub begins_with : (prefix q : List ℕ) → starts_with nat_eq q prefix ≡ true → BeginsWith prefix q
begins_with prefix q holds =
    let front = (bytes_eq-Decides prefix (take (length prefix) q)).0 holds in
    (drop (length prefix) q, sym (take-append-drop (length prefix) q) ∙ ap (λ (l : List ℕ). l ++ drop (length prefix) q) (sym front))

-- the test of a prefix passes
pub starts : (prefix q : List ℕ) → BeginsWith prefix q → starts_with nat_eq q prefix ≡ true
starts prefix q begins = (bytes_eq-Decides prefix (take (length prefix) q)).1 (sym (ap (λ (l : List ℕ). take (length prefix) l) begins.1 ∙ take_at prefix begins.0 (length prefix) refl))

-- ... and fails of any other
pub starts_not : (prefix q : List ℕ) → (BeginsWith prefix q → ⊥) → starts_with nat_eq q prefix ≡ false
starts_not prefix q unlike = elim (bool_cases (starts_with nat_eq q prefix)) [
  | inl yes' ↦ absurd (unlike (begins_with prefix q yes'))
  | inr fails ↦ fails
]

-- one more that begins with the prefix is picked behind the others
pub picked_more : (prefix : List ℕ) (qs : List (List ℕ)) (q : List ℕ) → BeginsWith prefix q → picked prefix (qs ++ q ∷ []) ≡ picked prefix qs ++ q ∷ []
picked_more prefix qs q begins =
    filter-append (λ x. starts_with nat_eq x prefix) qs (q ∷ [])
    ∙ ap (λ (b : Bool). picked prefix qs ++ cond b (q ∷ []) []) (starts prefix q begins)

-- the picked names of an ordered map are the listing
pub picked_listing : (prefix : List ℕ) (m : BTreeMap (String Global) (List ℕ)) → IsOrdered string_cmp m → IsListing prefix (get_by_text m) (picked prefix (names m.entries))
unfolding found_in
picked_listing prefix m ordered = record {
  ascending = IsStrictlySortedBy-filter (slice_cmp nat_cmp) (λ q. starts_with nat_eq q prefix) (names m.entries) (sorted_names m.entries ordered);
  are_held = λ q has. let w = of_filter (λ q. starts_with nat_eq q prefix) (names m.entries) q has in (begins_with prefix q w.0, of_names m.entries q w.1);
  all = λ q begins some. in_filter (λ q. starts_with nat_eq q prefix) (names m.entries) q (starts prefix q begins) (in_names m.entries q some);
}

-- the paths of entries that were seen by reference
pub names_deref : (ys : List (Bor (String Global) × Bor (List ℕ))) → names (map deref_pair ys) ≡ map (λ y. string_bytes y.0.now) ys
names_deref [] = refl
names_deref (y ∷ ys) = ap (λ (l : List (List ℕ)). string_bytes y.0.now ∷ l) (names_deref ys)

-- a path that begins with the prefix doesn't come before it
begins_after : (p rest : List ℕ) → is_le (slice_cmp nat_cmp p (p ++ rest)) ≡ true
begins_after [] [] = refl
begins_after [] (x ∷ rest) = refl
begins_after (x ∷ p) rest = ap (λ (o : Ordering). is_le (ordering_then o (slice_cmp nat_cmp p (p ++ rest)))) (tied_itself nat_cmp_total x) ∙ begins_after p rest

-- a path from the prefix on and before one that begins with it begins with it too
between : (p x rest : List ℕ) → is_le (slice_cmp nat_cmp p x) ≡ true → slice_cmp nat_cmp x (p ++ rest) ≡ Less → BeginsWith p x
between [] x rest le lt = (x, refl)
between (a ∷ p) [] rest le lt = absurd (false≢true le)
between (a ∷ p) (b ∷ x) rest le lt =
    by_ranked (a < b) (a ≡ b) (b < a) (nat_cmp a b) (ranked a b (nat_cmp a b) refl)
    (λ is below.
    let back : nat_cmp b a ≡ Greater = nat_cmp_total.antisymm b a ∙ ap ordering_reverse is in
    let wrong : Greater ≡ Less = sym (ap (λ (o : Ordering). ordering_then o (slice_cmp nat_cmp x (p ++ rest))) back) ∙ lt in
    cc)
    (λ is same.
    let back : nat_cmp b a ≡ Equal = tied_back nat_cmp_total a b is in
    let tail = between p x rest
    (sym (ap (λ (o : Ordering). is_le (ordering_then o (slice_cmp nat_cmp p x))) is) ∙ le)
    (sym (ap (λ (o : Ordering). ordering_then o (slice_cmp nat_cmp x (p ++ rest))) back) ∙ lt) in
    (tail.0, λ i. sym same i ∷ tail.1 i))
    (λ is above. absurd (false≢true (sym (ap (λ (o : Ordering). is_le (ordering_then o (slice_cmp nat_cmp p x))) is) ∙ le)))

-- after a path from the prefix on that doesn't begin with it, none does
cut : (prefix x : List ℕ) (qs : List (List ℕ)) → is_le (slice_cmp nat_cmp prefix x) ≡ true → starts_with nat_eq x prefix ≡ false → AllByRecursion (λ y. slice_cmp nat_cmp x y ≡ Less) qs → picked prefix qs ≡ []
cut prefix x [] le unlike all = refl
cut prefix x (y ∷ qs) le unlike all = elim (bool_cases (starts_with nat_eq y prefix)) [
  | inl begins ↦
      let w = begins_with prefix y begins in
      absurd (false≢true (sym unlike ∙ starts prefix x (between prefix x w.0 le (subst (λ (q : List ℕ). slice_cmp nat_cmp x q ≡ Less) w.1 all.0))))
  | inr fails ↦ ap (λ (b : Bool). cond b (y ∷ picked prefix qs) (picked prefix qs)) fails ∙ cut prefix x qs le unlike all.1
]

-- the entries from a key on
abbrev pub from_key : String Global → Entries → Entries
from_key key es = entries_between string_cmp (Included key) Unbounded es

-- those with the prefix are all among the entries from the prefix on
picked_from : (prefix : List ℕ) (key : String Global) (es : Entries) → string_bytes key ≡ prefix → picked prefix (names (from_key key es)) ≡ picked prefix (names es)
picked_from prefix key [] is = refl
picked_from prefix key (e ∷ es) is = elim (bool_cases (starts_with nat_eq (string_bytes e.0) prefix)) [
  | inl yes' ↦
      let w = begins_with prefix (string_bytes e.0) yes' in
      let le : is_le (string_cmp key e.0) ≡ true = (λ i. is_le (slice_cmp nat_cmp (is i) (w.1 i))) ∙ begins_after prefix w.0 in
      ap (λ (b : Bool). picked prefix (names (cond (b && true) (e ∷ from_key key es) (from_key key es)))) le
      ∙ ap (λ (l : List (List ℕ)). cond (starts_with nat_eq (string_bytes e.0) prefix) (string_bytes e.0 ∷ l) l) (picked_from prefix key es is)
  | inr fails ↦
      left (is_le (string_cmp key e.0)) fails ∙ picked_from prefix key es is
      ∙ sym (ap (λ (b : Bool). cond b (string_bytes e.0 ∷ picked prefix (names es)) (picked prefix (names es))) fails)
]
  where
    left : (b : Bool) → starts_with nat_eq (string_bytes e.0) prefix ≡ false → picked prefix (names (cond (b && true) (e ∷ from_key key es) (from_key key es))) ≡ picked prefix (names (from_key key es))
    left true fails = ap (λ (b : Bool). cond b (string_bytes e.0 ∷ picked prefix (names (from_key key es))) (picked prefix (names (from_key key es)))) fails
    left false fails = refl

-- each entry is from the prefix on, and before all behind it
Rises : List ℕ → Entries → Type 0
Rises prefix [] = Unit {0}
Rises prefix (e ∷ es) = (is_le (slice_cmp nat_cmp prefix (string_bytes e.0)) ≡ true) × AllByRecursion (λ y. slice_cmp nat_cmp (string_bytes e.0) y ≡ Less) (names es) × Rises prefix es

-- what holds of all paths holds of those from the key on
all_from : (P : List ℕ → Type 0) (key : String Global) (es : Entries) → AllByRecursion P (names es) → AllByRecursion P (names (from_key key es))
all_from P key [] all = tt
all_from P key (e ∷ es) all =
    elim (is_le (string_cmp key e.0)) as (λ (b : Bool). AllByRecursion P (names (cond (b && true) (e ∷ from_key key es) (from_key key es)))) [
      | true ↦ (all.0, all_from P key es all.1)
      | false ↦ all_from P key es all.1
    ]

-- the entries of an ordered map from the prefix on rise
rises_from : (prefix : List ℕ) (key : String Global) (es : Entries) → string_bytes key ≡ prefix → IsStrictlySortedBy (slice_cmp nat_cmp) (names es) → Rises prefix (from_key key es)
unfolding IsStrictlySortedBy Rises
rises_from prefix key [] is sorted = tt
rises_from prefix key (e ∷ es) is sorted = elim (bool_cases (is_le (string_cmp key e.0))) [
  | inl le ↦
      subst (λ (b : Bool). Rises prefix (cond (b && true) (e ∷ from_key key es) (from_key key es))) (sym le)
      (sym (λ i. is_le (slice_cmp nat_cmp (is i) (string_bytes e.0))) ∙ le, all_from (λ y. slice_cmp nat_cmp (string_bytes e.0) y ≡ Less) key es sorted.0, rises_from prefix key es is sorted.1)
  | inr gt ↦ subst (λ (b : Bool). Rises prefix (cond (b && true) (e ∷ from_key key es) (from_key key es))) (sym gt) (rises_from prefix key es is sorted.1)
]

-- and so does each end of them
rises_behind : (prefix : List ℕ) (front back : Entries) → Rises prefix (front ++ back) → Rises prefix back
unfolding Rises
rises_behind prefix [] back rises = rises
rises_behind prefix (e ∷ front) back rises = rises_behind prefix front back rises.2

-- the paths of two lists
names_append : (front back : Entries) → names (front ++ back) ≡ names front ++ names back
names_append [] back = refl
names_append (e ∷ front) back = ap (λ (l : List (List ℕ)). string_bytes e.0 ∷ l) (names_append front back)

module _ (prefix : List ℕ) (key : String Global) (is : string_bytes key ≡ prefix) (files : BTreeMap (String Global) (List ℕ)) (ordered : IsOrdered string_cmp files) (seen : Entries) where
  -- the paths that were picked from the entries seen are the listing
  listing_of : picked prefix (names files.entries) ≡ picked prefix (names seen) → IsListing prefix (get_by_text files) (picked prefix (names seen))
  listing_of same = subst (IsListing prefix (get_by_text files)) same (picked_listing prefix files ordered)

  -- all entries from the prefix on were seen
  pub listed_all : seen ≡ from_key key files.entries → IsListing prefix (get_by_text files) (picked prefix (names seen))
  listed_all all = listing_of (sym (picked_from prefix key files.entries is) ∙ ap (λ (es : Entries). picked prefix (names es)) (sym all))

  -- or those before the first that doesn't begin with it
  pub listed_some : (e : String Global × List ℕ) (rest : Entries) → from_key key files.entries ≡ seen ++ e ∷ rest → starts_with nat_eq (string_bytes e.0) prefix ≡ false → IsListing prefix (get_by_text files) (picked prefix (names seen))
  unfolding Rises
  listed_some e rest whole unlike =
      let rises : Rises prefix (e ∷ rest) = rises_behind prefix seen (e ∷ rest) (subst (Rises prefix) whole (rises_from prefix key files.entries is (sorted_names files.entries ordered))) in
      let none : picked prefix (names (e ∷ rest)) ≡ [] =
      ap (λ (b : Bool). cond b (string_bytes e.0 ∷ picked prefix (names rest)) (picked prefix (names rest))) unlike
      ∙ cut prefix (string_bytes e.0) (names rest) rises.0 unlike rises.1 in
      listing_of (sym (picked_from prefix key files.entries is) ∙ ap (λ (es : Entries). picked prefix (names es)) whole
      ∙ ap (picked prefix) (names_append seen (e ∷ rest)) ∙ filter-append (λ q. starts_with nat_eq q prefix) (names seen) (names (e ∷ rest))
      ∙ ap (λ (l : List (List ℕ)). picked prefix (names seen) ++ l) none ∙ append-nil (picked prefix (names seen)))
