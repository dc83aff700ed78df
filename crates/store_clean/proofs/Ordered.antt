-- Places in the order of their names.
use Rattle.std.proofs.Common.{◌≡◌, ◌≢◌, ◌∙◌, sym, ap, refl, subst, arith, ℕ, ◌+◌, ◌<◌, ◌≤◌, true, false, List, [], ◌∷◌, ◌++◌, length, get_or, map, Some, inl, inr}
use Rattle.std.specs.Prelude.{All, Contains, IsPermutation, slice_get}
use Rattle.std.specs.List.Sorted.{IsSortedBy}
use Rattle.std.specs.Cmp.{IsTotalOrder}
use Rattle.std.specs.Ordering.{is_lt, ordering_reverse}
use Rattle.std.specs.declared.cmp.Ordering.{Ordering}
use Rattle.std.specs.declared.cmp.Ordering.TheVariants.{Greater}
use Rattle.std.proofs.lemmas.Bool.{cases_lt}
use Rattle.std.proofs.lemmas.Cmp.{nat_list_cmp_total, on_total}
use Rattle.std.proofs.lemmas.List.{get_or-map, length-map}
use Rattle.std.proofs.lemmas.List.Elements.{All-contains}
use Rattle.std.proofs.lemmas.List.Sorted.{All-permutation, Contains-permutation, ranks_by, sorted_far}
use Rattle.std.proofs.lemmas.Option.{get_or_from_slice_get, slice_get-get_or, slice_get_within}
use Rattle.tree_model.specs.declared.hash.Hash.{Hash}
use Rattle.store_model.specs.Believed.{name_cmp}
use Rattle.store_clean.specs.declared.deciding.Named.{Named}
use Rattle.store_clean.specs.declared.nodes.Node.{Node}
use Rattle.store_clean.specs.Deciding.{IsNameOrder}
use Rattle.store_clean.specs.Steps.{AreNamed, named_place, node_names}
use Rattle.store_clean.proofs.Lists.{among, get_last, get_push, item_at, some_one}

-- ---- names with their places

pub record NamedTo (nodes : List Node) (n : ℕ) (made : List Named) : Type 0 where
  pub long : length made ≡ n
  pub each : (k : ℕ) (name : Hash) → k < n → slice_get (node_names nodes) k ≡ Some name → slice_get made k ≡ Some (record { name = name; place = k })

names_at : (nodes : List Node) (k : ℕ) (node : Node) → k < length nodes → node ≡ get_or nodes k node → slice_get (node_names nodes) k ≡ Some node.name
names_at nodes k node lt is =
    let name : Node → Hash = λ x. x.name in
    let long : length (node_names nodes) ≡ length nodes = length-map nodes name in
    slice_get-get_or (node_names nodes) k node.name (omega (arith, lt, long)) ∙ ap (λ h. Some h) (get_or-map name nodes k node node.name lt ∙ ap name (sym is))

push_long : (xs : List Named) (y : Named) → length (xs ++ y ∷ []) ≡ length xs + 1
push_long [] y = refl
push_long (x ∷ xs) y = omega (arith, push_long xs y)

pub named_next : (nodes : List Node) (n : ℕ) (node : Node) (made new : List Named) → n < length nodes → node ≡ get_or nodes n node → NamedTo nodes n made → new ≡ made ++ record { name = node.name; place = n } ∷ [] → NamedTo nodes (n + 1) new
named_next nodes n node made new lt is was grown = subst (NamedTo nodes (n + 1)) (sym grown) (record {
  long = omega (arith, push_long made (record { name = node.name; place = n }), was.long);
  each = λ k name below stands. elim (cases_lt k n) [
    | inl less ↦ get_push made (record { name = node.name; place = n }) k (omega (arith, less, was.long)) ∙ was.each k name less stands
    | inr more ↦ last k name (omega (arith, below, more)) stands
  ];
})
  where
    last : (k : ℕ) (name : Hash) → k ≡ n → slice_get (node_names nodes) k ≡ Some name → slice_get (made ++ record { name = node.name; place = n } ∷ []) k ≡ Some (record { name = name; place = k })
    last k name at stands =
        let one : node.name ≡ name = some_one (slice_get (node_names nodes) k) node.name name (ap (slice_get (node_names nodes)) at ∙ names_at nodes n node lt is) stands in
        ap (slice_get (made ++ record { name = node.name; place = n } ∷ [])) (at ∙ sym was.long) ∙ get_last made (record { name = node.name; place = n }) ∙ (λ i. Some (record { name = one i; place = sym at i }))

pub named_first : (nodes : List Node) (made : List Named) → made ≡ [] → NamedTo nodes 0 made
named_first nodes made empty = subst (NamedTo nodes 0) (sym empty) (record { long = refl; each = λ k name lt stands. absurd (omega (arith, lt)) })

pub named_all : (nodes : List Node) (n : ℕ) (made : List Named) → length nodes ≤ n → n ≤ length nodes → NamedTo nodes n made → AreNamed (node_names nodes) made
named_all nodes n made past within was =
    let long : length (node_names nodes) ≡ length nodes = length-map nodes (λ (x : Node). x.name) in
    record { long = omega (arith, was.long, long, past, within); each = λ k name stands. was.each k name (omega (arith, slice_get_within (node_names nodes) k name stands, long, past)) stands }

-- ---- sorted

abbrev pub named_cmp : Named → Named → Ordering
named_cmp a b = name_cmp a.name b.name

pub named_total : IsTotalOrder named_cmp
named_total = on_total (λ (r : Named). r.name.bytes) nat_list_cmp_total

-- a name stands at its place
abbrev Stands : List Hash → Named → Type 0
Stands names e = slice_get names e.place ≡ Some e.name

named_stand : (names : List Hash) (made : List Named) → AreNamed names made → All (Stands names) made
named_stand names made are k d lt =
    let at = item_at names k (omega (arith, lt, are.long)) in
    let e : get_or made k d ≡ record { name = at.0; place = k } = get_or_from_slice_get made k (record { name = at.0; place = k }) d (are.each k at.0 at.1) in
    subst (Stands names) (sym e) at.1

module _ (names : List Hash) (made sorted : List Named) (are : AreNamed names made) (moved : IsPermutation made sorted) (long : length sorted ≡ length made) (up : IsSortedBy (λ a b. is_lt (named_cmp a b)) sorted) where
  stand : All (Stands names) sorted
  stand = All-permutation (Stands names) made sorted moved (named_stand names made are)

  place_at : (k d : ℕ) → k < length sorted → (e : Named) × (get_or (map named_place sorted) k d ≡ e.place) × ((x : Named) → get_or sorted k x ≡ e) × Stands names e
  place_at k d lt =
      let it = item_at sorted k lt in
      (it.0, get_or-map named_place sorted k it.0 d lt ∙ ap named_place (get_or_from_slice_get sorted k it.0 it.0 it.1), λ x. get_or_from_slice_get sorted k it.0 x it.1, All-contains (Stands names) sorted it.0 stand (among sorted k it.0 it.1))

  among_map : (xs : List Named) (e : Named) → Contains xs e → Contains (map named_place xs) e.place
  among_map xs e has =
      let long_map : length (map named_place xs) ≡ length xs = length-map xs named_place in
      (has.0, omega (arith, has.1, long_map), get_or-map named_place xs has.0 e e.place has.1 ∙ ap named_place has.2)

  not_greater : (a b : Named) → is_lt (named_cmp b a) ≡ false → named_cmp a b ≢ Greater
  not_greater a b not_less greater =
      let f : true ≡ false = sym (ap is_lt (named_total.antisymm b a ∙ ap ordering_reverse greater)) ∙ not_less in absurd cc

  pub ordered : IsNameOrder names (map named_place sorted)
  ordered = record {
    long = length-map sorted named_place ∙ long ∙ are.long;
    within = λ k d lt.
        let w = place_at k d (omega (arith, lt, length-map sorted named_place)) in
        subst (λ (p : ℕ). p < length names) (sym w.1) (slice_get_within names w.0.place w.0.name w.3);
    whole = λ k lt.
        let at = item_at names k lt in
        let has : Contains made (record { name = at.0; place = k }) = among made k (record { name = at.0; place = k }) (are.each k at.0 at.1) in
        among_map sorted (record { name = at.0; place = k }) (Contains-permutation made sorted (record { name = at.0; place = k }) moved has);
    ascend = λ i j d lt within a b at_a at_b.
        let below : j < length sorted = omega (arith, within, length-map sorted named_place) in
        let x = place_at i d (omega (arith, lt, below)) in
        let y = place_at j d below in
        let one : x.0.name ≡ a = some_one (slice_get names x.0.place) x.0.name a x.3 (ap (slice_get names) (sym x.1) ∙ at_a) in
        let two : y.0.name ≡ b = some_one (slice_get names y.0.place) y.0.name b y.3 (ap (slice_get names) (sym y.1) ∙ at_b) in
        let far = sorted_far (λ a b. is_lt (named_cmp a b)) (ranks_by named_total (λ (z : Named). z)) sorted up i j x.0 (omega (arith, lt)) below in
        let not_less : is_lt (named_cmp y.0 x.0) ≡ false = ap (λ z. is_lt (named_cmp z x.0)) (sym (y.2 x.0)) ∙ ap (λ z. is_lt (named_cmp (get_or sorted j x.0) z)) (sym (x.2 x.0)) ∙ far in
        λ greater. not_greater x.0 y.0 not_less (ap (λ h. name_cmp h y.0.name) one ∙ ap (name_cmp a) two ∙ greater);
  }
