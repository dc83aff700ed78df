-- Tables of names, and what names lead to.
use Rattle.std.proofs.Common.{◌≡◌, ◌∙◌, sym, ap, refl, subst, arith, ℕ, zero, suc, ◌+◌, ◌<◌, ◌≤◌, Bool, true, false, List, [], ◌∷◌, ◌++◌, length, get_or, get_or-set_other, get_or-set_same, replicate, set, take, None, Some, inl, inr}
use Rattle.std.specs.Prelude.{Contains, slice_get, if◌then◌else◌}
use Rattle.std.specs.Map.{lookup}
use Rattle.std.specs.Option.{option_or}
use Rattle.std.specs.Str.{bytes_eq}
use Rattle.std.proofs.lemmas.Bool.{cases_eq, cases_lt}
use Rattle.std.proofs.lemmas.List.{get_or-map, get_or-replicate, length-map, length-replicate, length-set, get_or_past, length-take-le, take_all}
use Rattle.std.proofs.lemmas.List.Elements.{Contains-append_left, Contains-push, Contains-push_cases}
use Rattle.std.proofs.lemmas.Option.{get_or_from_slice_get, slice_get_within}
use Rattle.tree_model.specs.declared.hash.Hash.{Hash}
use Rattle.store_model.specs.Rows.{hash_eq}
use Rattle.store_keep.specs.Keep.{named_by}
use Rattle.store_clean.specs.declared.nodes.Node.{Node}
use Rattle.store_clean.specs.Naming.{place_in}
use Rattle.store_clean.specs.Deciding.{AreRoots}
use Rattle.store_clean.specs.Steps.{AreNodeEdges, ArePlaces, IsPlaceTable, IsRootMarked, NotesPlace, node_names}
use Rattle.store_clean.proofs.Lists.{some_one, taken_first, taken_last, taken_none, taken_or}
use Rattle.store_clean.proofs.Placed.{place_found, table_more}

-- the table of the first nodes' names
abbrev pub IsTableTo : List Node → ℕ → List (List ℕ × ℕ) → Type 0
IsTableTo nodes n entries = (q : Hash) → lookup (bytes_eq q.bytes) entries ≡ place_in (take n (node_names nodes)) q

pub table_next : (nodes : List Node) (n : ℕ) (node : Node) (entries new : List (List ℕ × ℕ)) → n < length nodes → node ≡ get_or nodes n node → IsTableTo nodes n entries
    → ((q : Hash) → lookup (bytes_eq q.bytes) new ≡ option_or (lookup (bytes_eq q.bytes) entries) (if hash_eq node.name q then Some n else None)) → IsTableTo nodes (n + 1) new
table_next nodes n node entries new lt is was puts =
    let name : Node → Hash = λ x. x.name in
    let long : length (node_names nodes) ≡ length nodes = length-map nodes name in
    let below : n < length (node_names nodes) = omega (arith, lt, long) in
    table_more (node_names nodes) n node.name entries new below (ap name is ∙ sym (get_or-map name nodes n node node.name lt)) (length-take-le n (node_names nodes) (omega (arith, below))) was puts

pub table_all : (nodes : List Node) (n : ℕ) (entries : List (List ℕ × ℕ)) → length nodes ≤ n → IsTableTo nodes n entries → IsPlaceTable (node_names nodes) entries
table_all nodes n entries past was q =
    let long : length (node_names nodes) ≡ length nodes = length-map nodes (λ (x : Node). x.name) in
    was q ∙ ap (λ l. place_in l q) (take_all n (node_names nodes) (omega (arith, past, long)))

-- ---- the places that names lead to

module _ (names : List Hash) (own : ℕ) (needs : List Hash) (i : ℕ) (name : Hash) (lt : i < length needs) (is : name ≡ get_or needs i name) where
  abbrev Led : List Hash → ℕ → Type 0
  Led some w = (w < own) × ((q : Hash) × Contains some q × (place_in names q ≡ Some w))

  led_more : (w : ℕ) → Led (take i needs) w → Led (take (i + 1) needs) w
  led_more w l = (l.0, (l.1.0, taken_first needs i name l.1.0 lt is l.1.1, l.1.2))

  pub places_none : (places : List ℕ) → ArePlaces names own (take i needs) places → ((w : ℕ) → w < own → place_in names name ≡ Some w → ⊥) → ArePlaces names own (take (i + 1) needs) places
  places_none places are none w = (
    λ has. led_more w ((are w).0 has),
    λ l. elim (taken_or needs i name l.1.0 lt is l.1.1) [
      | inl earlier ↦ (are w).1 (l.0, (l.1.0, earlier, l.1.2))
      | inr same ↦ absurd (none w l.0 (ap (place_in names) same ∙ l.1.2))
    ],
  )

  pub places_some : (places new : List ℕ) (place : ℕ) → ArePlaces names own (take i needs) places → (place < own) × (place_in names name ≡ Some place) → new ≡ places ++ place ∷ [] → ArePlaces names own (take (i + 1) needs) new
  places_some places new place are found grown w = (forth, back)
    where
      forth : Contains new w → Led (take (i + 1) needs) w
      forth has = elim (Contains-push_cases places place w (subst (λ l. Contains l w) grown has)) [
        | inl earlier ↦ led_more w ((are w).0 earlier)
        | inr same ↦ subst (Led (take (i + 1) needs)) same (found.0, (name, taken_last needs i name lt is, found.1))
      ]

      back : Led (take (i + 1) needs) w → Contains new w
      back l = elim (taken_or needs i name l.1.0 lt is l.1.1) [
        | inl earlier ↦ subst (λ x. Contains x w) (sym grown) (Contains-append_left places (place ∷ []) w ((are w).1 (l.0, (l.1.0, earlier, l.1.2))))
        | inr same ↦ subst (λ x. Contains x w) (sym grown) (subst (Contains (places ++ place ∷ [])) (some_one (place_in names name) place w found.1 (ap (place_in names) same ∙ l.1.2)) (Contains-push places place))
      ]

  pub places_noted : (places new : List ℕ) → ArePlaces names own (take i needs) places → NotesPlace names own name places new → ArePlaces names own (take (i + 1) needs) new
  places_noted places new are (inl w) = places_some places new w.0 are w.1 w.2
  places_noted places new are (inr w) = subst (ArePlaces names own (take (i + 1) needs)) (sym w.1) (places_none places are w.0)

pub places_all : (names : List Hash) (own : ℕ) (needs : List Hash) (i : ℕ) (places : List ℕ) → length needs ≤ i → ArePlaces names own (take i needs) places → ArePlaces names own needs places
places_all names own needs i places past are = subst (λ l. ArePlaces names own l places) (take_all i needs past) are

-- ---- the edges of the first nodes

pub record EdgesTo (nodes : List Node) (n : ℕ) (edges : List (List ℕ)) : Type 0 where
  pub long : length edges ≡ n
  pub each : (v : ℕ) (node : Node) → v < n → slice_get nodes v ≡ Some node → ArePlaces (node_names nodes) v node.needs (named_by edges v)

push_at : (xs : List (List ℕ)) (y : List ℕ) (v : ℕ) → v < length xs → named_by (xs ++ y ∷ []) v ≡ named_by xs v
push_at [] y v lt = absurd (omega (arith, lt))
push_at (x ∷ xs) y zero lt = refl
push_at (x ∷ xs) y (suc v) lt = push_at xs y v (omega (arith, lt))

push_end : (xs : List (List ℕ)) (y : List ℕ) → named_by (xs ++ y ∷ []) (length xs) ≡ y
push_end [] y = refl
push_end (x ∷ xs) y = push_end xs y

push_long : (xs : List (List ℕ)) (y : List ℕ) → length (xs ++ y ∷ []) ≡ length xs + 1
push_long [] y = refl
push_long (x ∷ xs) y = omega (arith, push_long xs y)

pub edges_next : (nodes : List Node) (n : ℕ) (node : Node) (places : List ℕ) (edges new : List (List ℕ)) → n < length nodes → node ≡ get_or nodes n node → EdgesTo nodes n edges → new ≡ edges ++ places ∷ [] → ArePlaces (node_names nodes) n node.needs places → EdgesTo nodes (n + 1) new
edges_next nodes n node places edges new lt is was grown are = record {
  long = ap length grown ∙ push_long edges places ∙ ap (λ m. m + 1) was.long;
  each = λ v other below stands. elim (cases_lt v n) [
    | inl less ↦ subst (ArePlaces (node_names nodes) v other.needs) (sym (ap (λ l. named_by l v) grown ∙ push_at edges places v (omega (arith, less, was.long)))) (was.each v other less stands)
    | inr more ↦ last v other (omega (arith, below, more)) stands
  ];
}
  where
    last : (v : ℕ) (other : Node) → v ≡ n → slice_get nodes v ≡ Some other → ArePlaces (node_names nodes) v other.needs (named_by new v)
    last v other at stands =
        let one : other ≡ node = sym (get_or_from_slice_get nodes v other node stands) ∙ ap (λ k. get_or nodes k node) at ∙ sym is in
        let here : named_by new v ≡ places = ap (named_by new) (at ∙ sym was.long) ∙ ap (λ l. named_by l (length edges)) grown ∙ push_end edges places in
        subst (λ k. ArePlaces (node_names nodes) k other.needs (named_by new v)) (sym at) (subst (λ (x : Node). ArePlaces (node_names nodes) n x.needs (named_by new v)) (sym one) (subst (ArePlaces (node_names nodes) n node.needs) (sym here) are))

pub edges_first : (nodes : List Node) (edges : List (List ℕ)) → edges ≡ [] → EdgesTo nodes 0 edges
edges_first nodes edges empty = subst (EdgesTo nodes 0) (sym empty) (record { long = refl; each = λ v node lt stands. absurd (omega (arith, lt)) })

pub edges_all : (nodes : List Node) (n : ℕ) (edges : List (List ℕ)) → n ≡ length nodes → EdgesTo nodes n edges → AreNodeEdges nodes edges
edges_all nodes n edges all was = record { long = was.long ∙ all; each = λ v node stands. was.each v node (omega (arith, all, slice_get_within nodes v node stands)) stands }

-- ---- roots

-- a name's place is one of the nodes
pub place_below : (nodes : List Node) (entries : List (List ℕ × ℕ)) (name : Hash) (place : ℕ) → IsPlaceTable (node_names nodes) entries → Some place ≡ lookup (bytes_eq name.bytes) entries → place < length nodes
place_below nodes entries name place table found =
    let at : place_in (node_names nodes) name ≡ Some place = sym (table name) ∙ sym found in
    let long : length (node_names nodes) ≡ length nodes = length-map nodes (λ (x : Node). x.name) in
    let below = slice_get_within (node_names nodes) place name (place_found (node_names nodes) name place at) in
    omega (arith, below, long)

pub root_marked : (nodes : List Node) (entries : List (List ℕ × ℕ)) (name : Hash) (place : ℕ) (marks : List Bool) → IsPlaceTable (node_names nodes) entries → Some place ≡ lookup (bytes_eq name.bytes) entries → length marks ≡ length nodes
    → IsRootMarked (node_names nodes) name marks (set marks place true)
root_marked nodes entries name place marks table found long = record {
  long = length-set marks place true;
  each = λ k. elim (cases_eq k place) [
    | inl same ↦ (λ m. inr (at ∙ ap (λ n. Some n) (sym same)), λ which. ap (λ n. get_or (set marks place true) n false) same ∙ get_or-set_same marks place true false below)
    | inr other ↦
        let beside : get_or (set marks place true) k false ≡ get_or marks k false = get_or-set_other marks place k true false other in
        (λ m. inl (sym beside ∙ m), λ which. elim which [ inl was ↦ beside ∙ was | inr here ↦ absurd (other (some_one (place_in (node_names nodes) name) k place here at)) ])
  ];
}
  where
    at : place_in (node_names nodes) name ≡ Some place
    at = sym (table name) ∙ sym found

    below : place < length marks
    below = omega (arith, place_below nodes entries name place table found, long)

pub roots_first : (nodes : List Node) (roots : List Hash) (marks : List Bool) → marks ≡ replicate (length nodes) false → AreRoots (node_names nodes) (take 0 roots) marks
roots_first nodes roots marks is = record {
  long = ap length is ∙ length-replicate (length nodes) false ∙ sym (length-map nodes (λ (x : Node). x.name));
  each = λ k. (λ m. absurd (not k (sym (ap (λ l. get_or l k false) is) ∙ m)), λ r. absurd (taken_none roots r.0 r.1));
}
  where
    not : (k : ℕ) → get_or (replicate (length nodes) false) k false ≡ true → ⊥
    not k m = elim (cases_lt k (length nodes)) [
      | inl less ↦ let f : false ≡ true = sym (get_or-replicate (length nodes) k false false less) ∙ m in absurd cc
      | inr past ↦ let f : false ≡ true = sym (get_or_past (replicate (length nodes) false) k false (omega (arith, past, length-replicate (length nodes) false))) ∙ m in absurd cc
    ]

pub roots_next : (nodes : List Node) (roots : List Hash) (i : ℕ) (root : Hash) (marks new : List Bool) → i < length roots → root ≡ get_or roots i root → AreRoots (node_names nodes) (take i roots) marks → IsRootMarked (node_names nodes) root marks new
    → AreRoots (node_names nodes) (take (i + 1) roots) new
roots_next nodes roots i root marks new lt is was marked = record {
  long = marked.long ∙ was.long;
  each = λ k. (
    λ m. elim ((marked.each k).0 m) [
      | inl earlier ↦ let r = (was.each k).0 earlier in (r.0, taken_first roots i root r.0 lt is r.1, r.2)
      | inr here ↦ (root, taken_last roots i root lt is, here)
    ],
    λ r. (marked.each k).1 (elim (taken_or roots i root r.0 lt is r.1) [
      | inl earlier ↦ inl ((was.each k).1 (r.0, earlier, r.2))
      | inr same ↦ inr (ap (place_in (node_names nodes)) same ∙ r.2)
    ]),
  );
}

pub roots_all : (nodes : List Node) (roots : List Hash) (i : ℕ) (marks : List Bool) → length roots ≤ i → AreRoots (node_names nodes) (take i roots) marks → AreRoots (node_names nodes) roots marks
roots_all nodes roots i marks past was = subst (λ l. AreRoots (node_names nodes) l marks) (take_all i roots past) was
