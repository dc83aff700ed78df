-- Layers of records, and the rounds in which they go.
use Rattle.std.proofs.Common.{◌≡◌, ◌∙◌, sym, ap, refl, subst, arith, ℕ, zero, suc, ◌+◌, ◌<◌, ◌≤◌, Bool, true, false, List, [], ◌∷◌, ◌++◌, length, get_or, set, take, replicate, ◌⊎◌, inl, inr}
use Rattle.std.specs.Prelude.{Contains}
use Rattle.std.proofs.lemmas.Bool.{cases_eq, cases_lt}
use Rattle.std.proofs.lemmas.List.{get_or-replicate, get_or_default, length-replicate, length-set}
use Rattle.std.proofs.Common.{get_or-set_other, get_or-set_same}
use Rattle.std.proofs.lemmas.List.Elements.{Contains-append_left, Contains-push, Contains-push_cases}
use Rattle.store_keep.specs.Keep.{NameEarlier, Names, named_by}
use Rattle.store_clean.specs.Steps.{AreLayers, AreRounds, IsGone, IsPutIn, PutsUnless, layer_at, round_at}
use Rattle.store_clean.proofs.Lists.{nothing, past_end, taken_or}

-- ---- the layer above some places

pub above_next : (layers places : List ℕ) (i place above new : ℕ) → i < length places → place ≡ get_or places i place → ((w : ℕ) → Contains (take i places) w → layer_at layers w < above) → layer_at layers place < new → above ≤ new
    → (w : ℕ) → Contains (take (i + 1) places) w → layer_at layers w < new
above_next layers places i place above new lt is was over no_less w has = elim (taken_or places i place w lt is has) [
  | inl earlier ↦ let below = was w earlier in omega (arith, below, no_less)
  | inr same ↦ subst (λ v. layer_at layers v < new) same over
]

-- ---- the layers of the first records

pub record LayersTo (edges : List (List ℕ)) (n : ℕ) (layers : List ℕ) : Type 0 where
  pub long : length layers ≡ n
  pub low : (w : ℕ) → layer_at layers w ≤ w
  pub falls : (v w : ℕ) → v < n → Names edges v w → layer_at layers w < layer_at layers v

push_at : (xs : List ℕ) (y v : ℕ) → v < length xs → layer_at (xs ++ y ∷ []) v ≡ layer_at xs v
push_at [] y v lt = absurd (omega (arith, lt))
push_at (x ∷ xs) y zero lt = refl
push_at (x ∷ xs) y (suc v) lt = push_at xs y v (omega (arith, lt))

push_end : (xs : List ℕ) (y : ℕ) → layer_at (xs ++ y ∷ []) (length xs) ≡ y
push_end [] y = refl
push_end (x ∷ xs) y = push_end xs y

push_past : (xs : List ℕ) (y v : ℕ) → length xs < v → layer_at (xs ++ y ∷ []) v ≡ 0
push_past [] y zero lt = absurd (omega (arith, lt))
push_past [] y (suc v) lt = refl
push_past (x ∷ xs) y zero lt = absurd (omega (arith, lt))
push_past (x ∷ xs) y (suc v) lt = push_past xs y v (omega (arith, lt))

push_long : (xs : List ℕ) (y : ℕ) → length (xs ++ y ∷ []) ≡ length xs + 1
push_long [] y = refl
push_long (x ∷ xs) y = omega (arith, push_long xs y)

low_push : (layers : List ℕ) (layer : ℕ) → ((w : ℕ) → layer_at layers w ≤ w) → layer ≤ length layers → (w : ℕ) → layer_at (layers ++ layer ∷ []) w ≤ w
low_push layers layer low le w = elim (cases_lt w (length layers)) [
  | inl less ↦ let l = low w in omega (arith, push_at layers layer w less, l)
  | inr more ↦ elim (cases_lt (length layers) w) [
    | inl past ↦ omega (arith, push_past layers layer w past)
    | inr here ↦ let at : w ≡ length layers = omega (arith, more, here) in
        let e : layer_at (layers ++ layer ∷ []) w ≡ layer = ap (layer_at (layers ++ layer ∷ [])) at ∙ push_end layers layer in omega (arith, e, at, le)
  ]
]

pub layers_next : (edges : List (List ℕ)) (n layer : ℕ) (places layers new : List ℕ) → NameEarlier edges → n < length edges → places ≡ get_or edges n places → LayersTo edges n layers → new ≡ layers ++ layer ∷ []
    → ((w : ℕ) → Contains places w → layer_at layers w < layer) → layer ≤ length layers → LayersTo edges (n + 1) new
layers_next edges n layer places layers new earlier lt is was grown above le = subst (LayersTo edges (n + 1)) (sym grown) (record {
  long = omega (arith, push_long layers layer, was.long);
  low = low_push layers layer was.low le;
  falls = falls;
})
  where
    here : named_by edges n ≡ places
    here = get_or_default edges n [] places lt ∙ sym is

    falls : (v w : ℕ) → v < n + 1 → Names edges v w → layer_at (layers ++ layer ∷ []) w < layer_at (layers ++ layer ∷ []) v
    falls v w below named = by (cases_lt v n)
      where
        w_below : w < v
        w_below = earlier v w named

        w_at : layer_at (layers ++ layer ∷ []) w ≡ layer_at layers w
        w_at = push_at layers layer w (omega (arith, w_below, below, was.long))

        by : (v < n) ⊎ (n ≤ v) → layer_at (layers ++ layer ∷ []) w < layer_at (layers ++ layer ∷ []) v
        by (inl less) =
            let v_at : layer_at (layers ++ layer ∷ []) v ≡ layer_at layers v = push_at layers layer v (omega (arith, less, was.long)) in
            omega (arith, w_at, v_at, was.falls v w less named)
        by (inr more) =
            let at : v ≡ n = omega (arith, below, more) in
            let v_at : layer_at (layers ++ layer ∷ []) v ≡ layer = ap (layer_at (layers ++ layer ∷ [])) (at ∙ sym was.long) ∙ push_end layers layer in
            let has : Contains places w = subst (λ (l : List ℕ). Contains l w) here (subst (λ (k : ℕ). Names edges k w) at named) in
            omega (arith, w_at, v_at, above w has)

pub layers_first : (edges : List (List ℕ)) (layers : List ℕ) → layers ≡ [] → LayersTo edges 0 layers
layers_first edges layers empty = subst (LayersTo edges 0) (sym empty) (record { long = refl; low = λ w. omega arith; falls = λ v w lt named. absurd (omega (arith, lt)) })

pub layers_all : (edges : List (List ℕ)) (n : ℕ) (layers : List ℕ) → n ≡ length edges → LayersTo edges n layers → AreLayers edges layers
layers_all edges n layers all was = record {
  long = was.long ∙ all;
  low = λ v lt. let l = was.low v in omega (arith, l, lt);
  falls = λ v w lt named. was.falls v w (omega (arith, lt, all)) named;
}

-- what the next record names is below
pub places_below : (edges : List (List ℕ)) (n long : ℕ) (places : List ℕ) → NameEarlier edges → n < length edges → places ≡ get_or edges n places → long ≡ n → (w : ℕ) → Contains places w → w < long
places_below edges n long places earlier lt is at w has =
    let here : named_by edges n ≡ places = get_or_default edges n [] places lt ∙ sym is in
    let below = earlier n w (subst (λ (l : List ℕ). Contains l w) (sym here) has) in
    omega (arith, below, at)

-- ---- rounds

pub put_in_set : (old : List (List ℕ)) (round place : ℕ) → round < length old → IsPutIn round place old (set old round (round_at old round ++ place ∷ []))
put_in_set old round place lt = record {
  long = length-set old round (round_at old round ++ place ∷ []);
  each = λ k v. elim (cases_eq k round) [
    | inl same ↦ here k v same
    | inr other ↦
        let e : round_at (set old round (round_at old round ++ place ∷ [])) k ≡ round_at old k = rw get_or-set_other refl in
        (λ has. inl (subst (λ (l : List ℕ). Contains l v) e has), λ which. elim which [ inl was ↦ subst (λ (l : List ℕ). Contains l v) (sym e) was | inr w ↦ absurd (other w.0) ])
  ];
}
  where
    here : (k v : ℕ) → k ≡ round → (Contains (round_at (set old round (round_at old round ++ place ∷ [])) k) v → Contains (round_at old k) v ⊎ ((k ≡ round) × (v ≡ place))) × (Contains (round_at old k) v ⊎ ((k ≡ round) × (v ≡ place)) → Contains (round_at (set old round (round_at old round ++ place ∷ [])) k) v)
    here k v same =
        let at : round_at (set old round (round_at old round ++ place ∷ [])) k ≡ round_at old round ++ place ∷ [] = ap (round_at (set old round (round_at old round ++ place ∷ []))) same ∙ get_or-set_same old round (round_at old round ++ place ∷ []) [] lt in (
          λ has. elim (Contains-push_cases (round_at old round) place v (subst (λ (l : List ℕ). Contains l v) at has)) [
            | inl was ↦ inl (subst (λ (r : ℕ). Contains (round_at old r) v) (sym same) was)
            | inr e ↦ inr (same, sym e)
          ],
          λ which. subst (λ (l : List ℕ). Contains l v) (sym at) (elim which [
            | inl was ↦ Contains-append_left (round_at old round) (place ∷ []) v (subst (λ (r : ℕ). Contains (round_at old r) v) same was)
            | inr w ↦ subst (Contains (round_at old round ++ place ∷ [])) (sym w.1) (Contains-push (round_at old round) place)
          ]),
        )

-- the rounds of the first places
pub record RoundsTo (edges : List (List ℕ)) (layers : List ℕ) (marks : List Bool) (n : ℕ) (rounds : List (List ℕ)) : Type 0 where
  pub long : length rounds ≡ length edges
  pub only : (k v : ℕ) → Contains (round_at rounds k) v → (v < n) × (IsGone marks v × (layer_at layers v ≡ k))
  pub whole : (v : ℕ) → v < n → IsGone marks v → Contains (round_at rounds (layer_at layers v)) v

pub rounds_first : (edges : List (List ℕ)) (layers : List ℕ) (marks : List Bool) (rounds : List (List ℕ)) → rounds ≡ replicate (length edges) [] → RoundsTo edges layers marks 0 rounds
rounds_first edges layers marks rounds is = record {
  long = ap length is ∙ length-replicate (length edges) [];
  only = λ k v has. absurd (none k v (subst (λ (rs : List (List ℕ)). Contains (round_at rs k) v) is has));
  whole = λ v lt gone. absurd (omega (arith, lt));
}
  where
    none : (k v : ℕ) → Contains (round_at (replicate (length edges) []) k) v → ⊥
    none k v has =
        let none_long : length {A = List ℕ} (replicate (length edges) []) ≡ length edges = length-replicate (length edges) [] in
        let lt : k < length edges = omega (arith, past_end (replicate (length edges) []) k v has, none_long) in
        nothing v (subst (λ (l : List ℕ). Contains l v) (get_or-replicate (length edges) k [] [] lt) has)

-- one place more that stays
pub rounds_stays : (edges : List (List ℕ)) (layers : List ℕ) (marks : List Bool) (n : ℕ) (rounds : List (List ℕ)) → (IsGone marks n → ⊥) → RoundsTo edges layers marks n rounds → RoundsTo edges layers marks (n + 1) rounds
rounds_stays edges layers marks n rounds stays was = record {
  long = was.long;
  only = λ k v has. let w = was.only k v has in (omega (arith, w.0), w.1);
  whole = λ v lt gone. elim (cases_lt v n) [
    | inl less ↦ was.whole v less gone
    | inr more ↦ let at : v ≡ n = omega (arith, lt, more) in absurd (stays (subst (IsGone marks) at gone))
  ];
}

-- ... and one that goes
pub rounds_goes : (edges : List (List ℕ)) (layers : List ℕ) (marks : List Bool) (n round : ℕ) (rounds new : List (List ℕ)) → IsGone marks n → round ≡ layer_at layers n → RoundsTo edges layers marks n rounds → IsPutIn round n rounds new → RoundsTo edges layers marks (n + 1) new
rounds_goes edges layers marks n round rounds new gone at was put = record {
  long = put.long ∙ was.long;
  only = λ k v has. elim ((put.each k v).0 has) [
    | inl earlier ↦ let w = was.only k v earlier in (omega (arith, w.0), w.1)
    | inr w ↦ (omega (arith, w.1), (subst (IsGone marks) (sym w.1) gone, ap (layer_at layers) w.1 ∙ sym at ∙ sym w.0))
  ];
  whole = λ v lt goes. elim (cases_lt v n) [
    | inl less ↦ (put.each (layer_at layers v) v).1 (inl (was.whole v less goes))
    | inr more ↦ let here : v ≡ n = omega (arith, lt, more) in (put.each (layer_at layers v) v).1 (inr (ap (layer_at layers) here ∙ sym at, here))
  ];
}

-- ... by its mark
pub rounds_next : (edges : List (List ℕ)) (layers : List ℕ) (marks : List Bool) (n round : ℕ) (mark : Bool) (rounds new : List (List ℕ)) → mark ≡ get_or marks n false → round ≡ layer_at layers n → RoundsTo edges layers marks n rounds → PutsUnless mark round n rounds new → RoundsTo edges layers marks (n + 1) new
rounds_next edges layers marks n round true rounds new at here was same = subst (RoundsTo edges layers marks (n + 1)) (sym same) (rounds_stays edges layers marks n rounds (λ gone. let f : true ≡ false = at ∙ gone in absurd cc) was)
rounds_next edges layers marks n round false rounds new at here was put = rounds_goes edges layers marks n round rounds new (sym at) here was put

pub rounds_all : (edges : List (List ℕ)) (layers : List ℕ) (marks : List Bool) (n : ℕ) (rounds : List (List ℕ)) → n ≡ length edges → AreLayers edges layers → RoundsTo edges layers marks n rounds → AreRounds edges marks rounds
rounds_all edges layers marks n rounds all are was = record {
  only = λ k v has. let w = was.only k v has in (omega (arith, w.0, all), w.1.0);
  whole = λ v lt gone. (layer_at layers v, omega (arith, are.low v lt, was.long), was.whole v (omega (arith, lt, all)) gone);
  falls = λ j k v w has_v has_w named.
      let a = was.only j v has_v in
      let b = was.only k w has_w in
      let f = are.falls v w (omega (arith, a.0, all)) named in
      omega (arith, f, a.1.1, b.1.1);
}
