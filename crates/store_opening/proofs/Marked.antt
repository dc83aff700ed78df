-- Marks of places.
use Rattle.std.proofs.Common.{◌≡◌, ◌≢◌, ◌∙◌, sym, ap, subst, refl, ℕ, ◌+◌, ◌<◌, ◌⊎◌, inl, inr, Bool, true, false, List, [], ◌∷◌, ◌++◌, Option, Some, arith, get_or, set, length, take, length-set, get_or-set_other, get_or-set_same}
use Rattle.std.specs.Prelude.{Contains, slice_get}
use Rattle.std.proofs.lemmas.Bool.{false≢true}
use Rattle.std.proofs.lemmas.Bool.{cases_eq}
use Rattle.std.proofs.lemmas.List.{get_or_default, take_more}
use Rattle.std.proofs.lemmas.List.Elements.{Contains-append_left, Contains-push, Contains-push_cases}
use Rattle.store_opening.specs.Survey.{AreMarks, DoomsUnless, DoomsUnmarked}
use Rattle.store_model.specs.Paths.{record_path}
use Rattle.store_model.specs.declared.candidate.Candidate.{Candidate}

pub place_in : (places : List ℕ) (i : ℕ) → i < length places → Contains places (get_or places i 0)
place_in places i lt = (i, lt, get_or_default places i (get_or places i 0) 0 lt)

pub marks_more : (count : ℕ) (places : List ℕ) (marks : List Bool) (i : ℕ) → i < length places → get_or places i 0 < count → AreMarks count (take i places) marks → AreMarks count (take (i + 1) places) (set marks (get_or places i 0) true)
marks_more count places marks i lt within was = record {
  long = length-set marks p true ∙ was.long;
  listed = λ k is. elim (cases_eq k p) [
    | inl same ↦ subst (λ (l : List ℕ). Contains l k) (sym grown) (subst (Contains (take i places ++ p ∷ [])) (sym same) (Contains-push (take i places) p))
    | inr other ↦ subst (λ (l : List ℕ). Contains l k) (sym grown) (Contains-append_left (take i places) (p ∷ []) k (was.listed k (sym (beside k other) ∙ is)))
  ];
  marked = λ k has. by k (Contains-push_cases (take i places) p k (subst (λ (l : List ℕ). Contains l k) grown has));
}
  where
    p : ℕ
    p = get_or places i 0

    grown : take (i + 1) places ≡ take i places ++ p ∷ []
    grown = take_more places i 0 lt

    fits : p < length marks
    fits = let n = was.long in omega (arith, n, within)

    beside : (k : ℕ) → k ≢ p → get_or (set marks p true) k false ≡ get_or marks k false
    beside k ne = get_or-set_other marks p k true false ne

    here : get_or (set marks p true) p false ≡ true
    here = get_or-set_same marks p true false fits

    by : (k : ℕ) → Contains (take i places) k ⊎ (p ≡ k) → get_or (set marks p true) k false ≡ true
    by k (inl has) = elim (cases_eq k p) [
      | inl same ↦ ap (λ (n : ℕ). get_or (set marks p true) n false) same ∙ here
      | inr other ↦ beside k other ∙ was.marked k has
    ]
    by k (inr e) = ap (λ (n : ℕ). get_or (set marks p true) n false) (sym e) ∙ here

-- ---- candidates that aren't marked

some_one : {A : Type 0} (x y : A) (o : Option A) → o ≡ Some x → o ≡ Some y → x ≡ y
some_one x y o p q = cc

module _ (candidates : List Candidate) (marks : List Bool) (n : ℕ) (c : Candidate) (start old new : List (List ℕ)) (at : slice_get candidates n ≡ Some c) (was : DoomsUnmarked candidates marks n start old) where
  unmarked : new ≡ old ++ record_path c.name ∷ [] → get_or marks n false ≡ false → DoomsUnmarked candidates marks (n + 1) start new
  unmarked is mark = record {
    kept = λ q has. subst (λ (l : List (List ℕ)). Contains l q) (sym is) (Contains-append_left old (record_path c.name ∷ []) q (was.kept q has));
    sound = λ q has. by q (Contains-push_cases old (record_path c.name) q (subst (λ (l : List (List ℕ)). Contains l q) is has));
    whole = λ k x lt get not. elim (cases_eq k n) [
      | inl same ↦
          let one : c ≡ x = some_one c x (slice_get candidates n) at (ap (slice_get candidates) (sym same) ∙ get) in
          subst (λ (l : List (List ℕ)). Contains l (record_path x.name)) (sym is) (subst (λ (y : Candidate). Contains (old ++ record_path c.name ∷ []) (record_path y.name)) one (Contains-push old (record_path c.name)))
      | inr other ↦ subst (λ (l : List (List ℕ)). Contains l (record_path x.name)) (sym is) (Contains-append_left old (record_path c.name ∷ []) (record_path x.name) (was.whole k x (omega (arith, lt, other)) get not))
    ];
  }
    where
      by : (q : List ℕ) → Contains old q ⊎ (record_path c.name ≡ q) → Contains start q ⊎ ((k : ℕ) × (x : Candidate) × (slice_get candidates k ≡ Some x) × (get_or marks k false ≡ false) × (q ≡ record_path x.name))
      by q (inl has) = was.sound q has
      by q (inr e) = inr (n, c, at, mark, sym e)

  marked_one : new ≡ old → get_or marks n false ≡ true → DoomsUnmarked candidates marks (n + 1) start new
  marked_one is mark = record {
    kept = λ q has. subst (λ (l : List (List ℕ)). Contains l q) (sym is) (was.kept q has);
    sound = λ q has. was.sound q (subst (λ (l : List (List ℕ)). Contains l q) is has);
    whole = λ k x lt get not. elim (cases_eq k n) [
      | inl same ↦ let f : get_or marks n false ≡ false = ap (λ (i : ℕ). get_or marks i false) (sym same) ∙ not in absurd (false≢true (sym f ∙ mark))
      | inr other ↦ subst (λ (l : List (List ℕ)). Contains l (record_path x.name)) (sym is) (was.whole k x (omega (arith, lt, other)) get not)
    ];
  }

  pub unmarked_more : DoomsUnless (get_or marks n false) c old new → DoomsUnmarked candidates marks (n + 1) start new
  unmarked_more dooms = by (get_or marks n false) refl dooms
    where
      by : (b : Bool) → get_or marks n false ≡ b → DoomsUnless b c old new → DoomsUnmarked candidates marks (n + 1) start new
      by true e is = marked_one is e
      by false e is = unmarked is e
