-- Text in parentheses, from the front.
use Rattle.std.proofs.Common.{◌≡◌, refl, sym, ◌∙◌, ap, ℕ, suc, ◌+◌, ◌<◌, arith, true, false, List, [], ◌∷◌, ◌++◌, length, take, drop, get_or, reverse, Some, None, position, append_assoc, append-nil, add-one, ◌⊎◌, inl, inr, eqb, length-take}
use Rattle.std.proofs.Math.Seq.{drop-cons}
use Rattle.std.specs.List.{join_with_byte}
use Rattle.std.proofs.lemmas.Bool.Decides.{Decides-eqb}
use Rattle.std.proofs.lemmas.List.{reverse-append, take-append-drop, get_or-take}
use Rattle.std.proofs.lemmas.List.Quantifiers.{position-Some}
use Rattle.meta_model.proofs.Unfound.{none_before}
use Rattle.meta_model.proofs.Bools.{either_way, or_left, or_right, from_or}
use Rattle.load_model.specs.Facts.{onto_front, opened, bracket_before, outside_brackets, without_brackets}
use Rattle.recipe_facts.specs.Brackets.{is_bracket, open_texts, with_open}

-- the texts are never none

record Shape (text : List ℕ) : Type 0 where
  first : List ℕ
  others : List (List ℕ)
  is : outside_brackets text ≡ first ∷ others

opened_shape : (first : List ℕ) (others : List (List ℕ)) → (u : List ℕ) × (us : List (List ℕ)) × (opened (first ∷ others) ≡ u ∷ us)
opened_shape first [] = (40 ∷ first, [], refl)
opened_shape first (next ∷ others) = (next, others, refl)

shape : (text : List ℕ) → Shape text
shape [] = record { first = []; others = []; is = refl }
shape (c ∷ text) =
    let s = shape text in
    elim (either_way (eqb c 41)) [
      | inl e ↦ record { first = []; others = s.first ∷ s.others; is = rw (e, s.is) refl }
      | inr e ↦ elim (either_way (eqb c 40)) [
        | inl o ↦ let k = opened_shape s.first s.others in record { first = k.0; others = k.1; is = rw (e, o, s.is) k.2 }
        | inr o ↦ record { first = c ∷ s.first; others = s.others; is = rw (e, o, s.is) refl }
      ]
    ]

-- characters that are no parenthesis

front_one : (c : ℕ) (texts : List (List ℕ)) (last u : List ℕ) (us : List (List ℕ)) → with_open texts last (onto_front c (u ∷ us)) ≡ with_open texts (last ++ c ∷ []) (u ∷ us)
front_one c texts last u [] = ap (open_texts texts) (sym (append_assoc last (c ∷ []) u))
front_one c [] last u (v ∷ us) = sym (append_assoc last (c ∷ []) (u ++ 41 ∷ join_with_byte 41 (v ∷ us)))
front_one c (text ∷ texts) last u (v ∷ us) = refl

plain : (c : ℕ) (us : List (List ℕ)) → is_bracket c ≡ false → bracket_before c us ≡ onto_front c us
plain c us h = rw (or_right (eqb c 40) (eqb c 41) h, or_left (eqb c 40) (eqb c 41) h) refl

plain_one : (c : ℕ) (rest : List ℕ) (texts : List (List ℕ)) (last : List ℕ) → is_bracket c ≡ false → with_open texts last (outside_brackets (c ∷ rest)) ≡ with_open texts (last ++ c ∷ []) (outside_brackets rest)
plain_one c rest texts last h =
    let s = shape rest in
    ap (with_open texts last) (plain c (outside_brackets rest) h ∙ ap (onto_front c) s.is) ∙ front_one c texts last s.first s.others ∙ ap (with_open texts (last ++ c ∷ [])) (sym s.is)

plain_run : (run rest : List ℕ) (texts : List (List ℕ)) (last : List ℕ) → ((k : ℕ) → k < length run → is_bracket (get_or run k 0) ≡ false) → with_open texts last (outside_brackets (run ++ rest)) ≡ with_open texts (last ++ run) (outside_brackets rest)
plain_run [] rest texts last h = ap (λ l. with_open texts l (outside_brackets rest)) (sym (append-nil last))
plain_run (c ∷ run) rest texts last h =
    plain_one c (run ++ rest) texts last (h 0 (omega arith)) ∙ plain_run run rest texts (last ++ c ∷ []) (λ k lt. h (suc k) (omega arith)) ∙ ap (λ l. with_open texts l (outside_brackets rest)) (append_assoc last (c ∷ []) run)

-- parentheses

pub opens : (texts : List (List ℕ)) (last text : List ℕ) (more : List (List ℕ)) → with_open (last ∷ texts) [] (text ∷ more) ≡ with_open texts last (bracket_before 40 (text ∷ more))
opens texts last text [] = refl
opens texts last text (next ∷ more) = refl

pub closes : (texts : List (List ℕ)) (before last text : List ℕ) (more : List (List ℕ)) → with_open texts before (text ∷ more) ≡ with_open (before ∷ texts) last (bracket_before 41 (text ∷ more))
closes texts before last text more = refl

pub is_one : (c : ℕ) → is_bracket c ≡ true → (c ≡ 40) ⊎ (c ≡ 41)
is_one c h = elim (either_way (eqb c 40)) [
  | inl e ↦ inl ((Decides-eqb c 40).0 e)
  | inr e ↦ inr ((Decides-eqb c 41).0 (from_or (eqb c 40) (eqb c 41) h e))
]

pub onto_reverse : (xs : List (List ℕ)) (x : List ℕ) → reverse (xs ++ x ∷ []) ≡ x ∷ reverse xs
onto_reverse xs x = reverse-append xs (x ∷ [])

-- the loop

pub texts_begin : (text : List ℕ) → with_open [] [] (outside_brackets text) ≡ without_brackets text
texts_begin text = let s = shape text in ap (with_open [] []) s.is ∙ at s.first s.others ∙ sym (ap (join_with_byte 41) s.is)
  where
    at : (u : List ℕ) (us : List (List ℕ)) → with_open [] [] (u ∷ us) ≡ join_with_byte 41 (u ∷ us)
    at u [] = refl
    at u (v ∷ us) = refl

cut_at : (rest : List ℕ) (i : ℕ) → i < length rest → take i rest ++ (get_or rest i 0 ∷ drop (i + 1) rest) ≡ rest
cut_at rest i lt = ap (λ l. take i rest ++ l) (ap (λ j. get_or rest i 0 ∷ drop j rest) (add-one i) ∙ sym (drop-cons rest i 0 lt)) ∙ take-append-drop i rest

pub texts_go_on : (rest after last last1 last2 : List ℕ) (texts texts' : List (List ℕ)) (i b : ℕ) → Some i ≡ position is_bracket rest → last1 ≡ last ++ take i rest → after ≡ drop (i + 1) rest → b ≡ get_or rest i 0
    → ((text : List ℕ) (more : List (List ℕ)) → with_open texts' last2 (text ∷ more) ≡ with_open texts last1 (bracket_before b (text ∷ more))) → with_open texts' last2 (outside_brackets after) ≡ with_open texts last (outside_brackets rest)
texts_go_on rest after last last1 last2 texts texts' i b e l a is h =
    let s = shape after in
    let p = position-Some is_bracket rest i 0 (sym e) in
    ap (with_open texts' last2) s.is ∙ h s.first s.others ∙ ap (λ us. with_open texts last1 (bracket_before b us)) (sym s.is)
    ∙ ap (λ x. with_open texts x (outside_brackets (b ∷ after))) l
    ∙ ap (λ c. with_open texts (last ++ take i rest) (outside_brackets (c ∷ after))) is
    ∙ ap (λ x. with_open texts (last ++ take i rest) (outside_brackets (get_or rest i 0 ∷ x))) a
    ∙ sym (plain_run (take i rest) (get_or rest i 0 ∷ drop (i + 1) rest) texts last (front_plain p.0 p.2))
    ∙ ap (λ x. with_open texts last (outside_brackets x)) (cut_at rest i p.0)
  where
    front_plain : i < length rest → ((k : ℕ) → k < i → is_bracket (get_or rest k 0) ≡ false) → (k : ℕ) → k < length (take i rest) → is_bracket (get_or (take i rest) k 0) ≡ false
    front_plain lt h k less = let low : k < i = omega (arith, length-take i rest, less) in rw (get_or-take i rest k 0 low) (h k low)

pub texts_end : (rest last : List ℕ) (texts : List (List ℕ)) → position is_bracket rest ≡ None → open_texts texts (last ++ rest) ≡ with_open texts last (outside_brackets rest)
texts_end rest last texts e =
    ap (open_texts texts) (sym (append-nil (last ++ rest))) ∙ sym (plain_run rest [] texts last (none_before is_bracket rest 0 e)) ∙ ap (λ r. with_open texts last (outside_brackets r)) (append-nil rest)

-- open texts, one after another

pub put_open : (made made' made'' x : List ℕ) (xs : List (List ℕ)) → ((last : List ℕ) → made ++ last ≡ open_texts (reverse xs) last) → made' ≡ made ++ x → made'' ≡ made' ++ 40 ∷ [] → (last : List ℕ) → made'' ++ last ≡ open_texts (reverse (xs ++ x ∷ [])) last
put_open made made' made'' x xs h p q last =
    ap (λ m. m ++ last) (q ∙ ap (λ m. m ++ 40 ∷ []) p) ∙ append_assoc (made ++ x) (40 ∷ []) last ∙ append_assoc made x (40 ∷ last) ∙ h (x ++ 40 ∷ last) ∙ ap (λ ts. open_texts ts last) (sym (onto_reverse xs x))

pub other_one : (c : ℕ) → (c ≡ 40) ⊎ (c ≡ 41) → (c ≡ 40 → ⊥) → c ≡ 41
other_one c (inl e) n = absurd (n e)
other_one c (inr e) n = e
