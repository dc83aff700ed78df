-- How parts are put together, and what openings, braces and runs of plain text make of them.
use Rattle.std.proofs.Common.{◌≡◌, refl, sym, ◌∙◌, ap, subst, arith, ℕ, suc, ◌+◌, ◌<◌, ◌≤◌, le_trans, le_refl, max, List, [], ◌∷◌, ◌++◌, length, take, drop, Bool, true, false, Option, Some, None, ◌&&◌, ◌||◌, ◌⊎◌, inl, inr, eq-eqb, ne_eqb, ◌==◌, codes, get_or, add-one}
use Rattle.std.proofs.lemmas.Bool.{cases_eq, cases_Bool, true≢false}
use Rattle.std.proofs.Math.Seq.{drop-cons, take-suc}
use Rattle.meta_model.proofs.RoundTrip.{mapped, form_parts}
use Rattle.meta_model.specs.declared.form.Form.{Form}
use Rattle.meta_model.specs.Forms.{is_form_character, form_of}
use Rattle.std.specs.List.{list_all}
use Rattle.meta_model.specs.Text.{◌>>=◌, begins_with, dollar, open_brace, close_brace}
use Rattle.meta_model.specs.Names.{is_name_character}
use Rattle.meta_model.specs.Parts.{Parts, end, plain, reference, form, plain_bytes, form_in, Token, opening, byte, Levels, last, before_brace, onto, opened, plain_opening, is_name, is_nothing, are_name_parts, dollar_before, tokens_of, joined_with, with_braces, depth}
use Rattle.var_expand.specs.Pieces.{text_before}
use Rattle.var_expand.specs.Standing.{IsPlainInside, levels, in_front, wrapped, flattened}

-- no test is both
pub not_both : {A : Type 0} (b : Bool) → b ≡ true → b ≡ false → A
not_both b t f = absurd (true≢false (sym t ∙ f))

pub or_left : (a b : Bool) → (a || b) ≡ false → a ≡ false
or_left true b e = e
or_left false b e = refl

pub or_right : (a b : Bool) → (a || b) ≡ false → b ≡ false
or_right true b e = not_both true refl e
or_right false b e = e

-- parts put together

pub joined_end : (p : Parts) → joined_with p end ≡ p
joined_end end = refl
joined_end (plain c rest) = ap (plain c) (joined_end rest)
joined_end (reference name rest) = ap (reference name) (joined_end rest)
joined_end (form f rest) = ap (form f) (joined_end rest)

pub joined_assoc : (p q r : Parts) → joined_with (joined_with p q) r ≡ joined_with p (joined_with q r)
joined_assoc end q r = refl
joined_assoc (plain c rest) q r = ap (plain c) (joined_assoc rest q r)
joined_assoc (reference name rest) q r = ap (reference name) (joined_assoc rest q r)
joined_assoc (form f rest) q r = ap (form f) (joined_assoc rest q r)

pub front_front : (p q : Parts) (rest : Levels) → in_front p (in_front q rest) ≡ in_front (joined_with p q) rest
front_front p q (last text) = ap last (sym (joined_assoc p q text))
front_front p q (before_brace text rest) = ap (λ t. before_brace t rest) (sym (joined_assoc p q text))

pub front_end : (rest : Levels) → in_front end rest ≡ rest
front_end (last text) = refl
front_end (before_brace text rest) = refl

pub front_plain : (c : ℕ) (rest : Levels) → onto (plain c) rest ≡ in_front (plain c end) rest
front_plain c (last text) = refl
front_plain c (before_brace text rest) = refl

pub front_reference : (name : Parts) (rest : Levels) → onto (reference name) rest ≡ in_front (reference name end) rest
front_reference name (last text) = refl
front_reference name (before_brace text rest) = refl

pub front_form : (f : Form) (rest : Levels) → onto (form f) rest ≡ in_front (form f end) rest
front_form f (last text) = refl
front_form f (before_brace text rest) = refl

pub braces_front : (p : Parts) (rest : Levels) → with_braces (in_front p rest) ≡ joined_with p (with_braces rest)
braces_front p (last text) = refl
braces_front p (before_brace text rest) = joined_assoc p text (plain close_brace (with_braces rest))

pub text_joined : (t : List ℕ) (after : Parts) → text_before t after ≡ joined_with (text_before t end) after
text_joined [] after = refl
text_joined (c ∷ t) after = ap (plain c) (text_joined t after)

pub text_more : (t : List ℕ) (c : ℕ) → text_before (t ++ c ∷ []) end ≡ joined_with (text_before t end) (plain c end)
text_more [] c = refl
text_more (d ∷ t) c = ap (plain d) (text_more t c)

-- one more plain character
pub front_more : (t : List ℕ) (c : ℕ) (rest : Levels) → in_front (text_before t end) (in_front (plain c end) rest) ≡ in_front (text_before (t ++ c ∷ []) end) rest
front_more t c rest = front_front (text_before t end) (plain c end) rest ∙ ap (λ p. in_front p rest) (sym (text_more t c))

-- tokens

twice : (tokens : List Token) → dollar_before (dollar_before tokens) ≡ byte dollar ∷ dollar_before tokens
twice [] = refl
twice (opening ∷ tokens) = refl
twice (byte b ∷ tokens) = elim (cases_Bool (b == open_brace)) [ inl e ↦ rw e refl | inr e ↦ rw e refl ]

dollar_stays : (r : List ℕ) → begins_with (codes "{") r ≡ false → dollar_before (tokens_of r) ≡ byte dollar ∷ tokens_of r
dollar_stays [] h = refl
dollar_stays (d ∷ r) h = elim (cases_eq d dollar) [
  | inl e ↦ rw (eq-eqb d dollar e) (twice (tokens_of r))
  | inr n ↦ elim (cases_eq d open_brace) [
    | inl e ↦ not_both (begins_with (codes "{") (d ∷ r)) (ap (λ k. begins_with (codes "{") (k ∷ r)) e) h
    | inr m ↦ rw (ne_eqb d dollar n, ne_eqb d open_brace m) refl
  ]
]

-- a character that is neither a brace nor begins an opening is plain
pub plain_levels : (c : ℕ) (r : List ℕ) → (begins_with (codes "}") (c ∷ r) || begins_with (codes "${") (c ∷ r)) ≡ false → levels (c ∷ r) ≡ in_front (plain c end) (levels r)
plain_levels c r h =
    let no_brace = or_left (begins_with (codes "}") (c ∷ r)) (begins_with (codes "${") (c ∷ r)) h in
    let no_opening = or_right (begins_with (codes "}") (c ∷ r)) (begins_with (codes "${") (c ∷ r)) h in
    elim (cases_eq c close_brace) [
      | inl e ↦ not_both (begins_with (codes "}") (c ∷ r)) (ap (λ k. begins_with (codes "}") (k ∷ r)) e) no_brace
      | inr m ↦ elim (cases_eq c dollar) [
        | inl e ↦
            let no_opening' : begins_with (codes "{") r ≡ false = subst (λ k. begins_with (codes "${") (k ∷ r) ≡ false) e no_opening in
            rw (eq-eqb c dollar e, dollar_stays r no_opening', e) (front_plain dollar (levels r))
        | inr n ↦ rw (ne_eqb c dollar n, ne_eqb c close_brace m) (front_plain c (levels r))
      ]
    ]

-- one more reference that is open, the innermost
pub wrapped_more : (outer : List Parts) (parts : Parts) (rest : Levels) → wrapped (outer ++ parts ∷ []) rest ≡ wrapped outer (in_front parts (opened rest))
wrapped_more [] parts rest = refl
wrapped_more (p ∷ outer) parts rest = ap (λ l. in_front p (opened l)) (wrapped_more outer parts rest)

-- What is no name closes no reference, and neither does what stands around it.

nothing_after : (f : Parts) (t : Parts) → are_name_parts (joined_with f (plain_opening t)) ≡ false
nothing_after end t = refl
nothing_after (plain c rest) t = rw (nothing_after rest t) (elim (cases_Bool (is_name_character c)) [ inl e ↦ rw e refl | inr e ↦ rw e refl ])
nothing_after (reference name rest) t = nothing_after rest t
nothing_after (form f rest) t = refl

no_name : (p : Parts) → are_name_parts p ≡ false → is_name p ≡ false
no_name p h = rw h (elim (cases_Bool (is_nothing p)) [ inl e ↦ rw e refl | inr e ↦ rw e refl ])

flattened_no_name : (outer : List Parts) → is_name (flattened outer) ≡ false
flattened_no_name [] = refl
flattened_no_name (p ∷ outer) = no_name (joined_with p (plain_opening (flattened outer))) (nothing_after p (flattened outer))

later_bad : (f t : Parts) → are_name_parts t ≡ false → are_name_parts (joined_with f t) ≡ false
later_bad end t h = h
later_bad (plain c rest) t h = rw (later_bad rest t h) (elim (cases_Bool (is_name_character c)) [ inl e ↦ rw e refl | inr e ↦ rw e refl ])
later_bad (reference name rest) t h = later_bad rest t h
later_bad (form f rest) t h = refl

earlier_bad : (f t : Parts) → are_name_parts f ≡ false → are_name_parts (joined_with f t) ≡ false
earlier_bad end t h = not_both true refl h
earlier_bad (plain c rest) t h = elim (cases_Bool (is_name_character c)) [
  | inl e ↦ rw e (earlier_bad rest t (subst (λ b. (b && are_name_parts rest) ≡ false) e h))
  | inr e ↦ rw e refl
]
earlier_bad (reference name rest) t h = earlier_bad rest t h
earlier_bad (form f rest) t h = refl

joined_no_name : (f t : Parts) → is_name f ≡ false → is_name t ≡ false → is_name (joined_with f t) ≡ false
joined_no_name end t h k = k
joined_no_name (plain c rest) t h k = earlier_bad (plain c rest) t h
joined_no_name (reference name rest) t h k = earlier_bad (reference name rest) t h
joined_no_name (form f rest) t h k = earlier_bad (form f rest) t h

-- An opening is no part of a form, so what has one in it is the inside of none.

abbrev are_signs : Parts → Bool
are_signs end = true
are_signs (plain c rest) = is_form_character c && are_signs rest
are_signs (reference name rest) = are_signs rest
are_signs (form f rest) = are_signs rest

no_signs : (q x : Parts) → are_signs (joined_with q (plain_opening x)) ≡ false
no_signs end x = refl
no_signs (plain c rest) x = rw (no_signs rest x) (and_false (is_form_character c))
  where
    and_false : (b : Bool) → (b && false) ≡ false
    and_false true = refl
    and_false false = refl
no_signs (reference name rest) x = no_signs rest x
no_signs (form f rest) x = no_signs rest x

later_signs : (p t : Parts) → are_signs p ≡ false → are_signs (joined_with p t) ≡ false
later_signs end t h = not_both true refl h
later_signs (plain c rest) t h = elim (cases_Bool (is_form_character c)) [
  | inl e ↦ rw e (later_signs rest t (subst (λ b. (b && are_signs rest) ≡ false) e h))
  | inr e ↦ rw e refl
]
later_signs (reference name rest) t h = later_signs rest t h
later_signs (form f rest) t h = later_signs rest t h

bytes_signs : (p : Parts) (bytes : List ℕ) → plain_bytes p ≡ Some bytes → list_all is_form_character bytes ≡ are_signs p
bytes_signs end bytes e = let k : Some [] ≡ Some bytes = e in subst (λ b. list_all is_form_character b ≡ true) (let same : [] ≡ bytes = cc in same) refl
bytes_signs (plain c rest) bytes e =
    let m = mapped (λ b. c ∷ b) (plain_bytes rest) bytes e in
    subst (λ b. list_all is_form_character b ≡ (is_form_character c && are_signs rest)) m.2 (ap (λ b. is_form_character c && b) (bytes_signs rest m.0 m.1))
bytes_signs (reference name rest) bytes e = absurd cc
bytes_signs (form f rest) bytes e = absurd cc

pub no_inside : (p : Parts) → are_signs p ≡ false → form_in p ≡ None
no_inside p h = by (plain_bytes p) refl
  where
    by : (o : Option (List ℕ)) → plain_bytes p ≡ o → (o >>= form_of) ≡ None
    by None e = refl
    by (Some bytes) e = let none : list_all is_form_character bytes ≡ false = bytes_signs p bytes e ∙ h in rw none refl

joined_no_form : (outer : List Parts) (t : Parts) → form_in t ≡ None → form_in (joined_with (flattened outer) t) ≡ None
joined_no_form [] t h = h
joined_no_form (p ∷ outer) t h = no_inside (joined_with (flattened (p ∷ outer)) t) (later_signs (flattened (p ∷ outer)) t (no_signs p (flattened outer)))

pub collapsed_last : (outer : List Parts) (t : Parts) → wrapped outer (last t) ≡ last (joined_with (flattened outer) t)
collapsed_last [] t = refl
collapsed_last (p ∷ outer) t = ap (λ l. in_front p (opened l)) (collapsed_last outer t) ∙ ap last (sym (joined_assoc p (plain_opening (flattened outer)) t))

opened_bad : (t : Parts) (rest : Levels) → is_name t ≡ false → form_in t ≡ None → opened (before_brace t rest) ≡ before_brace (plain_opening t) rest
opened_bad t rest h k = rw (h, k) refl

opened_form_in : (t : Parts) (rest : Levels) (f : Form) → is_name t ≡ false → form_in t ≡ Some f → opened (before_brace t rest) ≡ onto (form f) rest
opened_form_in t rest f h k = rw (h, k) refl

pub collapsed_brace : (outer : List Parts) (t : Parts) (rest : Levels) → IsPlainInside t → wrapped outer (before_brace t rest) ≡ before_brace (joined_with (flattened outer) t) rest
collapsed_brace [] t rest h = refl
collapsed_brace (p ∷ outer) t rest h =
    ap (λ l. in_front p (opened l)) (collapsed_brace outer t rest h)
    ∙ ap (in_front p) (opened_bad (joined_with (flattened outer) t) rest (joined_no_name (flattened outer) t (flattened_no_name outer) h.name) (joined_no_form outer t h.form))
    ∙ ap (λ q. before_brace q rest) (sym (joined_assoc p (plain_opening (flattened outer)) t))

opened_name : (t : Parts) (rest : Levels) → is_name t ≡ true → opened (before_brace t rest) ≡ onto (reference t) rest
opened_name t rest h = rw h refl

-- a brace closes the innermost open reference
pub closed_name : (outer : List Parts) (p t : Parts) (rest : Levels) → is_name t ≡ true → wrapped (outer ++ p ∷ []) (in_front t (before_brace end rest)) ≡ wrapped outer (in_front (joined_with p (reference t end)) rest)
closed_name outer p t rest h =
    wrapped_more outer p (in_front t (before_brace end rest))
    ∙ ap (λ q. wrapped outer (in_front p (opened (before_brace q rest)))) (joined_end t)
    ∙ ap (λ l. wrapped outer (in_front p l)) (opened_name t rest h ∙ front_reference t rest)
    ∙ ap (wrapped outer) (front_front p (reference t end) rest)

-- a brace closes a form
pub closed_form : (outer : List Parts) (p t : Parts) (f : Form) (rest : Levels) → is_name t ≡ false → form_in t ≡ Some f → wrapped (outer ++ p ∷ []) (in_front t (before_brace end rest)) ≡ wrapped outer (in_front (joined_with p (form f end)) rest)
closed_form outer p t f rest h k =
    wrapped_more outer p (in_front t (before_brace end rest))
    ∙ ap (λ q. wrapped outer (in_front p (opened (before_brace q rest)))) (joined_end t)
    ∙ ap (λ l. wrapped outer (in_front p l)) (opened_form_in t rest f h k ∙ front_form f rest)
    ∙ ap (wrapped outer) (front_front p (form f end) rest)

-- how deep references nest

pub joined_depth : (p q : Parts) → depth (joined_with p q) ≡ max (depth p) (depth q)
joined_depth end q = omega arith
joined_depth (plain c rest) q = joined_depth rest q
joined_depth (reference name rest) q = let e = joined_depth rest q in grind (arith, e)
joined_depth (form f rest) q = joined_depth rest q

abbrev deepest_of : Levels → ℕ
deepest_of (last text) = depth text
deepest_of (before_brace text rest) = max (depth text) (deepest_of rest)

braces_depth : (rest : Levels) → depth (with_braces rest) ≡ deepest_of rest
braces_depth (last text) = refl
braces_depth (before_brace text rest) = joined_depth text (plain close_brace (with_braces rest)) ∙ ap (max (depth text)) (braces_depth rest)

front_depth : (p : Parts) (rest : Levels) → deepest_of rest ≤ deepest_of (in_front p rest)
front_depth p (last text) = let e = joined_depth p text in grind (arith, e)
front_depth p (before_brace text rest) = let e = joined_depth p text in grind (arith, e)

own_depth : (p : Parts) (rest : Levels) → depth p ≤ deepest_of (in_front p rest)
own_depth p (last text) = let e = joined_depth p text in grind (arith, e)
own_depth p (before_brace text rest) = let e = joined_depth p text in grind (arith, e)

plain_depth : (p : Parts) (bytes : List ℕ) → plain_bytes p ≡ Some bytes → depth p ≡ 0
plain_depth end bytes e = refl
plain_depth (plain c rest) bytes e = let m = mapped (λ b. c ∷ b) (plain_bytes rest) bytes e in plain_depth rest m.0 m.1
plain_depth (reference name rest) bytes e = absurd cc
plain_depth (form f rest) bytes e = absurd cc

opened_depth : (rest : Levels) → deepest_of rest ≤ deepest_of (opened rest)
opened_depth (last text) = le_refl (depth text)
opened_depth (before_brace text rest) = elim (cases_Bool (is_name text)) [
  | inl e ↦ rw (opened_name text rest e, front_reference text rest) (raised text rest)
  | inr e ↦ by_form e (form_in text) refl
] where
  by_form : is_name text ≡ false → (o : Option Form) → form_in text ≡ o → max (depth text) (deepest_of rest) ≤ deepest_of (opened (before_brace text rest))
  by_form e None k = rw (opened_bad text rest e k) (le_refl (max (depth text) (deepest_of rest)))
  by_form e (Some f) k =
      let p = form_parts (plain_bytes text) f k in
      let none = plain_depth text p.0 p.1 in
      let rest_is = front_depth (form f end) rest in
      rw (opened_form_in text rest f e k, front_form f rest) (omega (arith, none, rest_is))

  raised : (t : Parts) (l : Levels) → max (depth t) (deepest_of l) ≤ deepest_of (in_front (reference t end) l)
  raised t (last text) = omega arith
  raised t (before_brace text l) = omega arith

wrapped_depth : (outer : List Parts) (rest : Levels) → deepest_of rest ≤ deepest_of (wrapped outer rest)
wrapped_depth [] rest = le_refl (deepest_of rest)
wrapped_depth (p ∷ outer) rest = le_trans (wrapped_depth outer rest) (le_trans (opened_depth (wrapped outer rest)) (front_depth p (opened (wrapped outer rest))))

-- what stands in an open reference is as deep as the whole text at least
pub inner_depth : (outer : List Parts) (p : Parts) (rest : Levels) → depth p ≤ depth (with_braces (wrapped outer (in_front p rest)))
inner_depth outer p rest = rw (braces_depth (wrapped outer (in_front p rest))) (le_trans (own_depth p rest) (wrapped_depth outer (in_front p rest)))

-- a run of plain text goes on
pub run_step : (bs : List ℕ) (i : ℕ) → i < length bs → levels bs ≡ in_front (text_before (take i bs) end) (levels (drop i bs))
    → (begins_with (codes "}") (drop i bs) || begins_with (codes "${") (drop i bs)) ≡ false
    → levels bs ≡ in_front (text_before (take (i + 1) bs) end) (levels (drop (i + 1) bs))
run_step bs i lt so_far go_on =
    let cut = drop-cons bs i 0 lt in
    let c = get_or bs i 0 in
    let r = drop (suc i) bs in
    let here : levels (drop i bs) ≡ in_front (plain c end) (levels r) = ap levels cut ∙ plain_levels c r (subst (λ t. (begins_with (codes "}") t || begins_with (codes "${") t) ≡ false) cut go_on) in
    rw add-one (so_far ∙ ap (in_front (text_before (take i bs) end)) here ∙ front_more (take i bs) c (levels r) ∙ ap (λ t. in_front (text_before t end) (levels r)) (sym (take-suc bs i 0 lt)))

-- openings that are plain text after all

pub flat_step : (w q : Parts) → joined_with (joined_with w (plain_opening end)) q ≡ joined_with w (plain_opening q)
flat_step w q = joined_assoc w (plain_opening end) q

-- the outermost frame, and what follows it
pub flat_first : (w : Parts) (qs : List Parts) (t : Parts) → joined_with (flattened (w ∷ qs)) t ≡ joined_with w (plain_opening (joined_with (flattened qs) t))
flat_first w qs t = joined_assoc w (plain_opening (flattened qs)) t

-- one more frame behind what is put together
pub flat_next : (w q : Parts) (qs : List Parts) (t : Parts) → joined_with (joined_with (joined_with w (plain_opening end)) q) (plain_opening (joined_with (flattened qs) t)) ≡ joined_with w (plain_opening (joined_with (flattened (q ∷ qs)) t))
flat_next w q qs t =
    ap (λ p. joined_with p (plain_opening (joined_with (flattened qs) t))) (flat_step w q)
    ∙ joined_assoc w (plain_opening q) (plain_opening (joined_with (flattened qs) t))
    ∙ ap (λ p. joined_with w (plain_opening p)) (sym (flat_first q qs t))

-- a brace that closes nothing
pub plain_brace : (outer : List Parts) (t : Parts) (rest : Levels) → IsPlainInside t ⊎ (outer ≡ [])
    → with_braces (wrapped outer (in_front t (before_brace end rest))) ≡ joined_with (joined_with (joined_with (flattened outer) t) (plain close_brace end)) (with_braces rest)
plain_brace outer t rest (inl h) =
    ap (λ q. with_braces (wrapped outer (before_brace q rest))) (joined_end t)
    ∙ ap with_braces (collapsed_brace outer t rest h)
    ∙ sym (joined_assoc (joined_with (flattened outer) t) (plain close_brace end) (with_braces rest))
plain_brace outer t rest (inr e) =
    rw e (ap (λ q. joined_with q (plain close_brace (with_braces rest))) (joined_end t) ∙ sym (joined_assoc t (plain close_brace end) (with_braces rest)))

-- the text ends where references are open
pub text_end : (outer : List Parts) (t : Parts) → with_braces (wrapped outer (in_front t (last end))) ≡ joined_with (flattened outer) t
text_end outer t = ap with_braces (collapsed_last outer (joined_with t end)) ∙ ap (joined_with (flattened outer)) (joined_end t)
