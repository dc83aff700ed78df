-- How the literals of forms are read, and words are looked for.
use Rattle.std.proofs.Common.{◌≡◌, refl, sym, ◌∙◌, ap, subst, arith, ℕ, zero, suc, ◌+◌, ◌<◌, ◌==◌, Bool, true, false, not, ◌||◌, List, [], ◌∷◌, ◌++◌, length, take, drop, get_or, filter, fold, flat_map, Option, Some, None, position, if◌then◌else◌, inl, inr, bytes_eq, append_assoc, add-one, ne_eqb}
use Rattle.std.specs.List.{slice_split, list_all, list_any}
use Rattle.std.proofs.lemmas.Bool.{cases_eq, cases_Bool}
use Rattle.std.proofs.lemmas.List.{drop_more}
use Rattle.meta_model.proofs.Bools.{either_way}
use Rattle.meta_model.proofs.White.{shape, words_at}
use Rattle.meta_model.specs.Text.{◌>>=◌, is_quote, is_white, is_empty, is_in, non_empty, words, space, into_order, split_at_first}
use Rattle.meta_model.specs.Forms.{without_quotes, literal, chosen, given_by, form_text}
use Rattle.meta_model.specs.declared.form.Form.{Form}
use Rattle.meta_model.specs.declared.form.FormKind.TheVariants.{Contains}

pub some_length : (n : ℕ) → (n == 0) ≡ false → 0 < n
some_length zero h = absurd cc
some_length (suc n) h = omega arith

pub quote_ascii : (c : ℕ) → is_quote c ≡ true → c < 128
quote_ascii c h = elim (cases_eq c 34) [
  | inl e ↦ subst (λ d. d < 128) (sym e) (omega arith)
  | inr n ↦ elim (cases_eq c 39) [
    | inl e ↦ subst (λ d. d < 128) (sym e) (omega arith)
    | inr m ↦ absurd (let k : false ≡ true = sym (neither c n m) ∙ h in cc)
  ]
]
  where
    neither : (c : ℕ) → (c ≡ 34 → ⊥) → (c ≡ 39 → ⊥) → is_quote c ≡ false
    neither c n m = rw (ne_eqb c 34 n, ne_eqb c 39 m) refl

-- a literal between two quotes
pub literal_is : (text after : List ℕ) (q : ℕ) (cut : List ℕ × List ℕ) → 0 < length text → q ≡ get_or text 0 0 → is_quote q ≡ true → after ≡ drop 1 text → split_at_first q after ≡ Some cut → list_any is_quote cut.0 ≡ false → Some cut ≡ literal text
literal_is [] after q cut some is quote rest found none = absurd (omega (arith, some))
literal_is (x ∷ xs) after q cut some is quote rest found none =
    let fit : is_quote x ≡ true = subst (λ d. is_quote d ≡ true) is quote in
    let there : split_at_first x xs ≡ Some cut = ap (λ d. split_at_first d xs) (sym is) ∙ ap (split_at_first q) (sym rest) ∙ found in
    sym (rw (fit, there, none) refl)

-- what `contains` gives
pub form_full : (f : Form) (full short : List ℕ) (there : List (List ℕ)) (b : Bool) → f.kind ≡ Contains full short → b ≡ list_all (λ w. is_in w there) f.words → form_text f there ≡ chosen b full short
form_full f full short there b is e = ap (λ k. given_by k f.words there) is ∙ ap (λ c. chosen c full short) (sym e)

-- words

pub in_joined : (x : List ℕ) (a b : List (List ℕ)) → is_in x (a ++ b) ≡ (is_in x a || is_in x b)
in_joined x [] b = refl
in_joined x (y ∷ a) b = elim (cases_Bool (bytes_eq x y)) [
  | inl e ↦ rw e refl
  | inr e ↦ rw e (in_joined x a b)
]

-- the word is the first piece, or stands behind it
pub piece_step : (word rest piece after : List ℕ) (i : ℕ) → Some i ≡ position is_white rest → piece ≡ take i rest → after ≡ drop (i + 1) rest → is_in word (words rest) ≡ (is_in word (non_empty (piece ∷ [])) || is_in word (words after))
piece_step word rest piece after i e p a =
    ap (is_in word) (words_at rest i (sym e))
    ∙ in_joined word (non_empty (take i rest ∷ [])) (words (drop (suc i) rest))
    ∙ ap (λ t. is_in word (non_empty (t ∷ [])) || is_in word (words (drop (suc i) rest))) (sym p)
    ∙ ap (λ t. is_in word (non_empty (piece ∷ [])) || is_in word (words t)) (ap (λ j. drop j rest) (sym (add-one i)) ∙ sym a)

pub some_word : (s : List ℕ) → list_any (λ c. not (is_white c)) s ≡ not (is_empty (words s))
some_word [] = refl
some_word (c ∷ s) = elim (cases_Bool (is_white c)) [
  | inl e ↦ rw e (some_word s)
  | inr e ↦ let p = shape s in rw (e, p.2) refl
]

-- lists that grow in a loop

pub spaced_step : (words : List (List ℕ)) (i : ℕ) (word text : List ℕ) → word ≡ get_or words i word → i < length words → ((text ++ space ∷ []) ++ word) ++ flat_map (λ w. space ∷ w) (drop (i + 1) words) ≡ text ++ flat_map (λ w. space ∷ w) (drop i words)
spaced_step words i word text is lt =
    append_assoc (text ++ space ∷ []) word (flat_map (λ w. space ∷ w) (drop (i + 1) words))
    ∙ append_assoc text (space ∷ []) (word ++ flat_map (λ w. space ∷ w) (drop (i + 1) words))
    ∙ ap (λ w. text ++ (space ∷ (w ++ flat_map (λ w. space ∷ w) (drop (i + 1) words)))) is
    ∙ ap (λ l. text ++ flat_map (λ w. space ∷ w) l) (sym (drop_more words i word lt))

pub order_step : (texts ordered : List (List ℕ)) (i : ℕ) (text : List ℕ) → text ≡ get_or texts i text → i < length texts → fold into_order (into_order ordered text) (drop (i + 1) texts) ≡ fold into_order ordered (drop i texts)
order_step texts ordered i text is lt =
    ap (λ t. fold into_order (into_order ordered t) (drop (i + 1) texts)) is
    ∙ ap (fold into_order ordered) (sym (drop_more texts i text lt))

pub filter_step : (p : List ℕ → Bool) (texts made new : List (List ℕ)) (i : ℕ) (text : List ℕ) → text ≡ get_or texts i text → i < length texts → new ≡ made ++ (if p text then text ∷ [] else []) → new ++ filter p (drop (i + 1) texts) ≡ made ++ filter p (drop i texts)
filter_step p texts made new i text is lt more =
    ap (λ n. n ++ filter p (drop (i + 1) texts)) more
    ∙ append_assoc made (if p text then text ∷ [] else []) (filter p (drop (i + 1) texts))
    ∙ ap (λ l. made ++ l) (by (p text) refl)
    ∙ ap (λ l. made ++ filter p l) (ap (λ t. t ∷ drop (i + 1) texts) is ∙ sym (drop_more texts i text lt))
  where
    by : (b : Bool) → p text ≡ b → (if b then text ∷ [] else []) ++ filter p (drop (i + 1) texts) ≡ filter p (text ∷ drop (i + 1) texts)
    by true e = sym (rw e refl)
    by false e = sym (rw e refl)
