-- The parts of a text are a reading of it.
use Rattle.std.proofs.Common.{◌≡◌, refl, sym, ◌∙◌, ap, subst, ℕ, List, [], ◌∷◌, ◌++◌, Bool, true, false, Option, Some, None, option_map, inl, inr, if◌then◌else◌, eq-eqb, ne_eqb, append_assoc}
use Rattle.std.proofs.lemmas.Bool.{cases_eq}
use Rattle.meta_model.proofs.Bools.{either_way}
use Rattle.meta_model.specs.declared.form.Form.{Form}
use Rattle.meta_model.specs.Text.{◌>>=◌}
use Rattle.meta_model.specs.Forms.{form_of}
use Rattle.meta_model.specs.Parts.{Parts, end, plain, reference, form, Token, opening, byte, Levels, last, before_brace, onto, opened, opened_form, plain_opening, plain_bytes, form_in, is_name, dollar_before, tokens_of, levels_of, joined_with, with_braces, parts_of, IsBraced, IsReading}

token_text : Token → List ℕ → List ℕ
token_text opening rest = 36 ∷ (123 ∷ rest)
token_text (byte c) rest = c ∷ rest

tokens_text : List Token → List ℕ
tokens_text [] = []
tokens_text (t ∷ ts) = token_text t (tokens_text ts)

dollar_text : (ts : List Token) → tokens_text (dollar_before ts) ≡ 36 ∷ tokens_text ts
unfolding tokens_text token_text
dollar_text [] = refl
dollar_text (opening ∷ ts) = refl
dollar_text (byte b ∷ ts) = elim (cases_eq b 123) [ inl e ↦ rw (eq-eqb b 123 e, e) | inr n ↦ rw (ne_eqb b 123 n) ]

tokens_text_of : (text : List ℕ) → tokens_text (tokens_of text) ≡ text
unfolding tokens_text token_text
tokens_text_of [] = refl
tokens_text_of (c ∷ text) = elim (cases_eq c 36) [
  | inl e ↦ rw (eq-eqb c 36 e) (dollar_text (tokens_of text) ∙ ap (λ t. 36 ∷ t) (tokens_text_of text) ∙ ap (λ k. k ∷ text) (sym e))
  | inr n ↦ rw (ne_eqb c 36 n) (ap (λ t. c ∷ t) (tokens_text_of text))
]

-- levels are a reading of a text
abbrev AreReading : List ℕ → Levels → Type 0
AreReading text (last parts) = IsReading text parts
AreReading text (before_brace parts levels) = (front : List ℕ) × (behind : List ℕ) × (text ≡ front ++ (125 ∷ behind)) × IsReading front parts × AreReading behind levels

onto_plain : (c : ℕ) (text : List ℕ) (levels : Levels) → AreReading text levels → AreReading (c ∷ text) (onto (plain c) levels)
onto_plain c text (last parts) h = (text, refl, h)
onto_plain c text (before_brace parts levels) h = (c ∷ h.0, h.1, ap (λ t. c ∷ t) h.2, (h.0, refl, h.3), h.4)

-- `${`, what stands inside, `}`
abbrev braced : List ℕ → List ℕ → List ℕ
braced inside after = 36 ∷ (123 ∷ (inside ++ (125 ∷ after)))

braced_on : (inside front behind after : List ℕ) → after ≡ front ++ (125 ∷ behind) → braced inside after ≡ braced inside front ++ (125 ∷ behind)
braced_on inside front behind after e =
    ap (λ t. braced inside t) e ∙ ap (λ t. 36 ∷ (123 ∷ t)) (sym (append_assoc inside (125 ∷ front) (125 ∷ behind)))

onto_reference : (name : Parts) (inside after : List ℕ) (levels : Levels) → is_name name ≡ true → IsReading inside name → AreReading after levels → AreReading (braced inside after) (onto (reference name) levels)
onto_reference name inside after (last parts) n r h = (inside, after, record { text_is = refl }, n, r, h)
onto_reference name inside after (before_brace parts levels) n r h =
    (braced inside h.0, h.1, braced_on inside h.0 h.1 after h.2, (inside, h.0, record { text_is = refl }, n, r, h.3), h.4)

onto_form : (f : Form) (inside after : List ℕ) (levels : Levels) → form_of inside ≡ Some f → AreReading after levels → AreReading (braced inside after) (onto (form f) levels)
onto_form f inside after (last parts) is h = (inside, after, record { text_is = refl }, is, h)
onto_form f inside after (before_brace parts levels) is h =
    (braced inside h.0, h.1, braced_on inside h.0 h.1 after h.2, (inside, h.0, record { text_is = refl }, is, h.3), h.4)

-- all plain parts are a reading of their bytes alone

pub mapped : (g : List ℕ → List ℕ) (o : Option (List ℕ)) (t : List ℕ) → option_map g o ≡ Some t → (u : List ℕ) × (o ≡ Some u) × (g u ≡ t)
mapped g None t e = absurd cc
mapped g (Some u) t e = (u, refl, (let k : Some (g u) ≡ Some t = e in cc))

plain_reading : (parts : Parts) (text bytes : List ℕ) → plain_bytes parts ≡ Some bytes → IsReading text parts → text ≡ bytes
plain_reading end text bytes e h = h ∙ (let k : Some [] ≡ Some bytes = e in cc)
plain_reading (plain c rest) text bytes e h =
    let m = mapped (λ b. c ∷ b) (plain_bytes rest) bytes e in
    h.1 ∙ ap (λ t. c ∷ t) (plain_reading rest h.0 m.0 m.1 h.2) ∙ m.2
plain_reading (reference name rest) text bytes e h = absurd cc
plain_reading (form f rest) text bytes e h = absurd cc

pub form_parts : (o : Option (List ℕ)) (f : Form) → (o >>= form_of) ≡ Some f → (bytes : List ℕ) × (o ≡ Some bytes) × (form_of bytes ≡ Some f)
form_parts None f e = absurd cc
form_parts (Some bytes) f e = (bytes, refl, e)

form_reading : (parts : Parts) (text : List ℕ) (f : Form) → form_in parts ≡ Some f → IsReading text parts → form_of text ≡ Some f
form_reading parts text f e h =
    let p = form_parts (plain_bytes parts) f e in
    ap form_of (plain_reading parts text p.0 p.1 h) ∙ p.2

opened_reading : (text : List ℕ) (levels : Levels) → AreReading text levels → AreReading (36 ∷ (123 ∷ text)) (opened levels)
opened_reading text (last parts) h = (123 ∷ text, refl, (text, refl, h))
opened_reading text (before_brace parts levels) h = elim (either_way (is_name parts)) [
  | inl n ↦ rw n (subst (λ t. AreReading (36 ∷ (123 ∷ t)) (onto (reference parts) levels)) (sym h.2) (onto_reference parts h.0 h.1 levels n h.3 h.4))
  | inr n ↦ rw n (by_form (form_in parts) refl)
]
  where
    by_form : (o : Option Form) → form_in parts ≡ o → AreReading (36 ∷ (123 ∷ text)) (opened_form parts levels o)
    by_form None e = (36 ∷ (123 ∷ h.0), h.1, ap (λ t. 36 ∷ (123 ∷ t)) h.2, (123 ∷ h.0, refl, (h.0, refl, h.3)), h.4)
    by_form (Some f) e = subst (λ t. AreReading (36 ∷ (123 ∷ t)) (onto (form f) levels)) (sym h.2) (onto_form f h.0 h.1 levels (form_reading parts h.0 f e h.3) h.4)

levels_reading : (tokens : List Token) → AreReading (tokens_text tokens) (levels_of tokens)
unfolding tokens_text token_text
levels_reading [] = refl
levels_reading (opening ∷ tokens) = opened_reading (tokens_text tokens) (levels_of tokens) (levels_reading tokens)
levels_reading (byte c ∷ tokens) = elim (cases_eq c 125) [
  | inl e ↦ rw (eq-eqb c 125 e, e) ([], tokens_text tokens, refl, refl, levels_reading tokens)
  | inr n ↦ rw (ne_eqb c 125 n) (onto_plain c (tokens_text tokens) (levels_of tokens) (levels_reading tokens))
]

joined_reading : (p q : Parts) (a b : List ℕ) → IsReading a p → IsReading b q → IsReading (a ++ b) (joined_with p q)
joined_reading end q a b h k = subst (λ t. IsReading (t ++ b) q) (sym h) k
joined_reading (plain c rest) q a b h k = (h.0 ++ b, ap (λ t. t ++ b) h.1, joined_reading rest q h.0 b h.2 k)
joined_reading (reference name rest) q a b h k =
    (h.0, h.1 ++ b, record { text_is = ap (λ t. t ++ b) h.2.text_is ∙ ap (λ t. 36 ∷ (123 ∷ t)) (append_assoc h.0 (125 ∷ h.1) b) }, h.3, h.4, joined_reading rest q h.1 b h.5 k)
joined_reading (form f rest) q a b h k =
    (h.0, h.1 ++ b, record { text_is = ap (λ t. t ++ b) h.2.text_is ∙ ap (λ t. 36 ∷ (123 ∷ t)) (append_assoc h.0 (125 ∷ h.1) b) }, h.3, joined_reading rest q h.1 b h.4 k)

braces_reading : (text : List ℕ) (levels : Levels) → AreReading text levels → IsReading text (with_braces levels)
braces_reading text (last parts) h = h
braces_reading text (before_brace parts levels) h =
    subst (λ t. IsReading t (with_braces (before_brace parts levels))) (sym h.2)
    (joined_reading parts (plain 125 (with_braces levels)) h.0 (125 ∷ h.1) h.3 (h.1, refl, braces_reading h.1 levels h.4))

-- the parts of a text are a reading of it
pub parts_are_reading : (text : List ℕ) → IsReading text (parts_of text)
parts_are_reading text =
    subst (λ t. IsReading t (parts_of text)) (tokens_text_of text) (braces_reading (tokens_text (tokens_of text)) (levels_of (tokens_of text)) (levels_reading (tokens_of text)))
