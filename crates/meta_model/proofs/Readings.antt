-- No reading of a text has more references and forms than its parts.
use Rattle.std.proofs.Common.{◌≡◌, refl, sym, ◌∙◌, ap, subst, arith, ℕ, suc, ◌+◌, ◌≤◌, le_refl, le_trans, List, [], ◌∷◌, ◌++◌, codes, Bool, true, false, ◌&&◌, not, Option, Some, None, option_map, inl, inr, if◌then◌else◌, eq-eqb, ne_eqb, append_assoc, append-nil, ◌==◌}
use Rattle.std.proofs.lemmas.Bool.{cases_eq}
use Rattle.std.specs.List.{list_all}
use Rattle.meta_model.proofs.Bools.{not_both, either_way, and_left, and_right}
use Rattle.meta_model.proofs.RoundTrip.{mapped, form_parts, parts_are_reading}
use Rattle.meta_model.specs.declared.form.Form.{Form}
use Rattle.meta_model.specs.Text.{◌>>=◌, begins_with, dollar, open_brace, close_brace}
use Rattle.meta_model.specs.Names.{is_name_character}
use Rattle.meta_model.specs.Forms.{is_form_character, call_of, sound_form, form_of}
use Rattle.meta_model.specs.Parts.{Parts, end, plain, reference, form, Token, opening, byte, Levels, last, before_brace, onto, opened, opened_form, plain_opening, plain_bytes, form_in, is_name, is_nothing, are_name_parts, dollar_before, tokens_of, levels_of, joined_with, with_braces, parts_of, references_in, IsReading, HasMostReferences}

-- the levels of a text
abbrev read : List ℕ → Levels
read text = levels_of (tokens_of text)

-- how many references and forms levels have
abbrev count : Levels → ℕ
count (last text) = references_in text
count (before_brace text levels) = references_in text + count levels

joined_count : (p q : Parts) → references_in (joined_with p q) ≡ references_in p + references_in q
joined_count end q = omega arith
joined_count (plain c rest) q = joined_count rest q
joined_count (reference name rest) q = let e = joined_count rest q in grind (arith, e)
joined_count (form f rest) q = let e = joined_count rest q in grind (arith, e)

braces_count : (levels : Levels) → references_in (with_braces levels) ≡ count levels
braces_count (last text) = refl
braces_count (before_brace text levels) = joined_count text (plain close_brace (with_braces levels)) ∙ ap (λ n. references_in text + n) (braces_count levels)

plain_count : (c : ℕ) (levels : Levels) → count (onto (plain c) levels) ≡ count levels
plain_count c (last text) = refl
plain_count c (before_brace text levels) = refl

reference_count : (name : Parts) (levels : Levels) → count (onto (reference name) levels) ≡ suc (references_in name + count levels)
reference_count name (last text) = refl
reference_count name (before_brace text levels) = omega arith

form_count : (f : Form) (levels : Levels) → count (onto (form f) levels) ≡ suc (count levels)
form_count f (last text) = refl
form_count f (before_brace text levels) = omega arith

-- plain parts have no references
none_plain : (parts : Parts) (bytes : List ℕ) → plain_bytes parts ≡ Some bytes → references_in parts ≡ 0
none_plain end bytes e = refl
none_plain (plain c rest) bytes e = let m = mapped (λ b. c ∷ b) (plain_bytes rest) bytes e in none_plain rest m.0 m.1
none_plain (reference name rest) bytes e = absurd cc
none_plain (form f rest) bytes e = absurd cc

opened_form_count : (text : Parts) (levels : Levels) (o : Option Form) → form_in text ≡ o → references_in text + count levels ≤ count (opened_form text levels o)
opened_form_count text levels None e = le_refl (references_in text + count levels)
opened_form_count text levels (Some f) e =
    let p = form_parts (plain_bytes text) f e in
    let none = none_plain text p.0 p.1 in
    rw (form_count f levels) (omega (arith, none))

opened_count : (levels : Levels) → count levels ≤ count (opened levels)
opened_count (last text) = le_refl (references_in text)
opened_count (before_brace text levels) =
    elim (is_name text) as (λ b. count (before_brace text levels) ≤ count (if b then onto (reference text) levels else opened_form text levels (form_in text))) [
      | true ↦ rw (reference_count text levels) (omega arith)
      | false ↦ opened_form_count text levels (form_in text) refl
    ]

-- a `$` in front takes no reference away
dollar_count : (tokens : List Token) → count (levels_of tokens) ≤ count (levels_of (dollar_before tokens))
dollar_count [] = le_refl 0
dollar_count (opening ∷ tokens) = rw (plain_count dollar (levels_of (opening ∷ tokens))) (le_refl (count (levels_of (opening ∷ tokens))))
dollar_count (byte b ∷ tokens) = elim (cases_eq b open_brace) [
  | inl e ↦ rw (eq-eqb b open_brace e, e) (rw (plain_count open_brace (levels_of tokens)) (opened_count (levels_of tokens)))
  | inr n ↦ rw (ne_eqb b open_brace n) (rw (plain_count dollar (levels_of (byte b ∷ tokens))) (le_refl (count (levels_of (byte b ∷ tokens)))))
]

byte_count : (c : ℕ) (tokens : List Token) → count (levels_of tokens) ≤ count (levels_of (byte c ∷ tokens))
byte_count c tokens = elim (cases_eq c close_brace) [
  | inl e ↦ rw (eq-eqb c close_brace e) (omega arith)
  | inr n ↦ rw (ne_eqb c close_brace n) (rw (plain_count c (levels_of tokens)) (le_refl (count (levels_of tokens))))
]

-- a character in front takes no reference away
front_count : (c : ℕ) (text : List ℕ) → count (read text) ≤ count (read (c ∷ text))
front_count c text = elim (cases_eq c dollar) [
  | inl e ↦ rw (eq-eqb c dollar e) (dollar_count (tokens_of text))
  | inr n ↦ rw (ne_eqb c dollar n) (byte_count c (tokens_of text))
]

-- parts in front of the first level
abbrev in_front : Parts → Levels → Levels
in_front parts (last text) = last (joined_with parts text)
in_front parts (before_brace text levels) = before_brace (joined_with parts text) levels

in_front_end : (levels : Levels) → levels ≡ in_front end levels
in_front_end (last text) = refl
in_front_end (before_brace text levels) = refl

in_front_plain : (c : ℕ) (parts : Parts) (levels : Levels) → onto (plain c) (in_front parts levels) ≡ in_front (plain c parts) levels
in_front_plain c parts (last text) = refl
in_front_plain c parts (before_brace text levels) = refl

in_front_reference : (name parts : Parts) (levels : Levels) → onto (reference name) (in_front parts levels) ≡ in_front (reference name parts) levels
in_front_reference name parts (last text) = refl
in_front_reference name parts (before_brace text levels) = refl

joined_end : (parts : Parts) → joined_with parts end ≡ parts
joined_end end = refl
joined_end (plain c rest) = ap (plain c) (joined_end rest)
joined_end (reference name rest) = ap (reference name) (joined_end rest)
joined_end (form f rest) = ap (form f) (joined_end rest)

no_dollar : (c : ℕ) → is_name_character c ≡ true → (c == dollar) ≡ false
no_dollar c h = elim (cases_eq c dollar) [
  | inl e ↦ not_both (is_name_character c) h (ap is_name_character e)
  | inr n ↦ ne_eqb c dollar n
]

no_brace : (c : ℕ) → is_name_character c ≡ true → (c == close_brace) ≡ false
no_brace c h = elim (cases_eq c close_brace) [
  | inl e ↦ not_both (is_name_character c) h (ap is_name_character e)
  | inr n ↦ ne_eqb c close_brace n
]

opened_name : (name : Parts) (levels : Levels) → is_name name ≡ true → opened (before_brace name levels) ≡ onto (reference name) levels
opened_name name levels h = rw h refl

-- what may stand in a reference is read as it is
name_levels : (parts : Parts) (t : List ℕ) → are_name_parts parts ≡ true → IsReading t parts → (text : List ℕ) → read (t ++ text) ≡ in_front parts (read text)
name_levels end t h k text = ap (λ s. read (s ++ text)) k ∙ in_front_end (read text)
name_levels (plain c rest) t h k text =
    let first = and_left (is_name_character c) (are_name_parts rest) h in
    ap (λ s. read (s ++ text)) k.1 ∙
    rw (no_dollar c first, no_brace c first) (ap (onto (plain c)) (name_levels rest k.0 (and_right (is_name_character c) (are_name_parts rest) h) k.2 text) ∙ in_front_plain c rest (read text))
name_levels (reference name rest) t h k text =
    let rest_text = k.1 ++ text in
    let inner = name_levels name k.0 (and_right (not (is_nothing name)) (are_name_parts name) k.3) k.4 (close_brace ∷ rest_text) in
    ap (λ s. read (s ++ text)) k.2.text_is
    ∙ ap (λ s. opened (read s)) (append_assoc k.0 (close_brace ∷ k.1) text)
    ∙ ap opened (inner ∙ ap (λ p. before_brace p (read rest_text)) (joined_end name))
    ∙ opened_name name (read rest_text) k.3
    ∙ ap (onto (reference name)) (name_levels rest k.1 h k.5 text)
    ∙ in_front_reference name rest (read text)
name_levels (form f rest) t h k text = not_both false h refl

-- a reference in front of a text is read as it is
reference_levels : (name : Parts) (t : List ℕ) → is_name name ≡ true → IsReading t name → (text : List ℕ) → read (dollar ∷ (open_brace ∷ (t ++ (close_brace ∷ text)))) ≡ onto (reference name) (read text)
reference_levels name t h k text =
    ap opened (name_levels name t (and_right (not (is_nothing name)) (are_name_parts name) h) k (close_brace ∷ text) ∙ ap (λ p. before_brace p (read text)) (joined_end name))
    ∙ opened_name name (read text) h

-- a form in front of a text is read as it is

abbrev plains : List ℕ → Parts
plains [] = end
plains (c ∷ bytes) = plain c (plains bytes)

plains_bytes : (bytes : List ℕ) → plain_bytes (plains bytes) ≡ Some bytes
plains_bytes [] = refl
plains_bytes (c ∷ bytes) = ap (option_map (λ b. c ∷ b)) (plains_bytes bytes)

no_sign : (c d : ℕ) → is_form_character c ≡ true → is_form_character d ≡ false → (c == d) ≡ false
no_sign c d h k = elim (cases_eq c d) [
  | inl e ↦ not_both (is_form_character c) h (ap is_form_character e ∙ k)
  | inr n ↦ ne_eqb c d n
]

plain_levels : (bytes : List ℕ) → list_all is_form_character bytes ≡ true → (text : List ℕ) → read (bytes ++ text) ≡ in_front (plains bytes) (read text)
plain_levels [] h text = in_front_end (read text)
plain_levels (c ∷ bytes) h text =
    let first = and_left (is_form_character c) (list_all is_form_character bytes) h in
    rw (no_sign c dollar first refl, no_sign c close_brace first refl) (ap (onto (plain c)) (plain_levels bytes (and_right (is_form_character c) (list_all is_form_character bytes) h) text) ∙ in_front_plain c (plains bytes) (read text))

form_characters : (inside : List ℕ) (f : Form) → form_of inside ≡ Some f → list_all is_form_character inside ≡ true
form_characters inside f e = elim (either_way (list_all is_form_character inside)) [
  | inl t ↦ t
  | inr t ↦ absurd (let k : None ≡ Some f = rw t at e in cc)
]

-- a call begins with `@`, so it is no name

no_front : (c : ℕ) (rest : List ℕ) → (64 == c) ≡ false → call_of (c ∷ rest) ≡ None
no_front c rest n =
    let first : begins_with (codes "@bb.utils.contains(") (c ∷ rest) ≡ false = rw n refl in
    let second : begins_with (codes "@bb.utils.filter(") (c ∷ rest) ≡ false = rw n refl in
    rw (first, second) refl

no_call : (inside : List ℕ) (f : Form) → (call_of inside >>= sound_form) ≡ Some f → is_name (plains inside) ≡ false
no_call [] f e = refl
no_call (c ∷ rest) f e = elim (cases_eq 64 c) [
  | inl t ↦ subst (λ d. is_name (plains (d ∷ rest)) ≡ false) t refl
  | inr n ↦ absurd (let k : None ≡ Some f = ap (λ o. o >>= sound_form) (sym (no_front c rest (ne_eqb 64 c n))) ∙ e in cc)
]

no_name : (inside : List ℕ) (f : Form) → form_of inside ≡ Some f → is_name (plains inside) ≡ false
no_name inside f e = no_call inside f (rw (form_characters inside f e) at e)

opened_at : (parts : Parts) (levels : Levels) (f : Form) → is_name parts ≡ false → form_in parts ≡ Some f → opened (before_brace parts levels) ≡ onto (form f) levels
opened_at parts levels f n e = rw (n, e) refl

form_levels : (f : Form) (inside : List ℕ) → form_of inside ≡ Some f → (text : List ℕ) → read (dollar ∷ (open_brace ∷ (inside ++ (close_brace ∷ text)))) ≡ onto (form f) (read text)
form_levels f inside e text =
    ap opened (plain_levels inside (form_characters inside f e) (close_brace ∷ text) ∙ ap (λ p. before_brace p (read text)) (joined_end (plains inside)))
    ∙ opened_at (plains inside) (read text) f (no_name inside f e) (ap (λ o. o >>= form_of) (plains_bytes inside) ∙ e)

-- a reading's references and forms are there, whatever follows
reading_count : (parts : Parts) (t : List ℕ) → IsReading t parts → (text : List ℕ) → references_in parts + count (read text) ≤ count (read (t ++ text))
reading_count end t k text = subst (λ s. 0 + count (read text) ≤ count (read (s ++ text))) (sym k) (omega arith)
reading_count (plain c rest) t k text =
    subst (λ s. references_in rest + count (read text) ≤ count (read (s ++ text))) (sym k.1) (le_trans (reading_count rest k.0 k.2 text) (front_count c (k.0 ++ text)))
reading_count (reference name rest) t k text =
    let rest_text = k.1 ++ text in
    let levels = ap (λ s. read (s ++ text)) k.2.text_is ∙ ap (λ s. read (dollar ∷ (open_brace ∷ s))) (append_assoc k.0 (close_brace ∷ k.1) text) ∙ reference_levels name k.0 k.3 k.4 rest_text in
    let more = reading_count rest k.1 k.5 text in
    rw (levels, reference_count name (read rest_text)) (omega (arith, more))
reading_count (form f rest) t k text =
    let rest_text = k.1 ++ text in
    let levels = ap (λ s. read (s ++ text)) k.2.text_is ∙ ap (λ s. read (dollar ∷ (open_brace ∷ s))) (append_assoc k.0 (close_brace ∷ k.1) text) ∙ form_levels f k.0 k.3 rest_text in
    let more = reading_count rest k.1 k.4 text in
    rw (levels, form_count f (read rest_text)) (omega (arith, more))

most : (text : List ℕ) (parts : Parts) → IsReading text parts → references_in parts ≤ references_in (parts_of text)
most text parts reading =
    let bound = reading_count parts text reading [] in
    let all : references_in parts + 0 ≤ count (read text) = subst (λ t. references_in parts + 0 ≤ count (read t)) (append-nil text) bound in
    rw (braces_count (read text)) (omega (arith, all))

-- the parts of a text are a reading with the most references and forms
pub has_most_references : (text : List ℕ) → HasMostReferences text
has_most_references text = record { reading = parts_are_reading text; most = most text }
