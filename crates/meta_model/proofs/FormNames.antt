-- A form is known again by the name under which a key tells what it finds.
use Rattle.std.proofs.Common.{◌≡◌, refl, sym, ◌∙◌, ap, subst, ℕ, Bool, true, false, not, ◌&&◌, ◌||◌, ◌==◌, ne_eqb, List, [], ◌∷◌, ◌++◌, flat_map, filter, fold, Option, Some, None, cond, if◌then◌else◌, inl, inr, bytes_eq}
use Rattle.std.specs.List.{slice_split, list_all, onto_first as split_onto}
use Rattle.std.proofs.lemmas.Bool.{cases_eq}
use Rattle.meta_model.proofs.Bools.{not_both, either_way, and_left, and_right, both, same_text}
use Rattle.meta_model.proofs.RoundTrip.{parts_are_reading}
use Rattle.meta_model.specs.declared.form.Form.{Form}
use Rattle.meta_model.specs.Text.{◌>>=◌, space, is_white, is_empty, is_in, is_before, into_order, in_byte_order, non_empty, words}
use Rattle.meta_model.specs.Names.{is_name_character}
use Rattle.meta_model.specs.Forms.{Call, is_form_character, is_sound, sound_form, call_of, form_of, spaced, words_in, told_name, as_asked, asked_by}
use Rattle.meta_model.specs.Parts.{Parts, end, plain, reference, form, parts_of, IsReading}

-- the name under which a key tells what the form finds says its name and its words
abbrev pub IsAsked : Form → Type 0
IsAsked f = asked_by (told_name f.name f.words) ≡ Some (f.name, f.words)

-- a text that is one word
abbrev is_word : List ℕ → Bool
is_word word = not (is_empty word) && list_all (λ c. not (is_white c)) word

-- The words of words joined by blanks are they.

split_word : (word rest : List ℕ) → list_all (λ c. not (is_white c)) word ≡ true → slice_split is_white (word ++ space ∷ rest) ≡ word ∷ slice_split is_white rest
split_word [] rest h = refl
split_word (c ∷ word) rest h =
    let first : is_white c ≡ false = no_white (is_white c) (and_left (not (is_white c)) (list_all (λ c. not (is_white c)) word) h) in
    rw (first, split_word word rest (and_right (not (is_white c)) (list_all (λ c. not (is_white c)) word) h)) refl
  where
    no_white : (b : Bool) → not b ≡ true → b ≡ false
    no_white true e = absurd cc
    no_white false e = refl

split_last : (word : List ℕ) → list_all (λ c. not (is_white c)) word ≡ true → slice_split is_white word ≡ word ∷ []
split_last [] h = refl
split_last (c ∷ word) h =
    let first : is_white c ≡ false = no_white (is_white c) (and_left (not (is_white c)) (list_all (λ c. not (is_white c)) word) h) in
    rw (first, split_last word (and_right (not (is_white c)) (list_all (λ c. not (is_white c)) word) h)) refl
  where
    no_white : (b : Bool) → not b ≡ true → b ≡ false
    no_white true e = absurd cc
    no_white false e = refl

kept_word : (word : List ℕ) (pieces : List (List ℕ)) → is_word word ≡ true → non_empty (word ∷ pieces) ≡ word ∷ non_empty pieces
kept_word word pieces h = rw (and_left (not (is_empty word)) (list_all (λ c. not (is_white c)) word) h) refl

spaced_words : (word : List ℕ) (rest : List (List ℕ)) → is_word word ≡ true → list_all is_word rest ≡ true → words (spaced (word ∷ rest)) ≡ word ∷ rest
spaced_words word [] h k =
    ap words (append_nil word) ∙ ap non_empty (split_last word (and_right (not (is_empty word)) (list_all (λ c. not (is_white c)) word) h)) ∙ kept_word word [] h
  where
    append_nil : (l : List ℕ) → l ++ [] ≡ l
    append_nil [] = refl
    append_nil (x ∷ l) = ap (λ t. x ∷ t) (append_nil l)
spaced_words word (next ∷ rest) h k =
    ap non_empty (split_word word (spaced (next ∷ rest)) (and_right (not (is_empty word)) (list_all (λ c. not (is_white c)) word) h))
    ∙ kept_word word (slice_split is_white (spaced (next ∷ rest))) h
    ∙ ap (λ l. word ∷ l) (spaced_words next rest (and_left (is_word next) (list_all is_word rest) k) (and_right (is_word next) (list_all is_word rest) k))

-- A name character is no white space.
name_black : (c : ℕ) → is_name_character c ≡ true → not (is_white c) ≡ true
name_black c h = elim (cases_eq c 32) [
  | inl e ↦ no_blank 32 refl e
  | inr a ↦ elim (cases_eq c 9) [
    | inl e ↦ no_blank 9 refl e
    | inr b ↦ elim (cases_eq c 10) [
      | inl e ↦ no_blank 10 refl e
      | inr d ↦ elim (cases_eq c 13) [
        | inl e ↦ no_blank 13 refl e
        | inr f ↦ rw (ne_eqb c 32 a, ne_eqb c 9 b, ne_eqb c 10 d, ne_eqb c 13 f) refl
      ]
    ]
  ]
]
  where
    no_blank : (d : ℕ) → is_name_character d ≡ false → c ≡ d → not (is_white c) ≡ true
    no_blank d e same = not_both (is_name_character c) h (ap is_name_character same ∙ e)

name_word : (name : List ℕ) → list_all is_name_character name ≡ true → list_all (λ c. not (is_white c)) name ≡ true
name_word [] h = refl
name_word (c ∷ name) h =
    both (not (is_white c)) (list_all (λ c. not (is_white c)) name)
    (name_black c (and_left (is_name_character c) (list_all is_name_character name) h))
    (name_word name (and_right (is_name_character c) (list_all is_name_character name) h))

-- The words of a text are words, also in byte order.

pieces_black : (s : List ℕ) → list_all (λ piece. list_all (λ c. not (is_white c)) piece) (slice_split is_white s) ≡ true
pieces_black [] = refl
pieces_black (c ∷ s) = by_case (is_white c) refl (slice_split is_white s) (pieces_black s)
  where
    onto : (ps : List (List ℕ)) → not (is_white c) ≡ true → list_all (λ piece. list_all (λ c. not (is_white c)) piece) ps ≡ true → list_all (λ piece. list_all (λ c. not (is_white c)) piece) (split_onto c ps) ≡ true
    onto [] h k = rw h refl
    onto (p ∷ ps) h k = rw h k

    by_case : (b : Bool) → is_white c ≡ b → (ps : List (List ℕ)) → list_all (λ piece. list_all (λ c. not (is_white c)) piece) ps ≡ true → list_all (λ piece. list_all (λ c. not (is_white c)) piece) (cond b ([] ∷ ps) (split_onto c ps)) ≡ true
    by_case true e ps h = h
    by_case false e ps h = onto ps (rw e refl) h

kept_words : (ps : List (List ℕ)) → list_all (λ piece. list_all (λ c. not (is_white c)) piece) ps ≡ true → list_all is_word (non_empty ps) ≡ true
kept_words [] h = refl
kept_words ([] ∷ ps) h = kept_words ps h
kept_words ((c ∷ cs) ∷ ps) h =
    both (is_word (c ∷ cs)) (list_all is_word (non_empty ps))
    (and_left (list_all (λ c. not (is_white c)) (c ∷ cs)) (list_all (λ piece. list_all (λ c. not (is_white c)) piece) ps) h)
    (kept_words ps (and_right (list_all (λ c. not (is_white c)) (c ∷ cs)) (list_all (λ piece. list_all (λ c. not (is_white c)) piece) ps) h))

words_black : (s : List ℕ) → list_all is_word (words s) ≡ true
words_black s = kept_words (slice_split is_white s) (pieces_black s)

into_all : (xs : List (List ℕ)) (x : List ℕ) → list_all is_word xs ≡ true → is_word x ≡ true → list_all is_word (into_order xs x) ≡ true
into_all [] x h k = both (is_word x) true k refl
into_all (y ∷ xs) x h k = elim (either_way (bytes_eq y x)) [
  | inl e ↦ rw e h
  | inr e ↦ elim (either_way (is_before x y)) [
    | inl b ↦ rw (e, b) (both (is_word x) (list_all is_word (y ∷ xs)) k h)
    | inr b ↦ rw (e, b) (both (is_word y) (list_all is_word (into_order xs x)) (and_left (is_word y) (list_all is_word xs) h) (into_all xs x (and_right (is_word y) (list_all is_word xs) h) k))
  ]
]

order_all : (xs ys : List (List ℕ)) → list_all is_word ys ≡ true → list_all is_word xs ≡ true → list_all is_word (fold into_order ys xs) ≡ true
order_all [] ys h k = h
order_all (x ∷ xs) ys h k = order_all xs (into_order ys x) (into_all ys x h (and_left (is_word x) (list_all is_word xs) k)) (and_right (is_word x) (list_all is_word xs) k)

-- a list that isn't empty
abbrev Some_of : List (List ℕ) → Type 0
Some_of l = (first : List ℕ) × (rest : List (List ℕ)) × (l ≡ first ∷ rest)

into_some : (xs : List (List ℕ)) (x : List ℕ) → Some_of (into_order xs x)
into_some [] x = (x, [], refl)
into_some (y ∷ xs) x = elim (either_way (bytes_eq y x)) [
  | inl e ↦ (y, xs, rw e refl)
  | inr e ↦ elim (either_way (is_before x y)) [
    | inl b ↦ (x, y ∷ xs, rw (e, b) refl)
    | inr b ↦ (y, into_order xs x, rw (e, b) refl)
  ]
]

order_some : (xs ys : List (List ℕ)) → Some_of ys → Some_of (fold into_order ys xs)
order_some [] ys some = some
order_some (x ∷ xs) ys some = order_some xs (into_order ys x) (into_some ys x)

words_some : (ws : List (List ℕ)) → not (is_empty ws) ≡ true → Some_of (in_byte_order ws)
words_some [] h = absurd cc
words_some (w ∷ ws) h = order_some ws (w ∷ []) (w, [], refl)

-- a name of name characters, with words
said : (name : List ℕ) (wanted : List (List ℕ)) → not (is_empty name) ≡ true → list_all is_name_character name ≡ true → Some_of wanted → list_all is_word wanted ≡ true → asked_by (told_name name wanted) ≡ Some (name, wanted)
said name wanted some fit words_are black =
    ap as_asked (spaced_words name wanted (both (not (is_empty name)) (list_all (λ c. not (is_white c)) name) some (name_word name fit)) black)
    ∙ ap (λ l. as_asked (name ∷ l)) words_are.2 ∙ ap (λ l. Some (name, l)) (sym words_are.2)

-- the call of a form is sound
sound_of : (call : Call) (f : Form) → sound_form call ≡ Some f → (is_sound call ≡ true) × (f.name ≡ call.name) × (f.words ≡ in_byte_order (words call.wanted))
sound_of call f e = elim (either_way (is_sound call)) [
  | inl t ↦ let k : sound_form call ≡ Some f = e in let m = rw t at k in (t, (let n : Some _ ≡ Some f = m in ap (λ (z : Form). z.name) (sym (some_same n))), (let n : Some _ ≡ Some f = m in ap (λ (z : Form). z.words) (sym (some_same n))))
  | inr t ↦ absurd (let k : None ≡ Some f = rw t at e in cc)
]
  where
    some_same : {A : Type 0} {a b : A} → Some a ≡ Some b → a ≡ b
    some_same e = cc

call_asked : (call : Call) (f : Form) → sound_form call ≡ Some f → IsAsked f
call_asked call f e =
    let s = sound_of call f e in
    let rest = and_right (not (is_empty call.name)) (list_all is_name_character call.name && not (is_empty (words call.wanted))) s.0 in
    let own = said call.name (in_byte_order (words call.wanted)) (and_left (not (is_empty call.name)) (list_all is_name_character call.name && not (is_empty (words call.wanted))) s.0)
    (and_left (list_all is_name_character call.name) (not (is_empty (words call.wanted))) rest)
    (words_some (words call.wanted) (and_right (list_all is_name_character call.name) (not (is_empty (words call.wanted))) rest))
    (order_all (words call.wanted) [] refl (words_black call.wanted)) in
    subst (λ n. asked_by (told_name n f.words) ≡ Some (n, f.words)) (sym s.1) (subst (λ w. asked_by (told_name call.name w) ≡ Some (call.name, w)) (sym s.2) own)

-- each form that is read
pub form_asked : (inside : List ℕ) (f : Form) → form_of inside ≡ Some f → IsAsked f
form_asked inside f e = elim (either_way (list_all is_form_character inside)) [
  | inl t ↦ by (call_of inside) (let k : (call_of inside >>= sound_form) ≡ Some f = rw t at e in k)
  | inr t ↦ absurd (let k : None ≡ Some f = rw t at e in cc)
]
  where
    by : (o : Option Call) → (o >>= sound_form) ≡ Some f → IsAsked f
    by None k = absurd cc
    by (Some call) k = call_asked call f k

-- each form of these parts
abbrev pub AreAsked : Parts → Type 0
AreAsked end = Unit {0}
AreAsked (plain c rest) = AreAsked rest
AreAsked (reference name rest) = AreAsked name × AreAsked rest
AreAsked (form f rest) = IsAsked f × AreAsked rest

reading_asked : (parts : Parts) (text : List ℕ) → IsReading text parts → AreAsked parts
reading_asked end text h = tt
reading_asked (plain c rest) text h = reading_asked rest h.0 h.2
reading_asked (reference name rest) text h = (reading_asked name h.0 h.4, reading_asked rest h.1 h.5)
reading_asked (form f rest) text h = (form_asked h.0 f h.3, reading_asked rest h.1 h.4)

pub parts_asked : (text : List ℕ) → AreAsked (parts_of text)
parts_asked text = reading_asked (parts_of text) text (parts_are_reading text)

-- What a key's line tells is read again.

some_pair : (a b : List ℕ × List (List ℕ)) → Some a ≡ Some b → a ≡ b
some_pair a b e = cc

asked_black : (l : List (List ℕ)) (name : List ℕ) (wanted : List (List ℕ)) → list_all is_word l ≡ true → as_asked l ≡ Some (name, wanted) → list_all is_word wanted ≡ true
asked_black [] name wanted h e = absurd cc
asked_black (n ∷ []) name wanted h e = absurd cc
asked_black (n ∷ (w ∷ r)) name wanted h e =
    let same : w ∷ r ≡ wanted = ap (λ p. p.1) (some_pair (n, w ∷ r) (name, wanted) e) in
    subst (λ l. list_all is_word l ≡ true) same (and_right (is_word n) (list_all is_word (w ∷ r)) h)

filter_all : (p : List ℕ → Bool) (l : List (List ℕ)) → list_all is_word l ≡ true → list_all is_word (filter p l) ≡ true
filter_all p [] h = refl
filter_all p (x ∷ l) h = elim (either_way (p x)) [
  | inl t ↦ rw t (both (is_word x) (list_all is_word (filter p l)) (and_left (is_word x) (list_all is_word l) h) (filter_all p l (and_right (is_word x) (list_all is_word l) h)))
  | inr t ↦ rw t (filter_all p l (and_right (is_word x) (list_all is_word l) h))
]

again : (l : List (List ℕ)) → list_all is_word l ≡ true → words (spaced l) ≡ l
again [] h = refl
again (x ∷ l) h = spaced_words x l (and_left (is_word x) (list_all is_word l) h) (and_right (is_word x) (list_all is_word l) h)

pub found_words : (f : Form) → IsAsked f → (value : Option (List ℕ)) → words (spaced (words_in f.words value)) ≡ words_in f.words value
found_words f asked None = refl
found_words f asked (Some text) =
    again (filter (λ w. is_in w (words text)) f.words)
    (filter_all (λ w. is_in w (words text)) f.words (asked_black (words (spaced (f.name ∷ f.words))) f.name f.words (words_black (spaced (f.name ∷ f.words))) asked))
