-- Laws of answers, and of the steps of an expansion.
use Rattle.std.proofs.Common.{◌≡◌, refl, sym, ◌∙◌, ap, subst, arith, ℕ, zero, suc, ◌+◌, ◌-◌, ◌<◌, ◌≤◌, nat_le, Bool, true, false, ◌&&◌, ◌||◌, inl, inr, List, [], ◌∷◌, ◌++◌, length, append_assoc, append-nil, length-append, Option, Some, None, Result, Ok, Err, flat_map, codes, bytes_eq, ne_eqb, max, slice_get, get_or, take, drop, IfOk, IfErr, OnOk}
use Rattle.std.proofs.lemmas.Bool.{le-leb, lt-leb, cases_lt, cases_eq}
use Rattle.std.proofs.lemmas.List.{drop_more}
use Rattle.std.proofs.Math.Seq.{take-append_seam}
use Rattle.std.specs.List.{list_all}
use Rattle.meta_model.specs.declared.value.Resolved.{Resolved}
use Rattle.meta_model.specs.Refusal.{Refusal, value_cycle, too_deep, too_long, require, ◌>>=◌}
use Rattle.meta_model.specs.Text.{is_in, holds, begins_with, words, drop_words, close_brace}
use Rattle.meta_model.specs.Names.{is_name_character}
use Rattle.meta_model.specs.declared.form.Form.{Form}
use Rattle.meta_model.specs.Forms.{form_text, words_in}
use Rattle.meta_model.specs.Parts.{Parts, end, plain, parts_of, depth, with_braces}
use Rattle.meta_model.specs.Expansion.{Find, Values, longest, deepest, innermost, or_reference, look_up, put_before, expanded_parts, expanded, all_expanded, expanded_value, present, met, told_or_found, words_there, values_within, value_by, values_by, expand_by}
use Rattle.var_expand.specs.declared.fault.ExpandFault.{ExpandFault}
use Rattle.var_expand.specs.declared.fault.ExpandFault.TheVariants.{ValueCycle, TooDeep, TooLong, Unstable, Memory}
use Rattle.var_expand.specs.declared.parts.Part.{Part, Plain, Ref, Ref', Call, items_hidden-the_row-Part-0}
use Rattle.var_expand.specs.declared.parts.Parts.{Parts as Pieces}
use Rattle.var_expand.specs.Faults.{IsFaultOf}
use Rattle.var_expand.specs.Pieces.{text_before, part_before, parts_in, parts_in_list, parts_in_row, shallow_parts}
use Rattle.var_expand.specs.Standing.{levels}
use Rattle.var_expand.specs.Expanding.{call_text, onto_names, innermost_first, last_name, known, fitting, reference_text, part_text, grown, removed}
use Rattle.var_expand.proofs.Openings.{or_left, or_right, braces_front, plain_levels}
use Rattle.var_expand.proofs.Pieces.{in_row, row_of, text_depth, ref_part, before_depth}
use Rattle.meta_model.proofs.White.{drop_none}

-- answers

pub bind_same : {A B : Type 0} (m : Result A Refusal) (f g : A → Result B Refusal) → ((a : A) → f a ≡ g a) → (m >>= f) ≡ (m >>= g)
bind_same (Ok a) f g h = h a
bind_same (Err refusal) f g h = refl

bind_nil : (m : Result (List ℕ) Refusal) → m ≡ (m >>= (λ rest. Ok ([] ++ rest)))
bind_nil (Ok a) = refl
bind_nil (Err refusal) = refl

-- a fault of the first answer is one of the whole
pub fault_on : {A B : Type 0} (fault : ExpandFault) (m : Result A Refusal) (f : A → Result B Refusal) → IsFaultOf fault m → IsFaultOf fault (m >>= f)
fault_on (ValueCycle name) m f e = ap (λ k. k >>= f) e
fault_on (TooDeep name) m f e = ap (λ k. k >>= f) e
fault_on (TooLong name) m f e = ap (λ k. k >>= f) e
fault_on (Unstable before last) m f e = ap (λ k. k >>= f) e
fault_on Memory m f e = tt

pub fault_same : {A : Type 0} (fault : ExpandFault) (m n : Result A Refusal) → m ≡ n → IsFaultOf fault n → IsFaultOf fault m
fault_same fault m n e h = subst (IsFaultOf fault) (sym e) h

-- and of the second, where the first is no refusal
pub fault_behind : {A B : Type 0} (fault : ExpandFault) (m : Result A Refusal) (f : A → Result B Refusal) (a : A) → m ≡ Ok a → IsFaultOf fault (f a) → IsFaultOf fault (m >>= f)
fault_behind fault m f a e h = fault_same fault (m >>= f) (f a) (ap (λ k. k >>= f) e) h

-- room

put_same : (name : List ℕ) (room : ℕ) (piece : List ℕ) (f g : ℕ → Result (List ℕ) Refusal) → ((r : ℕ) → f r ≡ g r) → put_before name room piece f ≡ put_before name room piece g
put_same name room piece f g h =
    bind_same (require (nat_le (length piece) room) (too_long name)) (λ fits. f (room - length piece) >>= (λ after. Ok (piece ++ after))) (λ fits. g (room - length piece) >>= (λ after. Ok (piece ++ after)))
    (λ u. ap (λ m. m >>= (λ after. Ok (piece ++ after))) (h (room - length piece)))

empty_put : (name : List ℕ) (room : ℕ) (rest : ℕ → Result (List ℕ) Refusal) → rest room ≡ put_before name room [] rest
empty_put name room rest =
    let fits : nat_le 0 room ≡ true = le-leb 0 room (omega arith) in
    let same : room ≡ room - 0 = omega arith in
    ap rest same ∙ bind_nil (rest (room - 0)) ∙ sym (ap (λ b. require b (too_long name) >>= (λ u. rest (room - 0) >>= (λ after. Ok ([] ++ after)))) fits)

cons_on : (n : Result (List ℕ) Refusal) (c : ℕ) (t : List ℕ) → ((n >>= (λ a. Ok (t ++ a))) >>= (λ a. Ok ((c ∷ []) ++ a))) ≡ (n >>= (λ a. Ok ((c ∷ t) ++ a)))
cons_on (Ok a) c t = refl
cons_on (Err refusal) c t = refl

twice_at : (p q r : Bool) (x : Refusal) (m n : Result (List ℕ) Refusal) (c : ℕ) (t : List ℕ) → r ≡ (p && q) → m ≡ n
    → (require p x >>= (λ u. (require q x >>= (λ v. m >>= (λ a. Ok (t ++ a)))) >>= (λ a. Ok ((c ∷ []) ++ a)))) ≡ (require r x >>= (λ u. n >>= (λ a. Ok ((c ∷ t) ++ a))))
twice_at true true r x m n c t e h = rw (e, h) (cons_on n c t)
twice_at true false r x m n c t e h = rw e refl
twice_at false q r x m n c t e h = rw e refl

le_parts : (k room : ℕ) → nat_le (suc k) room ≡ (nat_le 1 room && nat_le k (room - 1))
le_parts k room = elim (cases_lt k room) [
  | inl lt ↦ rw (le-leb (suc k) room (omega arith), le-leb 1 room (omega arith), le-leb k (room - 1) (omega arith)) refl
  | inr ge ↦ elim (cases_lt 0 room) [
    | inl some ↦ rw (lt-leb (suc k) room (omega arith), le-leb 1 room (omega arith), lt-leb k (room - 1) (omega arith)) refl
    | inr none ↦ rw (lt-leb (suc k) room (omega arith), lt-leb 1 room (omega arith)) refl
  ]
]

put_twice : (name : List ℕ) (room c : ℕ) (t : List ℕ) (rest : ℕ → Result (List ℕ) Refusal) → put_before name room (c ∷ []) (λ r. put_before name r t rest) ≡ put_before name room (c ∷ t) rest
put_twice name room c t rest =
    let same : room - 1 - length t ≡ room - suc (length t) = omega arith in
    twice_at (nat_le 1 room) (nat_le (length t) (room - 1)) (nat_le (suc (length t)) room) (too_long name) (rest (room - 1 - length t)) (rest (room - suc (length t))) c t (le_parts (length t) room) (ap rest same)

-- plain text is put in at once
pub plain_run : (values : Values) (name t : List ℕ) (after : Parts) (room : ℕ) → expanded_parts values name (text_before t after) room ≡ put_before name room t (expanded_parts values name after)
plain_run values name [] after room = empty_put name room (expanded_parts values name after)
plain_run values name (c ∷ t) after room =
    put_same name room (c ∷ []) (expanded_parts values name (text_before t after)) (λ r. put_before name r t (expanded_parts values name after)) (λ r. plain_run values name t after r)
    ∙ put_twice name room c t (expanded_parts values name after)

glue : (m : Result (List ℕ) Refusal) (sofar piece : List ℕ) → ((m >>= (λ a. Ok (piece ++ a))) >>= (λ r. Ok (sofar ++ r))) ≡ (m >>= (λ r. Ok ((sofar ++ piece) ++ r)))
glue (Ok a) sofar piece = ap Ok (sym (append_assoc sofar piece a))
glue (Err refusal) sofar piece = refl

put_at : (b : Bool) (x : Refusal) (m n : Result (List ℕ) Refusal) (rest : ℕ → Result (List ℕ) Refusal) (sofar piece : List ℕ) → m ≡ rest (longest - length (sofar ++ piece))
    → ((require b x >>= (λ u. m >>= (λ a. Ok (piece ++ a)))) >>= (λ r. Ok (sofar ++ r))) ≡ ((require b x >>= (λ u. Ok (sofar ++ piece))) >>= (λ out. rest (longest - length out) >>= (λ r. Ok (out ++ r))))
put_at true x m n rest sofar piece e = glue m sofar piece ∙ ap (λ k. k >>= (λ r. Ok ((sofar ++ piece) ++ r))) e
put_at false x m n rest sofar piece e = refl

put_grown : (name sofar piece : List ℕ) (rest : ℕ → Result (List ℕ) Refusal) → (put_before name (longest - length sofar) piece rest >>= (λ r. Ok (sofar ++ r)))
    ≡ ((require (nat_le (length piece) (longest - length sofar)) (too_long name) >>= (λ fits. Ok (sofar ++ piece))) >>= (λ out. rest (longest - length out) >>= (λ r. Ok (out ++ r))))
put_grown name sofar piece rest =
    let both = length-append sofar piece in
    let less : longest - length sofar - length piece ≡ longest - length (sofar ++ piece) = omega (arith, both) in
    put_at (nat_le (length piece) (longest - length sofar)) (too_long name) (rest (longest - length sofar - length piece)) (rest 0) rest sofar piece (ap rest less)

-- parts

found_at : {A : Type 0} (m : Result A Refusal) (w : A → List ℕ) (p q g h : List ℕ → Result (List ℕ) Refusal) → ((piece : List ℕ) → (p piece >>= q) ≡ (g piece >>= h))
    → ((m >>= (λ f. p (w f))) >>= q) ≡ (((m >>= (λ f. Ok (w f))) >>= g) >>= h)
found_at (Ok f) w p q g h same = same (w f)
found_at (Err refusal) w p q g h same = refl

looked_at : (m : Result (List ℕ) Refusal) (y : List ℕ → Result (Option (List ℕ)) Refusal) (w : List ℕ → Option (List ℕ) → List ℕ) (p q g h : List ℕ → Result (List ℕ) Refusal) → ((piece : List ℕ) → (p piece >>= q) ≡ (g piece >>= h))
    → ((m >>= (λ l. y l >>= (λ f. p (w l f)))) >>= q) ≡ (((m >>= (λ l. y l >>= (λ f. Ok (w l f)))) >>= g) >>= h)
looked_at (Ok l) y w p q g h same = found_at (y l) (w l) p q g h same
looked_at (Err refusal) y w p q g h same = refl

-- parts behind what is expanded so far
abbrev pub finish : Values → List ℕ → List ℕ → Parts → Result (List ℕ) Refusal
finish values name sofar parts = expanded_parts values name parts (longest - length sofar) >>= (λ r. Ok (sofar ++ r))

pub one_part : (values : Values) (name : List ℕ) (part : Part) (after : Parts) (sofar : List ℕ) → finish values name sofar (part_before part after) ≡ (grown values name part sofar >>= (λ out. finish values name out after))
one_part values name (Plain t) after sofar =
    ap (λ m. m >>= (λ r. Ok (sofar ++ r))) (plain_run values name t after (longest - length sofar)) ∙ put_grown name sofar t (expanded_parts values name after)
one_part values name (Ref' shape row) after sofar =
    looked_at (expanded_parts values name (parts_in_row row) longest) (λ looked. look_up values looked (list_all is_name_character looked)) or_reference
    (λ piece. put_before name (longest - length sofar) piece (expanded_parts values name after)) (λ r. Ok (sofar ++ r))
    (λ piece. require (nat_le (length piece) (longest - length sofar)) (too_long name) >>= (λ fits. Ok (sofar ++ piece)))
    (λ out. finish values name out after)
    (λ piece. put_grown name sofar piece (expanded_parts values name after))
one_part values name (Call f) after sofar =
    found_at (words_there values f) (form_text f)
    (λ piece. put_before name (longest - length sofar) piece (expanded_parts values name after)) (λ r. Ok (sofar ++ r))
    (λ piece. require (nat_le (length piece) (longest - length sofar)) (too_long name) >>= (λ fits. Ok (sofar ++ piece)))
    (λ out. finish values name out after)
    (λ piece. put_grown name sofar piece (expanded_parts values name after))

pub finish_goes_on : (values : Values) (name : List ℕ) (part : Part) (after : Parts) (sofar out : List ℕ) → grown values name part sofar ≡ Ok out → finish values name sofar (part_before part after) ≡ finish values name out after
finish_goes_on values name part after sofar out e = one_part values name part after sofar ∙ ap (λ m. m >>= (λ o. finish values name o after)) e

pub finish_fault : (values : Values) (name : List ℕ) (part : Part) (after : Parts) (sofar : List ℕ) (fault : ExpandFault) → IsFaultOf fault (grown values name part sofar) → IsFaultOf fault (finish values name sofar (part_before part after))
finish_fault values name part after sofar fault h =
    fault_same fault (finish values name sofar (part_before part after)) (grown values name part sofar >>= (λ out. finish values name out after)) (one_part values name part after sofar)
    (fault_on fault (grown values name part sofar) (λ out. finish values name out after) h)

pub grown_ok : (values : Values) (name : List ℕ) (part : Part) (sofar piece out : List ℕ) → part_text values name part ≡ Ok piece → length piece ≤ longest - length sofar → out ≡ sofar ++ piece → grown values name part sofar ≡ Ok out
grown_ok values name part sofar piece out e fits f =
    ap (λ m. m >>= (λ p. require (nat_le (length p) (longest - length sofar)) (too_long name) >>= (λ u. Ok (sofar ++ p)))) e
    ∙ ap (λ b. require b (too_long name) >>= (λ u. Ok (sofar ++ piece))) (le-leb (length piece) (longest - length sofar) fits)
    ∙ ap Ok (sym f)

pub grown_long : (values : Values) (name : List ℕ) (part : Part) (sofar piece : List ℕ) (fault : ExpandFault) → part_text values name part ≡ Ok piece
    → IsFaultOf fault (require (nat_le (length piece) (longest - length sofar)) (too_long name)) → IsFaultOf fault (grown values name part sofar)
grown_long values name part sofar piece fault e h =
    fault_behind fault (part_text values name part) (λ p. require (nat_le (length p) (longest - length sofar)) (too_long name) >>= (λ u. Ok (sofar ++ p))) piece e
    (fault_on fault (require (nat_le (length piece) (longest - length sofar)) (too_long name)) (λ u. Ok (sofar ++ piece)) h)

pub grown_fault : (values : Values) (name : List ℕ) (part : Part) (sofar : List ℕ) (fault : ExpandFault) → IsFaultOf fault (part_text values name part) → IsFaultOf fault (grown values name part sofar)
grown_fault values name part sofar fault h = fault_on fault (part_text values name part) (λ p. require (nat_le (length p) (longest - length sofar)) (too_long name) >>= (λ u. Ok (sofar ++ p))) h

-- what a reference of the program's becomes
pub ref_text : (values : Values) (name : List ℕ) (pieces : Pieces) → part_text values name (Ref pieces) ≡ reference_text values name (parts_in pieces)
ref_text values name pieces =
    let row = row_of (Ref pieces) in
    ap (reference_text values name) (in_row row.0 row.1 ∙ ap parts_in_list (items_hidden-the_row-Part-0 pieces.list))

-- what a form of the program's becomes
pub form_is : (values : Values) (name : List ℕ) (part : Part) (f : Form) → part ≡ Call f → part_text values name part ≡ call_text values f
form_is values name part f is = ap (part_text values name) is

pub told_words : (values : Values) (f : Form) (told : List (List ℕ)) → values.known f.name f.words ≡ Some told → words_there values f ≡ Ok told
told_words values f told e = ap (told_or_found values f) e

pub value_words : (values : Values) (f : Form) (value : Option (List ℕ)) (there : List (List ℕ)) → values.known f.name f.words ≡ None → values.at f.name ≡ Ok value → there ≡ words_in f.words value → words_there values f ≡ Ok there
value_words values f value there none e is = ap (told_or_found values f) none ∙ ap (λ m. m >>= (λ v. Ok (words_in f.words v))) e ∙ ap Ok (sym is)

pub words_fault : (values : Values) (f : Form) (fault : ExpandFault) → values.known f.name f.words ≡ None → IsFaultOf fault (values.at f.name) → IsFaultOf fault (words_there values f)
words_fault values f fault none h = fault_same fault (words_there values f) (values.at f.name >>= (λ v. Ok (words_in f.words v))) (ap (told_or_found values f) none) (fault_on fault (values.at f.name) (λ v. Ok (words_in f.words v)) h)

pub call_gives : (values : Values) (f : Form) (there : List (List ℕ)) (text : List ℕ) → words_there values f ≡ Ok there → text ≡ form_text f there → call_text values f ≡ Ok text
call_gives values f there text e is = ap (λ m. m >>= (λ t. Ok (form_text f t))) e ∙ ap Ok (sym is)

pub call_fault : (values : Values) (f : Form) (fault : ExpandFault) → IsFaultOf fault (words_there values f) → IsFaultOf fault (call_text values f)
call_fault values f fault h = fault_on fault (words_there values f) (λ t. Ok (form_text f t)) h

-- which words are told stays the same in an expansion
pub known_at : (finds : Find) (left : ℕ) (names : List (List ℕ)) (f : Form) (told : Option (List (List ℕ))) → finds.known f.name f.words ≡ told → (known finds left names).known f.name f.words ≡ told
unfolding known
known_at finds left names f told e = e

pub known_known : (finds : Find) (left : ℕ) (names : List (List ℕ)) → (known finds left names).known ≡ finds.known
unfolding known
known_known finds left names = refl

-- names in expansion

pub onto_more : (within names : List (List ℕ)) (name : List ℕ) → onto_names within (names ++ name ∷ []) ≡ name ∷ onto_names within names
onto_more within [] name = refl
onto_more within (n ∷ names) name = onto_more (n ∷ within) names name

pub last_is : (names : List (List ℕ)) (name : List ℕ) → last_name (names ++ name ∷ []) ≡ name
last_is names name = ap innermost (onto_more [] names name)

or_moves : (a b c : Bool) → (a || (b || c)) ≡ ((b || a) || c)
or_moves true true c = refl
or_moves true false c = refl
or_moves false true c = refl
or_moves false false c = refl

in_onto : (x : List ℕ) (within names : List (List ℕ)) → is_in x (onto_names within names) ≡ (is_in x names || is_in x within)
in_onto x within [] = refl
in_onto x within (n ∷ names) = in_onto x (n ∷ within) names ∙ or_moves (is_in x names) (bytes_eq x n) (is_in x within)

or_none : (b : Bool) → (b || false) ≡ b
or_none true = refl
or_none false = refl

pub in_names : (x : List ℕ) (names : List (List ℕ)) → is_in x (innermost_first names) ≡ is_in x names
in_names x names = in_onto x [] names ∙ or_none (is_in x names)

met_at : (finds : Find) (names : List (List ℕ)) (name : List ℕ) (expand : Resolved → Result (List ℕ) Refusal) → is_in name names ≡ true → met finds (innermost_first names) name expand ≡ Err (value_cycle name)
met_at finds names name expand h = rw (in_names name names, h) refl

pub met_none : (finds : Find) (names : List (List ℕ)) (name : List ℕ) (expand : Resolved → Result (List ℕ) Refusal) → is_in name names ≡ false → finds.at name ≡ Ok None → met finds (innermost_first names) name expand ≡ Ok None
met_none finds names name expand h e = rw (in_names name names, h, e) refl

met_some : (finds : Find) (names : List (List ℕ)) (name : List ℕ) (expand : Resolved → Result (List ℕ) Refusal) (value : Resolved) → is_in name names ≡ false → finds.at name ≡ Ok (Some value)
    → met finds (innermost_first names) name expand ≡ (expand value >>= (λ text. Ok (Some text)))
met_some finds names name expand value h e = rw (in_names name names, h, e) refl

pub known_cycle : (finds : Find) (left : ℕ) (names : List (List ℕ)) (name : List ℕ) → is_in name names ≡ true → (known finds left names).at name ≡ Err (value_cycle name)
unfolding known
known_cycle finds zero names name h = met_at finds names name (λ value. Err (too_deep (innermost (innermost_first names)))) h
known_cycle finds (suc left) names name h = met_at finds names name (expanded_value (values_within left finds (name ∷ innermost_first names)) name) h

pub known_none : (finds : Find) (left : ℕ) (names : List (List ℕ)) (name : List ℕ) → is_in name names ≡ false → finds.at name ≡ Ok None → (known finds left names).at name ≡ Ok None
unfolding known
known_none finds zero names name h e = met_none finds names name (λ value. Err (too_deep (innermost (innermost_first names)))) h e
known_none finds (suc left) names name h e = met_none finds names name (expanded_value (values_within left finds (name ∷ innermost_first names)) name) h e

met_unfound : (finds : Find) (names : List (List ℕ)) (name : List ℕ) (expand : Resolved → Result (List ℕ) Refusal) (fault : ExpandFault) → is_in name names ≡ false → IsFaultOf fault (finds.at name)
    → IsFaultOf fault (met finds (innermost_first names) name expand)
met_unfound finds names name expand fault h e =
    fault_same fault (met finds (innermost_first names) name expand) (finds.at name >>= present expand) (rw (in_names name names, h) refl) (fault_on fault (finds.at name) (present expand) e)

pub known_unfound : (finds : Find) (left : ℕ) (names : List (List ℕ)) (name : List ℕ) (fault : ExpandFault) → is_in name names ≡ false → IsFaultOf fault (finds.at name) → IsFaultOf fault ((known finds left names).at name)
unfolding known
known_unfound finds zero names name fault h e = met_unfound finds names name (λ value. Err (too_deep (innermost (innermost_first names)))) fault h e
known_unfound finds (suc left) names name fault h e = met_unfound finds names name (expanded_value (values_within left finds (name ∷ innermost_first names)) name) fault h e

pub known_deep : (finds : Find) (names : List (List ℕ)) (name : List ℕ) (value : Resolved) → is_in name names ≡ false → finds.at name ≡ Ok (Some value) → (known finds 0 names).at name ≡ Err (too_deep (last_name names))
unfolding known
known_deep finds names name value h e = met_some finds names name (λ v. Err (too_deep (innermost (innermost_first names)))) value h e

pub known_found : (finds : Find) (left : ℕ) (names : List (List ℕ)) (name : List ℕ) (value : Resolved) → is_in name names ≡ false → finds.at name ≡ Ok (Some value) → 0 < left
    → (known finds left names).at name ≡ (expanded_value (known finds (left - 1) (names ++ name ∷ [])) (last_name (names ++ name ∷ [])) value >>= (λ text. Ok (Some text)))
unfolding known
known_found finds zero names name value h e some = absurd (omega arith)
known_found finds (suc left) names name value h e some =
    let less : suc left - 1 ≡ left = omega arith in
    met_some finds names name (expanded_value (values_within left finds (name ∷ innermost_first names)) name) value h e
    ∙ ap (λ w. expanded_value (values_within left finds w) (innermost w) value >>= (λ text. Ok (Some text))) (sym (onto_more [] names name))
    ∙ ap (λ n. expanded_value (values_within n finds (innermost_first (names ++ name ∷ []))) (last_name (names ++ name ∷ [])) value >>= (λ text. Ok (Some text))) (sym less)

-- values

words_at : (m : Result (List (List ℕ)) Refusal) (text : List ℕ) → (m >>= (λ removes. Ok (drop_words text (flat_map words removes)))) ≡ ((m >>= (λ removes. Ok (flat_map words removes))) >>= (λ ws. Ok (drop_words text ws)))
words_at (Ok removes) text = refl
words_at (Err refusal) text = refl

pub value_alone : (values : Values) (name : List ℕ) (found : Resolved) (text : List ℕ) → expanded values name found.text ≡ Ok text → found.removes ≡ [] → expanded_value values name found ≡ Ok text
value_alone values name found text e f =
    ap (λ m. m >>= (λ t. all_expanded values name found.removes >>= (λ removes. Ok (drop_words t (flat_map words removes))))) e
    ∙ ap (λ l. all_expanded values name l >>= (λ removes. Ok (drop_words text (flat_map words removes)))) f
    ∙ ap Ok (drop_none text)

pub value_fault : (values : Values) (name : List ℕ) (found : Resolved) (fault : ExpandFault) → IsFaultOf fault (expanded values name found.text) → IsFaultOf fault (expanded_value values name found)
value_fault values name found fault h = fault_on fault (expanded values name found.text) (λ text. all_expanded values name found.removes >>= (λ removes. Ok (drop_words text (flat_map words removes)))) h

-- removes

-- removes behind the words so far
abbrev pub gather : Values → List ℕ → List (List ℕ) → List (List ℕ) → Result (List (List ℕ)) Refusal
gather values name sofar texts = removed values name texts >>= (λ more. Ok (sofar ++ more))

-- texts

no_brace : (c : ℕ) (t : List ℕ) → (c ≡ close_brace → ⊥) → begins_with (codes "}") (c ∷ t) ≡ false
no_brace c t other = rw (ne_eqb close_brace c (λ e. other (sym e))) refl

pub plain_parts : (t : List ℕ) → holds (codes "${") t ≡ false → parts_of t ≡ text_before t end
plain_parts [] h = refl
plain_parts (c ∷ t) h =
    let here = or_left (begins_with (codes "${") (c ∷ t)) (holds (codes "${") t) h in
    let later = plain_parts t (or_right (begins_with (codes "${") (c ∷ t)) (holds (codes "${") t) h) in
    elim (cases_eq c close_brace) [
      | inl same ↦ ap (λ k. with_braces (levels (k ∷ t))) same ∙ ap (plain close_brace) later ∙ ap (λ k. plain k (text_before t end)) (sym same)
      | inr other ↦ ap with_braces (plain_levels c t (rw (no_brace c t other, here) refl)) ∙ braces_front (plain c end) (levels t) ∙ ap (plain c) later
    ]

pub plain_text : (values : Values) (name t : List ℕ) → holds (codes "${") t ≡ false → expanded values name t ≡ (require (nat_le (length t) longest) (too_long name) >>= (λ fits. Ok t))
plain_text values name t h =
    ap (λ p. require (nat_le (depth p) deepest) (too_deep name) >>= (λ shallow. expanded_parts values name p longest)) (plain_parts t h)
    ∙ ap (λ n. require (nat_le n deepest) (too_deep name) >>= (λ shallow. expanded_parts values name (text_before t end) longest)) (text_depth t)
    ∙ plain_run values name t end longest
    ∙ bind_same (require (nat_le (length t) longest) (too_long name)) (λ fits. Ok (t ++ [])) (λ fits. Ok t) (λ u. ap Ok (append-nil t))

pub text_parts : (values : Values) (name t : List ℕ) (p : Parts) → p ≡ parts_of t → depth (parts_of t) ≤ deepest → expanded values name t ≡ expanded_parts values name p longest
text_parts values name t p e h =
    ap (λ b. require b (too_deep name) >>= (λ shallow. expanded_parts values name (parts_of t) longest)) (le-leb (depth (parts_of t)) deepest h) ∙ ap (λ q. expanded_parts values name q longest) (sym e)

pub text_deep : (values : Values) (name t : List ℕ) → deepest < depth (parts_of t) → expanded values name t ≡ Err (too_deep name)
text_deep values name t h = ap (λ b. require b (too_deep name) >>= (λ shallow. expanded_parts values name (parts_of t) longest)) (lt-leb (depth (parts_of t)) deepest h)

pub shallow_deep : (t : List ℕ) → deepest < depth (parts_of t) → shallow_parts t ≡ Err (too_deep [])
shallow_deep t h = ap (λ b. require b (too_deep []) >>= (λ shallow. Ok (parts_of t))) (lt-leb (depth (parts_of t)) deepest h)

-- the start of an expansion
pub known_start : (finds : Find) → known finds 64 [] ≡ values_by finds
unfolding known
known_start finds = refl

last_onto : (within xs : List (List ℕ)) (n : List ℕ) → Some n ≡ slice_get xs (length xs - 1) → n ≡ innermost (onto_names within xs)
last_onto within [] n e = absurd cc
last_onto within (x ∷ []) n e = let same : Some n ≡ Some x = e in cc
last_onto within (x ∷ (y ∷ xs)) n e =
    let less : length (x ∷ (y ∷ xs)) - 1 ≡ suc (length (y ∷ xs) - 1) = omega arith in
    last_onto (x ∷ within) (y ∷ xs) n (e ∙ ap (slice_get (x ∷ (y ∷ xs))) less)

-- the last of the names
pub last_found : (names : List (List ℕ)) (n : List ℕ) → Some n ≡ slice_get names (length names - 1) → n ≡ last_name names
last_found names n e = last_onto [] names n e

-- facts at the calls

pub plain_ok : (values : Values) (name t : List ℕ) → holds (codes "${") t ≡ false → length t ≤ longest → expanded values name t ≡ Ok t
plain_ok values name t h fits = plain_text values name t h ∙ ap (λ b. require b (too_long name) >>= (λ u. Ok t)) (le-leb (length t) longest fits)

pub plain_long : (values : Values) (name t : List ℕ) (fault : ExpandFault) → holds (codes "${") t ≡ false → IsFaultOf fault (require (nat_le (length t) longest) (too_long name)) → IsFaultOf fault (expanded values name t)
plain_long values name t fault h f =
    fault_same fault (expanded values name t) (require (nat_le (length t) longest) (too_long name) >>= (λ fits. Ok t)) (plain_text values name t h)
    (fault_on fault (require (nat_le (length t) longest) (too_long name)) (λ fits. Ok t) f)

pub fit_fault : (fault : ExpandFault) (names names' : List (List ℕ)) (sofar sofar' piece piece' : List ℕ) → names' ≡ names → sofar' ≡ sofar → piece' ≡ piece
    → IsFaultOf fault (fitting names' (longest - length sofar') (length piece')) → IsFaultOf fault (require (nat_le (length piece) (longest - length sofar)) (too_long (last_name names)))
fit_fault fault names names' sofar sofar' piece piece' a b d h =
    fault_same fault (require (nat_le (length piece) (longest - length sofar)) (too_long (last_name names))) (fitting names' (longest - length sofar') (length piece'))
    (sym (ap (λ n. fitting n (longest - length sofar') (length piece')) a ∙ ap (λ s. fitting names (longest - length s) (length piece')) b ∙ ap (λ p. fitting names (longest - length sofar) (length p)) d)) h

pub fit_whole : (fault : ExpandFault) (names names' : List (List ℕ)) (t t' : List ℕ) → names' ≡ names → t' ≡ t
    → IsFaultOf fault (fitting names' longest (length t')) → IsFaultOf fault (require (nat_le (length t) longest) (too_long (last_name names)))
fit_whole fault names names' t t' a b h =
    fault_same fault (require (nat_le (length t) longest) (too_long (last_name names))) (fitting names' longest (length t'))
    (sym (ap (λ n. fitting n longest (length t')) a ∙ ap (λ s. fitting names longest (length s)) b)) h

pub ref_depth : (part : Part) (pieces : Pieces) → part ≡ Ref pieces → depth (part_before part end) ≡ suc (depth (parts_in pieces))
ref_depth part pieces e = ap (λ p. depth (part_before p end)) e ∙ ap depth (ref_part pieces end) ∙ above (depth (parts_in pieces))
  where
    above : (n : ℕ) → max (suc n) 0 ≡ suc n
    above n = omega arith

pub ref_is : (values : Values) (name : List ℕ) (part : Part) (pieces : Pieces) → part ≡ Ref pieces → part_text values name part ≡ reference_text values name (parts_in pieces)
ref_is values name part pieces e = ap (part_text values name) e ∙ ref_text values name pieces

-- a part of a list nests no deeper than the list
pub item_depth : (list : List Part) (i : ℕ) (d : Part) → i < length list → depth (part_before (get_or list i d) end) ≤ depth (parts_in_list list)
item_depth [] i d h = absurd (omega arith)
item_depth (x ∷ list) zero d h = let e = before_depth x (parts_in_list list) in grind (arith, e)
item_depth (x ∷ list) (suc i) d h = let e = before_depth x (parts_in_list list) in let later = item_depth list i d (omega arith) in grind (arith, e, later)

pub cut_at : (list : List Part) (i : ℕ) (d : Part) → i < length list → parts_in_list (drop i list) ≡ part_before (get_or list i d) (parts_in_list (drop (i + 1) list))
cut_at list i d h = ap parts_in_list (drop_more list i d h)

pub part_depth : (list all : List Part) (i : ℕ) (part : Part) → part ≡ get_or list i part → i < length list → list ≡ all → depth (part_before part end) ≤ depth (parts_in_list all)
part_depth list all i part is lt e =
    subst (λ l. depth (part_before part end) ≤ depth (parts_in_list l)) e (subst (λ p. depth (part_before p end) ≤ depth (parts_in_list list)) (sym is) (item_depth list i part lt))

pub cut_part : (list : List Part) (i : ℕ) (part : Part) → part ≡ get_or list i part → i < length list → parts_in_list (drop i list) ≡ part_before part (parts_in_list (drop (i + 1) list))
cut_part list i part is lt = cut_at list i part lt ∙ ap (λ p. part_before p (parts_in_list (drop (i + 1) list))) (sym is)

pub positive : (n : ℕ) → (n ≡ 0 → ⊥) → 0 < n
positive zero h = absurd (h refl)
positive (suc n) h = omega arith

pub start_text : (finds : Find) (names : List (List ℕ)) (t : List ℕ) → names ≡ [] → expanded (known finds 64 names) (last_name names) t ≡ expand_by finds t
start_text finds names t e = ap (λ n. expanded (known finds 64 n) (last_name n) t) e ∙ ap (λ v. expanded v [] t) (known_start finds)

pub start_value : (finds : Find) (names : List (List ℕ)) (name : List ℕ) → names ≡ [] → (known finds 64 names).at name ≡ value_by finds name
start_value finds names name e = ap (λ n. (known finds 64 n).at name) e ∙ ap (λ v. v.at name) (known_start finds)

pub same_ok : {T : Type 0} (r : Result T ExpandFault) (m n : Result T Refusal) → m ≡ n → IfOk r (λ made. m ≡ Ok made) → IfOk r (λ made. n ≡ Ok made)
same_ok (Ok made) m n e h = sym e ∙ h
same_ok (Err fault) m n e h = h

pub same_err : {T : Type 0} (r : Result T ExpandFault) (m n : Result T Refusal) → m ≡ n → IfErr r (λ fault. IsFaultOf fault m) → IfErr r (λ fault. IsFaultOf fault n)
same_err (Ok made) m n e h = h
same_err (Err fault) m n e h = subst (IsFaultOf fault) e h

pub start_parts : (finds : Find) (names : List (List ℕ)) (parts : Parts) → names ≡ [] → expanded_parts (known finds 64 names) (last_name names) parts longest ≡ expanded_parts (values_by finds) [] parts longest
start_parts finds names parts e = ap (λ n. expanded_parts (known finds 64 n) (last_name n) parts longest) e ∙ ap (λ v. expanded_parts v [] parts longest) (known_start finds)

-- a piece that is put behind what is expanded so far
pub put_ok : {T : Type 0} (values : Values) (name : List ℕ) (part : Part) (out piece piece' new : List ℕ) (r : Result T ExpandFault) → part_text values name part ≡ Ok piece → piece' ≡ piece
    → OnOk r (length piece' ≤ longest - length out) → OnOk r (new ≡ out ++ piece') → OnOk r (grown values name part out ≡ Ok new)
put_ok values name part out piece piece' new (Ok made) e same fits is = grown_ok values name part out piece new e (subst (λ p. length p ≤ longest - length out) same fits) (is ∙ ap (λ p. out ++ p) same)
put_ok values name part out piece piece' new (Err fault) e same fits is = is

pub put_err : {T : Type 0} (values : Values) (names names' : List (List ℕ)) (part : Part) (out piece piece' : List ℕ) (r : Result T ExpandFault) → part_text values (last_name names) part ≡ Ok piece → names' ≡ names → piece' ≡ piece
    → IfErr r (λ fault. IsFaultOf fault (fitting names' (longest - length out) (length piece'))) → IfErr r (λ fault. IsFaultOf fault (grown values (last_name names) part out))
put_err values names names' part out piece piece' (Ok made) e within same h = h
put_err values names names' part out piece piece' (Err fault) e within same h = grown_long values (last_name names) part out piece fault e (fit_fault fault names names' out out piece piece' within refl same h)

-- names without the one that was put behind them
pub take_front : {A : Type 0} (names : List A) (name : A) (n : ℕ) → n ≡ length names → take n (names ++ name ∷ []) ≡ names
take_front names name n e = ap (λ k. take k (names ++ name ∷ [])) e ∙ take-append_seam names (name ∷ [])
