-- The lines that are written, form by form.
use Rattle.std.proofs.Common.{◌≡◌, ℕ, ◌-◌, Bool, true, false, cond, not, ◌&&◌, ◌||◌, ◌==◌, List, [], ◌∷◌, ◌++◌, length, get_or, is_some, refl, sym, ap, ◌∙◌, Option, Some, None, Ok, codes, bytes_eq, append_assoc, arith, eq-eqb}
use Rattle.std.specs.List.{list_all, list_any, before_first}
use Rattle.std.proofs.lemmas.Bool.{and_parts, and_right, eqb-true, false≢true}
use Rattle.std.proofs.lemmas.List.{append-nil}
use Rattle.std.proofs.lemmas.List.Folds.{list_all-append}
use Rattle.std.specs.Str.{IsUtf8}
use Rattle.meta_model.specs.declared.entry.Op.{Op}
use Rattle.meta_model.specs.declared.entry.Op.TheVariants.{Set, Now, Soft, Weak, AddBlank, PutBlank, Add, Put}
use Rattle.meta_model.specs.declared.line.Kind.{Kind}
use Rattle.meta_model.specs.declared.statement.Statement.{Statement}
use Rattle.meta_model.specs.declared.statement.Statement.TheVariants.{Assign, Flag, Export, Unset, UnsetFlag, Include, Require, Inherit}
use Rattle.meta_model.specs.Text.{newline, space, equals, is_blank, is_quote, is_empty, is_in, begins_with, skip_blanks, without_end, without_last}
use Rattle.meta_model.specs.Names.{is_name, is_flag}
use Rattle.meta_model.specs.Lines.{is_comment, is_joined, opens_body, lines_of_text}
use Rattle.meta_model.specs.Grammar.{Fit, operator, operation, quoted, behind_word, assignment, flag_of_name, flag_assignment, fit_of, value_forms_of, directive_forms_of, ◌>>=◌}
use Rattle.meta_model.specs.Statements.{AreStatements, statement_of, is_fakeroot, is_python_word, holds_python, statement_holds_python, statement_is_reserved, is_reserved, is_allowed, first_word}
use Rattle.bb_parser.specs.Written.{is_word, is_one_line, is_dropped, is_quotable, is_python_name, is_refused_name, times_of, is_free_name, can_follow, line_of_text, name_and_flag_text, operator_text, quote_of, operation_text, flag_text, needs_join, whole_line}
use Rattle.meta_model.proofs.Edges.{without_end-stays}
use Rattle.std.proofs.lemmas.Slice.Eq.{bytes_eq-Decides}
use Rattle.meta_model.specs.declared.line.Place.TheVariants.{Plain}
use Rattle.bb_parser.proofs.QuoteFacts.{with_last}
use Rattle.bb_parser.proofs.FormFacts.{fit_of-value, fit_of-directive}
use Rattle.bb_parser.proofs.StatementFacts.{of_rest}
use Rattle.bb_parser.proofs.NameSearch.{name_char}
use Rattle.bb_parser.proofs.WrittenLines.{one_line, one_joined_line, file_of_line, no_comment, joined-no, without_last-push}
use Rattle.bb_parser.proofs.Bounds.{one_of_two}
use Rattle.bb_parser.proofs.WrittenNames
use Rattle.bb_parser.proofs.WrittenNames.{flag_char}
use Rattle.bb_parser.proofs.WrittenWords
use Rattle.bb_parser.proofs.Tests.{none_of, not_false, or_parts, or_true}

-- The line gives the statement.
pub record IsLineOf (line : List ℕ) (s : Statement) : Type 0 where
  pub front : ℕ
  pub rest : List ℕ
  pub is : line ≡ front ∷ rest
  pub unblank : is_blank front ≡ false
  pub no_hash : (35 == front) ≡ false
  pub one : is_one_line line ≡ true
  pub opens : opens_body line ≡ false
  pub python : is_python_word line ≡ false
  pub fakeroot : is_fakeroot line ≡ false
  pub inner : ℕ
  pub other : (inner == 1) ≡ false
  pub fits : fit_of line [] ≡ Some (record { statement = s; inner = inner })
  pub holds : statement_holds_python s ≡ false
  pub free : statement_is_reserved s ≡ false

-- what a statement's fit comes to
pub given : (kind : Kind) (text body : List ℕ) (s : Statement) (n : ℕ) → fit_of text body ≡ Some (record { statement = s; inner = n }) → (n == 1) ≡ false → is_python_word text ≡ false → holds_python body ≡ false → statement_holds_python s ≡ false
    → is_fakeroot text ≡ false → statement_is_reserved s ≡ false → is_allowed kind s ≡ true → statement_of kind text body false ≡ Ok s
given kind text body s n f i p b h k r a = of_rest kind text body false (Some (record { statement = s; inner = n })) f (rw (p, b, h, k, i, r) refl) ∙ rw a refl

flipped : (a b : ℕ) → (a == b) ≡ false → (b == a) ≡ false
flipped a b h = by_case (b == a) refl
  where
    by_case : (x : Bool) → (b == a) ≡ x → (b == a) ≡ false
    by_case true e = absurd (false≢true (sym h ∙ eq-eqb a b (sym (eqb-true b a e))))
    by_case false e = e

joined-lines : (line : List ℕ) (s : Statement) → (h : IsLineOf line s) → lines_of_text (line ++ 92 ∷ newline ∷ newline ∷ []) ≡ Ok (record { number = 1; place = Plain; text = line } ∷ [])
joined-lines line s h = ap (λ l. lines_of_text (l ++ 92 ∷ newline ∷ newline ∷ [])) h.is
    ∙ (one_joined_line h.front h.rest (no_comment h.front (h.rest ++ 92 ∷ []) h.unblank h.no_hash) (ap is_one_line (sym h.is) ∙ h.one) (ap opens_body (sym h.is) ∙ h.opens)
    ∙ ap (λ l. Ok (record { number = 1; place = Plain; text = l } ∷ [])) (sym h.is))

ended-lines : (line : List ℕ) (s : Statement) → (h : IsLineOf line s) → needs_join line ≡ false → lines_of_text (line ++ newline ∷ []) ≡ Ok (record { number = 1; place = Plain; text = line } ∷ [])
ended-lines line s h e =
    let c = get_or line (length line - 1) 0 in
    let b = or_parts (is_dropped c) (c == 92) e in
    let w = with_last line (rw h.is (omega arith)) in
    one_line line (ap is_empty h.is) (ap is_comment h.is ∙ no_comment h.front h.rest h.unblank h.no_hash) h.one
    (ap (without_end is_dropped) w ∙ (without_end-stays is_dropped (without_last line) c b.0 ∙ sym w))
    (ap is_joined w ∙ joined-no (without_last line) c (flipped c 92 b.1)) h.opens

-- the text of the line gives the statement
pub line-gives : (kind : Kind) (line : List ℕ) (s : Statement) → IsLineOf line s → IsUtf8 (whole_line line) → is_allowed kind s ≡ true → AreStatements kind (whole_line line) ((1, s) ∷ [])
line-gives kind line s h u a = by_case (needs_join line) refl u
  where
    g : statement_of kind line [] false ≡ Ok s
    g = given kind line [] s h.inner h.fits h.other h.python refl h.holds h.fakeroot h.free a

    by_case : (b : Bool) → needs_join line ≡ b → IsUtf8 (cond b (line ++ 92 ∷ newline ∷ newline ∷ []) (line ++ newline ∷ [])) → AreStatements kind (cond b (line ++ 92 ∷ newline ∷ newline ∷ []) (line ++ newline ∷ [])) ((1, s) ∷ [])
    by_case true e v = file_of_line kind (line ++ 92 ∷ newline ∷ newline ∷ []) line s v (joined-lines line s h) h.opens g
    by_case false e v = file_of_line kind (line ++ newline ∷ []) line s v (ended-lines line s h e) h.opens g

-- operators and quoted texts
operator-written : (op : Op) (r : List ℕ) → operator (operator_text op ++ 32 ∷ r) ≡ Some (op, 32 ∷ r)
unfolding operator
operator-written Set r = refl
operator-written Now r = refl
operator-written Soft r = refl
operator-written Weak r = refl
operator-written AddBlank r = refl
operator-written PutBlank r = refl
operator-written Add r = refl
operator-written Put r = refl

abbrev is_sign : ℕ → Bool
is_sign c = c == equals || is_quote c

operator-signed : (op : Op) (r : List ℕ) → list_any is_sign (operator_text op ++ r) ≡ true
operator-signed Set r = refl
operator-signed Now r = refl
operator-signed Soft r = refl
operator-signed Weak r = refl
operator-signed AddBlank r = refl
operator-signed PutBlank r = refl
operator-signed Add r = refl
operator-signed Put r = refl

-- the characters of operators
abbrev in_operator : ℕ → Bool
in_operator c = list_any (λ d. d == c) (codes "?:+.=")

operator-made : (op : Op) → list_all in_operator (operator_text op) ≡ true
operator-made Set = refl
operator-made Now = refl
operator-made Soft = refl
operator-made Weak = refl
operator-made AddBlank = refl
operator-made PutBlank = refl
operator-made Add = refl
operator-made Put = refl

operator-equals : (op : Op) → list_any (λ c. c == 61) (operator_text op) ≡ true
operator-equals Set = refl
operator-equals Now = refl
operator-equals Soft = refl
operator-equals Weak = refl
operator-equals AddBlank = refl
operator-equals PutBlank = refl
operator-equals Add = refl
operator-equals Put = refl

quoted-written : (q : ℕ) (text : List ℕ) → is_quote q ≡ true → quoted (q ∷ (text ++ q ∷ [])) ≡ Some (record { text = text; inner = times_of q text })
unfolding quoted
quoted-written q text h = rw (without_last-push text q, (bytes_eq-Decides (text ++ q ∷ []) (text ++ q ∷ [])).1 refl, h) refl

quote_of-quote : (text : List ℕ) → (is_quote (quote_of text) ≡ true) × (is_blank (quote_of text) ≡ false) × ((quote_of text == newline) ≡ false)
quote_of-quote text = by_case (times_of 34 text == 1)
  where
    by_case : (b : Bool) → (is_quote (cond b 39 34) ≡ true) × (is_blank (cond b 39 34) ≡ false) × ((cond b 39 34 == newline) ≡ false)
    by_case true = (refl, refl, refl)
    by_case false = (refl, refl, refl)

-- the quote that is chosen doesn't stand in the text exactly once
quote_of-other : (text : List ℕ) → (times_of 34 text == 1 && times_of 39 text == 1) ≡ false → (times_of (quote_of text) text == 1) ≡ false
quote_of-other text h = by_case (times_of 34 text == 1) refl h
  where
    by_case : (b : Bool) → (times_of 34 text == 1) ≡ b → (b && times_of 39 text == 1) ≡ false → (times_of (cond b 39 34) text == 1) ≡ false
    by_case true e k = k
    by_case false e k = e

operation-written : (op : Op) (text : List ℕ) → operation (operation_text op text) ≡ Some (op, record { text = text; inner = times_of (quote_of text) text })
operation-written op text = let q = quote_of-quote text in
    rw (operator-written op (quote_of text ∷ (text ++ quote_of text ∷ [])), q.1, quoted-written (quote_of text) text q.0) refl

-- what all characters of the parts of a line are
all-cons : (p : ℕ → Bool) (c : ℕ) (xs : List ℕ) → p c ≡ true → list_all p xs ≡ true → list_all p (c ∷ xs) ≡ true
all-cons p c xs h k = rw h k

pub all-append : (p : ℕ → Bool) (xs ys : List ℕ) → list_all p xs ≡ true → list_all p ys ≡ true → list_all p (xs ++ ys) ≡ true
all-append p xs ys h k = list_all-append p xs ys ∙ rw (h, k) refl

pub any-right : (p : ℕ → Bool) (xs ys : List ℕ) → list_any p ys ≡ true → list_any p (xs ++ ys) ≡ true
any-right p [] ys h = h
any-right p (x ∷ xs) ys h = rw (any-right p xs ys h) (or_true (p x))

sign_opens_none : (line : List ℕ) → list_any is_sign line ≡ true → opens_body line ≡ false
sign_opens_none line h = rw h refl

-- one test follows from another
pub all-from : (p q : ℕ → Bool) (xs : List ℕ) → ((c : ℕ) → p c ≡ true → q c ≡ true) → list_all p xs ≡ true → list_all q xs ≡ true
all-from p q [] f h = refl
all-from p q (x ∷ xs) f h = let b = and_parts (p x) (list_all p xs) h in rw (f x b.0) (all-from p q xs f b.1)

pub one-name : (name : List ℕ) → list_all name_char name ≡ true → is_one_line name ≡ true
one-name name h = WrittenNames.name_without 10 name refl h

pub operation-one : (op : Op) (text : List ℕ) → is_one_line text ≡ true → is_one_line (operation_text op text) ≡ true
operation-one op text h = let q : not (quote_of text == newline) ≡ true = rw (quote_of-quote text).2 refl in
    all-append (λ c. not (c == newline)) (operator_text op) (space ∷ (quote_of text ∷ (text ++ quote_of text ∷ []))) (WrittenNames.without 10 in_operator (operator_text op) (λ c t. WrittenNames.passes_not in_operator 10 c refl t) (operator-made op))
    (all-cons (λ c. not (c == newline)) space (quote_of text ∷ (text ++ quote_of text ∷ [])) refl
    (all-cons (λ c. not (c == newline)) (quote_of text) (text ++ quote_of text ∷ []) q
    (all-append (λ c. not (c == newline)) text (quote_of text ∷ []) h (all-cons (λ c. not (c == newline)) (quote_of text) [] q refl))))

pub name-word : (c : ℕ) (cs : List ℕ) → is_name (c ∷ cs) ≡ true → is_word (c ∷ cs) ≡ true
name-word c cs n = all-from name_char WrittenWords.unwhite (c ∷ cs) (λ d t. rw (WrittenNames.char-unwhite d t) refl) n

-- what an assignment's parts say
pub record Assigned (name : List ℕ) (op : Op) (text : List ℕ) : Type 0 where
  named : is_name name ≡ true
  free : is_reserved name ≡ false
  one : is_one_line text ≡ true
  holds : holds_python text ≡ false
  other : (times_of (quote_of text) text == 1) ≡ false

pub assigned-parts : (name : List ℕ) (op : Op) (text : List ℕ) → is_free_name name ≡ true → is_quotable text ≡ true → Assigned name op text
assigned-parts name op text n q =
    let a = and_parts (is_name name) (not (is_reserved name)) n in
    let b = and_parts (is_one_line text && not (holds_python text)) (not (times_of 34 text == 1 && times_of 39 text == 1)) q in
    let d = and_parts (is_one_line text) (not (holds_python text)) b.0 in
    record { named = a.0; free = not_false (is_reserved name) a.1; one = d.0; holds = not_false (holds_python text) d.1; other = quote_of-other text (not_false (times_of 34 text == 1 && times_of 39 text == 1) b.1) }

operator-there : (op : Op) (text : List ℕ) → is_some (operator (operation_text op text)) ≡ true
operator-there op text = ap is_some (operator-written op (quote_of text ∷ (text ++ quote_of text ∷ [])))

first_fits : (line : List ℕ) (f : Fit) → opens_body line ≡ false → skip_blanks line ≡ line → value_forms_of line ≡ Some f → fit_of line [] ≡ Some f
first_fits line f o k v = fit_of-value line [] f o (ap value_forms_of k ∙ v)

-- NAME OP QUOTED with a blank behind the name
pub blank-assigned : (c : ℕ) (cs : List ℕ) (op : Op) (text : List ℕ) → Assigned (c ∷ cs) op text → is_python_name (c ∷ cs) ≡ false → bytes_eq (c ∷ cs) (codes "fakeroot") ≡ false
    → IsLineOf (c ∷ cs ++ space ∷ operation_text op text) (Assign false (c ∷ cs) op text)
blank-assigned c cs op text h p f =
    let n = (and_parts (not (is_empty (c ∷ cs))) (list_all name_char (c ∷ cs)) h.named).1 in
    let k = (and_parts (name_char c) (list_all name_char cs) n).0 in
    let line = c ∷ cs ++ space ∷ operation_text op text in
    let o = sign_opens_none line (any-right is_sign (c ∷ cs) (space ∷ operation_text op text) (operator-signed op (space ∷ (quote_of text ∷ (text ++ quote_of text ∷ []))))) in
    let w = WrittenWords.first_word-front (c ∷ cs) (space ∷ operation_text op text) (name-word c cs h.named) refl in
    let a = WrittenNames.assignment-is false line (c ∷ cs) (space ∷ operation_text op text) text op (times_of (quote_of text) text) (WrittenNames.found-blank c cs (space ∷ operation_text op text) h.named refl (ap is_some (WrittenNames.operator-blank (operation_text op text)) ∙ operator-there op text)) (WrittenNames.operation-blank (operation_text op text) ∙ operation-written op text) in
    record {
      front = c;
      rest = cs ++ space ∷ operation_text op text;
      is = refl;
      unblank = WrittenNames.char-unblank c k;
      no_hash = WrittenNames.char_not 35 c refl k;
      one = all-append (λ d. not (d == newline)) (c ∷ cs) (space ∷ operation_text op text) (one-name (c ∷ cs) n) (operation-one op text h.one);
      opens = o;
      python = ap (λ x. is_in (before_first (λ y. y == 40) x) (codes "python" ∷ codes "def" ∷ codes "addhandler" ∷ [])) w ∙ (ap (λ x. is_in x (codes "python" ∷ codes "def" ∷ codes "addhandler" ∷ [])) (WrittenWords.front-all 40 (c ∷ cs) (WrittenNames.name_without 40 (c ∷ cs) refl n)) ∙ p);
      fakeroot = ap (λ x. bytes_eq x (codes "fakeroot")) w ∙ f;
      inner = times_of (quote_of text) text;
      other = h.other;
      fits = first_fits line (record { statement = Assign false (c ∷ cs) op text; inner = times_of (quote_of text) text }) o (WrittenNames.skip-stays c (cs ++ space ∷ operation_text op text) (WrittenNames.char-unblank c k)) (rw a refl);
      holds = h.holds;
      free = h.free;
    }

-- a name that is refused as a first word has letters alone
refused-letters : (name : List ℕ) → is_refused_name name ≡ true → list_all WrittenNames.is_letter name ≡ true
refused-letters name h = one_of_two (is_python_name name) (bytes_eq name (codes "fakeroot")) h (λ a. one_of_two (bytes_eq name (codes "python")) (bytes_eq name (codes "def") || (bytes_eq name (codes "addhandler") || false)) a
    (letters (codes "python") refl) (λ b. one_of_two (bytes_eq name (codes "def")) (bytes_eq name (codes "addhandler") || false) b (letters (codes "def") refl)
    (λ d. one_of_two (bytes_eq name (codes "addhandler")) false d (letters (codes "addhandler") refl) (λ e. absurd (false≢true e))))) (letters (codes "fakeroot") refl)
  where
    letters : (w : List ℕ) → list_all WrittenNames.is_letter w ≡ true → bytes_eq name w ≡ true → list_all WrittenNames.is_letter name ≡ true
    letters w k e = ap (list_all WrittenNames.is_letter) ((bytes_eq-Decides name w).0 e) ∙ k

operator-unwhite : (op : Op) → list_all WrittenWords.unwhite (operator_text op) ≡ true
operator-unwhite op = all-from in_operator WrittenWords.unwhite (operator_text op) (λ c t. rw (WrittenNames.passes_not in_operator 32 c refl t, WrittenNames.passes_not in_operator 9 c refl t, WrittenNames.passes_not in_operator 10 c refl t, WrittenNames.passes_not in_operator 13 c refl t) refl) (operator-made op)

-- NAME OP QUOTED with nothing behind the name
pub close-assigned : (c : ℕ) (cs : List ℕ) (op : Op) (text : List ℕ) → Assigned (c ∷ cs) op text → is_refused_name (c ∷ cs) ≡ true → IsLineOf (c ∷ cs ++ operation_text op text) (Assign false (c ∷ cs) op text)
close-assigned c cs op text h p =
    let n = (and_parts (not (is_empty (c ∷ cs))) (list_all name_char (c ∷ cs)) h.named).1 in
    let k = (and_parts (name_char c) (list_all name_char cs) n).0 in
    let z = space ∷ (quote_of text ∷ (text ++ quote_of text ∷ [])) in
    let line = c ∷ cs ++ operation_text op text in
    let o = sign_opens_none line (any-right is_sign (c ∷ cs) (operation_text op text) (operator-signed op z)) in
    let word = c ∷ cs ++ operator_text op in
    let ww = all-append WrittenWords.unwhite (c ∷ cs) (operator_text op) (name-word c cs h.named) (operator-unwhite op) in
    let e : line ≡ word ++ z = sym (append_assoc (c ∷ cs) (operator_text op) z) in
    let w = ap first_word e ∙ WrittenWords.first_word-front word z ww refl in
    let m = any-right (λ d. d == 61) (c ∷ cs) (operator_text op) (operator-equals op) in
    let u = all-append (λ d. not (d == 40)) (c ∷ cs) (operator_text op) (WrittenNames.name_without 40 (c ∷ cs) refl n) (WrittenNames.without 40 in_operator (operator_text op) (λ d t. WrittenNames.passes_not in_operator 40 d refl t) (operator-made op)) in
    let l = (and_parts (WrittenNames.is_letter c) (list_all WrittenNames.is_letter cs) (refused-letters (c ∷ cs) p)).1 in
    let a = WrittenNames.assignment-is false line (c ∷ cs) (operation_text op text) text op (times_of (quote_of text) text) (WrittenNames.found-letters c cs (operation_text op text) h.named l (operator-there op text)) (operation-written op text) in
    record {
      front = c;
      rest = cs ++ operation_text op text;
      is = refl;
      unblank = WrittenNames.char-unblank c k;
      no_hash = WrittenNames.char_not 35 c refl k;
      one = all-append (λ d. not (d == newline)) (c ∷ cs) (operation_text op text) (one-name (c ∷ cs) n) (operation-one op text h.one);
      opens = o;
      python = WrittenWords.not_python 61 line word w u m refl refl refl;
      fakeroot = WrittenWords.not_fakeroot 61 line word w m refl;
      inner = times_of (quote_of text) text;
      other = h.other;
      fits = first_fits line (record { statement = Assign false (c ∷ cs) op text; inner = times_of (quote_of text) text }) o (WrittenNames.skip-stays c (cs ++ operation_text op text) (WrittenNames.char-unblank c k)) (rw a refl);
      holds = h.holds;
      free = h.free;
    }

-- no operator stands at the front of a name
name_alone : (c : ℕ) (cs : List ℕ) → list_all name_char (c ∷ cs) ≡ true → operator (c ∷ cs) ≡ None
name_alone c cs n = let b = and_parts (name_char c) (list_all name_char cs) n in WrittenNames.no_operator c cs b.0 (ap (begins_with (codes "=")) (sym (append-nil cs)) ∙ WrittenNames.follows cs [] b.1 refl)

-- the forms behind a word that aren't tried in vain
no_value : (s : List ℕ) → assignment false s ≡ None → behind_word (codes "export") s ≡ None → flag_of_name s ≡ None → behind_word (codes "unset") s ≡ None → value_forms_of s ≡ None
no_value s a b d e = rw (a, b, d, e) refl

-- export NAME OP QUOTED
pub export-assigned : (c : ℕ) (cs : List ℕ) (op : Op) (text : List ℕ) → Assigned (c ∷ cs) op text → IsLineOf (codes "export " ++ (c ∷ cs ++ space ∷ operation_text op text)) (Assign true (c ∷ cs) op text)
export-assigned c cs op text h =
    let n = (and_parts (not (is_empty (c ∷ cs))) (list_all name_char (c ∷ cs)) h.named).1 in
    let b = and_parts (name_char c) (list_all name_char cs) n in
    let t = c ∷ cs ++ space ∷ operation_text op text in
    let line = codes "export " ++ t in
    let o = sign_opens_none line (any-right is_sign (codes "export ") t (any-right is_sign (c ∷ cs) (space ∷ operation_text op text) (operator-signed op (space ∷ (quote_of text ∷ (text ++ quote_of text ∷ [])))))) in
    let x = WrittenNames.no_assignment false 101 (codes "xport") t refl (WrittenNames.no_operation t (WrittenNames.no_operator c (cs ++ space ∷ operation_text op text) b.0 (WrittenNames.follows cs (space ∷ operation_text op text) b.1 refl))) in
    let a = WrittenNames.assignment-is true t (c ∷ cs) (space ∷ operation_text op text) text op (times_of (quote_of text) text) (WrittenNames.found-blank c cs (space ∷ operation_text op text) h.named refl (ap is_some (WrittenNames.operator-blank (operation_text op text)) ∙ operator-there op text)) (WrittenNames.operation-blank (operation_text op text) ∙ operation-written op text) in
    let k = WrittenNames.skip-stays c (cs ++ space ∷ operation_text op text) (WrittenNames.char-unblank c b.0) in
    record {
      front = 101;
      rest = codes "xport " ++ t;
      is = refl;
      unblank = refl;
      no_hash = refl;
      one = all-append (λ d. not (d == newline)) (codes "export ") t refl (all-append (λ d. not (d == newline)) (c ∷ cs) (space ∷ operation_text op text) (one-name (c ∷ cs) n) (operation-one op text h.one));
      opens = o;
      python = refl;
      fakeroot = refl;
      inner = times_of (quote_of text) text;
      other = h.other;
      fits = first_fits line (record { statement = Assign true (c ∷ cs) op text; inner = times_of (quote_of text) text }) o refl (rw (x, k, a) refl);
      holds = h.holds;
      free = h.free;
    }

flag-one : (f : List ℕ) → is_flag f ≡ true → is_one_line f ≡ true
flag-one f h = WrittenNames.flag_without 10 f refl h

flag-word : (f : List ℕ) → is_flag f ≡ true → list_all WrittenWords.unwhite f ≡ true
flag-word f h = let a = and_parts (not (is_empty f) && list_all flag_char f) (not (begins_with (codes "@") f)) h in
    all-from flag_char WrittenWords.unwhite f (λ c t. rw (WrittenNames.passes_not flag_char 32 c refl t, WrittenNames.passes_not flag_char 9 c refl t, WrittenNames.passes_not flag_char 10 c refl t, WrittenNames.passes_not flag_char 13 c refl t) refl) (and_parts (not (is_empty f)) (list_all flag_char f) a.0).1

-- the value forms of a name with a flag
flag_value : (s : List ℕ) → assignment false s ≡ None → behind_word (codes "export") s ≡ None → (f : Fit) → flag_assignment s ≡ Some f → value_forms_of s ≡ Some f
flag_value s a b f e = rw (a, b, e) refl

flagged : Option (List ℕ × List ℕ × List ℕ) → Option Fit
flagged found = do
  n ← found
  o ← operation n.2
  Some (record { statement = Flag n.0 n.1 o.0 o.1.text; inner = o.1.inner })

flag-fit : (s name f r text : List ℕ) (op : Op) (n : ℕ) → flag_of_name s ≡ Some (name, f, r) → operation r ≡ Some (op, record { text = text; inner = n }) → flag_assignment s ≡ Some (record { statement = Flag name f op text; inner = n })
unfolding flagged
flag-fit s name f r text op n e o = ap flagged e ∙ rw o refl

no_operator-bracket : (r : List ℕ) → is_some (operator (91 ∷ r)) ≡ false
unfolding operator
no_operator-bracket r = refl

-- NAME[FLAG] OP QUOTED
pub flag-assigned : (c : ℕ) (cs f : List ℕ) (op : Op) (text : List ℕ) → Assigned (c ∷ cs) op text → is_flag f ≡ true → IsLineOf (flag_text (c ∷ cs) f op text) (Flag (c ∷ cs) f op text)
flag-assigned c cs f op text h g =
    let n = (and_parts (not (is_empty (c ∷ cs))) (list_all name_char (c ∷ cs)) h.named).1 in
    let b = and_parts (name_char c) (list_all name_char cs) n in
    let r = space ∷ operation_text op text in
    let z = f ++ (93 ∷ r) in
    let line = c ∷ cs ++ (91 ∷ z) in
    let s = any-right is_sign f (93 ∷ r) (operator-signed op (space ∷ (quote_of text ∷ (text ++ quote_of text ∷ [])))) in
    let o = sign_opens_none line (any-right is_sign (c ∷ cs) (91 ∷ z) s) in
    let word = c ∷ cs ++ (91 ∷ (f ++ 93 ∷ [])) in
    let ww = all-append WrittenWords.unwhite (c ∷ cs) (91 ∷ (f ++ 93 ∷ [])) (name-word c cs h.named) (all-append WrittenWords.unwhite f (93 ∷ []) (flag-word f g) refl) in
    let e : word ++ r ≡ line = append_assoc (c ∷ cs) (91 ∷ (f ++ 93 ∷ [])) r ∙ ap (λ x. c ∷ cs ++ (91 ∷ x)) (append_assoc f (93 ∷ []) r) in
    let w = ap first_word (sym e) ∙ WrittenWords.first_word-front word r ww refl in
    let m = any-right (λ d. d == 91) (c ∷ cs) (91 ∷ (f ++ 93 ∷ [])) refl in
    let u = all-append (λ d. not (d == 40)) (c ∷ cs) (91 ∷ (f ++ 93 ∷ [])) (WrittenNames.name_without 40 (c ∷ cs) refl n) (all-append (λ d. not (d == 40)) f (93 ∷ []) (WrittenNames.flag_without 40 f refl g) refl) in
    let x = WrittenNames.not_assigned false line (WrittenNames.none_found c cs 91 z h.named refl refl (no_operator-bracket z)) in
    let a = flag-fit line (c ∷ cs) f r text op (times_of (quote_of text) text) (WrittenNames.flag-is (c ∷ cs) f r h.named g) (WrittenNames.operation-blank (operation_text op text) ∙ operation-written op text) in
    record {
      front = c;
      rest = cs ++ (91 ∷ z);
      is = refl;
      unblank = WrittenNames.char-unblank c b.0;
      no_hash = WrittenNames.char_not 35 c refl b.0;
      one = all-append (λ d. not (d == newline)) (c ∷ cs) (91 ∷ z) (one-name (c ∷ cs) n) (all-append (λ d. not (d == newline)) f (93 ∷ r) (flag-one f g) (operation-one op text h.one));
      opens = o;
      python = WrittenWords.not_python 91 line word w u m refl refl refl;
      fakeroot = WrittenWords.not_fakeroot 91 line word w m refl;
      inner = times_of (quote_of text) text;
      other = h.other;
      fits = first_fits line (record { statement = Flag (c ∷ cs) f op text; inner = times_of (quote_of text) text }) o (WrittenNames.skip-stays c (cs ++ (91 ∷ z)) (WrittenNames.char-unblank c b.0))
          (flag_value line x (WrittenNames.not_behind (codes "export") (c ∷ cs) z refl n) (record { statement = Flag (c ∷ cs) f op text; inner = times_of (quote_of text) text }) a);
      holds = h.holds;
      free = h.free;
    }

-- the word and a name
name-named : (c : ℕ) (cs : List ℕ) → is_name (c ∷ cs) ≡ true → (list_all name_char (c ∷ cs) ≡ true) × (name_char c ≡ true) × (behind_word (codes "export") (codes "export " ++ c ∷ cs) ≡ Some (c ∷ cs)) × (behind_word (codes "unset") (codes "unset " ++ c ∷ cs) ≡ Some (c ∷ cs))
name-named c cs h = let n = (and_parts (not (is_empty (c ∷ cs))) (list_all name_char (c ∷ cs)) h).1 in
    let b = and_parts (name_char c) (list_all name_char cs) n in let k = WrittenNames.char-unblank c b.0 in (n, b.0, rw k refl, rw k refl)

not_paren-word : (word name : List ℕ) → list_all (λ c. not (c == 40)) word ≡ true → list_all name_char name ≡ true → opens_body (word ++ name) ≡ false
not_paren-word word name h n = WrittenWords.no_paren (word ++ name) (all-append (λ c. not (c == 40)) word name h (WrittenNames.name_without 40 name refl n))

none_behind : (c : ℕ) (cs : List ℕ) → is_name (c ∷ cs) ≡ true → assignment true (c ∷ cs) ≡ None
none_behind c cs h = ap (assignment true) (sym (append-nil (c ∷ cs))) ∙ WrittenNames.not_assigned true (c ∷ cs ++ []) (WrittenNames.none_alone c cs h)

export_value : (s n : List ℕ) → assignment false s ≡ None → behind_word (codes "export") s ≡ Some n → assignment true n ≡ None → flag_of_name s ≡ None → is_name n ≡ true → value_forms_of s ≡ Some (record { statement = Export n; inner = 0 })
export_value s n a b d e h = rw (a, b, d, e, h) refl

unset_value : (s n : List ℕ) → assignment false s ≡ None → behind_word (codes "export") s ≡ None → flag_of_name s ≡ None → behind_word (codes "unset") s ≡ Some n → is_name n ≡ true → value_forms_of s ≡ Some (record { statement = Unset n; inner = 0 })
unset_value s n a b d e h = rw (a, b, d, e, h) refl

unset_flag_value : (s t n f : List ℕ) → assignment false s ≡ None → behind_word (codes "export") s ≡ None → flag_of_name s ≡ None → behind_word (codes "unset") s ≡ Some t → is_name t ≡ false → flag_of_name t ≡ Some (n, f, [])
    → value_forms_of s ≡ Some (record { statement = UnsetFlag n f; inner = 0 })
unset_flag_value s t n f a b d e h g = rw (a, b, d, e, h, g) refl

-- export NAME
pub export-named : (c : ℕ) (cs : List ℕ) → is_name (c ∷ cs) ≡ true → is_reserved (c ∷ cs) ≡ false → IsLineOf (line_of_text (codes "export") (c ∷ cs)) (Export (c ∷ cs))
export-named c cs h r =
    let n = name-named c cs h in
    let line = codes "export " ++ c ∷ cs in
    let o = not_paren-word (codes "export ") (c ∷ cs) refl n.0 in
    record {
      front = 101;
      rest = codes "xport " ++ c ∷ cs;
      is = refl;
      unblank = refl;
      no_hash = refl;
      one = all-append (λ d. not (d == newline)) (codes "export ") (c ∷ cs) refl (one-name (c ∷ cs) n.0);
      opens = o;
      python = refl;
      fakeroot = refl;
      inner = 0;
      other = refl;
      fits = first_fits line (record { statement = Export (c ∷ cs); inner = 0 }) o refl (export_value line (c ∷ cs)
          (WrittenNames.no_assignment false 101 (codes "xport") (c ∷ cs) refl (WrittenNames.no_operation (c ∷ cs) (name_alone c cs n.0))) n.2 (none_behind c cs h) (WrittenNames.no_flag (codes "export") (c ∷ cs) refl) h);
      holds = refl;
      free = r;
    }

-- unset NAME
pub unset-named : (c : ℕ) (cs : List ℕ) → is_name (c ∷ cs) ≡ true → is_reserved (c ∷ cs) ≡ false → IsLineOf (line_of_text (codes "unset") (c ∷ cs)) (Unset (c ∷ cs))
unset-named c cs h r =
    let n = name-named c cs h in
    let line = codes "unset " ++ c ∷ cs in
    let o = not_paren-word (codes "unset ") (c ∷ cs) refl n.0 in
    record {
      front = 117;
      rest = codes "nset " ++ c ∷ cs;
      is = refl;
      unblank = refl;
      no_hash = refl;
      one = all-append (λ d. not (d == newline)) (codes "unset ") (c ∷ cs) refl (one-name (c ∷ cs) n.0);
      opens = o;
      python = refl;
      fakeroot = refl;
      inner = 0;
      other = refl;
      fits = first_fits line (record { statement = Unset (c ∷ cs); inner = 0 }) o refl (unset_value line (c ∷ cs)
          (WrittenNames.no_assignment false 117 (codes "nset") (c ∷ cs) refl (WrittenNames.no_operation (c ∷ cs) (name_alone c cs n.0))) refl (WrittenNames.no_flag (codes "unset") (c ∷ cs) refl) n.3 h);
      holds = refl;
      free = r;
    }

bracket_no_name : (name r : List ℕ) → is_name (name ++ 91 ∷ r) ≡ false
bracket_no_name name r = and_right (not (is_empty (name ++ 91 ∷ r))) (list_all name_char (name ++ 91 ∷ r)) (list_all-append name_char name (91 ∷ r) ∙ and_right (list_all name_char name) false refl)

-- unset NAME[FLAG]
pub unset-flagged : (c : ℕ) (cs f : List ℕ) → is_name (c ∷ cs) ≡ true → is_reserved (c ∷ cs) ≡ false → is_flag f ≡ true → IsLineOf (line_of_text (codes "unset") (name_and_flag_text (c ∷ cs) f)) (UnsetFlag (c ∷ cs) f)
unset-flagged c cs f h r g =
    let n = name-named c cs h in
    let z = 91 ∷ (f ++ 93 ∷ []) in
    let t = c ∷ cs ++ z in
    let line = codes "unset " ++ t in
    let b = and_parts (name_char c) (list_all name_char cs) n.0 in
    let o = WrittenWords.no_paren line (all-append (λ d. not (d == 40)) (codes "unset ") t refl (all-append (λ d. not (d == 40)) (c ∷ cs) z (WrittenNames.name_without 40 (c ∷ cs) refl n.0)
    (all-append (λ d. not (d == 40)) f (93 ∷ []) (WrittenNames.flag_without 40 f refl g) refl))) in
    record {
      front = 117;
      rest = codes "nset " ++ t;
      is = refl;
      unblank = refl;
      no_hash = refl;
      one = all-append (λ d. not (d == newline)) (codes "unset ") t refl (all-append (λ d. not (d == newline)) (c ∷ cs) z (one-name (c ∷ cs) n.0) (all-append (λ d. not (d == newline)) f (93 ∷ []) (flag-one f g) refl));
      opens = o;
      python = refl;
      fakeroot = refl;
      inner = 0;
      other = refl;
      fits = first_fits line (record { statement = UnsetFlag (c ∷ cs) f; inner = 0 }) o refl (unset_flag_value line t (c ∷ cs) f
          (WrittenNames.no_assignment false 117 (codes "nset") t refl (WrittenNames.no_operation t (WrittenNames.no_operator c (cs ++ z) b.0 (WrittenNames.follows cs z b.1 refl)))) refl (WrittenNames.no_flag (codes "unset") t refl)
          (rw (WrittenNames.char-unblank c b.0) refl) (bracket_no_name (c ∷ cs) (f ++ 93 ∷ [])) (WrittenNames.flag-is (c ∷ cs) f [] h g));
      holds = refl;
      free = r;
    }

-- the word and a text
pub record Follows (word text : List ℕ) : Type 0 where
  front : ℕ
  rest : List ℕ
  is : text ≡ front ∷ rest
  unblank : is_blank front ≡ false
  one : is_one_line text ≡ true
  holds : holds_python text ≡ false
  unassigned : assignment false (line_of_text word text) ≡ None
  opens : opens_body (line_of_text word text) ≡ false

pub follows-parts : (word text : List ℕ) → can_follow word text ≡ true → Follows word text
follows-parts word [] h = absurd (false≢true h)
follows-parts word (c ∷ cs) h =
    let t = c ∷ cs in
    let a = and_parts (not (is_blank c) && is_one_line t && not (holds_python t) && not (is_some (assignment false (line_of_text word t)))) (not (opens_body (line_of_text word t))) h in
    let b = and_parts (not (is_blank c) && is_one_line t && not (holds_python t)) (not (is_some (assignment false (line_of_text word t)))) a.0 in
    let d = and_parts (not (is_blank c) && is_one_line t) (not (holds_python t)) b.0 in
    let e = and_parts (not (is_blank c)) (is_one_line t) d.0 in
    record {
      front = c;
      rest = cs;
      is = refl;
      unblank = not_false (is_blank c) e.0;
      one = e.1;
      holds = not_false (holds_python t) d.1;
      unassigned = none_of (assignment false (line_of_text word t)) (not_false (is_some (assignment false (line_of_text word t))) b.1);
      opens = not_false (opens_body (line_of_text word t)) a.1;
    }

directive_fits : (line : List ℕ) (f : Fit) → opens_body line ≡ false → skip_blanks line ≡ line → value_forms_of line ≡ None → directive_forms_of line ≡ Some f → fit_of line [] ≡ Some f
directive_fits line f o k v d = fit_of-directive line [] o (ap value_forms_of k ∙ v) ∙ (ap directive_forms_of k ∙ d)

-- a word of the language that isn't refused, in front of a text
pub record IsDirective (word : List ℕ) : Type 0 where
  front : ℕ
  rest : List ℕ
  is : word ≡ front ∷ rest
  named : list_all name_char word ≡ true
  unblank : is_blank front ≡ false
  no_hash : (35 == front) ≡ false
  one : is_one_line word ≡ true
  export : (t : List ℕ) → behind_word (codes "export") (word ++ 32 ∷ t) ≡ None
  unset : (t : List ℕ) → behind_word (codes "unset") (word ++ 32 ∷ t) ≡ None
  python : (t : List ℕ) → is_python_word (word ++ 32 ∷ t) ≡ false
  fakeroot : (t : List ℕ) → is_fakeroot (word ++ 32 ∷ t) ≡ false

pub directive-line : (word t : List ℕ) (s : Statement) → IsDirective word → is_one_line t ≡ true → assignment false (word ++ 32 ∷ t) ≡ None → opens_body (word ++ 32 ∷ t) ≡ false
    → directive_forms_of (word ++ 32 ∷ t) ≡ Some (record { statement = s; inner = 0 }) → statement_holds_python s ≡ false → statement_is_reserved s ≡ false → IsLineOf (word ++ 32 ∷ t) s
directive-line word t s w l a o d h r = record {
  front = w.front;
  rest = w.rest ++ 32 ∷ t;
  is = ap (λ x. x ++ 32 ∷ t) w.is;
  unblank = w.unblank;
  no_hash = w.no_hash;
  one = all-append (λ c. not (c == newline)) word (32 ∷ t) w.one l;
  opens = o;
  python = w.python t;
  fakeroot = w.fakeroot t;
  inner = 0;
  other = refl;
  fits = directive_fits (word ++ 32 ∷ t) (record { statement = s; inner = 0 }) o (ap (λ x. skip_blanks (x ++ 32 ∷ t)) w.is ∙ (WrittenNames.skip-stays w.front (w.rest ++ 32 ∷ t) w.unblank ∙ ap (λ x. x ++ 32 ∷ t) (sym w.is)))
      (no_value (word ++ 32 ∷ t) a (w.export t) (WrittenNames.no_flag word t w.named) (w.unset t)) d;
  holds = h;
  free = r;
}

include-is : IsDirective (codes "include")
include-is = record { front = 105; rest = codes "nclude"; is = refl; named = refl; unblank = refl; no_hash = refl; one = refl; export = λ t. refl; unset = λ t. refl; python = λ t. refl; fakeroot = λ t. refl }

require-is : IsDirective (codes "require")
require-is = record { front = 114; rest = codes "equire"; is = refl; named = refl; unblank = refl; no_hash = refl; one = refl; export = λ t. refl; unset = λ t. refl; python = λ t. refl; fakeroot = λ t. refl }

inherit-is : IsDirective (codes "inherit")
inherit-is = record { front = 105; rest = codes "nherit"; is = refl; named = refl; unblank = refl; no_hash = refl; one = refl; export = λ t. refl; unset = λ t. refl; python = λ t. refl; fakeroot = λ t. refl }

pub exports-is : IsDirective (codes "EXPORT_FUNCTIONS")
exports-is = record { front = 69; rest = codes "XPORT_FUNCTIONS"; is = refl; named = refl; unblank = refl; no_hash = refl; one = refl; export = λ t. refl; unset = λ t. refl; python = λ t. refl; fakeroot = λ t. refl }

pub addtask-is : IsDirective (codes "addtask")
addtask-is = record { front = 97; rest = codes "ddtask"; is = refl; named = refl; unblank = refl; no_hash = refl; one = refl; export = λ t. refl; unset = λ t. refl; python = λ t. refl; fakeroot = λ t. refl }

pub deltask-is : IsDirective (codes "deltask")
deltask-is = record { front = 100; rest = codes "eltask"; is = refl; named = refl; unblank = refl; no_hash = refl; one = refl; export = λ t. refl; unset = λ t. refl; python = λ t. refl; fakeroot = λ t. refl }

include-fits : (c : ℕ) (cs : List ℕ) → is_blank c ≡ false → directive_forms_of (codes "include" ++ 32 ∷ c ∷ cs) ≡ Some (record { statement = Include (c ∷ cs); inner = 0 })
include-fits c cs k = rw k refl

require-fits : (c : ℕ) (cs : List ℕ) → is_blank c ≡ false → directive_forms_of (codes "require" ++ 32 ∷ c ∷ cs) ≡ Some (record { statement = Require (c ∷ cs); inner = 0 })
require-fits c cs k = rw k refl

inherit-fits : (c : ℕ) (cs : List ℕ) → is_blank c ≡ false → directive_forms_of (codes "inherit" ++ 32 ∷ c ∷ cs) ≡ Some (record { statement = Inherit (c ∷ cs); inner = 0 })
inherit-fits c cs k = rw k refl

pub include-followed : (text : List ℕ) → Follows (codes "include") text → IsLineOf (line_of_text (codes "include") text) (Include text)
include-followed text h = directive-line (codes "include") text (Include text) include-is h.one h.unassigned h.opens (ap (λ x. directive_forms_of (codes "include" ++ 32 ∷ x)) h.is ∙ (include-fits h.front h.rest h.unblank ∙ ap (λ x. Some (record { statement = Include x; inner = 0 })) (sym h.is))) h.holds refl

pub require-followed : (text : List ℕ) → Follows (codes "require") text → IsLineOf (line_of_text (codes "require") text) (Require text)
require-followed text h = directive-line (codes "require") text (Require text) require-is h.one h.unassigned h.opens (ap (λ x. directive_forms_of (codes "require" ++ 32 ∷ x)) h.is ∙ (require-fits h.front h.rest h.unblank ∙ ap (λ x. Some (record { statement = Require x; inner = 0 })) (sym h.is))) h.holds refl

pub inherit-followed : (text : List ℕ) → Follows (codes "inherit") text → IsLineOf (line_of_text (codes "inherit") text) (Inherit text)
inherit-followed text h = directive-line (codes "inherit") text (Inherit text) inherit-is h.one h.unassigned h.opens (ap (λ x. directive_forms_of (codes "inherit" ++ 32 ∷ x)) h.is ∙ (inherit-fits h.front h.rest h.unblank ∙ ap (λ x. Some (record { statement = Inherit x; inner = 0 })) (sym h.is))) h.holds refl
