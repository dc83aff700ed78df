-- Names and operators on a line that is written.
use Rattle.std.proofs.Common.{◌≡◌, ℕ, Bool, true, false, not, ◌&&◌, ◌==◌, List, [], ◌∷◌, ◌++◌, length, take, drop, refl, sym, ap, ◌∙◌, Option, Some, None, is_some, find, codes, append_assoc, ◌⊎◌, inl, inr, ⊎_elim, eq-eqb}
use Rattle.std.specs.List.{list_all, list_any}
use Rattle.std.specs.Char.{is_ascii_alphanumeric}
use Rattle.std.proofs.lemmas.Bool.{and_parts, and_right, eqb-true, false≢true}
use Rattle.meta_model.specs.declared.entry.Op.{Op}
use Rattle.meta_model.specs.declared.statement.Statement.TheVariants.{Assign}
use Rattle.meta_model.specs.Text.{cuts, is_blank, is_white, is_empty, begins_with, skip_blanks, split_at_first, is_letter_digit_or}
use Rattle.meta_model.specs.Names.{is_name, is_flag}
use Rattle.meta_model.specs.Grammar.{Fit, ◌>>=◌, where_true, operator_here, operator, operation, behind_word, assignment, flag_of_name}
use Rattle.bb_parser.proofs.NameSearch.{name_char, wanted, found_behind, found_behind-goes, found_behind-here, found_behind-none, found_behind-start}
use Rattle.bb_parser.proofs.Tests.{not_false}

-- a character that no operator begins with, whatever follows
abbrev pub is_letter : ℕ → Bool
is_letter c = is_ascii_alphanumeric c

-- a character that fails a test isn't one that passes it
pub fails_not : (p : ℕ → Bool) (d c : ℕ) → p d ≡ false → p c ≡ true → (d == c) ≡ false
fails_not p d c h t = by_case (d == c) refl
  where
    by_case : (b : Bool) → (d == c) ≡ b → (d == c) ≡ false
    by_case true e = let k = ap p (eqb-true d c e) in absurd (false≢true (sym h ∙ (k ∙ t)))
    by_case false e = e

pub passes_not : (p : ℕ → Bool) (d c : ℕ) → p d ≡ false → p c ≡ true → (c == d) ≡ false
passes_not p d c h t = by_case (c == d) refl
  where
    by_case : (b : Bool) → (c == d) ≡ b → (c == d) ≡ false
    by_case true e = let k = ap p (eqb-true c d e) in absurd (false≢true (sym h ∙ (sym k ∙ t)))
    by_case false e = e

-- characters of names are none of these
pub char_not : (d c : ℕ) → name_char d ≡ false → name_char c ≡ true → (d == c) ≡ false
char_not d c h t = fails_not name_char d c h t

pub not_char : (d c : ℕ) → name_char d ≡ false → name_char c ≡ true → (c == d) ≡ false
not_char d c h t = passes_not name_char d c h t

letter_not : (d c : ℕ) → is_letter d ≡ false → is_letter c ≡ true → (d == c) ≡ false
letter_not d c h t = fails_not is_letter d c h t

letter_not' : (d c : ℕ) → is_letter d ≡ false → is_letter c ≡ true → (c == d) ≡ false
letter_not' d c h t = passes_not is_letter d c h t

pub char-unblank : (c : ℕ) → name_char c ≡ true → is_blank c ≡ false
char-unblank c t = rw (not_char 32 c refl t, not_char 9 c refl t) refl

pub char-unwhite : (c : ℕ) → name_char c ≡ true → is_white c ≡ false
char-unwhite c t = rw (not_char 32 c refl t, not_char 9 c refl t, not_char 10 c refl t, not_char 13 c refl t) refl

letter-unblank : (c : ℕ) → is_letter c ≡ true → is_blank c ≡ false
letter-unblank c t = rw (letter_not' 32 c refl t, letter_not' 9 c refl t) refl

pub skip-stays : (c : ℕ) (r : List ℕ) → is_blank c ≡ false → skip_blanks (c ∷ r) ≡ c ∷ r
skip-stays c r h = rw h refl

here-none : (c : ℕ) (r : List ℕ) → (63 == c) ≡ false → (61 == c) ≡ false → ((58 == c) && begins_with (codes "=") r) ≡ false → ((43 == c) && begins_with (codes "=") r) ≡ false → ((46 == c) && begins_with (codes "=") r) ≡ false
    → operator_here (c ∷ r) ≡ None
here-none c r q e h1 h2 h3 = rw (q, e, h1, h2, h3) refl

-- no operator stands at a character of a name, unless `=` follows
pub no_operator : (c : ℕ) (r : List ℕ) → name_char c ≡ true → begins_with (codes "=") r ≡ false → operator (c ∷ r) ≡ None
unfolding operator
no_operator c r t h = ap operator_here (skip-stays c r (char-unblank c t)) ∙ here-none c r (char_not 63 c refl t) (char_not 61 c refl t)
    (and_right (58 == c) (begins_with (codes "=") r) h) (and_right (43 == c) (begins_with (codes "=") r) h) (and_right (46 == c) (begins_with (codes "=") r) h)

pub no_operator-letter : (c : ℕ) (r : List ℕ) → is_letter c ≡ true → operator (c ∷ r) ≡ None
unfolding operator
no_operator-letter c r t = ap operator_here (skip-stays c r (letter-unblank c t)) ∙ here-none c r (letter_not 63 c refl t) (letter_not 61 c refl t)
    (rw (letter_not 58 c refl t) refl) (rw (letter_not 43 c refl t) refl) (rw (letter_not 46 c refl t) refl)

-- behind a blank
pub operator-blank : (r : List ℕ) → operator (32 ∷ r) ≡ operator r
unfolding operator
operator-blank r = refl

is_name-front : (front : List ℕ) (c : ℕ) → list_all name_char (front ++ c ∷ []) ≡ true → is_name (front ++ c ∷ []) ≡ true
is_name-front [] c h = rw h refl
is_name-front (d ∷ front) c h = h

-- no operator stands between the characters of a name, where ok says of each that none stands there
pub found-name : (ok : ℕ → Bool) (front : List ℕ) (c : ℕ) (cs r : List ℕ) → ((d : ℕ) (t : List ℕ) → ok d ≡ true → begins_with (codes "=") t ≡ begins_with (codes "=") r ⊎ begins_with (codes "=") t ≡ false → operator (d ∷ t) ≡ None)
    → list_all name_char (front ++ c ∷ cs) ≡ true → list_all ok cs ≡ true → list_all name_char cs ≡ true → is_some (operator r) ≡ true → found_behind front (c ∷ cs ++ r) ≡ Some (front ++ c ∷ cs, r)
found-name ok front c [] r f h k n o = found_behind-here front c r (rw (is_name-front front c h) o)
found-name ok front c (d ∷ ds) r f h k n o =
    let a = and_parts (ok d) (list_all ok ds) k in
    let b = and_parts (name_char d) (list_all name_char ds) n in
    let e : front ++ c ∷ d ∷ ds ≡ (front ++ c ∷ []) ++ d ∷ ds = sym (append_assoc front (c ∷ []) (d ∷ ds)) in
    found_behind-goes front c (d ∷ ds ++ r) (ap is_some (f d (ds ++ r) a.0 (next ds b.1)))
    ∙ (found-name ok (front ++ c ∷ []) d ds r f (rw e at h) a.1 b.1 o ∙ ap (λ x. Some (x, r)) (sym e))
  where
    next : (ds : List ℕ) → list_all name_char ds ≡ true → begins_with (codes "=") (ds ++ r) ≡ begins_with (codes "=") r ⊎ begins_with (codes "=") (ds ++ r) ≡ false
    next [] n = inl refl
    next (x ∷ xs) n = inr (rw (char_not 61 x refl (and_parts (name_char x) (list_all name_char xs) n).0) refl)

-- the name in front of an operator, where a blank or the like stands between
pub found-blank : (c : ℕ) (cs r : List ℕ) → is_name (c ∷ cs) ≡ true → begins_with (codes "=") r ≡ false → is_some (operator r) ≡ true → find wanted (cuts (c ∷ cs ++ r)) ≡ Some (c ∷ cs, r)
found-blank c cs r n h o = found_behind-start (c ∷ cs ++ r) ∙ found-name name_char [] c cs r
    (λ d t k e. no_operator d t k (⊎_elim (λ a. a ∙ h) (λ a. a) e)) n (and_parts (name_char c) (list_all name_char cs) n).1 (and_parts (name_char c) (list_all name_char cs) n).1 o

-- ... where the name has letters alone
pub found-letters : (c : ℕ) (cs r : List ℕ) → is_name (c ∷ cs) ≡ true → list_all is_letter cs ≡ true → is_some (operator r) ≡ true → find wanted (cuts (c ∷ cs ++ r)) ≡ Some (c ∷ cs, r)
found-letters c cs r n k o = found_behind-start (c ∷ cs ++ r) ∙ found-name is_letter [] c cs r
    (λ d t k e. no_operator-letter d t k) n k (and_parts (name_char c) (list_all name_char cs) n).1 o

abbrev pub assigned : Bool → Option (List ℕ × List ℕ) → Option Fit
assigned export found = do
  c ← found
  o ← operation c.1
  Some (record { statement = Assign export c.0 o.0 o.1.text; inner = o.1.inner })

-- NAME OP QUOTED
pub assignment-is : (export : Bool) (s name r text : List ℕ) (op : Op) (n : ℕ) → find wanted (cuts s) ≡ Some (name, r) → operation r ≡ Some (op, record { text = text; inner = n })
    → assignment export s ≡ Some (record { statement = Assign export name op text; inner = n })
assignment-is export s name r text op n f o = ap (assigned export) f ∙ rw o refl

-- what follows a character of a name doesn't begin with `=`
pub follows : (ds r : List ℕ) → list_all name_char ds ≡ true → begins_with (codes "=") r ≡ false → begins_with (codes "=") (ds ++ r) ≡ false
follows [] r n h = h
follows (x ∷ xs) r n h = rw (char_not 61 x refl (and_parts (name_char x) (list_all name_char xs) n).0) refl

-- no name, where no operator follows the word
passed : (front : List ℕ) (c : ℕ) (cs r : List ℕ) → list_all name_char cs ≡ true → begins_with (codes "=") r ≡ false → is_some (operator r) ≡ false → ((f : List ℕ) → found_behind f r ≡ None) → found_behind front (c ∷ cs ++ r) ≡ None
passed front c [] r n h o g = found_behind-goes front c r o ∙ g (front ++ c ∷ [])
passed front c (d ∷ ds) r n h o g = let b = and_parts (name_char d) (list_all name_char ds) n in
    found_behind-goes front c (d ∷ ds ++ r) (ap is_some (no_operator d (ds ++ r) b.0 (follows ds r b.1 h))) ∙ passed (front ++ c ∷ []) d ds r b.1 h o g

pub none_found : (w : ℕ) (ws : List ℕ) (e : ℕ) (t : List ℕ) → is_name (w ∷ ws) ≡ true → name_char e ≡ false → (61 == e) ≡ false → is_some (operator (e ∷ t)) ≡ false → find wanted (cuts (w ∷ ws ++ e ∷ t)) ≡ None
none_found w ws e t n k h o = found_behind-start (w ∷ ws ++ e ∷ t) ∙ passed [] w ws (e ∷ t) (and_parts (name_char w) (list_all name_char ws) n).1 (rw h refl) o (λ f. found_behind-none f e t k)

pub none_alone : (w : ℕ) (ws : List ℕ) → is_name (w ∷ ws) ≡ true → find wanted (cuts (w ∷ ws ++ [])) ≡ None
unfolding operator
none_alone w ws n = found_behind-start (w ∷ ws ++ []) ∙ passed [] w ws [] (and_parts (name_char w) (list_all name_char ws) n).1 refl refl (λ f. refl)

pub not_assigned : (export : Bool) (s : List ℕ) → find wanted (cuts s) ≡ None → assignment export s ≡ None
not_assigned export s f = ap (assigned export) f

pub no_operation : (t : List ℕ) → operator t ≡ None → operation t ≡ None
no_operation t e = rw e refl

pub operation-blank : (t : List ℕ) → operation (32 ∷ t) ≡ operation t
unfolding operator
operation-blank t = refl

-- no assignment, where no operator and quoted text follows the word
pub no_assignment : (export : Bool) (w : ℕ) (ws t : List ℕ) → is_name (w ∷ ws) ≡ true → operation t ≡ None → assignment export (w ∷ ws ++ 32 ∷ t) ≡ None
no_assignment export w ws t n o = by_case (is_some (operator t)) refl
  where
    by_case : (b : Bool) → is_some (operator t) ≡ b → assignment export (w ∷ ws ++ 32 ∷ t) ≡ None
    by_case true e = ap (assigned export) (found-blank w ws (32 ∷ t) n refl (ap is_some (operator-blank t) ∙ e)) ∙ rw (operation-blank t, o) refl
    by_case false e = not_assigned export (w ∷ ws ++ 32 ∷ t) (none_found w ws 32 t n refl refl (ap is_some (operator-blank t) ∙ e))

-- a blank that stands in front of the first bracket makes no flag of a name
blank_split : (word t : List ℕ) → list_all name_char word ≡ true
    → (split_at_first 91 (word ++ 32 ∷ t) ≡ None) ⊎ ((a : List ℕ) × (b : List ℕ) × (split_at_first 91 (word ++ 32 ∷ t) ≡ Some (a, b)) × (list_all name_char a ≡ false))
blank_split [] t n = by_case (split_at_first 91 t) refl
  where
    by_case : (o : Option (List ℕ × List ℕ)) → split_at_first 91 t ≡ o → (split_at_first 91 (32 ∷ t) ≡ None) ⊎ ((a : List ℕ) × (b : List ℕ) × (split_at_first 91 (32 ∷ t) ≡ Some (a, b)) × (list_all name_char a ≡ false))
    by_case None e = inl (rw e refl)
    by_case (Some p) e = inr (32 ∷ p.0, p.1, rw e refl, refl)
blank_split (w ∷ ws) t n = let b = and_parts (name_char w) (list_all name_char ws) n in elim (blank_split ws t b.1) [
  | inl e ↦ inl (rw (not_char 91 w refl b.0, e) refl)
  | inr h ↦ inr (w ∷ h.0, h.1, rw (not_char 91 w refl b.0, h.2) refl, and_right (name_char w) (list_all name_char h.0) h.3)
]

flag_part : List ℕ → Option (List ℕ × List ℕ) → Option (List ℕ × List ℕ × List ℕ)
flag_part a o = o >>= λ f. where_true (is_name a && is_flag f.0) (a, f.0, f.1)

refused_part : (a : List ℕ) (o : Option (List ℕ × List ℕ)) → is_name a ≡ false → flag_part a o ≡ None
unfolding flag_part
refused_part a None e = refl
refused_part a (Some f) e = rw e refl

pub no_flag : (word t : List ℕ) → list_all name_char word ≡ true → flag_of_name (word ++ 32 ∷ t) ≡ None
unfolding flag_part
no_flag word t n = elim (blank_split word t n) [
  | inl e ↦ rw e refl
  | inr h ↦ rw h.2 (refused_part h.0 (split_at_first 93 h.1) (and_right (not (is_empty h.0)) (list_all name_char h.0) h.3))
]

-- a bracket in front of the first blank is no word with a blank behind it
pub no_word : (word name r : List ℕ) → list_all name_char word ≡ true → list_all name_char name ≡ true → (begins_with word (name ++ 91 ∷ r) && list_any is_blank (take 1 (drop (length word) (name ++ 91 ∷ r)))) ≡ false
no_word [] [] r k n = refl
no_word [] (c ∷ cs) r k n = rw (char-unblank c (and_parts (name_char c) (list_all name_char cs) n).0) refl
no_word (w ∷ ws) [] r k n = rw (not_char 91 w refl (and_parts (name_char w) (list_all name_char ws) k).0) refl
no_word (w ∷ ws) (c ∷ cs) r k n = by_case (w == c) (no_word ws cs r (and_parts (name_char w) (list_all name_char ws) k).1 (and_parts (name_char c) (list_all name_char cs) n).1)
  where
    by_case : (b : Bool) → (begins_with ws (cs ++ 91 ∷ r) && list_any is_blank (take 1 (drop (length ws) (cs ++ 91 ∷ r)))) ≡ false → ((b && begins_with ws (cs ++ 91 ∷ r)) && list_any is_blank (take 1 (drop (length ws) (cs ++ 91 ∷ r)))) ≡ false
    by_case true h = h
    by_case false h = refl

pub not_behind : (word name r : List ℕ) → list_all name_char word ≡ true → list_all name_char name ≡ true → behind_word word (name ++ 91 ∷ r) ≡ None
not_behind word name r k n = rw (no_word word name r k n) refl

-- NAME[FLAG]
pub bracket_split : (e : ℕ) (name r : List ℕ) → list_all (λ c. not (c == e)) name ≡ true → split_at_first e (name ++ e ∷ r) ≡ Some (name, r)
bracket_split e [] r n = rw (eq-eqb e e refl) refl
bracket_split e (c ∷ cs) r n = let b = and_parts (not (c == e)) (list_all (λ c. not (c == e)) cs) n in rw (not_false (c == e) b.0, bracket_split e cs r b.1) refl

pub without : (e : ℕ) (p : ℕ → Bool) (xs : List ℕ) → ((c : ℕ) → p c ≡ true → (c == e) ≡ false) → list_all p xs ≡ true → list_all (λ c. not (c == e)) xs ≡ true
without e p [] f h = refl
without e p (x ∷ xs) f h = let b = and_parts (p x) (list_all p xs) h in rw (f x b.0, without e p xs f b.1) refl

pub name_without : (e : ℕ) (name : List ℕ) → name_char e ≡ false → list_all name_char name ≡ true → list_all (λ c. not (c == e)) name ≡ true
name_without e name k h = without e name_char name (λ c t. not_char e c k t) h

abbrev pub flag_char : ℕ → Bool
flag_char c = is_letter_digit_or (codes "-_+.@") c

pub flag_without : (e : ℕ) (f : List ℕ) → is_letter_digit_or (codes "-_+.@") e ≡ false → is_flag f ≡ true → list_all (λ c. not (c == e)) f ≡ true
flag_without e f k h = let a = and_parts (not (is_empty f) && list_all flag_char f) (not (begins_with (codes "@") f)) h in
    without e flag_char f (λ c t. passes_not flag_char e c k t) (and_parts (not (is_empty f)) (list_all flag_char f) a.0).1

pub flag-is : (name f r : List ℕ) → is_name name ≡ true → is_flag f ≡ true → flag_of_name (name ++ 91 ∷ (f ++ 93 ∷ r)) ≡ Some (name, f, r)
flag-is name f r n k = let a = and_parts (not (is_empty name)) (list_all name_char name) n in
    rw (bracket_split 91 name (f ++ 93 ∷ r) (name_without 91 name refl a.1), bracket_split 93 f r (flag_without 93 f refl k), n, k) refl
