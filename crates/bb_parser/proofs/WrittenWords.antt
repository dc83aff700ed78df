-- Words on a line that is written, and its first word.
use Rattle.std.proofs.Common.{◌≡◌, ℕ, zero, suc, ◌-◌, Bool, true, false, cond, not, ◌&&◌, ◌||◌, ◌==◌, List, [], ◌∷◌, ◌++◌, length, take, is_some, refl, sym, ap, ◌∙◌, Option, None, codes, nat_eq, bytes_eq, one-add}
use Rattle.std.specs.List.{list_all, list_any, before_first, slice_split, ends_with}
use Rattle.std.proofs.lemmas.Bool.{and_parts, and_right, false≢true}
use Rattle.std.proofs.lemmas.Slice.Eq.{bytes_eq-Decides}
use Rattle.std.proofs.lemmas.List.Folds.{list_all-append}
use Rattle.meta_model.specs.Text.{is_blank, is_white, is_in, words, without_end, end_kept, without_last, equals, is_quote}
use Rattle.meta_model.specs.Lines.{opens_body, without_opening}
use Rattle.meta_model.specs.Statements.{first_word, first_or_empty, is_python_word, is_fakeroot}
use Rattle.bb_parser.specs.Written.{is_word}
use Rattle.bb_parser.proofs.Cuts.{ends-is}
use Rattle.bb_parser.proofs.WrittenLines.{drop-push}
use Rattle.bb_parser.proofs.Tests.{not_false}

abbrev pub unwhite : ℕ → Bool
unwhite c = not (is_white c)

-- nothing, or white space at the front
abbrev pub begins_white : List ℕ → Bool
begins_white [] = true
begins_white (c ∷ cs) = is_white c

split-end : (w : List ℕ) → list_all unwhite w ≡ true → slice_split is_white (w ++ []) ≡ w ∷ []
split-end [] h = refl
split-end (c ∷ cs) h = let b = and_parts (unwhite c) (list_all unwhite cs) h in rw (not_false (is_white c) b.0, split-end cs b.1) refl

split-white : (w : List ℕ) (c : ℕ) (v : List ℕ) → is_white c ≡ true → list_all unwhite w ≡ true → slice_split is_white (w ++ c ∷ v) ≡ w ∷ slice_split is_white v
split-white [] c v e h = rw e refl
split-white (d ∷ w) c v e h = let b = and_parts (unwhite d) (list_all unwhite w) h in rw (not_false (is_white d) b.0, split-white w c v e b.1) refl

-- a word in front
pub word-front : (w v : List ℕ) → is_word w ≡ true → begins_white v ≡ true → words (w ++ v) ≡ w ∷ words v
word-front [] v h e = cc
word-front (d ∷ ds) [] h e = rw (split-end (d ∷ ds) h) refl
word-front (d ∷ ds) (c ∷ v) h e = rw (split-white (d ∷ ds) c v e h, e) refl

pub first_word-front : (w v : List ℕ) → is_word w ≡ true → begins_white v ≡ true → first_word (w ++ v) ≡ w
first_word-front w v h e = ap first_or_empty (word-front w v h e)

-- what stands before a character that doesn't stand in the list
pub front-all : (d : ℕ) (xs : List ℕ) → list_all (λ c. not (c == d)) xs ≡ true → before_first (λ c. c == d) xs ≡ xs
front-all d [] h = refl
front-all d (x ∷ xs) h = let b = and_parts (not (x == d)) (list_all (λ c. not (c == d)) xs) h in rw (not_false (x == d) b.0, one-add) (ap (λ l. x ∷ l) (front-all d xs b.1))

pub front-some : (d : ℕ) (xs r : List ℕ) → (d == d) ≡ true → list_all (λ c. not (c == d)) xs ≡ true → before_first (λ c. c == d) (xs ++ d ∷ r) ≡ xs
front-some d [] r e h = rw e refl
front-some d (x ∷ xs) r e h = let b = and_parts (not (x == d)) (list_all (λ c. not (c == d)) xs) h in rw (not_false (x == d) b.0, one-add) (ap (λ l. x ∷ l) (front-some d xs r e b.1))

-- a text with a character that another one hasn't is another
pub not_word : (d : ℕ) (w t : List ℕ) → list_any (λ c. c == d) w ≡ true → list_any (λ c. c == d) t ≡ false → bytes_eq w t ≡ false
not_word d w t h k = by_case (bytes_eq w t) refl
  where
    by_case : (b : Bool) → bytes_eq w t ≡ b → bytes_eq w t ≡ false
    by_case true e = absurd (false≢true (sym k ∙ (ap (list_any (λ c. c == d)) (sym ((bytes_eq-Decides w t).0 e)) ∙ h)))
    by_case false e = e

-- the first word isn't one of those that are refused, where it has a character that they haven't
pub not_python : (d : ℕ) (line w : List ℕ) → first_word line ≡ w → list_all (λ c. not (c == 40)) w ≡ true → list_any (λ c. c == d) w ≡ true
    → list_any (λ c. c == d) (codes "python") ≡ false → list_any (λ c. c == d) (codes "def") ≡ false → list_any (λ c. c == d) (codes "addhandler") ≡ false → is_python_word line ≡ false
not_python d line w f h k a b c = ap (λ x. is_in (before_first (λ y. y == 40) x) (codes "python" ∷ codes "def" ∷ codes "addhandler" ∷ [])) f
    ∙ (ap (λ x. is_in x (codes "python" ∷ codes "def" ∷ codes "addhandler" ∷ [])) (front-all 40 w h)
    ∙ rw (not_word d w (codes "python") k a, not_word d w (codes "def") k b, not_word d w (codes "addhandler") k c) refl)

pub not_fakeroot : (d : ℕ) (line w : List ℕ) → first_word line ≡ w → list_any (λ c. c == d) w ≡ true → list_any (λ c. c == d) (codes "fakeroot") ≡ false → is_fakeroot line ≡ false
not_fakeroot d line w f k a = ap (λ x. bytes_eq x (codes "fakeroot")) f ∙ not_word d w (codes "fakeroot") k a

-- what all characters of a line are
pub all-take : (q : ℕ → Bool) (n : ℕ) (xs : List ℕ) → list_all q xs ≡ true → list_all q (take n xs) ≡ true
all-take q zero xs h = refl
all-take q (suc n) [] h = refl
all-take q (suc n) (x ∷ xs) h = let b = and_parts (q x) (list_all q xs) h in rw (b.0, all-take q n xs b.1) refl

all-kept : (q p : ℕ → Bool) (x : ℕ) (ys : List ℕ) → q x ≡ true → list_all q ys ≡ true → list_all q (end_kept p x ys) ≡ true
all-kept q p x [] h k = by_case (p x)
  where
    by_case : (b : Bool) → list_all q (cond b [] (x ∷ [])) ≡ true
    by_case true = refl
    by_case false = rw h refl
all-kept q p x (y ∷ ys) h k = rw h k

pub all-without_end : (q p : ℕ → Bool) (xs : List ℕ) → list_all q xs ≡ true → list_all q (without_end p xs) ≡ true
all-without_end q p [] h = refl
all-without_end q p (x ∷ xs) h = let b = and_parts (q x) (list_all q xs) h in all-kept q p x (without_end p xs) b.0 (all-without_end q p xs b.1)

no_ends : (head : List ℕ) → list_all (λ c. not (c == 40)) head ≡ true → ends_with nat_eq head (codes "()") ≡ false
no_ends head h = by_case (ends_with nat_eq head (codes "()")) refl
  where
    by_case : (b : Bool) → ends_with nat_eq head (codes "()") ≡ b → ends_with nat_eq head (codes "()") ≡ false
    by_case true e = let k = ap (list_all (λ c. not (c == 40))) (ends-is head (codes "()") e) in
        absurd (false≢true (sym (and_right (list_all (λ c. not (c == 40)) (take (length head - 2) head)) false refl) ∙ (sym (list_all-append (λ c. not (c == 40)) (take (length head - 2) head) (codes "()")) ∙ (sym k ∙ h))))
    by_case false e = e

none_opens : (b : Bool) (o : Option (List ℕ)) → o ≡ None → (b && is_some o) ≡ false
none_opens b o e = rw e (and_right b false refl)

-- a line without `(` opens no body
pub no_paren : (line : List ℕ) → list_all (λ c. not (c == 40)) line ≡ true → opens_body line ≡ false
no_paren line h = none_opens (not (list_any (λ c. c == equals || is_quote c) line)) (without_opening line)
    (rw (no_ends (without_end is_blank (without_last line)) (all-without_end (λ c. not (c == 40)) is_blank (without_last line) (all-take (λ c. not (c == 40)) (length line - 1) line h)), and_right (ends_with nat_eq line (codes "{")) false refl) refl)

-- nor does a line with a quote
signed : (a b c x : Bool) → (not (a || (b || true || c)) && x) ≡ false
signed true b c x = refl
signed false true c x = refl
signed false false c x = refl

-- nor one that ends in a blank
pub blank_opens_none : (line : List ℕ) → opens_body (line ++ 32 ∷ []) ≡ false
blank_opens_none line = none_opens (not (list_any (λ c. c == equals || is_quote c) (line ++ 32 ∷ []))) (without_opening (line ++ 32 ∷ [])) (rw (drop-push line 32) refl)
