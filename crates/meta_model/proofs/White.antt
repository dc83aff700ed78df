-- Where a text is cut at its first white space.
use Rattle.std.proofs.Common.{◌≡◌, refl, sym, ◌∙◌, ap, arith, ℕ, zero, suc, ◌+◌, ◌<◌, Bool, true, false, cond, not, List, [], ◌∷◌, ◌++◌, length, take, drop, get_or, filter, Some, None, position, if◌then◌else◌, map-id, inl, inr, ◌-◌, append_assoc, add-one}
use Rattle.std.proofs.Math.Seq.{drop-cons}
use Rattle.std.specs.List.{slice_split}
use Rattle.std.proofs.lemmas.List.Quantifiers.{position-Some}
use Rattle.std.proofs.lemmas.Bool.{cases_Bool}
use Rattle.meta_model.proofs.Unfound.{none_before}
use Rattle.meta_model.specs.Text.{is_white, is_in, is_empty, non_empty, words, woven, drop_words}

-- a text without words to be dropped

pub shape : (t : List ℕ) → (piece : List ℕ) × (pieces : List (List ℕ)) × (slice_split is_white t ≡ piece ∷ pieces)
shape [] = ([], [], refl)
shape (c ∷ t) = elim (cases_Bool (is_white c)) [
  | inl e ↦ ([], slice_split is_white t, rw e refl)
  | inr e ↦ let s = shape t in (c ∷ s.0, s.1, rw (e, s.2) refl)
]

woven_first : (c : ℕ) (piece : List ℕ) (pieces : List (List ℕ)) (separators : List ℕ) → woven ((c ∷ piece) ∷ pieces) separators ≡ c ∷ woven (piece ∷ pieces) separators
woven_first c piece pieces [] = refl
woven_first c piece pieces (d ∷ separators) = refl

woven_again : (t : List ℕ) → woven (slice_split is_white t) (filter is_white t) ≡ t
woven_again [] = refl
woven_again (c ∷ t) = elim (cases_Bool (is_white c)) [
  | inl e ↦ rw e (ap (λ l. c ∷ l) (woven_again t))
  | inr e ↦
      let s = shape t in
      rw (e, s.2) (woven_first c s.0 s.1 (filter is_white t) ∙ ap (λ l. c ∷ l) (ap (λ l. woven l (filter is_white t)) (sym s.2) ∙ woven_again t))
]

pub drop_none : (t : List ℕ) → drop_words t [] ≡ t
drop_none t = ap (λ l. woven l (filter is_white t)) (map-id (slice_split is_white t)) ∙ woven_again t

-- a text with white space

split_at : (bs : List ℕ) (i : ℕ) → i < length bs → is_white (get_or bs i 0) ≡ true → ((k : ℕ) → k < i → is_white (get_or bs k 0) ≡ false)
    → slice_split is_white bs ≡ take i bs ∷ slice_split is_white (drop (suc i) bs)
split_at [] i lt at before = absurd (omega arith)
split_at (b ∷ bs) zero lt at before = rw at refl
split_at (b ∷ bs) (suc i) lt at before = rw (before 0 (omega arith), split_at bs i (omega arith) at (λ k h. before (suc k) (omega arith))) refl

filter_at : (bs : List ℕ) (i : ℕ) → i < length bs → is_white (get_or bs i 0) ≡ true → ((k : ℕ) → k < i → is_white (get_or bs k 0) ≡ false)
    → filter is_white bs ≡ get_or bs i 0 ∷ filter is_white (drop (suc i) bs)
filter_at [] i lt at before = absurd (omega arith)
filter_at (b ∷ bs) zero lt at before = rw at refl
filter_at (b ∷ bs) (suc i) lt at before = rw (before 0 (omega arith)) (filter_at bs i (omega arith) at (λ k h. before (suc k) (omega arith)))

-- the piece before the first white space, and what follows it
pub drop_at : (bs : List ℕ) (i : ℕ) (dropped : List (List ℕ)) → position is_white bs ≡ Some i
    → drop_words bs dropped ≡ (if is_in (take i bs) dropped then [] else take i bs) ++ (get_or bs i 0 ∷ drop_words (drop (suc i) bs) dropped)
drop_at bs i dropped e =
    let h = position-Some is_white bs i 0 e in
    rw (split_at bs i h.0 h.1 h.2, filter_at bs i h.0 h.1 h.2) refl

pub words_at : (bs : List ℕ) (i : ℕ) → position is_white bs ≡ Some i → words bs ≡ non_empty (take i bs ∷ []) ++ words (drop (suc i) bs)
words_at bs i e =
    let h = position-Some is_white bs i 0 e in
    rw (split_at bs i h.0 h.1 h.2) (first (is_empty (take i bs)) (take i bs) (words (drop (suc i) bs)))
  where
    first : (b : Bool) (piece : List ℕ) (rest : List (List ℕ)) → cond (not b) (piece ∷ rest) rest ≡ cond (not b) (piece ∷ []) [] ++ rest
    first true piece rest = refl
    first false piece rest = refl

-- a text without white space

split_none : (bs : List ℕ) → ((k : ℕ) → k < length bs → is_white (get_or bs k 0) ≡ false) → slice_split is_white bs ≡ bs ∷ []
split_none [] h = refl
split_none (b ∷ bs) h = rw (h 0 (omega arith), split_none bs (λ k lt. h (suc k) (omega arith))) refl

filter_none : (bs : List ℕ) → ((k : ℕ) → k < length bs → is_white (get_or bs k 0) ≡ false) → filter is_white bs ≡ []
filter_none [] h = refl
filter_none (b ∷ bs) h = rw (h 0 (omega arith)) (filter_none bs (λ k lt. h (suc k) (omega arith)))

pub drop_last : (bs : List ℕ) (dropped : List (List ℕ)) → position is_white bs ≡ None → drop_words bs dropped ≡ (if is_in bs dropped then [] else bs)
drop_last bs dropped e = rw (split_none bs (none_before is_white bs 0 e), filter_none bs (none_before is_white bs 0 e)) refl

pub words_last : (bs : List ℕ) → position is_white bs ≡ None → words bs ≡ non_empty (bs ∷ [])
words_last bs e = rw (split_none bs (none_before is_white bs 0 e)) refl

-- the steps of the loops

one_sign : (bs : List ℕ) (i : ℕ) → i < length bs → take (i + 1 - i) (drop i bs) ≡ get_or bs i 0 ∷ []
one_sign bs i lt =
    let one : i + 1 - i ≡ 1 = omega arith in
    ap (λ n. take n (drop i bs)) one ∙ ap (take 1) (drop-cons bs i 0 lt)

-- one piece and the white space behind it are done
pub drop_step : (rest made keep made' sep made'' after : List ℕ) (dropped : List (List ℕ)) (i : ℕ) → Some i ≡ position is_white rest → i < length rest
    → keep ≡ (if is_in (take i rest) dropped then [] else take i rest) → made' ≡ made ++ keep → sep ≡ take (i + 1 - i) (drop i rest) → made'' ≡ made' ++ sep → after ≡ drop (i + 1) rest
    → made'' ++ drop_words after dropped ≡ made ++ drop_words rest dropped
drop_step rest made keep made' sep made'' after dropped i e lt k m s n a =
    ap (λ l. l ++ drop_words after dropped) (n ∙ ap (λ l. l ++ sep) m ∙ ap (λ l. (made ++ keep) ++ l) (s ∙ one_sign rest i lt))
    ∙ append_assoc (made ++ keep) (get_or rest i 0 ∷ []) (drop_words after dropped)
    ∙ append_assoc made keep (get_or rest i 0 ∷ drop_words after dropped)
    ∙ ap (λ l. made ++ (keep ++ (get_or rest i 0 ∷ drop_words l dropped))) (a ∙ ap (λ j. drop j rest) (add-one i))
    ∙ ap (λ l. made ++ (l ++ (get_or rest i 0 ∷ drop_words (drop (suc i) rest) dropped))) k
    ∙ ap (λ l. made ++ l) (sym (drop_at rest i dropped (sym e)))

-- one piece more
pub push_step : (rest piece after : List ℕ) (list list' : List (List ℕ)) (i : ℕ) → Some i ≡ position is_white rest → piece ≡ take i rest → list' ≡ list ++ non_empty (piece ∷ []) → after ≡ drop (i + 1) rest
    → list' ++ words after ≡ list ++ words rest
push_step rest piece after list list' i e p n a =
    ap (λ l. l ++ words after) (n ∙ ap (λ q. list ++ non_empty (q ∷ [])) p)
    ∙ append_assoc list (non_empty (take i rest ∷ [])) (words after)
    ∙ ap (λ q. list ++ (non_empty (take i rest ∷ []) ++ words q)) (a ∙ ap (λ j. drop j rest) (add-one i))
    ∙ ap (λ l. list ++ l) (sym (words_at rest i (sym e)))
