-- The pieces at the front of a version.
use Rattle.std.proofs.Common.{◌≡◌, ◌⊎◌, inl, inr, refl, sym, ◌∙◌, ap, subst, arith, ℕ, suc, ◌≤◌, length, List, [], ◌∷◌, ◌++◌, map, take, drop, Bool, true, false, true≢false, eq-eqb, eqb-true, ne_eqb, ◌==◌}
use Rattle.std.proofs.Math.Numerals.{one-add}
use Rattle.std.specs.List.{list_all, prefix_len}
use Rattle.std.specs.Char.{is_ascii_digit, is_ascii_alphabetic}
use Rattle.std.specs.Ordering.{nat_cmp, ordering_then, is_eq}
use Rattle.std.specs.Cmp.{unsigned_tied}
use Rattle.std.proofs.lemmas.List.Sums.{prefix_len-le-length}
use Rattle.std.specs.Cmp.Lexicographic.{slice_cmp}
use Rattle.std.specs.declared.cmp.Ordering.{Ordering}
use Rattle.std.specs.declared.cmp.Ordering.TheVariants.{Less, Equal, Greater}
use Rattle.load_model.specs.Versions.{Piece, tilde, digits, letters, other, digit_before, letter_before, put_before, pieces_of, number_of, weight, weights_of, end_weight}
use Rattle.recipe_set.specs.declared.versions.Kind.{Kind}
use Rattle.recipe_set.specs.declared.versions.Kind.TheVariants.{Tilde, End, Digit, Letter, Other}
use Rattle.recipe_set.specs.Kinds.{kind_of_byte, kind_of, rank_of, is_of_kind, piece_length, piece_weight}

either_way : (b : Bool) → (b ≡ true) ⊎ (b ≡ false)
either_way true = inl refl
either_way false = inr refl

-- what a byte is
data Kinded (c : ℕ) : Type 0 where
  a_digit : is_ascii_digit c ≡ true → Kinded c
  a_letter : is_ascii_digit c ≡ false → is_ascii_alphabetic c ≡ true → Kinded c
  a_tilde : is_ascii_digit c ≡ false → is_ascii_alphabetic c ≡ false → (c == 126) ≡ true → Kinded c
  another : is_ascii_digit c ≡ false → is_ascii_alphabetic c ≡ false → (c == 126) ≡ false → Kinded c

by_tests : (c : ℕ) → (is_ascii_digit c ≡ true) ⊎ (is_ascii_digit c ≡ false) → (is_ascii_alphabetic c ≡ true) ⊎ (is_ascii_alphabetic c ≡ false) → ((c == 126) ≡ true) ⊎ ((c == 126) ≡ false) → Kinded c
by_tests c (inl h) i j = a_digit h
by_tests c (inr h) (inl i) j = a_letter h i
by_tests c (inr h) (inr i) (inl j) = a_tilde h i j
by_tests c (inr h) (inr i) (inr j) = another h i j

kinded : (c : ℕ) → Kinded c
kinded c = by_tests c (either_way (is_ascii_digit c)) (either_way (is_ascii_alphabetic c)) (either_way (c == 126))

-- the kind of each

kind_digit : (c : ℕ) → is_ascii_digit c ≡ true → kind_of_byte c ≡ Digit
kind_digit c h = rw h refl

kind_letter : (c : ℕ) → is_ascii_digit c ≡ false → is_ascii_alphabetic c ≡ true → kind_of_byte c ≡ Letter
kind_letter c h i = rw (h, i) refl

kind_tilde : (c : ℕ) → is_ascii_digit c ≡ false → is_ascii_alphabetic c ≡ false → (c == 126) ≡ true → kind_of_byte c ≡ Tilde
kind_tilde c h i j = rw (h, i, j) refl

kind_other : (c : ℕ) → is_ascii_digit c ≡ false → is_ascii_alphabetic c ≡ false → (c == 126) ≡ false → kind_of_byte c ≡ Other
kind_other c h i j = rw (h, i, j) refl

-- what it makes of the pieces behind it

put_digit : (c : ℕ) (ps : List Piece) → is_ascii_digit c ≡ true → put_before c ps ≡ digit_before c ps
put_digit c ps h = rw h refl

put_letter : (c : ℕ) (ps : List Piece) → is_ascii_digit c ≡ false → is_ascii_alphabetic c ≡ true → put_before c ps ≡ letter_before c ps
put_letter c ps h i = rw (h, i) refl

put_tilde : (c : ℕ) (ps : List Piece) → is_ascii_digit c ≡ false → is_ascii_alphabetic c ≡ false → (c == 126) ≡ true → put_before c ps ≡ tilde ∷ ps
put_tilde c ps h i j = rw (h, i, j) refl

put_other : (c : ℕ) (ps : List Piece) → is_ascii_digit c ≡ false → is_ascii_alphabetic c ≡ false → (c == 126) ≡ false → put_before c ps ≡ other c ∷ ps
put_other c ps h i j = rw (h, i, j) refl

-- a digit before another kind begins a run of its own

digit_then_letter : (c d : ℕ) (ps : List Piece) → digit_before c (letter_before d ps) ≡ digits (c ∷ []) ∷ letter_before d ps
digit_then_letter c d [] = refl
digit_then_letter c d (tilde ∷ ps) = refl
digit_then_letter c d (digits run ∷ ps) = refl
digit_then_letter c d (letters run ∷ ps) = refl
digit_then_letter c d (other e ∷ ps) = refl

letter_then_digit : (c d : ℕ) (ps : List Piece) → letter_before c (digit_before d ps) ≡ letters (c ∷ []) ∷ digit_before d ps
letter_then_digit c d [] = refl
letter_then_digit c d (tilde ∷ ps) = refl
letter_then_digit c d (digits run ∷ ps) = refl
letter_then_digit c d (letters run ∷ ps) = refl
letter_then_digit c d (other e ∷ ps) = refl

digit_then : (c d : ℕ) (ps : List Piece) → Kinded d → (kind_of_byte d ≡ Digit → ⊥) → digit_before c (put_before d ps) ≡ digits (c ∷ []) ∷ put_before d ps
digit_then c d ps (a_digit h) n = absurd (n (kind_digit d h))
digit_then c d ps (a_letter h i) n = subst (λ qs. digit_before c qs ≡ digits (c ∷ []) ∷ qs) (sym (put_letter d ps h i)) (digit_then_letter c d ps)
digit_then c d ps (a_tilde h i j) n = subst (λ qs. digit_before c qs ≡ digits (c ∷ []) ∷ qs) (sym (put_tilde d ps h i j)) refl
digit_then c d ps (another h i j) n = subst (λ qs. digit_before c qs ≡ digits (c ∷ []) ∷ qs) (sym (put_other d ps h i j)) refl

letter_then : (c d : ℕ) (ps : List Piece) → Kinded d → (kind_of_byte d ≡ Letter → ⊥) → letter_before c (put_before d ps) ≡ letters (c ∷ []) ∷ put_before d ps
letter_then c d ps (a_digit h) n = subst (λ qs. letter_before c qs ≡ letters (c ∷ []) ∷ qs) (sym (put_digit d ps h)) (letter_then_digit c d ps)
letter_then c d ps (a_letter h i) n = absurd (n (kind_letter d h i))
letter_then c d ps (a_tilde h i j) n = subst (λ qs. letter_before c qs ≡ letters (c ∷ []) ∷ qs) (sym (put_tilde d ps h i j)) refl
letter_then c d ps (another h i j) n = subst (λ qs. letter_before c qs ≡ letters (c ∷ []) ∷ qs) (sym (put_other d ps h i j)) refl

-- whether a byte is of a kind

same_rank : (k : Kind) → (rank_of k == rank_of k) ≡ true
same_rank Tilde = refl
same_rank End = refl
same_rank Digit = refl
same_rank Letter = refl
same_rank Other = refl

of_kind : (k : Kind) (d : ℕ) → kind_of_byte d ≡ k → is_of_kind k d ≡ true
of_kind k d h = subst (λ j. (rank_of j == rank_of k) ≡ true) (sym h) (same_rank k)

pub rank_decides : (j k : Kind) → (rank_of j == rank_of k) ≡ true → j ≡ k
rank_decides Tilde Tilde h = refl
rank_decides Tilde End h = absurd (true≢false (sym h))
rank_decides Tilde Digit h = absurd (true≢false (sym h))
rank_decides Tilde Letter h = absurd (true≢false (sym h))
rank_decides Tilde Other h = absurd (true≢false (sym h))
rank_decides End Tilde h = absurd (true≢false (sym h))
rank_decides End End h = refl
rank_decides End Digit h = absurd (true≢false (sym h))
rank_decides End Letter h = absurd (true≢false (sym h))
rank_decides End Other h = absurd (true≢false (sym h))
rank_decides Digit Tilde h = absurd (true≢false (sym h))
rank_decides Digit End h = absurd (true≢false (sym h))
rank_decides Digit Digit h = refl
rank_decides Digit Letter h = absurd (true≢false (sym h))
rank_decides Digit Other h = absurd (true≢false (sym h))
rank_decides Letter Tilde h = absurd (true≢false (sym h))
rank_decides Letter End h = absurd (true≢false (sym h))
rank_decides Letter Digit h = absurd (true≢false (sym h))
rank_decides Letter Letter h = refl
rank_decides Letter Other h = absurd (true≢false (sym h))
rank_decides Other Tilde h = absurd (true≢false (sym h))
rank_decides Other End h = absurd (true≢false (sym h))
rank_decides Other Digit h = absurd (true≢false (sym h))
rank_decides Other Letter h = absurd (true≢false (sym h))
rank_decides Other Other h = refl

not_of_kind : (k : Kind) (d : ℕ) → is_of_kind k d ≡ false → kind_of_byte d ≡ k → ⊥
not_of_kind k d h e = true≢false (sym (of_kind k d e) ∙ h)

digit_by : (d : ℕ) → Kinded d → kind_of_byte d ≡ Digit → is_ascii_digit d ≡ true
digit_by d (a_digit h) e = h
digit_by d (a_letter h i) e = absurd (true≢false (sym (ap (λ k. rank_of k == 2) (sym (kind_letter d h i) ∙ e))))
digit_by d (a_tilde h i j) e = absurd (true≢false (sym (ap (λ k. rank_of k == 2) (sym (kind_tilde d h i j) ∙ e))))
digit_by d (another h i j) e = absurd (true≢false (sym (ap (λ k. rank_of k == 2) (sym (kind_other d h i j) ∙ e))))

digit_from : (d : ℕ) → is_of_kind Digit d ≡ true → is_ascii_digit d ≡ true
digit_from d t = digit_by d (kinded d) (rank_decides (kind_of_byte d) Digit t)

letter_by : (d : ℕ) → Kinded d → kind_of_byte d ≡ Letter → (is_ascii_digit d ≡ false) × (is_ascii_alphabetic d ≡ true)
letter_by d (a_digit h) e = absurd (true≢false (sym (ap (λ k. rank_of k == 3) (sym (kind_digit d h) ∙ e))))
letter_by d (a_letter h i) e = (h, i)
letter_by d (a_tilde h i j) e = absurd (true≢false (sym (ap (λ k. rank_of k == 3) (sym (kind_tilde d h i j) ∙ e))))
letter_by d (another h i j) e = absurd (true≢false (sym (ap (λ k. rank_of k == 3) (sym (kind_other d h i j) ∙ e))))

letter_from : (d : ℕ) → is_of_kind Letter d ≡ true → (is_ascii_digit d ≡ false) × (is_ascii_alphabetic d ≡ true)
letter_from d t = letter_by d (kinded d) (rank_decides (kind_of_byte d) Letter t)

-- a run of digits at the front

abbrev run : Kind → List ℕ → ℕ
run k text = prefix_len (is_of_kind k) text

-- the pieces of a text that begins with a run of digits, or of letters
abbrev pub DigitsFirst : ℕ → List ℕ → Type 0
DigitsFirst c rest = pieces_of (c ∷ rest) ≡ digits (c ∷ take (run Digit rest) rest) ∷ pieces_of (drop (run Digit rest) rest)

abbrev pub LettersFirst : ℕ → List ℕ → Type 0
LettersFirst c rest = pieces_of (c ∷ rest) ≡ letters (c ∷ take (run Letter rest) rest) ∷ pieces_of (drop (run Letter rest) rest)

digits_on : (c d : ℕ) (rest : List ℕ) → is_ascii_digit c ≡ true → (is_ascii_digit d ≡ true → DigitsFirst d rest) → (is_of_kind Digit d ≡ true) ⊎ (is_of_kind Digit d ≡ false) → DigitsFirst c (d ∷ rest)
digits_on c d rest h ih (inl t) = put_digit c (pieces_of (d ∷ rest)) h ∙ ap (digit_before c) (ih (digit_from d t)) ∙ rw (t, one-add (run Digit rest)) refl
digits_on c d rest h ih (inr t) = put_digit c (pieces_of (d ∷ rest)) h ∙ digit_then c d (pieces_of rest) (kinded d) (not_of_kind Digit d t) ∙ rw t refl

digits_cut : (c : ℕ) (rest : List ℕ) → is_ascii_digit c ≡ true → DigitsFirst c rest
digits_cut c [] h = put_digit c [] h
digits_cut c (d ∷ rest) h = digits_on c d rest h (digits_cut d rest) (either_way (is_of_kind Digit d))

letters_on : (c d : ℕ) (rest : List ℕ) → is_ascii_digit c ≡ false → is_ascii_alphabetic c ≡ true → (is_ascii_digit d ≡ false → is_ascii_alphabetic d ≡ true → LettersFirst d rest)
    → (is_of_kind Letter d ≡ true) ⊎ (is_of_kind Letter d ≡ false) → LettersFirst c (d ∷ rest)
letters_on c d rest h i ih (inl t) =
    let l = letter_from d t in
    put_letter c (pieces_of (d ∷ rest)) h i ∙ ap (letter_before c) (ih l.0 l.1) ∙ rw (t, one-add (run Letter rest)) refl
letters_on c d rest h i ih (inr t) = put_letter c (pieces_of (d ∷ rest)) h i ∙ letter_then c d (pieces_of rest) (kinded d) (not_of_kind Letter d t) ∙ rw t refl

letters_cut : (c : ℕ) (rest : List ℕ) → is_ascii_digit c ≡ false → is_ascii_alphabetic c ≡ true → LettersFirst c rest
letters_cut c [] h i = put_letter c [] h i
letters_cut c (d ∷ rest) h i = letters_on c d rest h i (letters_cut d rest) (either_way (is_of_kind Letter d))

-- The first piece of a text, by its kind, and what is left behind it.
abbrev pub HasFirst : Kind → List ℕ → Type 0
HasFirst k text = weights_of text ≡ piece_weight k (take (piece_length k text) text) ∷ weights_of (drop (piece_length k text) text)

abbrev pub weighed : List Piece → List (List ℕ)
weighed ps = map weight ps ++ (end_weight ∷ [])

first_by : (c : ℕ) (rest : List ℕ) → Kinded c → HasFirst (kind_of_byte c) (c ∷ rest)
first_by c rest (a_digit h) = subst (λ k. HasFirst k (c ∷ rest)) (sym (kind_digit c h))
    (ap weighed (digits_cut c rest h) ∙ rw (of_kind Digit c (kind_digit c h), one-add (run Digit rest)) refl)
first_by c rest (a_letter h i) = subst (λ k. HasFirst k (c ∷ rest)) (sym (kind_letter c h i))
    (ap weighed (letters_cut c rest h i) ∙ rw (of_kind Letter c (kind_letter c h i), one-add (run Letter rest)) refl)
first_by c rest (a_tilde h i j) = subst (λ k. HasFirst k (c ∷ rest)) (sym (kind_tilde c h i j)) (ap weighed (put_tilde c (pieces_of rest) h i j))
first_by c rest (another h i j) = subst (λ k. HasFirst k (c ∷ rest)) (sym (kind_other c h i j)) (ap weighed (put_other c (pieces_of rest) h i j))

first_of : (text : List ℕ) → (text ≡ [] → ⊥) → HasFirst (kind_of text) text
first_of [] n = absurd (n refl)
first_of (c ∷ rest) n = first_by c rest (kinded c)

byte_ends_not : (c : ℕ) → Kinded c → kind_of_byte c ≡ End → ⊥
byte_ends_not c (a_digit h) e = true≢false (sym (ap (λ k. rank_of k == 1) (sym (kind_digit c h) ∙ e)))
byte_ends_not c (a_letter h i) e = true≢false (sym (ap (λ k. rank_of k == 1) (sym (kind_letter c h i) ∙ e)))
byte_ends_not c (a_tilde h i j) e = true≢false (sym (ap (λ k. rank_of k == 1) (sym (kind_tilde c h i j) ∙ e)))
byte_ends_not c (another h i j) e = true≢false (sym (ap (λ k. rank_of k == 1) (sym (kind_other c h i j) ∙ e)))

-- only the empty text is at its end
ends_not : (text : List ℕ) → (text ≡ [] → ⊥) → kind_of text ≡ End → ⊥
ends_not [] n e = n refl
ends_not (c ∷ rest) n e = byte_ends_not c (kinded c) e

pub not_empty : (text : List ℕ) (k : Kind) → (k ≡ End → ⊥) → k ≡ kind_of text → text ≡ [] → ⊥
not_empty text k n e z = n (e ∙ ap kind_of z)

pub not_end : (text : List ℕ) (k : Kind) → (text ≡ [] → ⊥) → k ≡ kind_of text → k ≡ End → ⊥
not_end text k n e z = ends_not text n (sym e ∙ z)

-- the order of weights
abbrev pub weights_cmp : List (List ℕ) → List (List ℕ) → Ordering
weights_cmp = slice_cmp (slice_cmp nat_cmp)

-- two texts that begin with pieces of one kind
pub compare_step : (left right : List ℕ) (k : Kind) → (left ≡ [] → ⊥) → k ≡ kind_of left → k ≡ kind_of right
    → weights_cmp (weights_of left) (weights_of right)
    ≡ ordering_then (slice_cmp nat_cmp (piece_weight k (take (piece_length k left) left)) (piece_weight k (take (piece_length k right) right)))
    (weights_cmp (weights_of (drop (piece_length k left) left)) (weights_of (drop (piece_length k right) right)))
compare_step left right k n e f =
    let a : HasFirst k left = subst (λ j. HasFirst j left) (sym e) (first_of left n) in
    let b : HasFirst k right = subst (λ j. HasFirst j right) (sym f) (first_of right (not_empty right k (not_end left k n e) f)) in
    ap (λ w. weights_cmp w (weights_of right)) a ∙ ap (λ w. weights_cmp (piece_weight k (take (piece_length k left) left) ∷ weights_of (drop (piece_length k left) left)) w) b

-- all weights of a text behind the rank of its kind
data HasRank (text : List ℕ) : Type 0 where
  ranked_by : (w : List ℕ) (ws : List (List ℕ)) → weights_of text ≡ (rank_of (kind_of text) ∷ w) ∷ ws → HasRank text

rank_of_piece : (text : List ℕ) (k : Kind) (piece : List ℕ) (ws : List (List ℕ)) → k ≡ kind_of text → weights_of text ≡ piece_weight k piece ∷ ws → HasRank text
rank_of_piece text Tilde piece ws e f = ranked_by [] ws (f ∙ ap (λ k. (rank_of k ∷ []) ∷ ws) e)
rank_of_piece text End piece ws e f = ranked_by [] ws (f ∙ ap (λ k. (rank_of k ∷ []) ∷ ws) e)
rank_of_piece text Digit piece ws e f = ranked_by (number_of piece ∷ []) ws (f ∙ ap (λ k. (rank_of k ∷ (number_of piece ∷ [])) ∷ ws) e)
rank_of_piece text Letter piece ws e f = ranked_by piece ws (f ∙ ap (λ k. (rank_of k ∷ piece) ∷ ws) e)
rank_of_piece text Other piece ws e f = ranked_by piece ws (f ∙ ap (λ k. (rank_of k ∷ piece) ∷ ws) e)

has_rank : (text : List ℕ) → HasRank text
has_rank [] = ranked_by [] [] refl
has_rank (c ∷ rest) =
    let k = kind_of_byte c in
    rank_of_piece (c ∷ rest) k (take (piece_length k (c ∷ rest)) (c ∷ rest)) (weights_of (drop (piece_length k (c ∷ rest)) (c ∷ rest))) refl (first_by c rest (kinded c))

then_decided : (o p q : Ordering) → (o ≡ Equal → ⊥) → ordering_then (ordering_then o p) q ≡ o
then_decided Less p q n = refl
then_decided Equal p q n = absurd (n refl)
then_decided Greater p q n = refl

ranks_differ : (x y : ℕ) → (x == y) ≡ false → nat_cmp x y ≡ Equal → ⊥
ranks_differ x y h e = true≢false (sym (ap is_eq e) ∙ unsigned_tied x y ∙ h)

differ_by : (left right : List ℕ) → (rank_of (kind_of left) == rank_of (kind_of right)) ≡ false → HasRank left → HasRank right
    → weights_cmp (weights_of left) (weights_of right) ≡ nat_cmp (rank_of (kind_of left)) (rank_of (kind_of right))
differ_by left right h (ranked_by w ws e) (ranked_by v vs f) =
    let a = rank_of (kind_of left) in
    let b = rank_of (kind_of right) in
    ap (λ x. weights_cmp x (weights_of right)) e ∙ ap (λ y. weights_cmp ((a ∷ w) ∷ ws) y) f
    ∙ then_decided (nat_cmp a b) (slice_cmp nat_cmp w v) (weights_cmp ws vs) (ranks_differ a b h)

-- two texts that begin with pieces of different kinds
pub compare_differ : (left right : List ℕ) → (rank_of (kind_of left) == rank_of (kind_of right)) ≡ false
    → weights_cmp (weights_of left) (weights_of right) ≡ nat_cmp (rank_of (kind_of left)) (rank_of (kind_of right))
compare_differ left right h = differ_by left right h (has_rank left) (has_rank right)

-- a text that is at its end, and any other
compare_from_end : (right : List ℕ) → ((1 == rank_of (kind_of right)) ≡ true) ⊎ ((1 == rank_of (kind_of right)) ≡ false)
    → weights_cmp (weights_of []) (weights_of right) ≡ nat_cmp 1 (rank_of (kind_of right))
compare_from_end [] x = refl
compare_from_end (c ∷ right) (inl t) = absurd (byte_ends_not c (kinded c) (sym (rank_decides End (kind_of_byte c) t)))
compare_from_end (c ∷ right) (inr t) = compare_differ [] (c ∷ right) t

pub compare_ended : (left right : List ℕ) → left ≡ [] → weights_cmp (weights_of left) (weights_of right) ≡ nat_cmp (rank_of (kind_of left)) (rank_of (kind_of right))
compare_ended left right e = subst (λ l. weights_cmp (weights_of l) (weights_of right) ≡ nat_cmp (rank_of (kind_of l)) (rank_of (kind_of right))) (sym e) (compare_from_end right (either_way (1 == rank_of (kind_of right))))

-- a run of digits has digits alone
all_by : (c : ℕ) (text : List ℕ) → list_all is_ascii_digit (take (run Digit text) text) ≡ true → (is_of_kind Digit c ≡ true) ⊎ (is_of_kind Digit c ≡ false)
    → list_all is_ascii_digit (take (run Digit (c ∷ text)) (c ∷ text)) ≡ true
all_by c text h (inl t) = rw (t, one-add (run Digit text), digit_from c t) h
all_by c text h (inr t) = rw t refl

all_digits : (text : List ℕ) → list_all is_ascii_digit (take (run Digit text) text) ≡ true
all_digits [] = refl
all_digits (c ∷ text) = all_by c text (all_digits text) (either_way (is_of_kind Digit c))

pub digits_in : (k : Kind) (text piece : List ℕ) (n : ℕ) → n ≡ piece_length k text → piece ≡ take n text → rank_of k ≡ 2 → list_all is_ascii_digit piece ≡ true
digits_in k text piece n e f r =
    let d : k ≡ Digit = rank_decides k Digit (ap (λ x. x == 2) r) in
    let m : n ≡ run Digit text = e ∙ ap (λ j. piece_length j text) d in
    subst (λ p. list_all is_ascii_digit p ≡ true) (sym (f ∙ ap (λ i. take i text) m)) (all_digits text)

pub length_within : (k : Kind) (text : List ℕ) → run k text ≤ length text
length_within k text = prefix_len-le-length (is_of_kind k) text

-- the same step, where the pieces and what is left behind them have names
pub stepped : (left right x more y others : List ℕ) (n m : ℕ) (k : Kind) → (left ≡ [] → ⊥) → k ≡ kind_of left → k ≡ kind_of right
    → n ≡ piece_length k left → m ≡ piece_length k right → x ≡ take n left → more ≡ drop n left → y ≡ take m right → others ≡ drop m right
    → weights_cmp (weights_of left) (weights_of right) ≡ ordering_then (slice_cmp nat_cmp (piece_weight k x) (piece_weight k y)) (weights_cmp (weights_of more) (weights_of others))
stepped left right x more y others n m k e f g ln lm ex em ey eo =
    let a = ex ∙ ap (λ i. take i left) ln in
    let b = ey ∙ ap (λ i. take i right) lm in
    let p = em ∙ ap (λ i. drop i left) ln in
    let q = eo ∙ ap (λ i. drop i right) lm in
    compare_step left right k e f g
    ∙ ap (λ z. ordering_then (slice_cmp nat_cmp (piece_weight k z) (piece_weight k (take (piece_length k right) right))) (weights_cmp (weights_of (drop (piece_length k left) left)) (weights_of (drop (piece_length k right) right)))) (sym a)
    ∙ ap (λ z. ordering_then (slice_cmp nat_cmp (piece_weight k x) (piece_weight k z)) (weights_cmp (weights_of (drop (piece_length k left) left)) (weights_of (drop (piece_length k right) right)))) (sym b)
    ∙ ap (λ z. ordering_then (slice_cmp nat_cmp (piece_weight k x) (piece_weight k y)) (weights_cmp (weights_of z) (weights_of (drop (piece_length k right) right)))) (sym p)
    ∙ ap (λ z. ordering_then (slice_cmp nat_cmp (piece_weight k x) (piece_weight k y)) (weights_cmp (weights_of more) (weights_of z))) (sym q)

pub then_first : (o r : Ordering) → (o ≡ Equal → ⊥) → ordering_then o r ≡ o
then_first Less r n = refl
then_first Equal r n = absurd (n refl)
then_first Greater r n = refl

pub same_kind : (j l : Kind) (left right : List ℕ) (a b : ℕ) → j ≡ kind_of left → l ≡ kind_of right → a ≡ rank_of j → b ≡ rank_of l → a ≡ b → kind_of left ≡ kind_of right
same_kind j l left right a b e f g h i = sym e ∙ rank_decides j l (eq-eqb (rank_of j) (rank_of l) (sym g ∙ i ∙ h)) ∙ f

pub ranks_apart : (j l : Kind) (left right : List ℕ) (a b : ℕ) → j ≡ kind_of left → l ≡ kind_of right → a ≡ rank_of j → b ≡ rank_of l → (a ≡ b → ⊥) → (rank_of (kind_of left) == rank_of (kind_of right)) ≡ false
ranks_apart j l left right a b e f g h n = ne_eqb (rank_of (kind_of left)) (rank_of (kind_of right)) (λ i. n (g ∙ ap rank_of e ∙ i ∙ sym (ap rank_of f) ∙ sym h))

pub is_there : (text : List ℕ) (b : Bool) → b ≡ (length text == 0) → b ≡ false → text ≡ [] → ⊥
is_there text b e f z = true≢false (sym (ap (λ s. length s == 0) z) ∙ sym e ∙ f)

pub is_gone : (text : List ℕ) (b : Bool) → b ≡ (length text == 0) → b ≡ true → text ≡ []
is_gone [] b e f = refl
is_gone (c ∷ text) b e f = absurd (let z : suc (length text) ≡ 0 = eqb-true (suc (length text)) 0 (sym e ∙ f) in omega (arith, z))
