-- Where a path is cut at its slashes.
use Rattle.std.proofs.Common.{◌≡◌, ◌≢◌, refl, ap, sym, ◌∙◌, ℕ, ◌<◌, ◌≤◌, suc, arith, List, [], ◌∷◌, ◌++◌, length, get_or, Some, None, Option, MatchOption, Bor, ne_eqb, fold, Bool, true, false, not, ◌||◌, append_assoc}
use Rattle.std.specs.List.{after_first, list_any, join_with_byte}
use Rattle.std.proofs.lemmas.List.Splits.{slice_split_first}
use Rattle.std.proofs.lemmas.Str.Pattern.{IsSplitOnceResult, split_once_first, split_parts}
use Rattle.tree_model.specs.Path.{parts_of}
use Rattle.load_model.specs.Paths.{slash, is_slash, further}

uncut : (bs : List ℕ) → ((k : ℕ) → k < length bs → get_or bs k 0 ≢ slash) → parts_of bs ≡ bs ∷ []
uncut [] h = refl
uncut (b ∷ bs) h = rw (ne_eqb b slash (h 0 (omega arith)), uncut bs (λ k lt. h (suc k) (omega arith))) refl

pub cut_parts : (text : List ℕ) (r : Option (Bor (List ℕ) × Bor (List ℕ))) → IsSplitOnceResult slash text r → MatchOption r (parts_of text ≡ text ∷ []) (λ x. parts_of text ≡ x.0.now ∷ parts_of x.1.now)
cut_parts text None h = uncut text (split_parts slash text None h (omega arith))
cut_parts text (Some x) h =
    let s = split_once_first slash text (Some x) h (omega arith) in
    slice_split_first is_slash text 0 s.0 ∙ ap (λ l. l ∷ parts_of (after_first is_slash text)) (sym s.1) ∙ ap (λ l. x.0.now ∷ parts_of l) (sym s.2)

-- a path that leads nowhere leads nowhere further
pub nowhere_further : (parts : List (List ℕ)) → fold further None parts ≡ None
nowhere_further [] = refl
nowhere_further (part ∷ parts) = nowhere_further parts

-- one more part, joined
pub join_more : (x : List ℕ) (xs : List (List ℕ)) (y : List ℕ) → join_with_byte slash ((x ∷ xs) ++ y ∷ []) ≡ join_with_byte slash (x ∷ xs) ++ (slash ∷ y)
join_more x [] y = refl
join_more x (z ∷ xs) y = ap (λ l. x ++ (slash ∷ l)) (join_more z xs y) ∙ sym (append_assoc x (slash ∷ join_with_byte slash (z ∷ xs)) (slash ∷ y))

-- what comes before the next of some parts that are joined
abbrev pub slash_before : List (List ℕ) → List ℕ
slash_before [] = []
slash_before (x ∷ xs) = slash ∷ []

pub join_next : (xs : List (List ℕ)) (y before made made' made'' : List ℕ) → before ≡ slash_before xs → made ≡ join_with_byte slash xs → made' ≡ made ++ before → made'' ≡ made' ++ y → made'' ≡ join_with_byte slash (xs ++ y ∷ [])
join_next [] y before made made' made'' b m p q = q ∙ ap (λ l. l ++ y) (p ∙ ap (λ l. l ++ before) m ∙ b)
join_next (x ∷ xs) y before made made' made'' b m p q =
    q ∙ ap (λ l. l ++ y) (p ∙ ap (λ l. l ++ before) m ∙ ap (λ l. join_with_byte slash (x ∷ xs) ++ l) b) ∙ append_assoc (join_with_byte slash (x ∷ xs)) (slash ∷ []) y ∙ sym (join_more x xs y)

pub before_next : (xs : List (List ℕ)) (y : List ℕ) → slash ∷ [] ≡ slash_before (xs ++ y ∷ [])
before_next [] y = refl
before_next (x ∷ xs) y = refl

-- a text without slashes
none_passes : (bs : List ℕ) → ((k : ℕ) → k < length bs → not (is_slash (get_or bs k 0)) ≡ true) → list_any is_slash bs ≡ false
none_passes [] h = refl
none_passes (b ∷ bs) h = or_none (is_slash b) (list_any is_slash bs) (h 0 (omega arith)) (none_passes bs (λ k lt. h (suc k) (omega arith)))
  where
    or_none : (a b : Bool) → not a ≡ true → b ≡ false → (a || b) ≡ false
    or_none true b e f = absurd cc
    or_none false b e f = f

pub no_slash : (bs : List ℕ) (end : ℕ) → ((k : ℕ) → end ≤ k → k < length bs → not (is_slash (get_or bs k 0)) ≡ true) → end ≡ 0 → list_any is_slash bs ≡ false
no_slash bs end h e = none_passes bs (λ k lt. h k (omega arith) lt)
