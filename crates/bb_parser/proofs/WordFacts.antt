-- The first word of a text.
use Rattle.std.proofs.Common.{◌≡◌, ℕ, ◌+◌, ◌<◌, Bool, true, false, List, [], ◌∷◌, length, drop, get_or, refl, sym, ap, ◌∙◌, ◌⊎◌, inl, inr, add-one, one-add, drop-cons}
use Rattle.std.specs.List.{position_or_len, before_first, slice_split}
use Rattle.meta_model.specs.Text.{is_white, words, non_empty}
use Rattle.meta_model.specs.Statements.{first_word, first_or_empty}
use Rattle.bb_parser.specs.Words.{skip_white}

-- the white space at the place n goes
pub skip_white-more : (xs : List ℕ) (n : ℕ) → n < length xs → is_white (get_or xs n 0) ≡ true → skip_white (drop (n + 1) xs) ≡ skip_white (drop n xs)
skip_white-more xs n h t = rw (add-one, drop-cons xs n 0 h, t) refl

-- white space in front begins no word
pub words-white : (c : ℕ) (s : List ℕ) → is_white c ≡ true → words (c ∷ s) ≡ words s
words-white c s h = rw h refl

skip-goes : (c : ℕ) (s : List ℕ) → is_white c ≡ true → skip_white (c ∷ s) ≡ skip_white s
skip-goes c s e = rw e refl

skip-stays : (c : ℕ) (s : List ℕ) → is_white c ≡ false → skip_white (c ∷ s) ≡ c ∷ s
skip-stays c s e = rw e refl

pub words-skip : (s : List ℕ) → words (skip_white s) ≡ words s
words-skip [] = refl
words-skip (c ∷ s) = by_case (is_white c) refl (words-skip s)
  where
    by_case : (b : Bool) → is_white c ≡ b → words (skip_white s) ≡ words s → words (skip_white (c ∷ s)) ≡ words (c ∷ s)
    by_case true e h = ap words (skip-goes c s e) ∙ (h ∙ sym (words-white c s e))
    by_case false e h = ap words (skip-stays c s e)

-- the parts of a text between white space: what stands before the first, and the words from there on
parts : (s : List ℕ) → (t : List (List ℕ)) × (slice_split is_white s ≡ before_first is_white s ∷ t) × (non_empty t ≡ words (drop (position_or_len is_white s) s))
parts [] = ([], refl, refl)
parts (c ∷ s) = by_case (is_white c) refl (parts s)
  where
    by_case : (b : Bool) → is_white c ≡ b → ((t : List (List ℕ)) × (slice_split is_white s ≡ before_first is_white s ∷ t) × (non_empty t ≡ words (drop (position_or_len is_white s) s)))
        → (t : List (List ℕ)) × (slice_split is_white (c ∷ s) ≡ before_first is_white (c ∷ s) ∷ t) × (non_empty t ≡ words (drop (position_or_len is_white (c ∷ s)) (c ∷ s)))
    by_case true e h = (slice_split is_white s, rw e refl, rw (e, e) refl)
    by_case false e h = (h.0, rw (e, one-add, h.1) refl, rw (e, one-add) h.2)

-- where a word begins, it is the first, and the others follow
pub words-step : (c : ℕ) (s : List ℕ) → is_white c ≡ false → words (c ∷ s) ≡ before_first is_white (c ∷ s) ∷ words (skip_white (drop (position_or_len is_white (c ∷ s)) (c ∷ s)))
words-step c s e = let h = parts (c ∷ s) in
    ap non_empty h.1 ∙ (kept h.0 ∙ ap (λ ws. before_first is_white (c ∷ s) ∷ ws) (h.2 ∙ sym (words-skip (drop (position_or_len is_white (c ∷ s)) (c ∷ s)))))
  where
    kept : (t : List (List ℕ)) → non_empty (before_first is_white (c ∷ s) ∷ t) ≡ before_first is_white (c ∷ s) ∷ non_empty t
    kept t = rw (e, one-add) refl

-- behind white space nothing stands, or a word
pub skip_white-front : (s : List ℕ) → (skip_white s ≡ []) ⊎ ((c : ℕ) × (t : List ℕ) × (skip_white s ≡ c ∷ t) × (is_white c ≡ false))
skip_white-front [] = inl refl
skip_white-front (c ∷ s) = by_case (is_white c) refl (skip_white-front s)
  where
    by_case : (b : Bool) → is_white c ≡ b → (skip_white s ≡ []) ⊎ ((d : ℕ) × (t : List ℕ) × (skip_white s ≡ d ∷ t) × (is_white d ≡ false))
        → (skip_white (c ∷ s) ≡ []) ⊎ ((d : ℕ) × (t : List ℕ) × (skip_white (c ∷ s) ≡ d ∷ t) × (is_white d ≡ false))
    by_case true e h = rw e h
    by_case false e h = inr (c, s, rw e refl, e)

pub first_word-is : (s : List ℕ) → first_word s ≡ before_first is_white (skip_white s)
first_word-is s = ap first_or_empty (sym (words-skip s)) ∙ elim (skip_white-front s) [
  | inl e ↦ rw e refl
  | inr h ↦ rw h.2 (ap first_or_empty (words-step h.0 h.1 h.3))
]
