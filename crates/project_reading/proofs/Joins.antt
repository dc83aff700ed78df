-- Texts that are joined with a byte between them.
use Rattle.std.proofs.Common.{◌≡◌, refl, ap, sym, ◌∙◌, ℕ, List, [], ◌∷◌, ◌++◌, append_assoc}
use Rattle.std.specs.List.{join_with_byte}

join_more : (c : ℕ) (x : List ℕ) (xs : List (List ℕ)) (y : List ℕ) → join_with_byte c ((x ∷ xs) ++ y ∷ []) ≡ join_with_byte c (x ∷ xs) ++ (c ∷ y)
join_more c x [] y = refl
join_more c x (z ∷ xs) y = ap (λ l. x ++ (c ∷ l)) (join_more c z xs y) ∙ sym (append_assoc x (c ∷ join_with_byte c (z ∷ xs)) (c ∷ y))

-- what comes before the next of some texts that are joined
abbrev pub sign_before : ℕ → List (List ℕ) → List ℕ
sign_before c [] = []
sign_before c (x ∷ xs) = c ∷ []

-- one more text
pub join_next : (c : ℕ) (xs : List (List ℕ)) (y before made made' made'' : List ℕ) → before ≡ sign_before c xs → made ≡ join_with_byte c xs → made' ≡ made ++ before → made'' ≡ made' ++ y → made'' ≡ join_with_byte c (xs ++ y ∷ [])
join_next c [] y before made made' made'' b m p q = q ∙ ap (λ l. l ++ y) (p ∙ ap (λ l. l ++ before) m ∙ b)
join_next c (x ∷ xs) y before made made' made'' b m p q =
    q ∙ ap (λ l. l ++ y) (p ∙ ap (λ l. l ++ before) m ∙ ap (λ l. join_with_byte c (x ∷ xs) ++ l) b) ∙ append_assoc (join_with_byte c (x ∷ xs)) (c ∷ []) y ∙ sym (join_more c x xs y)

pub before_next : (c : ℕ) (xs : List (List ℕ)) (y : List ℕ) → c ∷ [] ≡ sign_before c (xs ++ y ∷ [])
before_next c [] y = refl
before_next c (x ∷ xs) y = refl
