-- Quoted texts by the places of their quotes.
use Rattle.std.proofs.Common.{◌≡◌, ℕ, suc, ◌+◌, ◌-◌, ◌<◌, ◌≤◌, true, false, ◌==◌, List, [], ◌∷◌, ◌++◌, length, take, drop, get_or, refl, sym, ap, ◌⊎◌, inl, inr, ◌∙◌, Some, None, count_by, bytes_eq, arith}
use Rattle.std.proofs.lemmas.Bool.{and_right, false_from_ne_true, ne_eqb, or_from}
use Rattle.std.proofs.lemmas.Slice.Eq.{bytes_eq-Decides}
use Rattle.std.proofs.lemmas.List.{get_or_at, length-take-le, take_more, take_all}
use Rattle.meta_model.specs.Text.{is_quote, without_last}
use Rattle.meta_model.specs.Grammar.{quoted}

-- the list is all but its last, and its last
pub with_last : (xs : List ℕ) → 0 < length xs → xs ≡ without_last xs ++ get_or xs (length xs - 1) 0 ∷ []
with_last xs h = sym (take_all (length xs - 1 + 1) xs (omega arith)) ∙ take_more xs (length xs - 1) 0 (omega arith)

pub quoted-some : (q : ℕ) (cs : List ℕ) → 0 < length cs → is_quote q ≡ true → get_or cs (length cs - 1) 0 ≡ q
    → quoted (q ∷ cs) ≡ Some (record { text = without_last cs; inner = count_by (λ c. c == q) (without_last cs) })
unfolding quoted
quoted-some q cs h e k = let w = (bytes_eq-Decides cs (without_last cs ++ q ∷ [])).1 (with_last cs h ∙ ap (λ d. without_last cs ++ d ∷ []) k) in rw (e, w) refl

pub quoted-no_quote : (q : ℕ) (cs : List ℕ) → is_quote q ≡ false → quoted (q ∷ cs) ≡ None
unfolding quoted
quoted-no_quote q cs e = rw e refl

pub quoted-other_end : (q : ℕ) (cs : List ℕ) → 0 < length cs → (get_or cs (length cs - 1) 0 ≡ q → ⊥) → quoted (q ∷ cs) ≡ None
unfolding quoted
quoted-other_end q cs h k = let t = and_right (is_quote q) (bytes_eq cs (without_last cs ++ q ∷ [])) (false_from_ne_true (bytes_eq cs (without_last cs ++ q ∷ [])) (λ b.
    k (ap (λ l. get_or l (length cs - 1) 0) ((bytes_eq-Decides cs (without_last cs ++ q ∷ [])).0 b) ∙ get_or_at (without_last cs) q [] 0 (length cs - 1) (length-take-le (length cs - 1) cs (omega arith))))) in rw t refl

pub quoted-short : (xs : List ℕ) → length xs < 2 → quoted xs ≡ None
unfolding quoted
quoted-short [] h = refl
quoted-short (q ∷ []) h = rw (and_right (is_quote q) false refl) refl
quoted-short (q ∷ c ∷ cs) h = absurd (omega arith)

-- by the places in the whole line
behind_first : (cs : List ℕ) → 0 < length cs → suc (length cs) - 1 ≡ suc (length cs - 1)
behind_first cs h = omega arith

pub quoted-is : (xs : List ℕ) (q : ℕ) → 2 ≤ length xs → get_or xs 0 0 ≡ q → is_quote q ≡ true → get_or xs (length xs - 1) 0 ≡ q
    → quoted xs ≡ Some (record { text = take (length xs - 2) (drop 1 xs); inner = count_by (λ c. c == q) (take (length xs - 2) (drop 1 xs)) })
quoted-is [] q h a t b = absurd (omega arith)
quoted-is (x ∷ cs) q h a t b =
    let k : 0 < length cs = omega arith in
    let m : suc (length cs) - 2 ≡ length cs - 1 = omega arith in
    rw (a, m) (quoted-some q cs k t (rw (behind_first cs k) at b))

pub quoted-not_quote : (xs : List ℕ) → 2 ≤ length xs → (get_or xs 0 0 ≡ 34 → ⊥) → (get_or xs 0 0 ≡ 39 → ⊥) → quoted xs ≡ None
quoted-not_quote [] h a b = absurd (omega arith)
quoted-not_quote (x ∷ cs) h a b = quoted-no_quote x cs (or_from (x == 34) (x == 39) (ne_eqb x 34 a) (ne_eqb x 39 b))

pub quoted-unequal : (xs : List ℕ) → 2 ≤ length xs → (get_or xs (length xs - 1) 0 ≡ get_or xs 0 0 → ⊥) → quoted xs ≡ None
quoted-unequal [] h a = absurd (omega arith)
quoted-unequal (x ∷ cs) h a = let k : 0 < length cs = omega arith in quoted-other_end x cs k (λ e. a (rw (behind_first cs k) e))

pub quote_of_two : (c : ℕ) → ((c ≡ 34 → ⊥) × (c ≡ 39)) ⊎ (c ≡ 34) → (is_quote c ≡ true) × (c < 128)
quote_of_two c h = elim h [ inl a ↦ rw a.1 (refl, omega arith) | inr a ↦ rw a (refl, omega arith) ]
