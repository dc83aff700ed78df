-- A store with other things at a path.
use Rattle.std.proofs.Common.{◌≡◌, ◌≢◌, ◌⊎◌, inl, inr, ℕ, List, Option, Bool, true, false, cond, refl, sym, ◌∙◌, ap}
use Rattle.std.specs.Str.{bytes_eq}
use Rattle.std.proofs.lemmas.Slice.Eq.{bytes_eq-Decides}
use Rattle.std.proofs.lemmas.Bool.{false≢true}
use Rattle.tree_model.specs.declared.entry.Entry.{Entry}
use Rattle.outside_traits.specs.Store.{Store, put, ChangesAt}

pub bool_cases : (b : Bool) → (b ≡ true) ⊎ (b ≡ false)
bool_cases true = inl refl
bool_cases false = inr refl

-- two paths are one or two
pub path_cases : (q p : List ℕ) → (q ≡ p) ⊎ (q ≢ p)
path_cases q p = elim (bool_cases (bytes_eq q p)) [
  | inl same ↦ inl ((bytes_eq-Decides q p).0 same)
  | inr differ ↦ inr (λ same. false≢true (sym differ ∙ (bytes_eq-Decides q p).1 same))
]

tested : (q p : List ℕ) → q ≢ p → bytes_eq q p ≡ false
tested q p ne = elim (bool_cases (bytes_eq q p)) [
  | inl same ↦ absurd (ne ((bytes_eq-Decides q p).0 same))
  | inr differ ↦ differ
]

pub put-same : (h : Store) (p q : List ℕ) (x : Option Entry) → q ≡ p → put h p x q ≡ x
put-same h p q x same = ap (λ (b : Bool). cond b x (h q)) ((bytes_eq-Decides p q).1 (sym same))

pub put-other : (h : Store) (p q : List ℕ) (x : Option Entry) → q ≢ p → put h p x q ≡ h q
put-other h p q x ne = ap (λ (b : Bool). cond b x (h q)) (tested p q (λ same. ne (sym same)))

pub put-undone : (h : Store) (p : List ℕ) (x : Option Entry) → put (put h p x) p (h p) ≡ h
put-undone h p x = λ i q. at q i
  where
    at : (q : List ℕ) → put (put h p x) p (h p) q ≡ h q
    at q = elim (path_cases q p) [
      | inl same ↦ put-same (put h p x) p q (h p) same ∙ ap h (sym same)
      | inr ne ↦ put-other (put h p x) p q (h p) ne ∙ put-other h p q x ne
    ]

pub moved-undone : (h : Store) (p q : List ℕ) (x y : Option Entry) → put (put (put (put h p x) q y) q (h q)) p (h p) ≡ h
moved-undone h p q x y = λ i r. at r i
  where
    at : (r : List ℕ) → put (put (put (put h p x) q y) q (h q)) p (h p) r ≡ h r
    at r = elim (path_cases r p) [
      | inl same ↦ put-same (put (put (put h p x) q y) q (h q)) p r (h p) same ∙ ap h (sym same)
      | inr ne ↦ put-other (put (put (put h p x) q y) q (h q)) p r (h p) ne ∙ elim (path_cases r q) [
        | inl same ↦ put-same (put (put h p x) q y) q r (h q) same ∙ ap h (sym same)
        | inr other ↦ put-other (put (put h p x) q y) q r (h q) other ∙ put-other (put h p x) q r y other ∙ put-other h p r x ne
      ]
    ]

pub ChangesAt-put : (h : Store) (p : List ℕ) (x : Option Entry) → ChangesAt p h (put h p x)
ChangesAt-put h p x = record { others = λ q ne. put-other h p q x ne }

-- what the path holds anyway
pub put-own : (h : Store) (p : List ℕ) → put h p (h p) ≡ h
put-own h p = λ i q. at q i
  where
    at : (q : List ℕ) → put h p (h p) q ≡ h q
    at q = elim (path_cases q p) [ inl same ↦ put-same h p q (h p) same ∙ ap h (sym same) | inr ne ↦ put-other h p q (h p) ne ]

pub puts-own : (h : Store) (p q : List ℕ) → put (put h p (h p)) q (h q) ≡ h
puts-own h p q = ap (λ (g : Store). put g q (h q)) (put-own h p) ∙ put-own h q
