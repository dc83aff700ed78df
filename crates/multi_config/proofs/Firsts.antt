-- Names, each where it stands first.
use Rattle.std.proofs.Common.{◌≡◌, refl, ap, ◌∙◌, sym, ℕ, Bool, true, false, not, ◌&&◌, ◌||◌, ◌⊎◌, inl, inr, List, [], ◌∷◌, ◌++◌, append_assoc, append-nil, filter, map, bytes_eq}
use Rattle.std.specs.Prelude.{if◌then◌else◌}
use Rattle.std.specs.List.{fold, list_any}
use Rattle.std.proofs.lemmas.List.Folds.{list_any-append}
use Rattle.meta_model.proofs.Bools.{either_way, same_text, differs, text_itself}
use Rattle.meta_model.specs.Text.{is_empty, is_in}
use Rattle.multi_config.specs.declared.places.Placed.{Placed}
use Rattle.multi_config.specs.Names.{config_of, with_named}
use Rattle.multi_config.specs.Words.{firsts, reached}

-- a name that comes behind these
abbrev keeps : List (List ℕ) → List ℕ → Bool
keeps names name = not (is_empty name || is_in name names)

abbrev other_than : List ℕ → List ℕ → Bool
other_than name other = not (bytes_eq name other)

filter_both : (p q r : List ℕ → Bool) → ((x : List ℕ) → r x ≡ (q x && p x)) → (xs : List (List ℕ)) → filter p (filter q xs) ≡ filter r xs
filter_both p q r same [] = refl
filter_both p q r same (x ∷ xs) = let ih = filter_both p q r same xs in elim (either_way (q x)) [
  | inl e ↦ elim (either_way (p x)) [
    | inl f ↦ (let g : r x ≡ true = same x ∙ (λ i. e i && f i) in simp (e, f, g, ih))
    | inr f ↦ (let g : r x ≡ false = same x ∙ (λ i. e i && f i) in simp (e, f, g, ih))
  ]
  | inr e ↦ (let g : r x ≡ false = same x ∙ (λ i. e i && p x) in simp (e, g, ih))
]

absorbed : (names : List (List ℕ)) (x : List ℕ) → keeps names x ≡ false → (n : List ℕ) → keeps names n ≡ (other_than x n && keeps names n)
absorbed names x h n = elim (either_way (bytes_eq x n)) [
  | inl e ↦ (let same : keeps names n ≡ false = ap (keeps names) (sym (same_text x n e)) ∙ h in same ∙ (λ i. not (sym e i) && keeps names n))
  | inr e ↦ (λ i. not (sym e i) && keeps names n)
]

one_more : (a b c : Bool) → not (a || (b || (c || false))) ≡ (not c && not (a || b))
one_more true true true = refl
one_more true true false = refl
one_more true false true = refl
one_more true false false = refl
one_more false true true = refl
one_more false true false = refl
one_more false false true = refl
one_more false false false = refl

same_either : (x n : List ℕ) → bytes_eq n x ≡ bytes_eq x n
same_either x n = elim (either_way (bytes_eq x n)) [
  | inl e ↦ (let s = same_text x n e in ap (λ y. bytes_eq n y) s ∙ text_itself n ∙ sym e)
  | inr e ↦ differs x n e ∙ sym e
]

narrowed : (names : List (List ℕ)) (x n : List ℕ) → keeps (names ++ x ∷ []) n ≡ (other_than x n && keeps names n)
narrowed names x n =
    ap (λ b. not (is_empty n || b)) (list_any-append (bytes_eq n) names (x ∷ [])) ∙ one_more (is_empty n) (is_in n names) (bytes_eq n x) ∙ ap (λ b. not b && keeps names n) (same_either x n)

-- what comes behind names when others are gathered
gathered : (names xs : List (List ℕ)) → fold with_named names xs ≡ names ++ filter (keeps names) (firsts xs)
gathered names [] = sym (append-nil names)
gathered names (x ∷ xs) = elim (either_way (is_empty x)) [
  | inl e ↦ (
      let none : keeps names x ≡ false = ap (λ b. not (b || is_in x names)) e in
      let stays : with_named names x ≡ names = simp e in
      passed (gathered names xs) none stays)
  | inr e ↦ elim (either_way (is_in x names)) [
    | inl f ↦ (
        let none : keeps names x ≡ false = (λ i. not (e i || f i)) in
        let stays : with_named names x ≡ names = simp (e, f) in
        passed (gathered names xs) none stays)
    | inr f ↦ (
        let some : keeps names x ≡ true = (λ i. not (e i || f i)) in
        let more : with_named names x ≡ names ++ x ∷ [] = simp (e, f) in
        ap (λ l. fold with_named l xs) more ∙ gathered (names ++ x ∷ []) xs ∙ append_assoc names (x ∷ []) (filter (keeps (names ++ x ∷ [])) (firsts xs))
        ∙ ap (λ l. names ++ x ∷ l) (sym (filter_both (keeps names) (other_than x) (keeps (names ++ x ∷ [])) (narrowed names x) (firsts xs)))
        ∙ ap (λ l. names ++ l) (sym (kept some)))
  ]
]
  where
    kept : keeps names x ≡ true → filter (keeps names) (firsts (x ∷ xs)) ≡ x ∷ filter (keeps names) (filter (other_than x) (firsts xs))
    kept some = simp some

    dropped : keeps names x ≡ false → filter (keeps names) (firsts (x ∷ xs)) ≡ filter (keeps names) (filter (other_than x) (firsts xs))
    dropped none = simp none

    passed : fold with_named names xs ≡ names ++ filter (keeps names) (firsts xs) → keeps names x ≡ false → with_named names x ≡ names → fold with_named names (x ∷ xs) ≡ names ++ filter (keeps names) (firsts (x ∷ xs))
    passed ih none stays =
        ap (λ l. fold with_named l xs) stays ∙ ih
        ∙ ap (λ l. names ++ l) (sym (filter_both (keeps names) (other_than x) (keeps names) (absorbed names x none) (firsts xs)) ∙ sym (dropped none))

any_empty_among : (c : ℕ) (cs : List ℕ) (xs : List (List ℕ)) → list_any is_empty (filter (other_than (c ∷ cs)) xs) ≡ list_any is_empty xs
any_empty_among c cs [] = refl
any_empty_among c cs ([] ∷ xs) = refl
any_empty_among c cs ((d ∷ ds) ∷ xs) = let ih = any_empty_among c cs xs in elim (either_way (other_than (c ∷ cs) (d ∷ ds))) [
  | inl e ↦ simp (e, ih)
  | inr e ↦ simp (e, ih)
]

any_empty : (xs : List (List ℕ)) → list_any is_empty (firsts xs) ≡ list_any is_empty xs
any_empty [] = refl
any_empty ([] ∷ xs) = refl
any_empty ((c ∷ cs) ∷ xs) = any_empty_among c cs (firsts xs) ∙ any_empty xs

any_config : (places : List Placed) → list_any is_empty (map config_of places) ≡ list_any (λ p. is_empty (config_of p)) places
any_config [] = refl
any_config (p ∷ places) = ap (λ b. is_empty (config_of p) || b) (any_config places)

behind_empty : (xs : List (List ℕ)) → filter (keeps ([] ∷ [])) xs ≡ filter (λ name. not (is_empty name)) xs
behind_empty [] = refl
behind_empty ([] ∷ xs) = behind_empty xs
behind_empty ((c ∷ cs) ∷ xs) = ap (λ l. (c ∷ cs) ∷ l) (behind_empty xs)

all_kept : (xs : List (List ℕ)) → list_any is_empty xs ≡ false → filter (keeps []) xs ≡ xs
all_kept [] h = refl
all_kept ([] ∷ xs) h = absurd cc
all_kept ((c ∷ cs) ∷ xs) h = ap (λ l. (c ∷ cs) ∷ l) (all_kept xs h)

abbrev start : Bool → List (List ℕ)
start default = if default then [] ∷ [] else []

-- the names of places, the default one first
abbrev first_of : List Placed → List (List ℕ)
first_of places = if is_empty places || list_any (λ p. is_empty (config_of p)) places then [] ∷ [] else []

pub names_reached : (places : List Placed) (first : List (List ℕ)) → first ≡ first_of places → fold with_named first (map config_of places) ≡ reached places
names_reached [] first e = e
names_reached (p ∷ places) first e = ap (λ l. fold with_named l configs) e ∙ by (either_way (list_any (λ q. is_empty (config_of q)) (p ∷ places)))
  where
    configs : List (List ℕ)
    configs = map config_of (p ∷ places)

    by : (list_any (λ q. is_empty (config_of q)) (p ∷ places) ≡ true) ⊎ (list_any (λ q. is_empty (config_of q)) (p ∷ places) ≡ false) → fold with_named (first_of (p ∷ places)) configs ≡ reached (p ∷ places)
    by (inl t) =
        let any : list_any is_empty (firsts configs) ≡ true = any_empty configs ∙ any_config (p ∷ places) ∙ t in
        let first : first_of (p ∷ places) ≡ [] ∷ [] = ap start t in
        let names : reached (p ∷ places) ≡ [] ∷ filter (λ name. not (is_empty name)) (firsts configs) = simp any in
        ap (λ l. fold with_named l configs) first ∙ gathered ([] ∷ []) configs ∙ ap (λ l. [] ∷ l) (behind_empty (firsts configs)) ∙ sym names
    by (inr f) =
        let any : list_any is_empty (firsts configs) ≡ false = any_empty configs ∙ any_config (p ∷ places) ∙ f in
        let first : first_of (p ∷ places) ≡ [] = ap start f in
        let names : reached (p ∷ places) ≡ firsts configs = simp any in
        ap (λ l. fold with_named l configs) first ∙ gathered [] configs ∙ all_kept (firsts configs) any ∙ sym names
