-- The numbers of the recipes that pass a test.
use Rattle.std.proofs.Common.{◌≡◌, sym, ◌∙◌, ap, refl, arith, ℕ, zero, suc, ◌+◌, ◌<◌, Bool, true, false, List, [], ◌∷◌, ◌++◌, length, take, drop, map, filter, fold, bytes_eq, get_or, Option, Some, None, is_some, subst, Err, add-zero, add-one, zero-add}
use Rattle.std.specs.Prelude.{option_to_list}
use Rattle.meta_model.specs.declared.facts.RecipeFacts.{RecipeFacts}
use Rattle.meta_model.specs.Text.{into_order, in_byte_order, is_before}
use Rattle.meta_model.specs.Providers.{numbers_from, the_only, only_one}
use Rattle.meta_model.specs.GraphRefusal.{unprovided, several_provide}

-- the number of one recipe
abbrev pub one_number : Bool → ℕ → List ℕ
one_number true n = n ∷ []
one_number false n = []

after_first : (test : RecipeFacts → Bool) (k : ℕ) (x : RecipeFacts) (xs : List RecipeFacts) (b : Bool) → test x ≡ b → numbers_from test k (x ∷ xs) ≡ one_number b k ++ numbers_from test (k + 1) xs
after_first test k x xs true e = rw e refl
after_first test k x xs false e = rw e refl

-- one more recipe
pub numbers_more_from : (test : RecipeFacts → Bool) (k : ℕ) (xs : List RecipeFacts) (i : ℕ) (d : RecipeFacts) → i < length xs
    → numbers_from test k (take (suc i) xs) ≡ numbers_from test k (take i xs) ++ one_number (test (get_or xs i d)) (k + i)
numbers_more_from test k [] i d lt = absurd (omega arith)
numbers_more_from test k (x ∷ xs) zero d lt = rw add-zero (after_first test k x [] (test x) refl ∙ unit (one_number (test x) k))
  where
    unit : (l : List ℕ) → l ++ [] ≡ l
    unit [] = refl
    unit (y ∷ ys) = ap (λ l. y ∷ l) (unit ys)
numbers_more_from test k (x ∷ xs) (suc i) d lt =
    let rest : numbers_from test (k + 1) (take (suc i) xs) ≡ numbers_from test (k + 1) (take i xs) ++ one_number (test (get_or xs i d)) (k + 1 + i) = numbers_more_from test (k + 1) xs i d (omega arith) in
    let place : k + 1 + i ≡ k + suc i = omega arith in
    by_first (test x) refl (rest ∙ ap (λ n. numbers_from test (k + 1) (take i xs) ++ one_number (test (get_or xs i d)) n) place)
  where
    by_first : (b : Bool) → test x ≡ b → numbers_from test (k + 1) (take (suc i) xs) ≡ numbers_from test (k + 1) (take i xs) ++ one_number (test (get_or xs i d)) (k + suc i)
        → numbers_from test k (x ∷ take (suc i) xs) ≡ numbers_from test k (x ∷ take i xs) ++ one_number (test (get_or xs i d)) (k + suc i)
    by_first true e h = rw e (ap (λ l. k ∷ l) h)
    by_first false e h = rw e h

pub numbers_more : (test : RecipeFacts → Bool) (xs : List RecipeFacts) (i : ℕ) (d : RecipeFacts) → i < length xs
    → numbers_from test 0 (take (i + 1) xs) ≡ numbers_from test 0 (take i xs) ++ one_number (test (get_or xs i d)) i
numbers_more test xs i d lt = rw add-one (numbers_more_from test 0 xs i d lt ∙ ap (λ n. numbers_from test 0 (take i xs) ++ one_number (test (get_or xs i d)) n) (zero-add i))

-- the numbers of a front and of what follows it
numbers_split : (test : RecipeFacts → Bool) (k : ℕ) (xs : List RecipeFacts) (i : ℕ) → numbers_from test k xs ≡ numbers_from test k (take i xs) ++ numbers_from test (k + i) (drop i xs)
numbers_split test k xs zero = rw add-zero refl
numbers_split test k [] (suc i) = refl
numbers_split test k (x ∷ xs) (suc i) =
    let place : k + 1 + i ≡ k + suc i = omega arith in
    by_first (test x) refl (numbers_split test (k + 1) xs i ∙ ap (λ n. numbers_from test (k + 1) (take i xs) ++ numbers_from test n (drop i xs)) place)
  where
    by_first : (b : Bool) → test x ≡ b → numbers_from test (k + 1) xs ≡ numbers_from test (k + 1) (take i xs) ++ numbers_from test (k + suc i) (drop i xs)
        → numbers_from test k (x ∷ xs) ≡ numbers_from test k (x ∷ take i xs) ++ numbers_from test (k + suc i) (drop i xs)
    by_first true e h = rw e (ap (λ l. k ∷ l) h)
    by_first false e h = rw e h

-- a recipe passes where one has passed before
two_pass : (test : RecipeFacts → Bool) (xs : List RecipeFacts) (i m : ℕ) (d : RecipeFacts) → i < length xs → numbers_from test 0 (take i xs) ≡ m ∷ [] → test (get_or xs i d) ≡ true
    → (rest : List ℕ) × (numbers_from test 0 xs ≡ m ∷ (i ∷ rest))
two_pass test xs i m d lt before now =
    let up_to : numbers_from test 0 (take (i + 1) xs) ≡ m ∷ (i ∷ []) = numbers_more test xs i d lt ∙ rw (before, now) refl in
    (numbers_from test (0 + (i + 1)) (drop (i + 1) xs), numbers_split test 0 xs (i + 1) ∙ ap (λ l. l ++ numbers_from test (0 + (i + 1)) (drop (i + 1) xs)) up_to)

-- a list with an element
pub data HasFirst {A : Type 0} (xs : List A) : Type 0 where
  first : (x : A) (rest : List A) → xs ≡ x ∷ rest → HasFirst xs

placed : (xs : List (List ℕ)) (text : List ℕ) → HasFirst (into_order xs text)
placed [] text = first text [] refl
placed (x ∷ xs) text = by_same (bytes_eq x text) refl
  where
    by_before : (b : Bool) → is_before text x ≡ b → bytes_eq x text ≡ false → HasFirst (into_order (x ∷ xs) text)
    by_before true e f = first text (x ∷ xs) (rw (f, e) refl)
    by_before false e f = first x (into_order xs text) (rw (f, e) refl)

    by_same : (b : Bool) → bytes_eq x text ≡ b → HasFirst (into_order (x ∷ xs) text)
    by_same true e = first x xs (rw e refl)
    by_same false e = by_before (is_before text x) refl e

placed_all : (texts xs : List (List ℕ)) → HasFirst xs → HasFirst (fold into_order xs texts)
placed_all [] xs h = h
placed_all (t ∷ ts) xs h = placed_all ts (into_order xs t) (placed xs t)

-- where a recipe passes there are PNs
passing_pns : (test : RecipeFacts → Bool) (k : ℕ) (xs : List RecipeFacts) (m : ℕ) (rest : List ℕ) → numbers_from test k xs ≡ m ∷ rest → HasFirst (in_byte_order (map (λ recipe. recipe.pn) (filter test xs)))
passing_pns test k [] m rest e = absurd cc
passing_pns test k (x ∷ xs) m rest e = by_first (test x) refl (passing_pns test (k + 1) xs m rest)
  where
    by_first : (b : Bool) → test x ≡ b → (numbers_from test (k + 1) xs ≡ m ∷ rest → HasFirst (in_byte_order (map (λ recipe. recipe.pn) (filter test xs)))) → HasFirst (in_byte_order (map (λ recipe. recipe.pn) (filter test (x ∷ xs))))
    by_first true t later = rw t (placed_all (map (λ recipe. recipe.pn) (filter test xs)) (into_order [] x.pn) (first x.pn [] refl))
    by_first false t later = rw t (later (rw t at e))

unprovided_first : (name : List ℕ) (pns : List (List ℕ)) → HasFirst pns → several_provide name pns ≡ unprovided name pns
unprovided_first name pns (first x rest e) = rw e refl

-- the refusal where a second recipe passes
pub several : (test : RecipeFacts → Bool) (name found : List ℕ) (pns : List (List ℕ)) (xs : List RecipeFacts) (i m : ℕ) (d : RecipeFacts) → i < length xs → numbers_from test 0 (take i xs) ≡ m ∷ [] → test (get_or xs i d) ≡ true
    → found ≡ name → pns ≡ in_byte_order (map (λ recipe. recipe.pn) (filter test xs))
    → (answer : List (List ℕ)) × (only_one xs test ≡ Err answer) × (several_provide found pns ≡ unprovided name answer)
several test name found pns xs i m d lt before now same_name same_pns =
    let two = two_pass test xs i m d lt before now in
    let all : List (List ℕ) = in_byte_order (map (λ recipe. recipe.pn) (filter test xs)) in
    (all, ap (λ l. the_only l all) two.1, rw (same_name, same_pns) (unprovided_first name all (passing_pns test 0 xs m (i ∷ two.0) two.1)))

-- a loop's step, by what the recipe gives
pub found_first : (test : RecipeFacts → Bool) (xs ys : List RecipeFacts) (n : ℕ) (x : RecipeFacts) (found next : Option ℕ) → ys ≡ xs → n < length ys → x ≡ get_or ys n x → test x ≡ true
    → numbers_from test 0 (take n xs) ≡ option_to_list found → is_some found ≡ false → next ≡ Some n → numbers_from test 0 (take (n + 1) xs) ≡ option_to_list next
found_first test xs ys n x None next same lt is t before none now = rw now (numbers_more test xs n x (subst (λ (l : List RecipeFacts). n < length l) same lt) ∙ rw (before, sym (is ∙ ap (λ (l : List RecipeFacts). get_or l n x) same), t) refl)
found_first test xs ys n x (Some m) next same lt is t before none now = absurd cc

pub found_none : (test : RecipeFacts → Bool) (xs ys : List RecipeFacts) (n : ℕ) (x : RecipeFacts) (found next : Option ℕ) → ys ≡ xs → n < length ys → x ≡ get_or ys n x → test x ≡ false
    → numbers_from test 0 (take n xs) ≡ option_to_list found → next ≡ found → numbers_from test 0 (take (n + 1) xs) ≡ option_to_list next
found_none test xs ys n x found next same lt is t before now = rw now (numbers_more test xs n x (subst (λ (l : List RecipeFacts). n < length l) same lt) ∙ rw (before, sym (is ∙ ap (λ (l : List RecipeFacts). get_or l n x) same), t) (unit (option_to_list found)))
  where
    unit : (l : List ℕ) → l ++ [] ≡ l
    unit [] = refl
    unit (y ∷ ys) = ap (λ l. y ∷ l) (unit ys)

pub found_second : (test : RecipeFacts → Bool) (name told : List ℕ) (pns : List (List ℕ)) (xs ys : List RecipeFacts) (n : ℕ) (x : RecipeFacts) (found : Option ℕ) → ys ≡ xs → n < length ys → x ≡ get_or ys n x → test x ≡ true
    → numbers_from test 0 (take n xs) ≡ option_to_list found → is_some found ≡ true → told ≡ name → pns ≡ in_byte_order (map (λ recipe. recipe.pn) (filter test xs))
    → (answer : List (List ℕ)) × (only_one xs test ≡ Err answer) × (several_provide told pns ≡ unprovided name answer)
found_second test name told pns xs ys n x (Some m) same lt is t before some same_name same_pns =
    several test name told pns xs n m x (subst (λ (l : List RecipeFacts). n < length l) same lt) before (ap test (sym (is ∙ ap (λ (l : List RecipeFacts). get_or l n x) same)) ∙ t) same_name same_pns
found_second test name told pns xs ys n x None same lt is t before some same_name same_pns = absurd cc
