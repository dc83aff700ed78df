-- What the index of names has, from recipe to recipe, and what its answers are.
use Rattle.std.proofs.Common.{◌≡◌, sym, ◌∙◌, ap, refl, arith, ℕ, zero, suc, ◌+◌, ◌-◌, ◌<◌, ◌≤◌, Bool, true, false, List, [], ◌∷◌, ◌++◌, length, take, get_or, Option, Some, None, is_some, if◌then◌else◌, bytes_eq, nat_eq, add-one, zero-add, length-take}
use Rattle.std.specs.List.{list_any}
use Rattle.std.specs.Prelude.{slice_get}
use Rattle.std.specs.Result.{result_ok}
use Rattle.std.specs.Option.{option_map}
use Rattle.std.specs.Map.{lookup}
use Rattle.std.specs.Cmp.Lexicographic.{nat_list_eq_equiv}
use Rattle.meta_model.specs.declared.facts.RecipeFacts.{RecipeFacts}
use Rattle.meta_model.specs.Providers.{numbers_from, the_only, only_one, narrowed}
use Rattle.task_graph.specs.declared.only.Only.{Only}
use Rattle.task_graph.specs.Only.{only_of, with_number, number_in, first_place}
use Rattle.task_graph.proofs.Numbers.{numbers_more, one_number}

pub first_below : (test : RecipeFacts → Bool) (k : ℕ) (xs : List RecipeFacts) (m : ℕ) (rest : List ℕ) → numbers_from test k xs ≡ m ∷ rest → m < k + length xs
first_below test k [] m rest e = absurd cc
first_below test k (x ∷ xs) m rest e = by_test (test x) refl (first_below test (k + 1) xs m rest)
  where
    by_test : (b : Bool) → test x ≡ b → (numbers_from test (k + 1) xs ≡ m ∷ rest → m < k + 1 + length xs) → m < k + length (x ∷ xs)
    by_test true t later = let f : k ∷ numbers_from test (k + 1) xs ≡ m ∷ rest = rw t at e in let g : k ≡ m = cc in omega (arith, g)
    by_test false t later = omega (arith, later (rw t at e))

differ : (m n : ℕ) → m < n → nat_eq m n ≡ false
differ m n lt = by_same (nat_eq m n) refl
  where
    by_same : (b : Bool) → nat_eq m n ≡ b → nat_eq m n ≡ false
    by_same true e = absurd (grind (arith, lt, e))
    by_same false e = e

one_more : (ns : List ℕ) (n : ℕ) → ((m : ℕ) → ns ≡ m ∷ [] → m < n) → only_of (ns ++ n ∷ []) ≡ with_number (only_of ns) n
one_more [] n below = refl
one_more (m ∷ []) n below = rw (differ m n (below m refl)) refl
one_more (m ∷ (l ∷ ns)) n below = refl

-- one more recipe
pub index_step : (test : RecipeFacts → Bool) (xs : List RecipeFacts) (i : ℕ) (x : RecipeFacts) (b : Bool) (old new : Option Only) → i < length xs → x ≡ get_or xs i x → b ≡ test x
    → old ≡ only_of (numbers_from test 0 (take i xs)) → new ≡ (if b then with_number old i else old) → new ≡ only_of (numbers_from test 0 (take (i + 1) xs))
index_step test xs i x b old new lt is same before now = now ∙ by_test b same
  where
    more : numbers_from test 0 (take (i + 1) xs) ≡ numbers_from test 0 (take i xs) ++ one_number (test x) i
    more = numbers_more test xs i x lt ∙ ap (λ (y : RecipeFacts). numbers_from test 0 (take i xs) ++ one_number (test y) i) (sym is)

    below : (m : ℕ) → numbers_from test 0 (take i xs) ≡ m ∷ [] → m < i
    below m e = omega (arith, first_below test 0 (take i xs) m [] e, length-take i xs)

    unit : (l : List ℕ) → l ++ [] ≡ l
    unit [] = refl
    unit (y ∷ ys) = ap (λ l. y ∷ l) (unit ys)

    by_test : (c : Bool) → c ≡ test x → (if c then with_number old i else old) ≡ only_of (numbers_from test 0 (take (i + 1) xs))
    by_test true e = rw (more, sym e, before) (sym (one_more (numbers_from test 0 (take i xs)) i below))
    by_test false e = rw (more, sym e, before, unit (numbers_from test 0 (take i xs))) refl

-- one more element to look for the first among
pub first_more_from : {A : Type 0} (test : A → Bool) (k : ℕ) (xs : List A) (i : ℕ) (d : A) → i < length xs
    → first_place test k (take (suc i) xs) ≡ (if is_some (first_place test k (take i xs)) then first_place test k (take i xs) else (if test (get_or xs i d) then Some (k + i) else None))
first_more_from test k [] i d lt = absurd (omega arith)
first_more_from test k (x ∷ xs) zero d lt = by_test (test x) refl
  where
    by_test : (b : Bool) → test x ≡ b → first_place test k (x ∷ []) ≡ (if test x then Some (k + 0) else None)
    by_test true e = let place : k ≡ k + 0 = omega arith in rw e (ap Some place)
    by_test false e = rw e refl
first_more_from test k (x ∷ xs) (suc i) d lt =
    let place : suc k + i ≡ k + suc i = omega arith in
    by_test (test x) refl (first_more_from test (suc k) xs i d (omega (arith, lt)) ∙ ap (λ n. if is_some (first_place test (suc k) (take i xs)) then first_place test (suc k) (take i xs) else (if test (get_or xs i d) then Some n else None)) place)
  where
    by_test : (b : Bool) → test x ≡ b → first_place test (suc k) (take (suc i) xs) ≡ (if is_some (first_place test (suc k) (take i xs)) then first_place test (suc k) (take i xs) else (if test (get_or xs i d) then Some (k + suc i) else None))
        → first_place test k (x ∷ take (suc i) xs) ≡ (if is_some (first_place test k (x ∷ take i xs)) then first_place test k (x ∷ take i xs) else (if test (get_or xs i d) then Some (k + suc i) else None))
    by_test true e h = rw e refl
    by_test false e h = rw e h

pub first_step : {A : Type 0} (test : A → Bool) (xs : List A) (i : ℕ) (x : A) (b : Bool) (old new : Option ℕ) → i < length xs → x ≡ get_or xs i x → b ≡ test x
    → old ≡ first_place test 0 (take i xs) → new ≡ (if is_some old then old else (if b then Some i else None)) → new ≡ first_place test 0 (take (i + 1) xs)
first_step {A} test xs i x b old new lt is same before now =
    let step : first_place test 0 (take (i + 1) xs) ≡ (if is_some (first_place test 0 (take i xs)) then first_place test 0 (take i xs) else (if test (get_or xs i x) then Some (0 + i) else None)) = rw add-one (first_more_from test 0 xs i x lt) in
    now ∙ rw (before, same ∙ ap test is) (sym (step ∙ ap (λ n. if is_some (first_place test 0 (take i xs)) then first_place test 0 (take i xs) else (if test (get_or xs i x) then Some n else None)) (zero-add i)))

-- what the narrowest test leaves

any_numbers : (test : RecipeFacts → Bool) (k : ℕ) (xs : List RecipeFacts) → list_any test xs ≡ is_some (only_of (numbers_from test k xs))
any_numbers test k [] = refl
any_numbers test k (x ∷ xs) = by_test (test x) refl (any_numbers test (k + 1) xs)
  where
    some : (n : ℕ) (ns : List ℕ) → true ≡ is_some (only_of (n ∷ ns))
    some n [] = refl
    some n (m ∷ ns) = refl

    by_test : (b : Bool) → test x ≡ b → list_any test xs ≡ is_some (only_of (numbers_from test (k + 1) xs)) → list_any test (x ∷ xs) ≡ is_some (only_of (numbers_from test k (x ∷ xs)))
    by_test true e later = rw e (some k (numbers_from test (k + 1) xs))
    by_test false e later = rw e later

only_narrowed : (xs : List RecipeFacts) (narrow wide : RecipeFacts → Bool) → only_of (numbers_from (narrowed xs narrow wide) 0 xs)
    ≡ (if is_some (only_of (numbers_from narrow 0 xs)) then only_of (numbers_from narrow 0 xs) else only_of (numbers_from wide 0 xs))
only_narrowed xs narrow wide = by_any (list_any narrow xs) refl (any_numbers narrow 0 xs)
  where
    by_any : (b : Bool) → list_any narrow xs ≡ b → list_any narrow xs ≡ is_some (only_of (numbers_from narrow 0 xs)) → only_of (numbers_from (narrowed xs narrow wide) 0 xs)
        ≡ (if is_some (only_of (numbers_from narrow 0 xs)) then only_of (numbers_from narrow 0 xs) else only_of (numbers_from wide 0 xs))
    by_any true e f = let some : is_some (only_of (numbers_from narrow 0 xs)) ≡ true = sym f ∙ e in rw (e, some) refl
    by_any false e f = let none : is_some (only_of (numbers_from narrow 0 xs)) ≡ false = sym f ∙ e in rw (e, none) refl

single : (ns : List ℕ) (pns : List (List ℕ)) → result_ok (the_only ns pns) ≡ number_in (only_of ns)
single [] pns = refl
single (n ∷ []) pns = refl
single (n ∷ (m ∷ ns)) pns = refl

pub answer_narrow : (xs : List RecipeFacts) (narrow wide : RecipeFacts → Bool) (o : Only) → only_of (numbers_from narrow 0 xs) ≡ Some o → result_ok (only_one xs (narrowed xs narrow wide)) ≡ number_in (Some o)
answer_narrow xs narrow wide o e =
    let is : only_of (numbers_from (narrowed xs narrow wide) 0 xs) ≡ Some o = only_narrowed xs narrow wide ∙ rw e refl in
    single (numbers_from (narrowed xs narrow wide) 0 xs) _ ∙ ap number_in is

pub answer_wide : (xs : List RecipeFacts) (narrow wide : RecipeFacts → Bool) → only_of (numbers_from narrow 0 xs) ≡ None → result_ok (only_one xs (narrowed xs narrow wide)) ≡ number_in (only_of (numbers_from wide 0 xs))
answer_wide xs narrow wide e =
    let is : only_of (numbers_from (narrowed xs narrow wide) 0 xs) ≡ only_of (numbers_from wide 0 xs) = only_narrowed xs narrow wide ∙ rw e refl in
    single (numbers_from (narrowed xs narrow wide) 0 xs) _ ∙ ap number_in is

pub answer_middle : (xs : List RecipeFacts) (narrow middle wide : RecipeFacts → Bool) (o : Only) → only_of (numbers_from narrow 0 xs) ≡ None → only_of (numbers_from middle 0 xs) ≡ Some o
    → result_ok (only_one xs (narrowed xs narrow (narrowed xs middle wide))) ≡ number_in (Some o)
answer_middle xs narrow middle wide o e f =
    let is : only_of (numbers_from (narrowed xs middle wide) 0 xs) ≡ Some o = only_narrowed xs middle wide ∙ rw f refl in
    answer_wide xs narrow (narrowed xs middle wide) e ∙ ap number_in is

pub answer_widest : (xs : List RecipeFacts) (narrow middle wide : RecipeFacts → Bool) → only_of (numbers_from narrow 0 xs) ≡ None → only_of (numbers_from middle 0 xs) ≡ None
    → result_ok (only_one xs (narrowed xs narrow (narrowed xs middle wide))) ≡ number_in (only_of (numbers_from wide 0 xs))
answer_widest xs narrow middle wide e f =
    let is : only_of (numbers_from (narrowed xs middle wide) 0 xs) ≡ only_of (numbers_from wide 0 xs) = only_narrowed xs middle wide ∙ rw f refl in
    answer_wide xs narrow (narrowed xs middle wide) e ∙ ap number_in is

-- the first preference for a name

pub first_none : (q : List ℕ) (k : ℕ) (ps : List (List ℕ × List ℕ)) → first_place (λ p. bytes_eq p.0 q) k ps ≡ None → lookup (bytes_eq q) ps ≡ None
first_none q k [] e = refl
first_none q k (p ∷ ps) e = by_test (bytes_eq p.0 q) refl (first_none q (suc k) ps)
  where
    by_test : (b : Bool) → bytes_eq p.0 q ≡ b → (first_place (λ p. bytes_eq p.0 q) (suc k) ps ≡ None → lookup (bytes_eq q) ps ≡ None) → lookup (bytes_eq q) (p ∷ ps) ≡ None
    by_test true t later = absurd (let f : Some k ≡ None = rw t at e in cc)
    by_test false t later = let flip : bytes_eq q p.0 ≡ false = nat_list_eq_equiv.symm q p.0 ∙ t in rw flip (later (rw t at e))

pub first_some : (q : List ℕ) (k i : ℕ) (ps : List (List ℕ × List ℕ)) → first_place (λ p. bytes_eq p.0 q) k ps ≡ Some i → (k ≤ i) × (lookup (bytes_eq q) ps ≡ option_map (λ p. p.1) (slice_get ps (i - k)))
first_some q k i [] e = absurd cc
first_some q k i (p ∷ ps) e = by_test (bytes_eq p.0 q) refl (first_some q (suc k) i ps)
  where
    at_suc : (m : ℕ) → m ≡ suc (i - suc k) → option_map (λ p. p.1) (slice_get (p ∷ ps) m) ≡ option_map (λ p. p.1) (slice_get ps (i - suc k))
    at_suc m is = rw is refl

    by_test : (b : Bool) → bytes_eq p.0 q ≡ b → (first_place (λ p. bytes_eq p.0 q) (suc k) ps ≡ Some i → (suc k ≤ i) × (lookup (bytes_eq q) ps ≡ option_map (λ p. p.1) (slice_get ps (i - suc k))))
        → (k ≤ i) × (lookup (bytes_eq q) (p ∷ ps) ≡ option_map (λ p. p.1) (slice_get (p ∷ ps) (i - k)))
    by_test true t later =
        let f : Some k ≡ Some i = rw t at e in
        let same : k ≡ i = cc in
        let place : i - k ≡ 0 = omega (arith, same) in
        let flip : bytes_eq q p.0 ≡ true = nat_list_eq_equiv.symm q p.0 ∙ t in
        (omega (arith, same), rw (flip, place) refl)
    by_test false t later =
        let found = later (rw t at e) in
        let flip : bytes_eq q p.0 ≡ false = nat_list_eq_equiv.symm q p.0 ∙ t in
        (omega (arith, found.0), rw flip (found.1 ∙ sym (at_suc (i - k) (omega (arith, found.0)))))
