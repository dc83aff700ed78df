-- What maps from names keep of numbers.
use Rattle.std.proofs.Common.{◌≡◌, sym, ◌∙◌, ap, refl, arith, ℕ, ◌+◌, ◌<◌, Bool, true, false, ◌||◌, List, length, take, get_or, Option, Some, None, is_some, if◌then◌else◌, bytes_eq, nat_eq}
use Rattle.std.specs.List.{list_any}
use Rattle.std.specs.Map.{update}
use Rattle.std.specs.Cmp.Lexicographic.{bytes_decides, nat_list_eq_equiv}
use Rattle.std.proofs.lemmas.List.Folds.{list_any_more}
use Rattle.meta_model.specs.Text.{is_in}
use Rattle.task_graph.specs.declared.only.Only.{Only}
use Rattle.task_graph.specs.declared.only.Only.TheVariants.{One, Several}
use Rattle.task_graph.specs.Only.{with_number}

pub noted : (name : List ℕ) (old new : List ℕ → Option Only) (next : Only) (n : ℕ) → ((q : List ℕ) → new q ≡ update bytes_eq old name (Some next) q) → Some next ≡ with_number (old name) n
    → (q : List ℕ) → new q ≡ (if bytes_eq name q then with_number (old q) n else old q)
noted name old new next n changed is q = changed q ∙ by_same (bytes_eq name q) refl
  where
    by_same : (b : Bool) → bytes_eq name q ≡ b → update bytes_eq old name (Some next) q ≡ (if bytes_eq name q then with_number (old q) n else old q)
    by_same true e = rw e (is ∙ ap (λ k. with_number (old k) n) ((bytes_decides name q).0 e))
    by_same false e = rw e refl

pub noted_first : (name : List ℕ) (old new : List ℕ → Option ℕ) (place : ℕ) → ((q : List ℕ) → new q ≡ update bytes_eq old name (Some place) q) → old name ≡ None
    → (q : List ℕ) → new q ≡ (if is_some (old q) then old q else (if bytes_eq name q then Some place else None))
noted_first name old new place changed is q = changed q ∙ by_same (bytes_eq name q) refl
  where
    kept : (o : Option ℕ) → o ≡ (if is_some o then o else None)
    kept None = refl
    kept (Some x) = refl

    by_same : (b : Bool) → bytes_eq name q ≡ b → update bytes_eq old name (Some place) q ≡ (if is_some (old q) then old q else (if bytes_eq name q then Some place else None))
    by_same true e = let none : old q ≡ None = ap old (sym ((bytes_decides name q).0 e)) ∙ is in rw (e, none) refl
    by_same false e = rw e (kept (old q))

-- the same number again changes nothing
pub same_again : (o : Option Only) (n : ℕ) → with_number (with_number o n) n ≡ with_number o n
same_again None n = by_same (nat_eq n n) refl
  where
    by_same : (b : Bool) → nat_eq n n ≡ b → (if nat_eq n n then Some (One n) else Some Several) ≡ Some (One n)
    by_same true e = rw e refl
    by_same false e = grind arith
same_again (Some (One m)) n = by_same (nat_eq m n) refl
  where
    by_same : (b : Bool) → nat_eq m n ≡ b → with_number (with_number (Some (One m)) n) n ≡ with_number (Some (One m)) n
    by_same true e = rw (e, e) refl
    by_same false e = rw e refl
same_again (Some Several) n = refl

pub again : (a b : Bool) (o : Option Only) (n : ℕ) → (if b then with_number (if a then with_number o n else o) n else (if a then with_number o n else o)) ≡ (if a || b then with_number o n else o)
again true true o n = same_again o n
again true false o n = refl
again false true o n = refl
again false false o n = refl

pub noted_more : (names : List (List ℕ)) (i : ℕ) (name read q : List ℕ) (old mid new : Option Only) (n : ℕ) → i < length names → name ≡ get_or names i name → read ≡ name
    → mid ≡ (if is_in q (take i names) then with_number old n else old) → new ≡ (if bytes_eq read q then with_number mid n else mid)
    → new ≡ (if is_in q (take (i + 1) names) then with_number old n else old)
noted_more names i name read q old mid new n lt is same before now =
    let more : is_in q (take (i + 1) names) ≡ (is_in q (take i names) || bytes_eq q name) = list_any_more (bytes_eq q) names i name lt ∙ ap (λ k. is_in q (take i names) || bytes_eq q k) (sym is) in
    let flip : bytes_eq read q ≡ bytes_eq q name = ap (λ k. bytes_eq k q) same ∙ nat_list_eq_equiv.symm name q in
    now ∙ rw (flip, before, more) (again (is_in q (take i names)) (bytes_eq q name) old n)

-- the same over any elements, by a test
pub noted_elements : {A : Type 0} (test : A → Bool) (xs : List A) (i : ℕ) (x : A) (b : Bool) (old mid new : Option Only) (n : ℕ) → i < length xs → x ≡ get_or xs i x → b ≡ test x
    → mid ≡ (if list_any test (take i xs) then with_number old n else old) → new ≡ (if b then with_number mid n else mid) → new ≡ (if list_any test (take (i + 1) xs) then with_number old n else old)
noted_elements test xs i x b old mid new n lt is same before now =
    let more : list_any test (take (i + 1) xs) ≡ (list_any test (take i xs) || test x) = list_any_more test xs i x lt ∙ ap (λ y. list_any test (take i xs) || test y) (sym is) in
    now ∙ rw (same, before, more) (again (list_any test (take i xs)) (test x) old n)
