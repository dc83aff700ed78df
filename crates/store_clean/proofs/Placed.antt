-- The places of names.
use Rattle.std.proofs.Common.{◌≡◌, ◌∙◌, sym, ap, refl, subst, ℕ, zero, suc, ◌+◌, ◌<◌, Bool, true, false, List, [], ◌∷◌, ◌++◌, length, get_or, take, Option, None, Some}
use Rattle.std.specs.Prelude.{slice_get, if◌then◌else◌}
use Rattle.std.specs.Map.{lookup}
use Rattle.std.specs.Option.{option_map, option_or}
use Rattle.std.specs.Str.{bytes_eq}
use Rattle.std.proofs.lemmas.List.{take_more}
use Rattle.tree_model.specs.declared.hash.Hash.{Hash}
use Rattle.store_model.specs.Rows.{hash_eq}
use Rattle.store_model.proofs.Listing.{hash_itself, hash_same}
use Rattle.store_clean.specs.Naming.{place_in}

-- one name more
pub place_push : (names : List Hash) (name q : Hash) → place_in (names ++ name ∷ []) q ≡ option_or (place_in names q) (if hash_eq name q then Some (length names) else None)
place_push [] name q = refl
place_push (first ∷ names) name q = by (place_push names name q) (hash_eq first q) refl
  where
    further : (o : Option ℕ) (b : Bool) → option_map suc (option_or o (if b then Some (length names) else None)) ≡ option_or (option_map suc o) (if b then Some (suc (length names)) else None)
    further (Some k) b = refl
    further None true = refl
    further None false = refl

    by : place_in (names ++ name ∷ []) q ≡ option_or (place_in names q) (if hash_eq name q then Some (length names) else None) → (b : Bool) → hash_eq first q ≡ b → place_in (first ∷ (names ++ name ∷ [])) q ≡ option_or (place_in (first ∷ names) q) (if hash_eq name q then Some (suc (length names)) else None)
    by more true e = rw e refl
    by more false e = rw e (ap (option_map suc) more ∙ further (place_in names q) (hash_eq name q))

-- a place has the name
pub place_found : (names : List Hash) (q : Hash) (k : ℕ) → place_in names q ≡ Some k → slice_get names k ≡ Some q
place_found [] q k e = absurd (let none : None ≡ Some k = e in cc)
place_found (first ∷ names) q k e = by (λ j found. place_found names q j found) (hash_eq first q) refl e
  where
    next : ((j : ℕ) → place_in names q ≡ Some j → slice_get names j ≡ Some q) → (o : Option ℕ) → place_in names q ≡ o → option_map suc o ≡ Some k → slice_get (first ∷ names) k ≡ Some q
    next more None none f = absurd (let no : None ≡ Some k = f in cc)
    next more (Some j) found f =
        let one : suc j ≡ k = cc in
        subst (λ n. slice_get (first ∷ names) n ≡ Some q) one (more j found)

    by : ((j : ℕ) → place_in names q ≡ Some j → slice_get names j ≡ Some q) → (b : Bool) → hash_eq first q ≡ b → (if hash_eq first q then Some 0 else option_map suc (place_in names q)) ≡ Some k → slice_get (first ∷ names) k ≡ Some q
    by more true t f =
        let zero_is : Some 0 ≡ Some k = sym (ap (λ (b : Bool). if b then Some 0 else option_map suc (place_in names q)) t) ∙ f in
        let one : 0 ≡ k = cc in
        subst (λ n. slice_get (first ∷ names) n ≡ Some q) one (ap (λ (h : Hash). Some h) (hash_same first q t))
    by more false t f = next more (place_in names q) refl (sym (ap (λ (b : Bool). if b then Some 0 else option_map suc (place_in names q)) t) ∙ f)

-- a name that stands somewhere has a place
pub place_there : (names : List Hash) (q : Hash) (k : ℕ) → slice_get names k ≡ Some q → (j : ℕ) × (place_in names q ≡ Some j)
place_there [] q k e = absurd cc
place_there (first ∷ names) q k e = by (λ n at. place_there names q n at) (hash_eq first q) refl k e
  where
    at : (b : Bool) → hash_eq first q ≡ b → place_in (first ∷ names) q ≡ (if b then Some 0 else option_map suc (place_in names q))
    at b t = ap (λ (c : Bool). if c then Some 0 else option_map suc (place_in names q)) t

    by : ((n : ℕ) → slice_get names n ≡ Some q → (j : ℕ) × (place_in names q ≡ Some j)) → (b : Bool) → hash_eq first q ≡ b → (n : ℕ) → slice_get (first ∷ names) n ≡ Some q → (j : ℕ) × (place_in (first ∷ names) q ≡ Some j)
    by more true t n f = (0, at true t)
    by more false t zero f =
        let same : first ≡ q = cc in
        let no : true ≡ false = sym (hash_itself first q same) ∙ t in absurd cc
    by more false t (suc n) f =
        let w = more n f in
        (suc w.0, at false t ∙ ap (option_map suc) w.1)

-- where names differ, a name's place is the one at which it stands
pub place_is : (names : List Hash) → ((v w : ℕ) (a : Hash) → slice_get names v ≡ Some a → slice_get names w ≡ Some a → v ≡ w) → (q : Hash) (k : ℕ) → slice_get names k ≡ Some q → place_in names q ≡ Some k
place_is names differ q k e =
    let w = place_there names q k e in
    w.1 ∙ ap (λ n. Some n) (differ w.0 k q (place_found names q w.0 w.1) e)

-- a table of the first names, and one more
pub table_more : (names : List Hash) (n : ℕ) (name : Hash) (entries new : List (List ℕ × ℕ)) → n < length names → name ≡ get_or names n name → length (take n names) ≡ n
    → ((q : Hash) → lookup (bytes_eq q.bytes) entries ≡ place_in (take n names) q)
    → ((q : Hash) → lookup (bytes_eq q.bytes) new ≡ option_or (lookup (bytes_eq q.bytes) entries) (if hash_eq name q then Some n else None))
    → (q : Hash) → lookup (bytes_eq q.bytes) new ≡ place_in (take (n + 1) names) q
table_more names n name entries new lt is long was puts q =
    let more : take (n + 1) names ≡ take n names ++ name ∷ [] = take_more names n name lt ∙ ap (λ z. take n names ++ z ∷ []) (sym is) in
    puts q ∙ ap (λ o. option_or o (if hash_eq name q then Some n else None)) (was q) ∙ ap (λ m. option_or (place_in (take n names) q) (if hash_eq name q then Some m else None)) (sym long) ∙ sym (place_push (take n names) name q) ∙ ap (λ l. place_in l q) (sym more)
