-- The providers of names, one name after another.
use Rattle.std.proofs.Common.{◌≡◌, sym, ◌∙◌, ap, subst, refl, arith, ℕ, zero, suc, ◌+◌, ◌<◌, Bool, true, false, not, ◌||◌, List, [], ◌∷◌, ◌++◌, length, take, get_or, filter, Option, Some, None, Result, Ok, Err, append_assoc, append-nil, ◌⊎◌, inl, inr, slice_get, cond}
use Rattle.std.specs.Prelude.{option_to_list, is_ok}
use Rattle.std.specs.Option.{is_none}
use Rattle.std.specs.List.{filter_map, flat_map}
use Rattle.std.specs.Result.{result_ok}
use Rattle.std.proofs.lemmas.Bool.{cases_eq}
use Rattle.std.proofs.lemmas.List.{take_more}
use Rattle.std.proofs.lemmas.List.Elements.{filter_map-append, filter_more}
use Rattle.std.proofs.lemmas.List.Folds.{list_any-append}
use Rattle.std.proofs.lemmas.Option.{slice_get-get_or}
use Rattle.meta_model.specs.declared.facts.FactSet.{FactSet}
use Rattle.meta_model.specs.declared.facts.RecipeFacts.{RecipeFacts}
use Rattle.task_graph.specs.declared.needed.Needed.{Needed}
use Rattle.task_graph.specs.declared.needed.Resolved.{Resolved}
use Rattle.task_graph.specs.Needed.{resolved, lacks_provider, IsNeeded, IsResolved}
use Rattle.graph_walk.proofs.Finding.{place_within, slice_last, slice_push}

one_found : {A : Type 0} (f : A → Option ℕ) (x : A) → filter_map f (x ∷ []) ≡ option_to_list (f x)
one_found f x = by_case (f x) refl
  where
    by_case : (o : Option ℕ) → f x ≡ o → filter_map f (x ∷ []) ≡ option_to_list (f x)
    by_case (Some n) e = rw e refl
    by_case None e = rw e refl

none_of : (r : Result ℕ (List (List ℕ))) → is_none (result_ok r) ≡ not (is_ok r)
none_of (Ok n) = refl
none_of (Err pns) = refl

or_false : (b : Bool) → (b || false) ≡ b
or_false true = refl
or_false false = refl

pub resolved_push : (provide : List ℕ → Result ℕ (List (List ℕ))) (names : List (List ℕ)) (name : List ℕ) → resolved provide (names ++ name ∷ []) ≡ resolved provide names ++ option_to_list (result_ok (provide name))
resolved_push provide names name = filter_map-append (λ n. result_ok (provide n)) names (name ∷ []) ∙ ap (λ l. resolved provide names ++ l) (one_found (λ n. result_ok (provide n)) name)

pub lacks_push : (provide : List ℕ → Result ℕ (List (List ℕ))) (names : List (List ℕ)) (name : List ℕ) → lacks_provider provide (names ++ name ∷ []) ≡ (lacks_provider provide names || is_none (result_ok (provide name)))
lacks_push provide names name = list_any-append (λ n. not (is_ok (provide n))) names (name ∷ []) ∙ ap (λ b. lacks_provider provide names || b) (or_false (not (is_ok (provide name))) ∙ sym (none_of (provide name)))

-- a loop's step
pub resolved_more : (provide : List ℕ → Result ℕ (List (List ℕ))) (names : List (List ℕ)) (i : ℕ) (name : List ℕ) (start mid new : List ℕ) (answer : Option ℕ) → i < length names → name ≡ get_or names i name → answer ≡ result_ok (provide name)
    → mid ≡ start ++ resolved provide (take i names) → new ≡ mid ++ option_to_list answer → new ≡ start ++ resolved provide (take (i + 1) names)
resolved_more provide names i name start mid new answer lt is told before now =
    let front : take (i + 1) names ≡ take i names ++ name ∷ [] = take_more names i name lt ∙ ap (λ n. take i names ++ n ∷ []) (sym is) in
    now ∙ rw (before, told, front, resolved_push provide (take i names) name) (append_assoc start (resolved provide (take i names)) (option_to_list (result_ok (provide name))))

or_assoc : (a b d : Bool) → ((a || b) || d) ≡ (a || (b || d))
or_assoc true b d = refl
or_assoc false b d = refl

pub lacks_more : (provide : List ℕ → Result ℕ (List (List ℕ))) (names : List (List ℕ)) (i : ℕ) (name : List ℕ) (start mid new : Bool) (answer : Option ℕ) → i < length names → name ≡ get_or names i name → answer ≡ result_ok (provide name)
    → mid ≡ (start || lacks_provider provide (take i names)) → new ≡ (mid || is_none answer) → new ≡ (start || lacks_provider provide (take (i + 1) names))
lacks_more provide names i name start mid new answer lt is told before now =
    let front : take (i + 1) names ≡ take i names ++ name ∷ [] = take_more names i name lt ∙ ap (λ n. take i names ++ n ∷ []) (sym is) in
    now ∙ rw (before, told, front, lacks_push provide (take i names) name) (or_assoc start (lacks_provider provide (take i names)) (is_none (result_ok (provide name))))

-- ... over the names that pass a test
pub filter_step : (test : List ℕ → Bool) (names : List (List ℕ)) (i : ℕ) (name : List ℕ) (b : Bool) → i < length names → name ≡ get_or names i name → test name ≡ b
    → filter test (take (i + 1) names) ≡ filter test (take i names) ++ cond b (name ∷ []) []
filter_step test names i name b lt is e = filter_more test names i name lt ∙ ap (λ n. filter test (take i names) ++ cond (test n) (n ∷ []) []) (sym is) ∙ ap (λ c. filter test (take i names) ++ cond c (name ∷ []) []) e

-- ... over lists of names
pub flat_step : {A B : Type 0} (f : A → List B) (xs : List A) (i : ℕ) (x : A) → i < length xs → x ≡ get_or xs i x → flat_map f (take (i + 1) xs) ≡ flat_map f (take i xs) ++ f x
flat_step f xs i x lt is = ap (flat_map f) (take_more xs i x lt ∙ ap (λ y. take i xs ++ y ∷ []) (sym is)) ∙ flat_append (take i xs)
  where
    flat_append : (ys : List _) → flat_map f (ys ++ x ∷ []) ≡ flat_map f ys ++ f x
    flat_append [] = append-nil (f x)
    flat_append (y ∷ ys) = ap (λ l. f y ++ l) (flat_append ys) ∙ sym (append_assoc (f y) (flat_map f ys) (f x))

pub resolved_append : (provide : List ℕ → Result ℕ (List (List ℕ))) (xs ys : List (List ℕ)) → resolved provide (xs ++ ys) ≡ resolved provide xs ++ resolved provide ys
resolved_append provide xs ys = filter_map-append (λ n. result_ok (provide n)) xs ys

pub lacks_append : (provide : List ℕ → Result ℕ (List (List ℕ))) (xs ys : List (List ℕ)) → lacks_provider provide (xs ++ ys) ≡ (lacks_provider provide xs || lacks_provider provide ys)
lacks_append provide xs ys = list_any-append (λ n. not (is_ok (provide n))) xs ys

same_some : {A : Type 0} (x y : A) → Some x ≡ Some y → x ≡ y
same_some x y e = cc

-- one more recipe
pub needed_more : (facts : FactSet) (ys : List RecipeFacts) (all next : List Needed) (i : ℕ) (x : RecipeFacts) (made : Needed) → ys ≡ facts.recipes → i < length ys → x ≡ get_or ys i x → length all ≡ i → next ≡ all ++ made ∷ [] → IsNeeded facts x made
    → ((r : ℕ) (recipe : RecipeFacts) (needed : Needed) → slice_get facts.recipes r ≡ Some recipe → slice_get all r ≡ Some needed → IsNeeded facts recipe needed)
    → (r : ℕ) (recipe : RecipeFacts) (needed : Needed) → slice_get facts.recipes r ≡ Some recipe → slice_get next r ≡ Some needed → IsNeeded facts recipe needed
needed_more facts ys all next i x made same lt is long grown now before r recipe needed at got = by_place (cases_eq r i)
  where
    there : {A : Type 0} (xs : List A) (k : ℕ) → k < length xs → (y : A) × (slice_get xs k ≡ Some y)
    there [] k lt = absurd (omega (arith, lt))
    there (y ∷ ys) zero lt = (y, refl)
    there (y ∷ ys) (suc k) lt = there ys k (omega (arith, lt))

    len_push : {A : Type 0} (xs : List A) (y : A) → length (xs ++ y ∷ []) ≡ length xs + 1
    len_push [] y = refl
    len_push (z ∷ zs) y = let e = len_push zs y in omega (arith, e)

    by_place : (r ≡ i) ⊎ (r ≡ i → ⊥) → IsNeeded facts recipe needed
    by_place (inl last) =
        let read : Some x ≡ Some recipe = sym (slice_get-get_or facts.recipes i x (subst (λ (l : List RecipeFacts). i < length l) same lt) ∙ ap Some (sym (is ∙ ap (λ (l : List RecipeFacts). get_or l i x) same))) ∙ ap (slice_get facts.recipes) (sym last) ∙ at in
        let one : x ≡ recipe = same_some x recipe read in
        let read2 : Some made ≡ Some needed = sym (ap (λ (l : List Needed). slice_get l r) grown ∙ ap (slice_get (all ++ made ∷ [])) (last ∙ sym long) ∙ slice_last all made) ∙ got in
        let two : made ≡ needed = same_some made needed read2 in
        subst (IsNeeded facts recipe) two (subst (λ y. IsNeeded facts y made) one now)
    by_place (inr other) =
        let within : r < length all = omega (arith, place_within next r needed got, ap (length {A = Needed}) grown, len_push all made, long, other) in
        let old = there all r within in
        let read : Some old.0 ≡ Some needed = sym (ap (λ (l : List Needed). slice_get l r) grown ∙ slice_push all made old.0 r old.1) ∙ got in
        let one : old.0 ≡ needed = same_some old.0 needed read in
        before r recipe needed at (old.1 ∙ ap Some one)

-- a loop's step over the names that pass a test
pub filter_kept : (provide : List ℕ → Result ℕ (List (List ℕ))) (test : List ℕ → Bool) (names : List (List ℕ)) (i : ℕ) (name : List ℕ) (mid added new : Resolved) (answer : Option ℕ) → i < length names → name ≡ get_or names i name → test name ≡ true → answer ≡ result_ok (provide name)
    → IsResolved provide (filter test (take i names)) mid → added.found.items ≡ mid.found.items ++ option_to_list answer → added.lacks ≡ (mid.lacks || is_none answer) → new ≡ added → IsResolved provide (filter test (take (i + 1) names)) new
filter_kept provide test names i name mid added new answer lt is passes told before found lacks same =
    let step : filter test (take (i + 1) names) ≡ filter test (take i names) ++ name ∷ [] = filter_step test names i name true lt is passes in
    subst (λ (r : Resolved). IsResolved provide (filter test (take (i + 1) names)) r) (sym same) (record {
      found = found ∙ rw (before.found, told) (sym (ap (resolved provide) step ∙ resolved_push provide (filter test (take i names)) name));
      lacks = lacks ∙ rw (before.lacks, told) (sym (ap (lacks_provider provide) step ∙ lacks_push provide (filter test (take i names)) name));
    })

pub filter_dropped : (provide : List ℕ → Result ℕ (List (List ℕ))) (test : List ℕ → Bool) (names : List (List ℕ)) (i : ℕ) (name : List ℕ) (mid new : Resolved) → i < length names → name ≡ get_or names i name → test name ≡ false
    → IsResolved provide (filter test (take i names)) mid → new ≡ mid → IsResolved provide (filter test (take (i + 1) names)) new
filter_dropped provide test names i name mid new lt is fails before same =
    let step : filter test (take (i + 1) names) ≡ filter test (take i names) = filter_step test names i name false lt is fails ∙ append-nil (filter test (take i names)) in
    subst (λ (r : Resolved). IsResolved provide (filter test (take (i + 1) names)) r) (sym same) (subst (λ (l : List (List ℕ)). IsResolved provide l mid) (sym step) before)

-- a loop's step that puts what each element stands for behind others
pub mapped_more : {A : Type 0} (f : A → Option ℕ) (xs : List A) (i : ℕ) (x : A) (start mid new : List ℕ) (answer : Option ℕ) → i < length xs → x ≡ get_or xs i x → answer ≡ f x
    → mid ≡ start ++ filter_map f (take i xs) → new ≡ mid ++ option_to_list answer → new ≡ start ++ filter_map f (take (i + 1) xs)
mapped_more f xs i x start mid new answer lt is told before now =
    let front : take (i + 1) xs ≡ take i xs ++ x ∷ [] = take_more xs i x lt ∙ ap (λ y. take i xs ++ y ∷ []) (sym is) in
    let step : filter_map f (take i xs ++ x ∷ []) ≡ filter_map f (take i xs) ++ option_to_list (f x) = filter_map-append f (take i xs) (x ∷ []) ∙ ap (λ l. filter_map f (take i xs) ++ l) (one_found f x) in
    now ∙ rw (before, told, front, step) (append_assoc start (filter_map f (take i xs)) (option_to_list (f x)))

pub joined_more : {A : Type 0} (f : A → List ℕ) (xs : List A) (i : ℕ) (x read : A) (start mid new : List ℕ) → i < length xs → x ≡ get_or xs i x → read ≡ x
    → mid ≡ start ++ flat_map f (take i xs) → new ≡ mid ++ f read → new ≡ start ++ flat_map f (take (i + 1) xs)
joined_more f xs i x read start mid new lt is same before now =
    now ∙ rw (before, same, flat_step f xs i x lt is) (append_assoc start (flat_map f (take i xs)) (f x))
