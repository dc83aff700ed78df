-- Which paths patterns name.
use Rattle.std.proofs.Common.{◌≡◌, refl, sym, ◌∙◌, ap, subst, ℕ, ◌+◌, ◌<◌, List, [], ◌∷◌, ◌++◌, length, take, get_or, filter, filter_map, Bool, true, false, ◌&&◌, ◌||◌, Option, Some, None, bytes_eq, append-nil}
use Rattle.std.specs.Option.{option_to_list, option_map_or}
use Rattle.std.specs.List.{fold, list_any, cons_option}
use Rattle.std.proofs.lemmas.List.{take_more}
use Rattle.std.proofs.lemmas.List.Elements.{filter-append, filter_map-append}
use Rattle.std.proofs.lemmas.List.Sums.{fold-append}
use Rattle.meta_model.proofs.Bools.{same_text}
use Rattle.meta_model.specs.Text.{is_in, into_order, in_byte_order}
use Rattle.meta_model.specs.Ascending.{Ascending}
use Rattle.meta_model.proofs.Ordered.{ascending_same, into_ascending, into_in, ordered_ascending, ordered_in}
use Rattle.load_model.specs.Paths.{path_named, has_ending}
use Rattle.load_model.specs.Patterns.{matches, names_path}
use Rattle.load_model.specs.Layers.{named_files}
use Rattle.layer_conf.specs.Globs.{matches_any, is_wanted}

-- patterns that are named once

one_named : (o : Option (List ℕ)) (path : List ℕ) (rest : List (List ℕ)) (later : Bool) → list_any (λ glob. matches glob path) rest ≡ later → list_any (λ glob. matches glob path) (option_to_list o ++ rest) ≡ (option_map_or (λ glob. matches glob path) o false || later)
one_named None path rest later h = h
one_named (Some glob) path rest later h = ap (λ b. matches glob path || b) h

consed : {B : Type 0} (o : Option B) (ys : List B) → cons_option o ys ≡ option_to_list o ++ ys
consed None ys = refl
consed (Some y) ys = refl

first_named : {A B : Type 0} (f : A → Option B) (x : A) (xs : List A) → filter_map f (x ∷ xs) ≡ option_to_list (f x) ++ filter_map f xs
first_named f x xs = consed (f x) (filter_map f xs)

any_named : (words : List (List ℕ)) (path : List ℕ) → matches_any (filter_map path_named words) path ≡ list_any (λ word. names_path word path) words
any_named [] path = refl
any_named (word ∷ words) path = ap (λ l. matches_any l path) (first_named path_named word words) ∙ one_named (path_named word) path (filter_map path_named words) (list_any (λ w. names_path w path) words) (any_named words path)

-- one more word
pub globs_more : (words made made' : List (List ℕ)) (i : ℕ) (word : List ℕ) → word ≡ get_or words i word → i < length words → made ≡ filter_map path_named (take i words) → made' ≡ made ++ option_to_list (path_named word) → made' ≡ filter_map path_named (take (i + 1) words)
globs_more words made made' i word is lt h e =
    e ∙ ap (λ l. l ++ option_to_list (path_named word)) h
    ∙ ap (λ l. filter_map path_named (take i words) ++ l) (sym (first_named path_named word [] ∙ append-nil (option_to_list (path_named word))))
    ∙ sym (ap (filter_map path_named) (take_more words i word lt ∙ ap (λ y. take i words ++ y ∷ []) (sym is)) ∙ filter_map-append path_named (take i words) (word ∷ []))

filter_same : (p q : List ℕ → Bool) (xs : List (List ℕ)) → ((x : List ℕ) → p x ≡ q x) → filter p xs ≡ filter q xs
filter_same p q [] h = refl
filter_same p q (x ∷ xs) h = rw (h x, filter_same p q xs h) refl

-- the wanted ones in byte order are those that the words name
pub named_are : (globs words paths : List (List ℕ)) (ending : List ℕ) → globs ≡ filter_map path_named words → in_byte_order (filter (is_wanted globs ending) paths) ≡ named_files words ending paths
named_are globs words paths ending e =
    ap in_byte_order (filter_same (is_wanted globs ending) (λ path. has_ending ending path && list_any (λ word. names_path word path) words) paths
    (λ path. ap (λ g. has_ending ending path && matches_any g path) e ∙ ap (λ b. has_ending ending path && b) (any_named words path)))

-- one more path
pub wanted_next : (test : List ℕ → Bool) (paths : List (List ℕ)) (i : ℕ) (path : List ℕ) (old new : List (List ℕ)) → path ≡ get_or paths i path → i < length paths → old ≡ in_byte_order (filter test (take i paths)) → new ≡ fold into_order old (filter test (path ∷ [])) → new ≡ in_byte_order (filter test (take (i + 1) paths))
wanted_next test paths i path old new is lt h e =
    e ∙ ap (λ l. fold into_order l (filter test (path ∷ []))) h
    ∙ sym (fold-append into_order [] (filter test (take i paths)) (filter test (path ∷ [])))
    ∙ ap in_byte_order (sym (ap (filter test) (take_more paths i path lt ∙ ap (λ y. take i paths ++ y ∷ []) (sym is)) ∙ filter-append test (take i paths) (path ∷ [])))

-- paths in byte order stay so in byte order

ordered_twice : (xs : List (List ℕ)) → in_byte_order (in_byte_order xs) ≡ in_byte_order xs
ordered_twice xs = ascending_same (in_byte_order (in_byte_order xs)) (in_byte_order xs) (ordered_ascending (in_byte_order xs)) (ordered_ascending xs) (λ t. ordered_in (in_byte_order xs) t)

pub stays_ordered : (xs ys : List (List ℕ)) → xs ≡ in_byte_order ys → in_byte_order xs ≡ xs
stays_ordered xs ys e = ap in_byte_order e ∙ ordered_twice ys ∙ sym e

-- a path that is there already
pub into_there : (path : List ℕ) (paths : List (List ℕ)) → in_byte_order paths ≡ paths → is_in path paths ≡ true → paths ≡ into_order paths path
into_there path paths ordered there =
    let ascends : Ascending paths = subst Ascending ordered (ordered_ascending paths) in
    ascending_same paths (into_order paths path) ascends (into_ascending paths path ascends) (λ t. one t (bytes_eq t path) refl ∙ sym (into_in paths path t))
  where
    one : (t : List ℕ) (b : Bool) → bytes_eq t path ≡ b → is_in t paths ≡ (bytes_eq t path || is_in t paths)
    one t true e = ap (λ n. is_in n paths) (same_text t path e) ∙ there ∙ sym (ap (λ b. b || is_in t paths) e)
    one t false e = sym (ap (λ b. b || is_in t paths) e)
