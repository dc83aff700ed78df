-- Appends by their names.
use Rattle.std.proofs.Common.{◌≡◌, refl, sym, ◌∙◌, ap, ℕ, ◌+◌, ◌<◌, List, [], ◌∷◌, ◌++◌, length, get_or, take, drop, filter, Bool, true, false, not, ◌&&◌, ◌||◌, cond, Option, Some, unwrap_or, bytes_eq, inl, inr, append-nil, Err}
use Rattle.std.specs.Map.{update}
use Rattle.std.specs.List.{list_any}
use Rattle.std.proofs.lemmas.List.{take_more}
use Rattle.std.proofs.lemmas.List.Folds.{list_any_more}
use Rattle.std.proofs.lemmas.List.Elements.{filter-append}
use Rattle.meta_model.proofs.Bools.{either_way, not_both, same_text, or_left, or_right}
use Rattle.load_model.specs.Recipes.{belongs, all_belong, dangling_append}
use Rattle.meta_model.specs.Passing.{behind}
use Rattle.meta_model.proofs.Passing.{next_of, behind_more}
use Rattle.recipe_set.specs.Stems.{recipe_stem, append_stem, is_open, is_named}

-- one more append for a name

put_here : (b : Bool) (w : List (List ℕ)) (f old a : List (List ℕ)) → (b ≡ true → w ≡ f ++ a) → cond b w f ≡ f ++ cond b a []
put_here true w f old a h = h refl
put_here false w f old a h = sym (append-nil f)

at_cond : (b : Bool) (w : List (List ℕ)) (o : Option (List (List ℕ))) → unwrap_or (cond b (Some w) o) [] ≡ cond b w (unwrap_or o [])
at_cond true w o = refl
at_cond false w o = refl

pub one_put : (f g : List ℕ → Option (List (List ℕ))) (k a : List ℕ) (w : List (List ℕ)) → ((q : List ℕ) → g q ≡ update bytes_eq f k (Some w) q) → w ≡ unwrap_or (f k) [] ++ a ∷ []
    → (t : List ℕ) → unwrap_or (g t) [] ≡ unwrap_or (f t) [] ++ cond (bytes_eq k t) (a ∷ []) []
one_put f g k a w u e t =
    ap (λ o. unwrap_or o []) (u t) ∙ at_cond (bytes_eq k t) w (f t)
    ∙ put_here (bytes_eq k t) w (unwrap_or (f t) []) [] (a ∷ []) (λ same. e ∙ ap (λ q. unwrap_or (f q) [] ++ a ∷ []) (same_text k t same))

-- one append for its own name alone
pub alone : (stem append t : List ℕ) → stem ≡ append_stem append → is_open append ≡ false → cond (bytes_eq stem t) (append ∷ []) [] ≡ filter (is_named t) (append ∷ [])
alone stem append t s o = rw (s, o) refl

pub none_named : (append t : List ℕ) → is_open append ≡ true → [] ≡ filter (is_named t) (append ∷ [])
none_named append t o = rw o refl

-- one more of a list that is filtered
pub filter_more : (test : List ℕ → Bool) (xs : List (List ℕ)) (i : ℕ) (x : List ℕ) → x ≡ get_or xs i x → i < length xs → filter test (take i xs) ++ filter test (x ∷ []) ≡ filter test (take (i + 1) xs)
filter_more test xs i x is lt = sym (ap (filter test) (take_more xs i x lt ∙ ap (λ y. take i xs ++ y ∷ []) (sym is)) ∙ filter-append test (take i xs) (x ∷ []))

-- where no append with `%` belongs to a recipe

named_one : (recipe a : List ℕ) → is_open a ≡ false → belongs recipe a ≡ is_named (recipe_stem recipe) a
named_one recipe a o = rw o refl

pub all_named : (recipe : List ℕ) (appends : List (List ℕ)) → list_any (belongs recipe) (filter is_open appends) ≡ false → filter (is_named (recipe_stem recipe)) appends ≡ filter (belongs recipe) appends
all_named recipe [] h = refl
all_named recipe (a ∷ appends) h = elim (either_way (is_open a)) [
  | inl o ↦
      let k : (belongs recipe a || list_any (belongs recipe) (filter is_open appends)) ≡ false = rw o at h in
      let away : belongs recipe a ≡ false = or_left (belongs recipe a) (list_any (belongs recipe) (filter is_open appends)) k in
      let later = all_named recipe appends (or_right (belongs recipe a) (list_any (belongs recipe) (filter is_open appends)) k) in
      two_away (is_named (recipe_stem recipe) a) (belongs recipe a) a (filter (is_named (recipe_stem recipe)) appends) (filter (belongs recipe) appends) (ap (λ b. not b && bytes_eq (append_stem a) (recipe_stem recipe)) o) away later
  | inr o ↦
      let k : list_any (belongs recipe) (filter is_open appends) ≡ false = rw o at h in
      one_test (is_named (recipe_stem recipe) a) (belongs recipe a) a (filter (is_named (recipe_stem recipe)) appends) (filter (belongs recipe) appends) (sym (named_one recipe a o)) (all_named recipe appends k)
]
  where
    two_away : (b c : Bool) (a : List ℕ) (xs ys : List (List ℕ)) → b ≡ false → c ≡ false → xs ≡ ys → cond b (a ∷ xs) xs ≡ cond c (a ∷ ys) ys
    two_away true c a xs ys e f g = not_both true refl e
    two_away false true a xs ys e f g = not_both true refl f
    two_away false false a xs ys e f g = g

    one_test : (b c : Bool) (a : List ℕ) (xs ys : List (List ℕ)) → b ≡ c → xs ≡ ys → cond b (a ∷ xs) xs ≡ cond c (a ∷ ys) ys
    one_test b c a xs ys e g = rw (e, g) refl

-- whether an append belongs to a recipe, by its name
pub named_any : (append : List ℕ) (recipes : List (List ℕ)) → is_open append ≡ false → list_any (λ path. bytes_eq (append_stem append) (recipe_stem path)) recipes ≡ list_any (λ path. belongs path append) recipes
named_any append [] o = refl
named_any append (r ∷ recipes) o = rw o (ap (λ b. bytes_eq (append_stem append) (recipe_stem r) || b) (named_any append recipes o))

-- appends that belong, one after another

belong_step : (recipes appends : List (List ℕ)) (a : List ℕ) → list_any (λ recipe. belongs recipe a) recipes ≡ true → all_belong recipes (a ∷ appends) ≡ behind (a ∷ []) (all_belong recipes appends)
belong_step recipes appends a h = rw h refl

pub belongs_on : (recipes appends : List (List ℕ)) (i : ℕ) (a : List ℕ) → a ≡ get_or appends i a → i < length appends → all_belong recipes appends ≡ behind (take i appends) (all_belong recipes (drop i appends)) → list_any (λ recipe. belongs recipe a) recipes ≡ true
    → all_belong recipes appends ≡ behind (take (i + 1) appends) (all_belong recipes (drop (i + 1) appends))
belongs_on recipes appends i a is lt w h =
    w ∙ ap (behind (take i appends)) (next_of (all_belong recipes) appends i a is lt ∙ belong_step recipes (drop (i + 1) appends) a h)
    ∙ behind_more (take i appends) (a ∷ []) (all_belong recipes (drop (i + 1) appends))
    ∙ ap (λ l. behind l (all_belong recipes (drop (i + 1) appends))) (sym (take_more appends i a lt ∙ ap (λ y. take i appends ++ y ∷ []) (sym is)))

dangles_step : (recipes appends : List (List ℕ)) (a : List ℕ) → list_any (λ recipe. belongs recipe a) recipes ≡ false → all_belong recipes (a ∷ appends) ≡ Err (dangling_append a)
dangles_step recipes appends a h = rw h refl

pub dangles : (recipes appends : List (List ℕ)) (i : ℕ) (a : List ℕ) → a ≡ get_or appends i a → i < length appends → all_belong recipes appends ≡ behind (take i appends) (all_belong recipes (drop i appends)) → list_any (λ recipe. belongs recipe a) recipes ≡ false
    → all_belong recipes appends ≡ Err (dangling_append a)
dangles recipes appends i a is lt w h = w ∙ ap (behind (take i appends)) (next_of (all_belong recipes) appends i a is lt ∙ dangles_step recipes (drop (i + 1) appends) a h)

or_turned : (a b : Bool) → (a || b) ≡ (b || a)
or_turned true true = refl
or_turned true false = refl
or_turned false true = refl
or_turned false false = refl

pub stem_more : (paths : List (List ℕ)) (i : ℕ) (x t : List ℕ) (set set' : Bool) → x ≡ get_or paths i x → i < length paths → set ≡ list_any (λ path. bytes_eq t (recipe_stem path)) (take i paths) → set' ≡ (bytes_eq t (recipe_stem x) || set)
    → set' ≡ list_any (λ path. bytes_eq t (recipe_stem path)) (take (i + 1) paths)
stem_more paths i x t set set' is lt h e =
    e ∙ ap (λ s. bytes_eq t (recipe_stem x) || s) h ∙ or_turned (bytes_eq t (recipe_stem x)) (list_any (λ path. bytes_eq t (recipe_stem path)) (take i paths))
    ∙ ap (λ y. list_any (λ path. bytes_eq t (recipe_stem path)) (take i paths) || bytes_eq t (recipe_stem y)) is
    ∙ sym (list_any_more (λ path. bytes_eq t (recipe_stem path)) paths i x lt)
