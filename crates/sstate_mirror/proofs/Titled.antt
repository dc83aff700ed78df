-- The wanted titles by their PNs.
use Rattle.std.proofs.Common.{◌≡◌, ◌∙◌, sym, ap, refl, ℕ, ◌+◌, ◌<◌, Bool, true, false, cond, ◌||◌, ◌&&◌, List, [], ◌∷◌, ◌++◌, append-nil, length, get_or, take, Option, Some, unwrap_or, bytes_eq, String, Global}
use Rattle.std.specs.List.{list_any}
use Rattle.std.specs.BTreeMap.{BTreeMap}
use Rattle.std.specs.Map.{update}
use Rattle.std.proofs.lemmas.List.{take_more}
use Rattle.std.proofs.lemmas.List.Folds.{list_any-append}
use Rattle.meta_model.proofs.Bools.{same_text}
use Rattle.sstate_mirror.specs.Titles.{AreTitles, is_task, tasks_of}
use Rattle.sstate_mirror.specs.Wanted.{Titles}

abbrev Tasks : Type 0
Tasks = List (List ℕ)

put_here : (b : Bool) (w f a : Tasks) → (b ≡ true → w ≡ f ++ a) → cond b w f ≡ f ++ cond b a []
put_here true w f a h = h refl
put_here false w f a h = sym (append-nil f)

at_cond : (b : Bool) (w : Tasks) (o : Option Tasks) → unwrap_or (cond b (Some w) o) [] ≡ cond b w (unwrap_or o [])
at_cond true w o = refl
at_cond false w o = refl

-- one task more for a PN
pub one_put : (f g : List ℕ → Option Tasks) (k : List ℕ) (a : List ℕ) (w : Tasks) → ((q : List ℕ) → g q ≡ update bytes_eq f k (Some w) q) → w ≡ unwrap_or (f k) [] ++ a ∷ []
    → (t : List ℕ) → unwrap_or (g t) [] ≡ unwrap_or (f t) [] ++ cond (bytes_eq k t) (a ∷ []) []
one_put f g k a w u e t =
    ap (λ (o : Option Tasks). unwrap_or o []) (u t) ∙ at_cond (bytes_eq k t) w (f t)
    ∙ put_here (bytes_eq k t) w (unwrap_or (f t) []) (a ∷ []) (λ same. e ∙ ap (λ (q : List ℕ). unwrap_or (f q) [] ++ a ∷ []) (same_text k t same))

-- the task that is kept where the PN is this one
one_task : (here : Bool) (task t : List ℕ) → is_task (cond here (task ∷ []) []) t ≡ ((here && bytes_eq task t) || false)
one_task true task t = refl
one_task false task t = refl

-- one title more
pub titled_more : (wanted : Titles) (n : ℕ) (title : List ℕ × List ℕ) (old new : BTreeMap (String Global) Tasks) → n < length wanted → title ≡ get_or wanted n title → AreTitles (take n wanted) old
    → ((t : List ℕ) → tasks_of new t ≡ tasks_of old t ++ cond (bytes_eq title.0 t) (title.1 ∷ []) []) → AreTitles (take (n + 1) wanted) new
titled_more wanted n title old new lt is so_far puts pn task =
    let test : List ℕ × List ℕ → Bool = λ t. bytes_eq t.0 pn && bytes_eq t.1 task in
    let known : List ℕ → Bool = λ t. bytes_eq t task in
    let grown : take (n + 1) wanted ≡ take n wanted ++ title ∷ [] = take_more wanted n title lt ∙ ap (λ (x : List ℕ × List ℕ). take n wanted ++ x ∷ []) (sym is) in
    ap (λ (l : Tasks). is_task l task) (puts pn)
    ∙ list_any-append known (tasks_of old pn) (cond (bytes_eq title.0 pn) (title.1 ∷ []) [])
    ∙ ap (λ (b : Bool). b || is_task (cond (bytes_eq title.0 pn) (title.1 ∷ []) []) task) (so_far pn task)
    ∙ ap (λ (b : Bool). list_any test (take n wanted) || b) (one_task (bytes_eq title.0 pn) title.1 task)
    ∙ sym (ap (list_any test) grown ∙ list_any-append test (take n wanted) (title ∷ []))
