-- Tasks that are marked as failed, and their names.
use Rattle.std.proofs.Common.{◌≡◌, ◌≢◌, ◌∙◌, sym, ap, refl, ℕ, ◌+◌, ◌<◌, zero, suc, add-one, arith, Bool, true, false, List, [], ◌∷◌, ◌++◌, length, get_or, take, set, length-set, Some, append_assoc, append-nil, eqb-true}
use Rattle.std.specs.Prelude.{codes, flat_map, slice_get, ◌||◌, ◌==◌}
use Rattle.std.specs.List.{list_any}
use Rattle.std.specs.Bool.{Decides}
use Rattle.std.proofs.lemmas.Bool.Decides.{Decides-eqb}
use Rattle.std.proofs.lemmas.Grind.{flat_map-append}
use Rattle.meta_model.specs.declared.event.Event.TheVariants.{Failed}
use Rattle.meta_model.specs.declared.event.Why.{Why}
use Rattle.meta_model.specs.declared.event.Logged.{Logged}
use Rattle.meta_model.specs.declared.plan.PlanTask.{PlanTask}
use Rattle.run_model.specs.Texts.{task_label}
use Rattle.bb_report.specs.Runs.{AreMarks, behind_comma, marked, name_text}
use Rattle.run_model.specs.Report.{comma_joined, failed_from, fails, has_failed}

abbrev pub is_some : List (List ℕ) → Bool
is_some [] = false
is_some (x ∷ xs) = true

abbrev if_marked : Bool → List ℕ → List (List ℕ)
if_marked true t = t ∷ []
if_marked false t = []

-- one name more
pub joined_more : (xs : List (List ℕ)) (t : List ℕ) → comma_joined (xs ++ t ∷ []) ≡ comma_joined xs ++ behind_comma (is_some xs) t
joined_more [] t = append-nil t
joined_more (x ∷ xs) t =
    ap (λ l. x ++ l) (flat_map-append (λ u. codes ", " ++ u) xs (t ∷ []) ∙ ap (λ l. flat_map (λ u. codes ", " ++ u) xs ++ l) (append-nil (codes ", " ++ t)))
    ∙ sym (append_assoc x (flat_map (λ u. codes ", " ++ u) xs) (codes ", " ++ t))

pub some_more : (xs : List (List ℕ)) (t : List ℕ) → is_some (xs ++ t ∷ []) ≡ true
some_more [] t = refl
some_more (x ∷ xs) t = refl

-- ---- one task more

marked_next : (tasks : List PlanTask) (marks : List Bool) (i : ℕ) (d : PlanTask) (e : Bool) → length marks ≡ length tasks → i < length tasks → marked (take (suc i) tasks) (take (suc i) marks) ≡ marked (take i tasks) (take i marks) ++ if_marked (get_or marks i e) (task_label (get_or tasks i d).id)
marked_next [] ms k d e s l = absurd (omega arith)
marked_next (t ∷ ts) [] k d e s l = absurd (omega arith)
marked_next (t ∷ ts) (true ∷ ms) zero d e s l = refl
marked_next (t ∷ ts) (false ∷ ms) zero d e s l = refl
marked_next (t ∷ ts) (true ∷ ms) (suc k) d e s l = ap (λ l. task_label t.id ∷ l) (marked_next ts ms k d e (omega arith) (omega arith))
marked_next (t ∷ ts) (false ∷ ms) (suc k) d e s l = marked_next ts ms k d e (omega arith) (omega arith)

joined_if : (xs : List (List ℕ)) (m : Bool) (t : List ℕ) → comma_joined (xs ++ if_marked m t) ≡ comma_joined xs ++ name_text m (is_some xs) t
joined_if xs true t = joined_more xs t
joined_if xs false t = ap comma_joined (append-nil xs) ∙ sym (append-nil (comma_joined xs))

some_if : (xs : List (List ℕ)) (m : Bool) (t : List ℕ) → is_some (xs ++ if_marked m t) ≡ (m || is_some xs)
some_if xs true t = some_more xs t
some_if xs false t = ap is_some (append-nil xs)

pub joined_next : (tasks : List PlanTask) (marks : List Bool) (i : ℕ) (d : PlanTask) (e : Bool) → length marks ≡ length tasks → i < length tasks → comma_joined (marked (take (i + 1) tasks) (take (i + 1) marks)) ≡ comma_joined (marked (take i tasks) (take i marks)) ++ name_text (get_or marks i e) (is_some (marked (take i tasks) (take i marks))) (task_label (get_or tasks i d).id)
joined_next tasks marks i d e same lt = rw add-one (ap comma_joined (marked_next tasks marks i d e same lt) ∙ joined_if (marked (take i tasks) (take i marks)) (get_or marks i e) (task_label (get_or tasks i d).id))

pub some_next : (tasks : List PlanTask) (marks : List Bool) (i : ℕ) (d : PlanTask) (e : Bool) → length marks ≡ length tasks → i < length tasks → is_some (marked (take (i + 1) tasks) (take (i + 1) marks)) ≡ (get_or marks i e || is_some (marked (take i tasks) (take i marks)))
some_next tasks marks i d e same lt = rw add-one (ap is_some (marked_next tasks marks i d e same lt) ∙ some_if (marked (take i tasks) (take i marks)) (get_or marks i e) (task_label (get_or tasks i d).id))

-- the marked tasks are the failed ones
pub marked_failed : (tale : List Logged) (n : ℕ) (tasks : List PlanTask) (marks : List Bool) → length marks ≡ length tasks → ((k : ℕ) → k < length tasks → slice_get marks k ≡ Some (has_failed tale (n + k))) → marked tasks marks ≡ failed_from tale n tasks
marked_failed tale n [] marks same each = refl
marked_failed tale n (t ∷ tasks) [] same each = absurd (omega arith)
marked_failed tale n (t ∷ tasks) (m ∷ marks) same each =
    let e : Some m ≡ Some (has_failed tale (n + 0)) = each 0 (omega arith) in
    let here : m ≡ has_failed tale n = let h : m ≡ has_failed tale (n + 0) = cc in h ∙ ap (has_failed tale) (omega arith) in
    let more = marked_failed tale (n + 1) tasks marks (omega arith) (λ k lt. each (suc k) (omega arith) ∙ ap (λ j. Some (has_failed tale j)) (omega arith)) in
    by m here more
  where
    by : (b : Bool) → b ≡ has_failed tale n → marked tasks marks ≡ failed_from tale (n + 1) tasks → marked (t ∷ tasks) (b ∷ marks) ≡ failed_from tale n (t ∷ tasks)
    by true e more = let f = sym e in simp f (ap (λ l. task_label t.id ∷ l) more)
    by false e more = let f = sym e in simp f more

-- ---- one event more

any_last : (p : Logged → Bool) (xs : List Logged) (x : Logged) → list_any p (xs ++ x ∷ []) ≡ (list_any p xs || p x)
any_last p [] x = by (p x)
  where
    by : (b : Bool) → (b || false) ≡ b
    by true = refl
    by false = refl
any_last p (y ∷ xs) x = by (p y) (any_last p xs x)
  where
    by : (b : Bool) → list_any p (xs ++ x ∷ []) ≡ (list_any p xs || p x) → (b || list_any p (xs ++ x ∷ [])) ≡ ((b || list_any p xs) || p x)
    by true e = refl
    by false e = e

failed_last : (tale : List Logged) (l : Logged) (n : ℕ) → has_failed (tale ++ l ∷ []) n ≡ (has_failed tale n || fails n l.event)
failed_last tale l n = any_last (λ x. fails n x.event) tale l

or_false : (b : Bool) → (b || false) ≡ b
or_false true = refl
or_false false = refl

or_true : (b : Bool) → (b || true) ≡ true
or_true true = refl
or_true false = refl

get_set_same : (ms : List Bool) (k : ℕ) → k < length ms → slice_get (set ms k true) k ≡ Some true
get_set_same [] k lt = absurd (omega arith)
get_set_same (m ∷ ms) zero lt = refl
get_set_same (m ∷ ms) (suc k) lt = get_set_same ms k (omega arith)

get_set_other : (ms : List Bool) (k n : ℕ) → k ≢ n → slice_get (set ms k true) n ≡ slice_get ms n
get_set_other [] k n ne = refl
get_set_other (m ∷ ms) zero zero ne = absurd (ne refl)
get_set_other (m ∷ ms) zero (suc n) ne = refl
get_set_other (m ∷ ms) (suc k) zero ne = refl
get_set_other (m ∷ ms) (suc k) (suc n) ne = get_set_other ms k n (λ e. ne (ap suc e))

not_same_by : (task n : ℕ) (r : Bool) → Decides r (task ≡ n) → task ≡ n → r ≡ false → ⊥
not_same_by task n true d same e = let f : true ≡ false = e in cc
not_same_by task n false d same e = let f : false ≡ true = d.1 same in cc

pub mark_set : (tale : List Logged) (l : Logged) (task : ℕ) (why : Why) (marks : List Bool) → l.event ≡ Failed task why → task < length marks → AreMarks tale (length marks) marks → AreMarks (tale ++ l ∷ []) (length marks) (set marks task true)
mark_set tale l task why marks is lt are = record {
  many = length-set marks task true;
  each = λ n below. by n below (task == n) refl;
}
  where
    by : (n : ℕ) → n < length marks → (b : Bool) → (task == n) ≡ b → slice_get (set marks task true) n ≡ Some (has_failed (tale ++ l ∷ []) n)
    by n below true e =
        let here : task ≡ n = eqb-true task n e in
        ap (slice_get (set marks task true)) (sym here) ∙ get_set_same marks task lt
        ∙ ap (λ b. Some b) (sym (failed_last tale l n ∙ ap (λ x. has_failed tale n || fails n x) is ∙ ap (λ b. has_failed tale n || b) e ∙ or_true (has_failed tale n)))
    by n below false e =
        get_set_other marks task n (λ same. not_same_by task n (task == n) (Decides-eqb task n) same e)
        ∙ are.each n below
        ∙ ap (λ b. Some b) (sym (failed_last tale l n ∙ ap (λ x. has_failed tale n || fails n x) is ∙ ap (λ b. has_failed tale n || b) e ∙ or_false (has_failed tale n)))

-- the last line
pub failed_text : (tale : List Logged) (tasks : List PlanTask) (marks : List Bool) → AreMarks tale (length tasks) marks → comma_joined (marked tasks marks) ≡ comma_joined (failed_from tale 0 tasks)
failed_text tale tasks marks are = ap comma_joined (marked_failed tale 0 tasks marks are.many (λ k lt. are.each k lt ∙ ap (λ j. Some (has_failed tale j)) (omega arith)))

-- one task more is written
pub name_next : (tasks : List PlanTask) (marks : List Bool) (n : ℕ) (task : PlanTask) (e later : Bool) (old made : List ℕ) → length marks ≡ length tasks → n < length tasks → task ≡ get_or tasks n task → later ≡ is_some (marked (take n tasks) (take n marks)) → made ≡ old ++ comma_joined (marked (take n tasks) (take n marks))
    → made ++ name_text (get_or marks n e) later (task_label task.id) ≡ old ++ comma_joined (marked (take (n + 1) tasks) (take (n + 1) marks))
name_next tasks marks n task e later old made same lt here is whole =
    let before : List (List ℕ) = marked (take n tasks) (take n marks) in
    let text : List ℕ = name_text (get_or marks n e) (is_some before) (task_label (get_or tasks n task).id) in
    ap (λ (b : Bool). made ++ name_text (get_or marks n e) b (task_label task.id)) is
    ∙ ap (λ (t : PlanTask). made ++ name_text (get_or marks n e) (is_some before) (task_label t.id)) here
    ∙ ap (λ (l : List ℕ). l ++ text) whole
    ∙ append_assoc old (comma_joined before) text
    ∙ ap (λ (l : List ℕ). old ++ l) (sym (joined_next tasks marks n task e same lt))
