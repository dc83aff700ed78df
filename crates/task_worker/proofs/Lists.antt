-- Lists that are gathered, and trees that are laid, item by item.
use Rattle.std.proofs.Common.{◌≡◌, ◌∙◌, sym, ap, refl, ℕ, ◌+◌, ◌<◌, zero, suc, add-one, arith, Bool, true, false, not, List, [], ◌∷◌, ◌++◌, length, get_or, take, map, filter, Option, Some, None, subst}
use Rattle.std.specs.Option.{option_to_list}
use Rattle.std.specs.List.{AllByRecursion}
use Rattle.std.proofs.lemmas.List.Elements.{filter-append}
use Rattle.std.proofs.lemmas.List.{map-append, append-nil}
use Rattle.meta_model.proofs.Gathered.{gathered}
use Rattle.meta_model.specs.declared.plan.PlanTask.{PlanTask}
use Rattle.tree_model.specs.Overlay.{overlaid}
use Rattle.meta_model.specs.CleanBuild.{Entries}
use Rattle.meta_model.specs.Layout.{Needed, dependency_part, overlaid_onto}
use Rattle.run_model.specs.Layouts.{needed_at, needed_among}
use Rattle.task_worker.specs.declared.parts.Part.{Part}
use Rattle.task_worker.specs.Work.{if_wanted, is_wanted, part_needed, parts_needed}

wanted_here : (own : Bool) (pn : List ℕ) (o : Option Needed) → filter (is_wanted own pn) (option_to_list o) ≡ if_wanted own pn o
wanted_here own pn None = refl
wanted_here own pn (Some n) = refl

-- one more output
pub wanted_more : (own : Bool) (pn : List ℕ) (tasks : List PlanTask) (outputs : List (ℕ × Entries)) (i : ℕ) (d : ℕ × Entries) → i < length outputs → filter (is_wanted own pn) (needed_among tasks (take (i + 1) outputs)) ≡ filter (is_wanted own pn) (needed_among tasks (take i outputs)) ++ if_wanted own pn (needed_at tasks (get_or outputs i d))
wanted_more own pn tasks outputs i d lt =
    let front = needed_among tasks (take i outputs) in
    let here = needed_at tasks (get_or outputs i d) in
    ap (filter (is_wanted own pn)) (gathered (needed_at tasks) outputs i d lt)
    ∙ filter-append (is_wanted own pn) front (option_to_list here)
    ∙ ap (λ l. filter (is_wanted own pn) front ++ l) (wanted_here own pn here)

-- ---- filters

module _ {A : Type 0} (p : A → Bool) where
  kept_again : (xs : List A) → filter p (filter p xs) ≡ filter p xs
  kept_again [] = refl
  kept_again (x ∷ xs) = by (p x) refl (kept_again xs)
    where
      by : (b : Bool) → p x ≡ b → filter p (filter p xs) ≡ filter p xs → filter p (filter p (x ∷ xs)) ≡ filter p (x ∷ xs)
      by true e more = simp e (ap (λ l. x ∷ l) more)
      by false e more = simp e more

  none_left : (xs : List A) → filter p (filter (λ x. not (p x)) xs) ≡ []
  none_left [] = refl
  none_left (x ∷ xs) = by (p x) refl (none_left xs)
    where
      by : (b : Bool) → p x ≡ b → filter p (filter (λ y. not (p y)) xs) ≡ [] → filter p (filter (λ y. not (p y)) (x ∷ xs)) ≡ []
      by true e more = simp e more
      by false e more = simp e more

  left_none : (xs : List A) → filter (λ x. not (p x)) (filter p xs) ≡ []
  left_none [] = refl
  left_none (x ∷ xs) = by (p x) refl (left_none xs)
    where
      by : (b : Bool) → p x ≡ b → filter (λ y. not (p y)) (filter p xs) ≡ [] → filter (λ y. not (p y)) (filter p (x ∷ xs)) ≡ []
      by true e more = simp e more
      by false e more = simp e more

-- those that pass a test, before those of another list that don't
pub first_kept : {A : Type 0} (p : A → Bool) (xs ys : List A) → filter p (filter p xs ++ filter (λ y. not (p y)) ys) ≡ filter p xs
first_kept p xs ys =
    filter-append p (filter p xs) (filter (λ y. not (p y)) ys)
    ∙ ap (λ l. filter p (filter p xs) ++ l) (none_left p ys)
    ∙ append-nil (filter p (filter p xs)) ∙ kept_again p xs

pub last_kept : {A : Type 0} (p : A → Bool) (xs ys : List A) → filter (λ y. not (p y)) (filter p xs ++ filter (λ y. not (p y)) ys) ≡ filter (λ y. not (p y)) ys
last_kept p xs ys =
    filter-append (λ y. not (p y)) (filter p xs) (filter (λ y. not (p y)) ys)
    ∙ ap (λ l. l ++ filter (λ y. not (p y)) (filter (λ y. not (p y)) ys)) (left_none p xs)
    ∙ kept_again (λ y. not (p y)) ys

-- ---- overlays

-- one more tree over the others
pub overlaid_last : (tree : Entries) (trees : List Entries) (last : Entries) → overlaid_onto tree (trees ++ last ∷ []) ≡ overlaid (overlaid_onto tree trees) last
overlaid_last tree [] last = refl
overlaid_last tree (t ∷ trees) last = overlaid_last (overlaid tree t) trees last

take_more : {A : Type 0} (xs : List A) (i : ℕ) (d : A) → i < length xs → take (suc i) xs ≡ take i xs ++ get_or xs i d ∷ []
take_more [] i d lt = absurd (omega arith)
take_more (x ∷ xs) zero d lt = refl
take_more (x ∷ xs) (suc i) d lt = ap (λ l. x ∷ l) (take_more xs i d (omega arith))

taken_more : {A : Type 0} (f : A → Entries) (xs : List A) (i : ℕ) (d : A) → i < length xs → take (i + 1) xs ≡ take i xs ++ get_or xs i d ∷ []
taken_more f xs i d lt = rw add-one (take_more xs i d lt)

pub overlaid_more : {A : Type 0} (f : A → Entries) (tree : Entries) (xs : List A) (i : ℕ) (d : A) → i < length xs → overlaid_onto tree (map f (take (i + 1) xs)) ≡ overlaid (overlaid_onto tree (map f (take i xs))) (f (get_or xs i d))
overlaid_more f tree xs i d lt =
    ap (λ l. overlaid_onto tree (map f l)) (taken_more f xs i d lt)
    ∙ ap (overlaid_onto tree) (map-append f (take i xs) (get_or xs i d ∷ []))
    ∙ overlaid_last tree (map f (take i xs)) (f (get_or xs i d))

map_twice : {A B C : Type 0} (f : A → B) (g : B → C) (xs : List A) → map g (map f xs) ≡ map (λ x. g (f x)) xs
map_twice f g [] = refl
map_twice f g (x ∷ xs) = ap (λ l. g (f x) ∷ l) (map_twice f g xs)

-- one more part of another recipe
pub parts_more : (tree : Entries) (parts : List Part) (i : ℕ) (d : Part) → i < length parts → overlaid_onto tree (map dependency_part (parts_needed (take (i + 1) parts))) ≡ overlaid (overlaid_onto tree (map dependency_part (parts_needed (take i parts)))) (dependency_part (part_needed (get_or parts i d)))
parts_more tree parts i d lt =
    let f : Part → Entries = λ p. dependency_part (part_needed p) in
    ap (overlaid_onto tree) (map_twice part_needed dependency_part (take (i + 1) parts))
    ∙ overlaid_more f tree parts i d lt
    ∙ ap (λ l. overlaid (overlaid_onto tree l) (f (get_or parts i d))) (sym (map_twice part_needed dependency_part (take i parts)))

-- the outputs of parts
pub outputs_map : (parts : List Part) → map (λ p. (part_needed p).output) parts ≡ map (λ n. n.output) (parts_needed parts)
outputs_map parts = sym (map_twice part_needed (λ (n : Needed). n.output) parts)

-- what holds of the needed tasks of parts
pub each_part : (P : Needed → Type 0) (parts : List Part) (needed : List Needed) → parts_needed parts ≡ needed → AllByRecursion P needed → AllByRecursion (λ p. P (part_needed p)) parts
each_part P parts needed is all = by parts (subst (AllByRecursion P) (sym is) all)
  where
    by : (ps : List Part) → AllByRecursion P (parts_needed ps) → AllByRecursion (λ p. P (part_needed p)) ps
    by [] h = tt
    by (p ∷ ps) h = (h.0, by ps h.1)
