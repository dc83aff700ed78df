-- Cycles from another of their elements on, and the least of some tasks.
use Rattle.std.proofs.Common.{◌≡◌, sym, ◌∙◌, ap, subst, refl, arith, ℕ, zero, suc, ◌+◌, ◌<◌, ◌≤◌, true, false, List, [], ◌∷◌, ◌++◌, length, map, take, drop, get_or, Some, ◌⊎◌, inl, inr, All, slice_get, append-nil}
use Rattle.std.specs.List.{AllZip}
use Rattle.std.specs.Ordering.{is_lt, is_gt, ordering_reverse}
use Rattle.std.specs.declared.cmp.Ordering.{Ordering}
use Rattle.std.specs.declared.cmp.Ordering.TheVariants.{Less, Equal, Greater}
use Rattle.std.proofs.lemmas.Bool.{cases_eq}
use Rattle.std.proofs.lemmas.Cmp.{upto, tied_itself}
use Rattle.std.proofs.lemmas.List.{get_or_read, take-map, drop-map, map-append, take-append-drop}
use Rattle.std.proofs.lemmas.List.Elements.{All-append, All-cons, All-take, All-drop}
use Rattle.std.proofs.lemmas.Option.{get_or_from_slice_get}
use Rattle.meta_model.specs.declared.facts.FactSet.{FactSet}
use Rattle.meta_model.specs.declared.facts.Target.{Target}
use Rattle.meta_model.specs.declared.facts.TaskId.{TaskId}
use Rattle.meta_model.specs.Walks.{IsCycle, ClosesAt}
use Rattle.meta_model.specs.Needs.{Task, Needs}
use Rattle.meta_model.specs.TaskGraph.{id_of, id_cmp, IsReached, IsTaskCycle}
use Rattle.task_graph.specs.declared.table.TaskTable.{TaskTable}
use Rattle.task_graph.specs.Reached.{StandsAt, HasTaskCycle}
use Rattle.task_graph.specs.Order.{IsIdOf}
use Rattle.task_graph.specs.Turn.{IsIdAt, IsLeast, IsTurned}
use Rattle.task_graph.proofs.Drafted.{ids_total}

module _ {T : Type 0} (R : T → T → Type 0) where
  -- a row that closes, cut in two
  cut : (c x : T) (xs : List T) (b : T) (ys : List T) → ClosesAt R c ((x ∷ xs) ++ (b ∷ ys)) → ClosesAt R b (x ∷ xs) × ClosesAt R c (b ∷ ys)
  cut c x [] b ys h = (h.0, h.1)
  cut c x (y ∷ zs) b ys h = let rest = cut c y zs b ys h.1 in ((h.0, rest.0), rest.1)

  joined : (c x : T) (xs : List T) (b : T) (ys : List T) → ClosesAt R b (x ∷ xs) → ClosesAt R c (b ∷ ys) → ClosesAt R c ((x ∷ xs) ++ (b ∷ ys))
  joined c x [] b ys g h = (g, h)
  joined c x (y ∷ zs) b ys g h = (g.0, joined c y zs b ys g.1 h)

  -- a cycle from another of its elements on
  pub turned_cycle : (xs ys : List T) → IsCycle R (xs ++ ys) → IsCycle R (ys ++ xs)
  turned_cycle [] ys h = subst (λ (l : List T). IsCycle R l) (sym (append-nil ys)) h
  turned_cycle (x ∷ xs) [] h = subst (λ (l : List T). IsCycle R l) (append-nil (x ∷ xs)) h
  turned_cycle (x ∷ xs) (b ∷ ys) h = let parts = cut x x xs b ys h in joined b b ys x xs parts.1 parts.0

lt_not_gt : (o : Ordering) → is_lt o ≡ true → is_gt o ≡ false
lt_not_gt Less e = refl
lt_not_gt Equal e = refl
lt_not_gt Greater e = absurd cc

-- not less one way, not greater the other way
turned_over : (x y : TaskId) → is_lt (id_cmp x y) ≡ false → is_gt (id_cmp y x) ≡ false
turned_over x y e = by_order (id_cmp x y) refl e
  where
    by_order : (o : Ordering) → id_cmp x y ≡ o → is_lt o ≡ false → is_gt (id_cmp y x) ≡ false
    by_order Less f g = absurd cc
    by_order Equal f g = ap is_gt (ids_total.antisymm y x ∙ ap ordering_reverse f)
    by_order Greater f g = ap is_gt (ids_total.antisymm y x ∙ ap ordering_reverse f)

-- none of the tasks before i is less than the one at `least`
abbrev pub IsLeastBefore : List TaskId → ℕ → ℕ → Type 0
IsLeastBefore ids i least = (k : ℕ) (d e : TaskId) → k < i → is_gt (id_cmp (get_or ids least d) (get_or ids k e)) ≡ false

module _ (ids : List TaskId) (i least : ℕ) (x y : TaskId) (inside : i < length ids) (within : least < length ids) (x_is : x ≡ get_or ids i x) (y_is : y ≡ get_or ids least y) (before : IsLeastBefore ids i least) where
  pub less_now : is_lt (id_cmp x y) ≡ true → IsLeastBefore ids (i + 1) i
  less_now less k d e lt = by_place (cases_eq k i)
    where
      at_i : (d : TaskId) → get_or ids i d ≡ x
      at_i d = sym (get_or_read ids i x inside x_is d)

      by_place : (k ≡ i) ⊎ (k ≡ i → ⊥) → is_gt (id_cmp (get_or ids i d) (get_or ids k e)) ≡ false
      by_place (inl same) = rw (same, at_i d, at_i e, tied_itself ids_total x) refl
      by_place (inr ne) = upto ids_total (get_or ids i d) (get_or ids least d) (get_or ids k e) (rw (at_i d, sym (get_or_read ids least y within y_is d)) (lt_not_gt (id_cmp x y) less)) (before k d e (omega (arith, lt, ne)))

  pub least_still : is_lt (id_cmp x y) ≡ false → IsLeastBefore ids (i + 1) least
  least_still not_less k d e lt = by_place (cases_eq k i)
    where
      by_place : (k ≡ i) ⊎ (k ≡ i → ⊥) → is_gt (id_cmp (get_or ids least d) (get_or ids k e)) ≡ false
      by_place (inl same) = rw (same, sym (get_or_read ids i x inside x_is e), sym (get_or_read ids least y within y_is d)) (turned_over x y not_less)
      by_place (inr ne) = before k d e (omega (arith, lt, ne))

pub least_of_all : (ids : List TaskId) (least i : ℕ) → length ids ≤ i → IsLeastBefore ids i least → (first : TaskId) → slice_get ids least ≡ Some first → IsLeast ids first
least_of_all ids least i all before first e k d lt greater =
    let here : get_or ids least d ≡ first = get_or_from_slice_get ids least first d e in
    let no : is_gt (id_cmp (get_or ids least d) (get_or ids k d)) ≡ false = before k d d (omega (arith, lt, all)) in
    let yes : is_gt (id_cmp (get_or ids least d) (get_or ids k d)) ≡ true = rw (here, greater) refl in
    let f : false ≡ true = sym no ∙ yes in
    cc

-- the task at a place, as it is written, where the number is read there
pub id_at_place : (facts : FactSet) (table : TaskTable) (found : List ℕ) (place v : ℕ) (id : TaskId) → slice_get found place ≡ Some v → IsIdOf facts table v id → IsIdAt facts table found place id
id_at_place facts table found place v id e is a (w, f, number) =
    let s : Some w ≡ Some v = sym f ∙ e in
    let one : w ≡ v = cc in
    is a (number ∙ ap Some one)

module _ (facts : FactSet) (table : TaskTable) (targets : List Target) (found : List ℕ) where
  -- the tasks at places, as they are written
  written : (places : List ℕ) (tasks : List Task) (ids : List TaskId) → AllZip (λ place a. StandsAt table found place a × IsReached facts targets a) places tasks → AllZip (IsIdAt facts table found) places ids → ids ≡ map (id_of facts) tasks
  written [] [] [] g h = refl
  written [] [] (id ∷ ids) g h = absurd h
  written [] (a ∷ tasks) ids g h = absurd g
  written (p ∷ places) [] ids g h = absurd g
  written (p ∷ places) (a ∷ tasks) [] g h = absurd h
  written (p ∷ places) (a ∷ tasks) (id ∷ ids) g h = ap (λ (x : TaskId). x ∷ ids) (h.0 a g.0.0) ∙ ap (λ (l : List TaskId). id_of facts a ∷ l) (written places tasks ids g.1 h.1)

  all_reached : (places : List ℕ) (tasks : List Task) → AllZip (λ place a. StandsAt table found place a × IsReached facts targets a) places tasks → All (IsReached facts targets) tasks
  all_reached [] [] g = λ k d lt. absurd (omega (arith, lt))
  all_reached [] (a ∷ tasks) g = absurd g
  all_reached (p ∷ places) [] g = absurd g
  all_reached (p ∷ places) (a ∷ tasks) g = All-cons (IsReached facts targets) a tasks g.0.1 (all_reached places tasks g.1)

  first_of : (n : ℕ) (xs ys : List TaskId) → n < length xs → slice_get (drop n xs ++ ys) 0 ≡ slice_get xs n
  first_of zero [] ys lt = absurd (omega (arith, lt))
  first_of zero (x ∷ xs) ys lt = refl
  first_of (suc n) [] ys lt = absurd (omega (arith, lt))
  first_of (suc n) (x ∷ xs) ys lt = first_of n xs ys (omega (arith, lt))

  pub is_task_cycle : (places : List ℕ) (turned : List TaskId) → HasTaskCycle facts table targets found places → IsTurned facts table found places turned → IsTaskCycle facts targets turned
  is_task_cycle places turned has is = record {
    cycle = drop n tasks ++ take n tasks;
    written = is.turns ∙ ap (λ (l : List TaskId). drop n l ++ take n l) ids_are ∙ ap (λ (l : List TaskId). l ++ take n (map (id_of facts) tasks)) (drop-map (id_of facts) n tasks) ∙ ap (λ (l : List TaskId). map (id_of facts) (drop n tasks) ++ l) (take-map (id_of facts) n tasks) ∙ sym (map-append (id_of facts) (drop n tasks) (take n tasks));
    closed = turned_cycle (Needs facts) (take n tasks) (drop n tasks) (subst (λ (l : List Task). IsCycle (Needs facts) l) (sym (take-append-drop n tasks)) has.closed);
    reached = All-append (IsReached facts targets) (drop n tasks) (take n tasks) (All-drop (IsReached facts targets) n tasks reached) (All-take (IsReached facts targets) n tasks reached);
    least = λ first e. (
        let among = is.least first (sym (first_of n is.ids (take n is.ids) is.within) ∙ ap (λ (l : List TaskId). slice_get l 0) (sym is.turns) ∙ e) in
        subst (λ (l : List TaskId). All (λ id. id_cmp first id ≡ Greater → ⊥) l) (sym is.turns)
        (All-append (λ id. id_cmp first id ≡ Greater → ⊥) (drop n is.ids) (take n is.ids) (All-drop (λ id. id_cmp first id ≡ Greater → ⊥) n is.ids among) (All-take (λ id. id_cmp first id ≡ Greater → ⊥) n is.ids among)));
  }
    where
      n : ℕ
      n = is.turn

      tasks : List Task
      tasks = has.tasks

      ids_are : is.ids ≡ map (id_of facts) has.tasks
      ids_are = written places has.tasks is.ids has.at is.written

      reached : All (IsReached facts targets) has.tasks
      reached = all_reached places has.tasks has.at
