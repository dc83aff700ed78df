-- The work on names, task by task.
use Rattle.std.proofs.Common.{◌≡◌, ◌≢◌, ◌∙◌, sym, ap, subst, refl, ℕ, zero, suc, ◌+◌, ◌<◌, ◌≤◌, arith, Bool, true, false, List, [], ◌∷◌, ◌++◌, length, get_or, fold, Contains, slice_get, ◌⊎◌, inl, inr}
use Rattle.std.specs.List.{AllByRecursion}
use Rattle.std.proofs.lemmas.Bool.{cases_eq, cases_lt}
use Rattle.std.proofs.lemmas.List.Elements.{All-contains, Contains-append_left, Contains-append_right, Contains-get_or, Contains-push, Contains-push_cases, recursion_from_All}
use Rattle.std.proofs.lemmas.List.Sums.{fold-append}
use Rattle.std.proofs.lemmas.Option.{slice_get_past}
use Rattle.meta_model.specs.declared.plan.PlanTask.{PlanTask}
use Rattle.run_core.specs.Above.{IsAbove, above_of}
use Rattle.run_core.specs.Need.{AreOrdered}
use Rattle.tale_model.specs.Need.{deps_in, deps_of}
use Rattle.store_model.specs.declared.signature.EquivRow.{EquivRow}
use Rattle.setscene_plan.specs.declared.work.Names.{Names}
use Rattle.setscene_plan.specs.Reworks.{Ascend, IsFound, IsRightAt, IsTouched, IsUntouched, IsWorkable, IsWorked, Steps, raised}
use Rattle.setscene_plan.proofs.Working.{renamed_else, renamed_here, renamed_same}

-- behind the last one of a list
abbrev pub next_in : List ℕ → ℕ
next_in xs = fold (λ n x. x + 1) 0 xs

pub next_pushed : (xs : List ℕ) (x : ℕ) → next_in (xs ++ x ∷ []) ≡ x + 1
next_pushed xs x = fold-append (λ (n : ℕ) (y : ℕ). y + 1) 0 xs (x ∷ [])

ascend_pushed : (xs : List ℕ) (x : ℕ) → Ascend xs → AllByRecursion (λ y. y < x) xs → Ascend (xs ++ x ∷ [])
ascend_pushed [] x up below = (tt, tt)
ascend_pushed (y ∷ ys) x up below = (pushed ys up.0, ascend_pushed ys x up.1 below.1)
  where
    pushed : (zs : List ℕ) → AllByRecursion (λ z. y < z) zs → AllByRecursion (λ z. y < z) (zs ++ x ∷ [])
    pushed [] all = (below.0, tt)
    pushed (z ∷ zs) all = (all.0, pushed zs all.1)

member : (xs : List ℕ) (x : ℕ) → Contains xs x ⊎ (Contains xs x → ⊥)
member [] x = inr (λ h. omega (arith, h.1))
member (y ∷ ys) x = by (member ys x) (cases_eq x y)
  where
    by : Contains ys x ⊎ (Contains ys x → ⊥) → (x ≡ y) ⊎ (x ≢ y) → Contains (y ∷ ys) x ⊎ (Contains (y ∷ ys) x → ⊥)
    by more (inl same) = inl (zero, omega arith, sym same)
    by (inl held) (inr ne) = inl (Contains-append_right (y ∷ []) ys x held)
    by (inr not_held) (inr ne) = inr none
      where
        none : Contains (y ∷ ys) x → ⊥
        none (zero, lt, e) = ne (sym e)
        none (suc k, lt, e) = not_held (k, omega (arith, lt), e)

-- a task that needs one directly comes behind it, and is a task
above_place : (tasks : List PlanTask) (u place : ℕ) → AreOrdered tasks → Contains (deps_of tasks u) place → (place < u) × (u < length tasks)
above_place tasks u place ordered h = (All-contains (λ d. d < u) (deps_of tasks u) place (ordered u) h, elim (cases_lt u (length tasks)) [ inl lt ↦ lt | inr past ↦ absurd (empty (ap deps_in (slice_get_past tasks u past))) ])
  where
    empty : deps_of tasks u ≡ [] → ⊥
    empty e = let g = subst (λ ds. Contains ds place) e h in omega (arith, g.1)

-- The work so far: the tasks that are left stand behind those that were worked out, and all others are right.
pub record IsWorking (rows : List EquivRow) (tasks : List PlanTask) (first now : Names) (start dirty changed : List ℕ) : Type 0 where
  pub long : length now.names.items ≡ length tasks
  pub wide : length now.unihashes.items ≡ length tasks
  pub right : (t : ℕ) → Contains dirty t ⊎ IsRightAt rows tasks now t
  pub found : (t : ℕ) → IsFound now t
  pub within : (t : ℕ) → Contains dirty t → (next_in changed ≤ t) × (t < length tasks)
  pub done : (t : ℕ) → Contains changed t → (t < next_in changed) × (t < length tasks)
  pub once : Ascend changed
  pub later : (t : ℕ) → next_in changed ≤ t → slice_get now.unihashes.items t ≡ slice_get first.unihashes.items t
  pub whole : (t : ℕ) → Contains dirty t ⊎ (Contains changed t ⊎ IsUntouched tasks first.unihashes.items now.unihashes.items t)
  pub all : (t : ℕ) → Contains start t → Contains dirty t ⊎ Contains changed t
  pub why : (t : ℕ) → Contains dirty t → Contains start t ⊎ IsTouched tasks first.unihashes.items now.unihashes.items t
  pub each : (t : ℕ) → Contains changed t → Contains start t ⊎ IsTouched tasks first.unihashes.items now.unihashes.items t

pub working_first : (rows : List EquivRow) (tasks : List PlanTask) (kept : Names) (dirty : List ℕ) → IsWorkable rows tasks kept dirty → IsWorking rows tasks kept kept dirty dirty []
working_first rows tasks kept dirty is = record {
  long = is.long;
  wide = is.wide;
  right = is.right;
  found = is.found;
  within = λ t h. (omega arith, is.within t h);
  done = λ t h. absurd (omega (arith, h.1));
  once = tt;
  later = λ t le. refl;
  whole = λ t. inr (inr (λ k d lt. refl));
  all = λ t h. inl h;
  why = λ t h. inl h;
  each = λ t h. absurd (omega (arith, h.1));
}

-- the tasks before the first one that is left are right
pub right_before : (rows : List EquivRow) (tasks : List PlanTask) (first now : Names) (start rest changed : List ℕ) (place : ℕ) → ((t : ℕ) → Contains rest t → place < t) → IsWorking rows tasks first now start (place ∷ rest) changed → (t : ℕ) → t < place → IsRightAt rows tasks now t
right_before rows tasks first now start rest changed place behind is t lower = elim (is.right t) [ inl left ↦ absurd (not_left left) | inr right ↦ right ]
  where
    not_left : Contains (place ∷ rest) t → ⊥
    not_left (zero, lt, e) = omega (arith, lower, e)
    not_left (suc k, lt, e) = let later = behind t (k, omega (arith, lt), e) in omega (arith, lower, later)

module _ (rows : List EquivRow) (tasks : List PlanTask) (above : List (List ℕ)) (ordered : AreOrdered tasks) (is_above : IsAbove tasks above) (first now new : Names) (start changed rest more : List ℕ) (place : ℕ) (behind : (t : ℕ) → Contains rest t → place < t) (is : IsWorking rows tasks first now start (place ∷ rest) changed) (s : Steps rows tasks above place now new rest more) where
  here : Contains (place ∷ rest) place
  here = (zero, omega arith, refl)

  in_rest : (t : ℕ) → Contains (place ∷ rest) t → (t ≡ place) ⊎ Contains rest t
  in_rest t (zero, lt, e) = inl (sym e)
  in_rest t (suc k, lt, e) = inr (k, omega (arith, lt), e)

  at_place : (next_in changed ≤ place) × (place < length tasks)
  at_place = is.within place here

  -- a task that needs the one at the place is put, where its unihash changed
  needs_it : (t : ℕ) → Contains (raised s.changed (above_of above place)) t → Contains (deps_of tasks t) place × (s.changed ≡ true)
  needs_it t h = by s.changed refl h
    where
      by : (b : Bool) → s.changed ≡ b → Contains (raised b (above_of above place)) t → Contains (deps_of tasks t) place × (s.changed ≡ true)
      by true e h = (is_above.only t place h, e)
      by false e h = absurd (omega (arith, h.1))

  is_put : (t : ℕ) → s.changed ≡ true → Contains (deps_of tasks t) place → Contains more t
  is_put t e h = s.puts.put t (subst (λ b. Contains (raised b (above_of above place)) t) (sym e) (is_above.said t place h))

  touched_on : (t : ℕ) → IsTouched tasks first.unihashes.items now.unihashes.items t → IsTouched tasks first.unihashes.items new.unihashes.items t
  touched_on t h = record {
    dep = h.dep;
    needs = h.needs;
    differs = elim (cases_eq h.dep place) [
      | inl same ↦ λ e. h.differs (subst (λ d. slice_get now.unihashes.items d ≡ slice_get first.unihashes.items d) (sym same) (is.later place at_place.0))
      | inr ne ↦ λ e. h.differs (sym (s.renamed.unihashes h.dep ne) ∙ e)
    ];
  }

  why_on : (t : ℕ) → Contains start t ⊎ IsTouched tasks first.unihashes.items now.unihashes.items t → Contains start t ⊎ IsTouched tasks first.unihashes.items new.unihashes.items t
  why_on t (inl h) = inl h
  why_on t (inr h) = inr (touched_on t h)

  touched_by : (t : ℕ) → s.changed ≡ true → Contains (deps_of tasks t) place → IsTouched tasks first.unihashes.items new.unihashes.items t
  touched_by t e h = record { dep = place; needs = h; differs = λ same. s.changes.other e (same ∙ sym (is.later place at_place.0)) }

  right_on : (t : ℕ) → t ≢ place → IsRightAt rows tasks now t → Contains more t ⊎ IsRightAt rows tasks new t
  right_on t ne right = by s.changed refl (member (deps_of tasks t) place)
    where
      by : (b : Bool) → s.changed ≡ b → Contains (deps_of tasks t) place ⊎ (Contains (deps_of tasks t) place → ⊥) → Contains more t ⊎ IsRightAt rows tasks new t
      by false e m = inr (renamed_same rows tasks place now new s.renamed (s.changes.same e) t ne right)
      by true e (inl h) = inl (is_put t e h)
      by true e (inr no_need) = inr (renamed_else rows tasks place now new ordered s.renamed t ne (λ k d lt same. no_need (subst (Contains (deps_of tasks t)) same (Contains-get_or (deps_of tasks t) k d lt))) right)

  untouched_on : (t : ℕ) → IsUntouched tasks first.unihashes.items now.unihashes.items t → Contains more t ⊎ (Contains (changed ++ place ∷ []) t ⊎ IsUntouched tasks first.unihashes.items new.unihashes.items t)
  untouched_on t free = by s.changed refl (member (deps_of tasks t) place)
    where
      by : (b : Bool) → s.changed ≡ b → Contains (deps_of tasks t) place ⊎ (Contains (deps_of tasks t) place → ⊥) → Contains more t ⊎ (Contains (changed ++ place ∷ []) t ⊎ IsUntouched tasks first.unihashes.items new.unihashes.items t)
      by false e m = inr (inr (λ k d lt. ap (λ us. slice_get us (get_or (deps_of tasks t) k d)) (s.changes.same e) ∙ free k d lt))
      by true e (inl h) = inl (is_put t e h)
      by true e (inr no_need) = inr (inr (λ k d lt. s.renamed.unihashes (get_or (deps_of tasks t) k d) (λ same. no_need (subst (Contains (deps_of tasks t)) same (Contains-get_or (deps_of tasks t) k d lt))) ∙ free k d lt))

  pub working_next : IsWorking rows tasks first new start more (changed ++ place ∷ [])
  working_next = record {
    long = s.renamed.long ∙ is.long;
    wide = s.renamed.wide ∙ is.wide;
    right = λ t. elim (cases_eq t place) [
      | inl same ↦ inr (subst (IsRightAt rows tasks new) (sym same) (renamed_here rows tasks place now new ordered s.renamed))
      | inr ne ↦ elim (is.right t) [
        | inl left ↦ elim (in_rest t left) [ inl same ↦ absurd (ne same) | inr r ↦ inl (s.puts.kept t r) ]
        | inr right ↦ right_on t ne right
      ]
    ];
    found = λ t. elim (cases_eq t place) [
      | inl same ↦ subst (IsFound new) (sym same) s.renamed.found
      | inr ne ↦ s.renamed.others t ne (is.found t)
    ];
    within = λ t h. elim (s.puts.only t h) [
      | inl r ↦ (omega (arith, next, behind t r), (is.within t (Contains-append_right (place ∷ []) rest t r)).1)
      | inr up ↦ let a = above_place tasks t place ordered (needs_it t up).0 in (omega (arith, next, a.0), a.1)
    ];
    done = λ t h. elim (Contains-push_cases changed place t h) [
      | inl old ↦ (omega (arith, next, (is.done t old).0, at_place.0), (is.done t old).1)
      | inr same ↦ (omega (arith, next, same), subst (λ x. x < length tasks) same at_place.1)
    ];
    once = ascend_pushed changed place is.once (recursion_from_All (λ y. y < place) changed (λ k d lt. omega (arith, (is.done (get_or changed k d) (Contains-get_or changed k d lt)).0, at_place.0)));
    later = λ t le. s.renamed.unihashes t (λ e. omega (arith, e, next, le)) ∙ is.later t (omega (arith, next, le, at_place.0));
    whole = λ t. elim (is.whole t) [
      | inl left ↦ elim (in_rest t left) [ inl same ↦ inr (inl (subst (Contains (changed ++ place ∷ [])) (sym same) (Contains-push changed place))) | inr r ↦ inl (s.puts.kept t r) ]
      | inr u ↦ elim u [ inl done ↦ inr (inl (Contains-append_left changed (place ∷ []) t done)) | inr free ↦ untouched_on t free ]
    ];
    all = λ t h. elim (is.all t h) [
      | inl left ↦ elim (in_rest t left) [ inl same ↦ inr (subst (Contains (changed ++ place ∷ [])) (sym same) (Contains-push changed place)) | inr r ↦ inl (s.puts.kept t r) ]
      | inr done ↦ inr (Contains-append_left changed (place ∷ []) t done)
    ];
    why = λ t h. elim (s.puts.only t h) [
      | inl r ↦ why_on t (is.why t (Contains-append_right (place ∷ []) rest t r))
      | inr up ↦ let n = needs_it t up in inr (touched_by t n.1 n.0)
    ];
    each = λ t h. elim (Contains-push_cases changed place t h) [
      | inl old ↦ why_on t (is.each t old)
      | inr same ↦ subst (λ x. Contains start x ⊎ IsTouched tasks first.unihashes.items new.unihashes.items x) same (why_on place (is.why place here))
    ];
  }
    where
      next : next_in (changed ++ place ∷ []) ≡ place + 1
      next = next_pushed changed place

pub worked : (rows : List EquivRow) (tasks : List PlanTask) (first now : Names) (start dirty changed : List ℕ) → ((t : ℕ) → Contains dirty t → ⊥) → IsWorking rows tasks first now start dirty changed → IsWorked rows tasks first now start changed
worked rows tasks first now start dirty changed none is = record {
  long = is.long;
  wide = is.wide;
  right = λ t. elim (is.right t) [ inl left ↦ absurd (none t left) | inr right ↦ right ];
  found = is.found;
  once = is.once;
  all = λ t h. elim (is.all t h) [ inl left ↦ absurd (none t left) | inr done ↦ done ];
  within = λ t h. (is.done t h).1;
  each = is.each;
  whole = λ t. elim (is.whole t) [ inl left ↦ absurd (none t left) | inr u ↦ u ];
}
