-- Which tasks are said to need each task.
use Rattle.std.proofs.Common.{◌≡◌, sym, ◌∙◌, ap, subst, ℕ, zero, suc, ◌+◌, ◌<◌, ◌≤◌, List, [], ◌∷◌, ◌++◌, All, Contains, length, get_or, set, take, replicate, ◌⊎◌, inl, inr, length-set, get_or-set_same, get_or-set_other, arith}
use Rattle.std.proofs.lemmas.Bool.{cases_eq, cases_lt}
use Rattle.std.proofs.lemmas.List.{take_more, get_or_default}
use Rattle.std.proofs.lemmas.List.Elements.{Contains-append_left, Contains-push, Contains-push_cases}
use Rattle.std.proofs.lemmas.Option.{slice_get_past, slice_get-get_or}
use Rattle.meta_model.specs.declared.plan.PlanTask.{PlanTask}
use Rattle.run_core.specs.Need.{AreOrdered}
use Rattle.tale_model.specs.Need.{deps_in, deps_of}
use Rattle.run_core.specs.Above.{above_of, PutAbove, IsAbove}

pub above_more : (old mid : List (List ℕ)) (deps : List ℕ) (i d task : ℕ) (was : List ℕ) → i < length deps → get_or deps i 0 ≡ d → d < length mid → was ≡ above_of mid d → PutAbove old mid (take i deps) task → PutAbove old (set mid d (was ++ task ∷ [])) (take (i + 1) deps) task
above_more old mid deps i d task was lt is fits read before =
    let grown : take (i + 1) deps ≡ take i deps ++ d ∷ [] = take_more deps i 0 lt ∙ ap (λ y. take i deps ++ y ∷ []) is in
    rw grown (record {
      long = length-set mid d (was ++ task ∷ []) ∙ before.long;
      kept = λ t u h. stays t u (before.kept t u h);
      put = λ t h. elim (Contains-push_cases (take i deps) d t h) [
        | inl front ↦ stays t task (before.put t front)
        | inr same ↦ subst (λ x. Contains (above_of (set mid d (was ++ task ∷ [])) x) task) same (rw (here) (Contains-push was task))
      ];
      only = λ t u h. elim (cases_eq t d) [
        | inl same ↦ elim (Contains-push_cases was task u (subst (λ xs. Contains xs u) here (subst (λ x. Contains (above_of (set mid d (was ++ task ∷ [])) x) u) same h))) [
          | inl front ↦ earlier t u (before.only t u (subst (λ xs. Contains xs u) (read ∙ ap (above_of mid) (sym same)) front))
          | inr e ↦ inr (sym e, subst (Contains (take i deps ++ d ∷ [])) (sym same) (Contains-push (take i deps) d))
        ]
        | inr ne ↦ earlier t u (before.only t u (subst (λ xs. Contains xs u) (get_or-set_other mid d t (was ++ task ∷ []) [] ne) h))
      ];
    })
  where
    here : above_of (set mid d (was ++ task ∷ [])) d ≡ was ++ task ∷ []
    here = get_or-set_same mid d (was ++ task ∷ []) [] fits

    earlier : (t u : ℕ) → Contains (above_of old t) u ⊎ ((u ≡ task) × Contains (take i deps) t) → Contains (above_of old t) u ⊎ ((u ≡ task) × Contains (take i deps ++ d ∷ []) t)
    earlier t u (inl h) = inl h
    earlier t u (inr h) = inr (h.0, Contains-append_left (take i deps) (d ∷ []) t h.1)

    stays : (t u : ℕ) → Contains (above_of mid t) u → Contains (above_of (set mid d (was ++ task ∷ [])) t) u
    stays t u h = elim (cases_eq t d) [
      | inl same ↦ subst (λ x. Contains (above_of (set mid d (was ++ task ∷ [])) x) u) (sym same)
          (subst (λ xs. Contains xs u) (sym (get_or-set_same mid d (was ++ task ∷ []) [] fits)) (Contains-append_left was (task ∷ []) u (subst (λ xs. Contains xs u) (ap (above_of mid) same ∙ sym read) h)))
      | inr ne ↦ subst (λ xs. Contains xs u) (sym (get_or-set_other mid d t (was ++ task ∷ []) [] ne)) h
    ]

pub said_more : (tasks : List PlanTask) (mid new : List (List ℕ)) (place : ℕ) → ((u t : ℕ) → u < place → Contains (deps_of tasks u) t → Contains (above_of mid t) u) → PutAbove mid new (deps_of tasks place) place
    → (u t : ℕ) → u < place + 1 → Contains (deps_of tasks u) t → Contains (above_of new t) u
said_more tasks mid new place said put u t lt h = elim (cases_lt u place) [
  | inl front ↦ put.kept t u (said u t front h)
  | inr last ↦ let same : place ≡ u = omega (arith, lt, last) in subst (Contains (above_of new t)) same (put.put t (subst (λ x. Contains (deps_of tasks x) t) (sym same) h))
]

pub only_more : (tasks : List PlanTask) (mid new : List (List ℕ)) (place : ℕ) → ((u t : ℕ) → Contains (above_of mid t) u → Contains (deps_of tasks u) t) → PutAbove mid new (deps_of tasks place) place
    → (u t : ℕ) → Contains (above_of new t) u → Contains (deps_of tasks u) t
only_more tasks mid new place only put u t h = elim (put.only t u h) [ inl before ↦ only u t before | inr at ↦ subst (λ x. Contains (deps_of tasks x) t) (sym at.0) at.1 ]

none_above : (count t u : ℕ) → Contains (above_of (replicate count []) t) u → ⊥
none_above zero t u h = omega (arith, h.1)
none_above (suc n) zero u h = omega (arith, h.1)
none_above (suc n) (suc t) u h = none_above n t u h

pub only_first : (tasks : List PlanTask) (above : List (List ℕ)) (count : ℕ) → above ≡ replicate count [] → (u t : ℕ) → Contains (above_of above t) u → Contains (deps_of tasks u) t
only_first tasks above count is u t h = absurd (none_above count t u (subst (λ xs. Contains (above_of xs t) u) is h))

no_deps : (tasks : List PlanTask) (u t : ℕ) → length tasks ≤ u → Contains (deps_of tasks u) t → u < length tasks
no_deps tasks u t past h = let held = rw (ap deps_in (slice_get_past tasks u past)) at h in omega (arith, held.1)

pub said_all : (tasks : List PlanTask) (above : List (List ℕ)) → ((u t : ℕ) → u < length tasks → Contains (deps_of tasks u) t → Contains (above_of above t) u) → ((u t : ℕ) → Contains (above_of above t) u → Contains (deps_of tasks u) t) → IsAbove tasks above
said_all tasks above said only = record {
  said = λ u t h. elim (cases_lt u (length tasks)) [
    | inl within ↦ said u t within h
    | inr past ↦ said u t (no_deps tasks u t past h) h
  ];
  only = only;
}

pub list_read : (above : List (List ℕ)) (d : ℕ) (was : List ℕ) → d < length above → was ≡ get_or above d was → was ≡ above_of above d
list_read above d was lt e = e ∙ sym (get_or_default above d [] was lt)

pub deps_here : (tasks : List PlanTask) (place : ℕ) (task : PlanTask) (deps : List ℕ) → place < length tasks → deps ≡ (get_or tasks place task).deps → deps ≡ deps_of tasks place
deps_here tasks place task deps lt is = is ∙ sym (ap deps_in (slice_get-get_or tasks place task lt))

pub deps_below : (tasks : List PlanTask) (place n : ℕ) (task : PlanTask) (deps : List ℕ) → AreOrdered tasks → place < length tasks → length tasks ≡ n → deps ≡ (get_or tasks place task).deps → All (λ d. d < n) deps
deps_below tasks place n task deps ordered lt long is =
    subst (λ (ds : List ℕ). All (λ d. d < n) ds) (sym (deps_here tasks place task deps lt is)) (λ k e within. omega (arith, ordered place k e within, lt, long))
