-- The list of tasks that may be able to go on.
use Rattle.std.proofs.Math.Nat.{suc-add}
use Rattle.std.proofs.Common.{zero-add, ◌≡◌, ◌≢◌, sym, ◌∙◌, ap, subst, refl, ℕ, ◌+◌, ◌<◌, ◌≤◌, Bool, true, false, List, [], ◌∷◌, ◌++◌, Contains, length, length-append, get_or, slice_get, Some, None, ◌⊎◌, inl, inr, zero, suc, arith}
use Rattle.std.proofs.lemmas.Bool.{cases_eq, cases_lt}
use Rattle.std.proofs.lemmas.List.Elements.{Contains-get_or}
use Rattle.std.proofs.lemmas.Option.{same_Some, slice_get-get_or}
use Rattle.meta_model.specs.declared.event.Avail.{Avail}
use Rattle.meta_model.specs.declared.event.Event.{Event}
use Rattle.meta_model.specs.declared.event.Event.TheVariants as events
use Rattle.meta_model.specs.declared.plan.PlanTask.{PlanTask}
use Rattle.tale_model.specs.declared.fate.Fate.{Fate}
use Rattle.tale_model.specs.declared.fate.Fate.TheVariants.{Waiting, Running, Found, Restored, Ended, Failed}
use Rattle.tale_model.specs.Fates.{fate_at, fate_by, task_of, fates_by, is_settled}
use Rattle.run_core.specs.Fates.{CanMark}
use Rattle.tale_model.specs.Need.{deps_of, IsIn}
use Rattle.run_core.specs.Choice.{CannotGoOn}
use Rattle.run_core.specs.Above.{IsAbove, IsListed}
use Rattle.run_core.specs.Candidates.{woken, ChangesOnly}
use Rattle.run_core.proofs.Marking.{fate_set, fate_kept}
use Rattle.run_core.proofs.Seats.{within}

-- an element stands in a list, or it doesn't
pub held_or_not : (xs : List ℕ) (t : ℕ) → Contains xs t ⊎ (Contains xs t → ⊥)
held_or_not [] t = inr (λ h. omega (arith, h.1))
held_or_not (x ∷ xs) t = by_first (cases_eq x t) (held_or_not xs t)
  where
    first : x ≡ t → Contains (x ∷ xs) t
    first e = (0, omega arith, e)

    later : Contains xs t → Contains (x ∷ xs) t
    later h = (suc h.0, omega (arith, h.1), h.2)

    neither : (x ≢ t) → (Contains xs t → ⊥) → Contains (x ∷ xs) t → ⊥
    neither ne none (zero, lt, e) = ne e
    neither ne none (suc k, lt, e) = none (k, omega (arith, lt), e)

    by_first : (x ≡ t) ⊎ (x ≢ t) → Contains xs t ⊎ (Contains xs t → ⊥) → Contains (x ∷ xs) t ⊎ (Contains (x ∷ xs) t → ⊥)
    by_first (inl e) rest = inl (first e)
    by_first (inr ne) (inl h) = inl (later h)
    by_first (inr ne) (inr none) = inr (neither ne none)

waits_or_not : (f : Fate) → (f ≡ Waiting) ⊎ (f ≡ Waiting → ⊥)
waits_or_not Waiting = inl refl
waits_or_not (Running seat) = inr (λ e. let f : Running seat ≡ Waiting = e in cc)
waits_or_not Found = inr (λ e. let f : Found ≡ Waiting = e in cc)
waits_or_not Restored = inr (λ e. let f : Restored ≡ Waiting = e in cc)
waits_or_not Ended = inr (λ e. let f : Ended ≡ Waiting = e in cc)
waits_or_not Failed = inr (λ e. let f : Failed ≡ Waiting = e in cc)

-- what is listed stays so when more is listed, and so does what is listed behind
front_got : (xs ys : List ℕ) (k t : ℕ) → slice_get xs k ≡ Some t → slice_get (xs ++ ys) k ≡ Some t
front_got [] ys k t is = absurd (let e : None ≡ Some t = is in cc)
front_got (x ∷ xs) ys zero t is = is
front_got (x ∷ xs) ys (suc k) t is = front_got xs ys k t is

back_got : (xs ys : List ℕ) (k t : ℕ) → slice_get ys k ≡ Some t → slice_get (xs ++ ys) (length xs + k) ≡ Some t
back_got [] ys k t is = rw (zero-add k) is
back_got (x ∷ xs) ys k t is = rw (suc-add (length xs) k) (back_got xs ys k t is)

pub listed_left : (xs ys : List ℕ) (head t : ℕ) → IsListed xs head t → IsListed (xs ++ ys) head t
listed_left xs ys head t (k, le, is) = (k, le, front_got xs ys k t is)

pub listed_right : (xs ys : List ℕ) (head t : ℕ) → head ≤ length xs → Contains ys t → IsListed (xs ++ ys) head t
listed_right xs ys head t le held = (length xs + held.0, omega (arith, le), back_got xs ys held.0 t (slice_get-get_or ys held.0 t held.1 ∙ ap Some held.2))

module _ (tasks : List PlanTask) (above : List (List ℕ)) (is_above : IsAbove tasks above) (need new_need : List Bool) (avail new_avail : List Avail) (fates : List Fate) (event : Event) (can : CanMark fates event) where
  now_at : fate_at (fates_by fates event) (task_of event) ≡ fate_by event
  now_at = fate_set fates (task_of event) (fate_by event) (within fates event can)

  -- a task that waits after an event waited before, or it broke off and is listed
  waited : (e : Event) → fate_by e ≡ Waiting → Contains (woken above e) (task_of e)
  waited (events.Found t) w = absurd (let f : Found ≡ Waiting = w in cc)
  waited (events.Restored t) w = absurd (let f : Restored ≡ Waiting = w in cc)
  waited (events.Started t seat) w = absurd (let f : Running seat ≡ Waiting = w in cc)
  waited (events.Ended t) w = absurd (let f : Ended ≡ Waiting = w in cc)
  waited (events.Failed t cause) w = absurd (let f : Failed ≡ Waiting = w in cc)
  waited (events.Broke t cut) w = (0, omega arith, refl)

  -- where an event settles a task, those above it are listed
  settles : (e : Event) → is_settled (fate_by e) ≡ true → (u : ℕ) → Contains (deps_of tasks u) (task_of e) → Contains (woken above e) u
  settles (events.Found t) s u h = is_above.said u t h
  settles (events.Restored t) s u h = is_above.said u t h
  settles (events.Started t seat) s u h = absurd (let f : false ≡ true = s in cc)
  settles (events.Ended t) s u h = is_above.said u t h
  settles (events.Failed t cause) s u h = absurd (let f : false ≡ true = s in cc)
  settles (events.Broke t cut) s u h = absurd (let f : false ≡ true = s in cc)

  module _ (u : ℕ) (unlisted : Contains (woken above event) u → ⊥) (needed_before : IsIn new_need u → IsIn need u) (same_avail : slice_get new_avail u ≡ slice_get avail u) where
    waits_before : fate_at (fates_by fates event) u ≡ Waiting → fate_at fates u ≡ Waiting
    waits_before waits = elim (cases_eq u (task_of event)) [
      | inl same ↦ absurd (unlisted (subst (Contains (woken above event)) (sym same) (waited event (sym now_at ∙ ap (fate_at (fates_by fates event)) (sym same) ∙ waits))))
      | inr ne ↦ sym (fate_kept fates (task_of event) u (fate_by event) ne) ∙ waits
    ]

    settled_before : (d : ℕ) → Contains (deps_of tasks u) d → is_settled (fate_at (fates_by fates event) d) ≡ true → is_settled (fate_at fates d) ≡ true
    settled_before d held settled = elim (cases_eq d (task_of event)) [
      | inl same ↦ absurd (unlisted (settles event (ap is_settled (sym now_at ∙ ap (fate_at (fates_by fates event)) (sym same)) ∙ settled) u (subst (Contains (deps_of tasks u)) same held)))
      | inr ne ↦ ap is_settled (sym (fate_kept fates (task_of event) d (fate_by event) ne)) ∙ settled
    ]

    stays : CannotGoOn tasks need avail fates u → CannotGoOn tasks new_need new_avail (fates_by fates event) u
    stays (no_settle, no_ready) = (
      (λ can. no_settle (record {
        needed = needed_before can.needed;
        waits = waits_before can.waits;
        available = elim can.available [ inl w ↦ inl (sym same_avail ∙ w) | inr o ↦ inr (sym same_avail ∙ o) ];
      })),
      (λ ready. no_ready (record {
        needed = needed_before ready.needed;
        waits = waits_before ready.waits;
        missing = sym same_avail ∙ ready.missing;
        settled = λ k d lt. settled_before (get_or (deps_of tasks u) k d) (Contains-get_or (deps_of tasks u) k d lt) (ready.settled k d lt);
      })),
    )

  -- each task that can go on after the event is listed
  pub covered_next : (listed changed : List ℕ) (head : ℕ) → ((t : ℕ) → IsListed listed head t ⊎ CannotGoOn tasks need avail fates t) → ChangesOnly need avail new_need new_avail (fates_by fates event) changed
      → head ≤ length listed → (t : ℕ) → IsListed ((listed ++ woken above event) ++ changed) head t ⊎ CannotGoOn tasks new_need new_avail (fates_by fates event) t
  covered_next listed changed head covered only le t = by_waiting (waits_or_not (fate_at (fates_by fates event) t))
    where
      by_cases : IsListed listed head t ⊎ CannotGoOn tasks need avail fates t → Contains (woken above event) t ⊎ (Contains (woken above event) t → ⊥)
          → Contains changed t ⊎ ((IsIn new_need t → IsIn need t) × (slice_get new_avail t ≡ slice_get avail t))
          → IsListed ((listed ++ woken above event) ++ changed) head t ⊎ CannotGoOn tasks new_need new_avail (fates_by fates event) t
      by_cases (inl old) w o = inl (listed_left (listed ++ woken above event) changed head t (listed_left listed (woken above event) head t old))
      by_cases (inr stuck) (inl new) o = inl (listed_left (listed ++ woken above event) changed head t (listed_right listed (woken above event) head t le new))
      by_cases (inr stuck) (inr un) (inl moved) = inl (listed_right (listed ++ woken above event) changed head t (omega (arith, le, length-append listed (woken above event))) moved)
      by_cases (inr stuck) (inr un) (inr same) = inr (stays t un same.0 same.1 stuck)

      by_waiting : (fate_at (fates_by fates event) t ≡ Waiting) ⊎ (fate_at (fates_by fates event) t ≡ Waiting → ⊥) → IsListed ((listed ++ woken above event) ++ changed) head t ⊎ CannotGoOn tasks new_need new_avail (fates_by fates event) t
      by_waiting (inl waits) = by_cases (covered t) (held_or_not (woken above event) t) (only t waits)
      by_waiting (inr rests) = inr ((λ can. rests can.waits), (λ ready. rests ready.waits))

pub listed_more : (items new : List ℕ) (task : ℕ) → new ≡ items ++ task ∷ [] → ((t : ℕ) → t < task → IsListed items 0 t) → (t : ℕ) → t < task + 1 → IsListed new 0 t
listed_more items new task is listed t lt = elim (cases_lt t task) [
  | inl front ↦ subst (λ xs. IsListed xs 0 t) (sym is) (listed_left items (task ∷ []) 0 t (listed t front))
  | inr last ↦ subst (λ xs. IsListed xs 0 t) (sym is) (listed_right items (task ∷ []) 0 t (omega arith) (0, omega arith, omega (arith, lt, last)))
]

-- the place moves on past a task that can't go on
pub past_one : (P : ℕ → Type 0) (listed : List ℕ) (head x : ℕ) → slice_get listed head ≡ Some x → P x → (t : ℕ) → IsListed listed head t → IsListed listed (head + 1) t ⊎ P t
past_one P listed head x is stuck t (k, le, at) = elim (cases_lt head k) [
  | inl behind ↦ inl (k, omega (arith, behind), at)
  | inr here ↦
      let same : k ≡ head = omega (arith, le, here) in
      let one : Some x ≡ Some t = sym is ∙ ap (slice_get listed) (sym same) ∙ at in
      inr (subst P (same_Some x t one) stuck)
]

pub longer : (old woke changed new mid : List ℕ) (head now : ℕ) → now ≡ head → mid ≡ old ++ woke → new ≡ mid ++ changed → head ≤ length old → now ≤ length new
longer old woke changed new mid head now same first second le = omega (arith, same, ap length first, ap length second, length-append old woke, length-append mid changed, le)
