-- With `-k` each task that fails by itself is told.
use Rattle.std.proofs.Common.{◌≡◌, ◌∙◌, sym, ap, subst, refl, ℕ, ◌+◌, ◌<◌, ◌≤◌, zero, suc, arith, true, List, [], ◌∷◌, length, get_or, replicate, Some, None, Ok, Err, inl, inr}
use Rattle.std.specs.Prelude.{◌⊎◌, Contains, Option, Result, fold, map}
use Rattle.std.specs.List.{filter_map, slice_get}
use Rattle.std.proofs.lemmas.List.Elements.{All-contains, recursion_from_All}
use Rattle.std.proofs.lemmas.Option.{slice_get-get_or, slice_get_within}
use Rattle.outside_traits.specs.Passes.{EachNow}
use Rattle.outside_traits.specs.Story.{IsSound as IsStorySound, Story}
use Rattle.outside_traits.proofs.Images.{held-image}
use Rattle.meta_model.specs.declared.event.Event.{Event}
use Rattle.meta_model.specs.declared.event.Event.TheVariants as events
use Rattle.meta_model.specs.declared.event.Logged.{Logged}
use Rattle.meta_model.specs.declared.event.Status.{Status}
use Rattle.meta_model.specs.declared.event.Why.{Why}
use Rattle.meta_model.specs.declared.plan.Options.{Options}
use Rattle.meta_model.specs.declared.plan.Plan.{Plan}
use Rattle.meta_model.specs.declared.plan.PlanTask.{PlanTask}
use Rattle.meta_model.specs.CleanBuild.{Built, Entries, Gives, Lack, built_over, clean_build, fails, outputs_of, waits}
use Rattle.meta_model.specs.Layout.{Needed}
use Rattle.meta_model.specs.Walks.{Walk}
use Rattle.plan_model.specs.Sound.{AreWanted, IsSound}
use Rattle.tale_model.specs.declared.fate.Fate.{Fate}
use Rattle.tale_model.specs.declared.fate.Fate.TheVariants as fate
use Rattle.tale_model.specs.Choice.{IsHeldUp, WaitsOn}
use Rattle.tale_model.specs.Fates.{fate_at, fate_by, fates_by, fates_told, is_settled, task_of}
use Rattle.tale_model.specs.Need.{IsIn, deps_in, deps_of}
use Rattle.run_queue.specs.Laws.{HasOutput}
use Rattle.run_model.specs.Opening.{Opening}
use Rattle.run_model.specs.Stands.{AllStand}
use Rattle.run_model.specs.Outcome.{IsAtEnd}
use Rattle.run_queue.proofs.Failing.{has_task}
use Rattle.run_queue.proofs.Wanted.{built_long, dep_ok, is_below, under_ok}
use Rattle.run_model.specs.Build.{FailsClean, failed_by, failed_in}
use Rattle.build_resume.specs.Outcome.{KeptTo}
use Rattle.build_resume.proofs.Outcomes.{built_at, failed_within, kept_real, none_failed}

-- ---- what failed on the board did so in the tale

set_failed : (fates : List Fate) (t u : ℕ) (f : Fate) → fate_at (Rattle.std.proofs.Common.set fates u f) t ≡ fate.Failed → (fate_at fates t ≡ fate.Failed) ⊎ ((f ≡ fate.Failed) × (u ≡ t))
set_failed [] t u f e = inl e
set_failed (x ∷ xs) zero zero f e = inr (e, refl)
set_failed (x ∷ xs) (suc t) zero f e = inl e
set_failed (x ∷ xs) zero (suc u) f e = inl e
set_failed (x ∷ xs) (suc t) (suc u) f e = elim (set_failed xs t u f e) [ inl was ↦ inl was | inr is ↦ inr (is.0, ap suc is.1) ]

failed_here : (event : Event) (more : List ℕ) (t : ℕ) → fate_by event ≡ fate.Failed → task_of event ≡ t → Contains (failed_by event more) t
failed_here (events.Found u) more t e is = absurd (let n : fate.Found ≡ fate.Failed = e in cc)
failed_here (events.Restored u) more t e is = absurd (let n : fate.Restored ≡ fate.Failed = e in cc)
failed_here (events.Started u seat) more t e is = absurd (let n : fate.Running seat ≡ fate.Failed = e in cc)
failed_here (events.Ended u) more t e is = absurd (let n : fate.Ended ≡ fate.Failed = e in cc)
failed_here (events.Failed u w) more t e is = (zero, omega arith, is)
failed_here (events.Broke u c) more t e is = absurd (let n : fate.Waiting ≡ fate.Failed = e in cc)

failed_later : (event : Event) (more : List ℕ) (t : ℕ) → Contains more t → Contains (failed_by event more) t
failed_later (events.Found u) more t has = has
failed_later (events.Restored u) more t has = has
failed_later (events.Started u seat) more t has = has
failed_later (events.Ended u) more t has = has
failed_later (events.Failed u w) more t has = (suc has.0, omega (arith, has.1), has.2)
failed_later (events.Broke u c) more t has = has

told_on : (tale : List Logged) (fates : List Fate) (t : ℕ) → fate_at (fold fates_by fates (map (λ (e : Logged). e.event) tale)) t ≡ fate.Failed → (fate_at fates t ≡ fate.Failed) ⊎ Contains (failed_in tale) t
told_on [] fates t e = inl e
told_on (x ∷ tale) fates t e = elim (told_on tale (fates_by fates x.event) t e) [
  | inl now ↦ elim (set_failed fates t (task_of x.event) (fate_by x.event) now) [
    | inl was ↦ inl was
    | inr is ↦ inr (failed_here x.event (failed_in tale) t is.0 is.1)
  ]
  | inr later ↦ inr (failed_later x.event (failed_in tale) t later)
]

board_told : (count : ℕ) (tale : List Logged) (t : ℕ) → fate_at (fates_told count tale) t ≡ fate.Failed → Contains (failed_in tale) t
board_told count tale t e = elim (told_on tale (replicate count fate.Waiting) t e) [ inl first ↦ absurd (none_failed count t first) | inr told ↦ told ]

-- ---- what fails by itself has all that it needs

fails_over : (gives : Gives) (task : PlanTask) (needed : Result (List Needed) Lack) (cause : Why) → built_over gives task needed ≡ Err (fails cause) → (all : List Needed) × (needed ≡ Ok all)
fails_over gives task (Ok all) cause e = (all, refl)
fails_over gives task (Err lack) cause e = absurd (let n : ◌≡◌ {A = Result Entries Lack} (Err waits) (Err (fails cause)) = e in cc)

under_failed : (gives : Gives) (plan : Plan) → IsSound plan → (u d : ℕ) (built : Built) → slice_get (clean_build gives plan.tasks) u ≡ Some built → (cause : Why) → built.outcome ≡ Err (fails cause) → Contains (deps_of plan.tasks u) d → HasOutput gives plan d
under_failed gives plan sound u d built is cause failed has other other_is = by (slice_get plan.tasks u) refl
  where
    there : (task : PlanTask) → slice_get plan.tasks u ≡ Some task → (tree : Entries) × (other.outcome ≡ Ok tree)
    there task at =
        let needed = outputs_of (filter_map (slice_get (clean_build gives plan.tasks)) task.deps) in
        let over : built_over gives task needed ≡ Err (fails cause) =
        sym (has_task gives plan.tasks u task built at (recursion_from_All (λ x. x < u) task.deps (sound.tasks u task at).below) is) ∙ failed in
        let all = fails_over gives task needed cause over in
        dep_ok (clean_build gives plan.tasks) task.deps d other other_is all.0 all.1 (subst (λ (l : List ℕ). Contains l d) (ap deps_in at) has)

    by : (x : Option PlanTask) → slice_get plan.tasks u ≡ x → (tree : Entries) × (other.outcome ≡ Ok tree)
    by (Some task) at = there task at
    by None at = absurd (let none : deps_of plan.tasks u ≡ [] = ap deps_in at in let h : Contains {X = ℕ} [] d = subst (λ (l : List ℕ). Contains l d) none has in let lt = h.1 in omega (arith, lt))

-- ---- at the end of a run

ok_not_err : (x : Entries) (y : Lack) → ◌≡◌ {A = Result Entries Lack} (Ok x) (Err y) → ⊥
ok_not_err x y e = cc

same_built : (one other : Built) → ◌≡◌ {A = Option Built} (Some one) (Some other) → one ≡ other
same_built one other e = cc

module _ (o : Opening) (plan : Plan) (options : Options) (tale : List Logged) (s : Status) (story : Story) (k : KeptTo o plan options tale s story) (lawful : IsStorySound story) (sound : IsSound plan) (wanted : AreWanted plan) (end : IsAtEnd plan options tale) where
  abbrev fates : List Fate
  fates = fates_told (length plan.tasks) tale

  abbrev Lacks : ℕ → Type 0
  Lacks t = HasOutput o.gives plan t → ⊥

  stand : EachNow story (AllStand o plan tale)
  stand = subst (λ (x : Story). EachNow x (AllStand o plan tale)) k.story_is
      (subst (λ (l : List Logged). EachNow k.last.story (AllStand o plan l)) k.tale_is (subst (λ (p : Plan). EachNow k.last.story (AllStand o p k.last.tale)) k.plan_is k.run.stands))

  settled_has : (t : ℕ) (task : PlanTask) → slice_get plan.tasks t ≡ Some task → is_settled (fate_at fates t) ≡ true → HasOutput o.gives plan t
  settled_has t task at settled built is =
      let stands = stand story.held (held-image story lawful) t task at settled in
      (stands.work.tree, ap (λ (b : Built). b.outcome) (same_built built stands.built (sym is ∙ stands.is_built)) ∙ stands.work.clean)

  fails_at : (t : ℕ) → fate_at fates t ≡ fate.Failed → FailsClean o.gives plan t
  fails_at t failed = kept_real o plan options tale s story k t (board_told (length plan.tasks) tale t failed)

  failed_lacks : (t : ℕ) → fate_at fates t ≡ fate.Failed → Lacks t
  failed_lacks t failed has =
      let task = failed_within o plan options tale s story k t (board_told (length plan.tasks) tale t failed) in
      let b = built_at o.gives plan.tasks t (slice_get_within plan.tasks t task.0 task.1) in
      let f = fails_at t failed b.0 b.1 in
      let h = has b.0 b.1 in
      ok_not_err h.0 (fails f.0) (sym h.1 ∙ f.1)

  walk_lacks : (n t f : ℕ) → Walk (WaitsOn plan.tasks end.avail fates) n t f → Lacks f → Lacks t
  walk_lacks zero t f same lacks = subst Lacks (sym same) lacks
  walk_lacks (suc n) t f walk lacks = λ has. walk_lacks n walk.0 f walk.2 lacks (under_ok o.gives plan sound t walk.0 has walk.1.needs)

  -- a task that is held up has failed, or waits for its missing output, and a task that it needs has none
  abbrev Held : ℕ → Type 0
  Held t = (fate_at fates t ≡ fate.Failed) ⊎ ((d : ℕ) × WaitsOn plan.tasks end.avail fates t d × Lacks d)

  held_by : (t : ℕ) → IsHeldUp plan.tasks end.avail fates t → Held t
  held_by t (f, (zero, same), failed) = inl (subst (λ (u : ℕ). fate_at fates u ≡ fate.Failed) (sym same) failed)
  held_by t (f, (suc n, walk), failed) = inr (walk.0, walk.1, walk_lacks n walk.0 f walk.2 (failed_lacks f failed))

  -- a needed task without a clean output is held up
  held_up : (t : ℕ) (task : PlanTask) → slice_get plan.tasks t ≡ Some task → IsIn end.need t → Lacks t → Held t
  held_up t task at needed lacks = elim (end.finished.over t needed) [
    | inl settled ↦ absurd (lacks (settled_has t task at settled))
    | inr held ↦ held_by t held.1
  ]

  -- what a needed task without a clean output needs is needed, if it has none itself
  under_held : (u t : ℕ) (task : PlanTask) → slice_get plan.tasks u ≡ Some task → IsIn end.need u → Lacks u → Contains (deps_of plan.tasks u) t → Lacks t → IsIn end.need t
  under_held u t task at u_in u_lacks needs lacks = elim (held_up u task at u_in u_lacks) [
    | inl failed ↦
        let b = built_at o.gives plan.tasks u (slice_get_within plan.tasks u task at) in
        let f = fails_at u failed b.0 b.1 in
        absurd (lacks (under_failed o.gives plan sound u t b.0 b.1 f.0 f.1 needs))
    | inr held ↦ All-contains (IsIn end.need) (deps_of plan.tasks u) t (end.needed.closed.dependencies u u_in held.1.missing) needs
  ]

  -- each task without a clean output is needed
  is_needed : (left t : ℕ) → length plan.tasks ≤ t + left → t < length plan.tasks → Lacks t → IsIn end.need t
  is_needed zero t past lt lacks = absurd (omega (arith, past, lt))
  is_needed (suc left) t past lt lacks = elim (wanted t lt) [
    | inl target ↦ All-contains (IsIn end.need) plan.targets t end.needed.closed.targets target
    | inr one ↦
        let needs : Contains (deps_of plan.tasks one.0) t = subst (λ (l : List ℕ). Contains l t) (sym (ap deps_in one.2)) one.3 in
        let below = is_below plan sound one.0 t needs in
        let u_lacks : Lacks one.0 = λ out. lacks (under_ok o.gives plan sound one.0 t out needs) in
        let u_in = is_needed left one.0 (omega (arith, below, past)) (slice_get_within plan.tasks one.0 one.1 one.2) u_lacks in
        under_held one.0 t one.1 one.2 u_in u_lacks needs lacks
  ]

  pub all_told : (t : ℕ) (built : Built) → slice_get (clean_build o.gives plan.tasks) t ≡ Some built → (cause : Why) → built.outcome ≡ Err (fails cause) → Contains (failed_in tale) t
  all_told t built is cause failed = by (slice_get plan.tasks t) refl
    where
      lacks : Lacks t
      lacks has = let h = has built is in ok_not_err h.0 (fails cause) (sym h.1 ∙ failed)

      by : (x : Option PlanTask) → slice_get plan.tasks t ≡ x → Contains (failed_in tale) t
      by (Some task) at =
          let lt = slice_get_within plan.tasks t task at in
          elim (held_up t task at (is_needed (length plan.tasks) t (omega (arith)) lt lacks) lacks) [
            | inl e ↦ board_told (length plan.tasks) tale t e
            | inr held ↦ absurd (held.2 (under_failed o.gives plan sound t held.0 built is cause failed held.1.needs))
          ]
      by None at = absurd (let w = slice_get_within (clean_build o.gives plan.tasks) t built is in let l = built_long o.gives plan.tasks in past at w l)
        where
          past : slice_get plan.tasks t ≡ None → t < length (clean_build o.gives plan.tasks) → length (clean_build o.gives plan.tasks) ≡ length plan.tasks → ⊥
          past none w l = let lt : t < length plan.tasks = omega (arith, w, l) in let n : ◌≡◌ {A = Option PlanTask} None (Some (get_or plan.tasks t built.task)) = sym none ∙ slice_get-get_or plan.tasks t built.task lt in cc
