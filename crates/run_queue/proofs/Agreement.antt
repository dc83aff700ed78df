-- What is known of a plan's tasks agrees with what the definitions say is there and needed, as far as a run asks.
use Rattle.std.proofs.Common.{◌≡◌, ◌∙◌, sym, ap, subst, refl, ℕ, ◌<◌, zero, suc, arith, Bool, true, false, List, [], ◌∷◌, ◌++◌, length, get_or, replicate, Some, None, inl, inr}
use Rattle.std.specs.Prelude.{◌⊎◌, ◌≢◌, All, Option, IfSome, if◌then◌else◌}
use Rattle.std.specs.List.{slice_get}
use Rattle.std.proofs.lemmas.Bool.{cases_eq, false≢true}
use Rattle.std.proofs.lemmas.Option.{slice_get_within}
use Rattle.meta_model.specs.declared.event.Avail.{Avail}
use Rattle.meta_model.specs.declared.event.Avail.TheVariants.{Missing}
use Rattle.meta_model.specs.declared.event.Event.{Event}
use Rattle.meta_model.specs.declared.event.Event.TheVariants as events
use Rattle.meta_model.specs.declared.event.Logged.{Logged}
use Rattle.meta_model.specs.declared.plan.Plan.{Plan}
use Rattle.meta_model.specs.declared.plan.PlanTask.{PlanTask}
use Rattle.tale_model.specs.declared.fate.Fate.{Fate}
use Rattle.tale_model.specs.declared.fate.Fate.TheVariants as fate
use Rattle.run_core.specs.Fates.{CanMark}
use Rattle.tale_model.specs.Fates.{fate_at, fate_by, fates_by, fates_told, is_running, is_settled, task_of}
use Rattle.tale_model.specs.History.{EachAfter}
use Rattle.run_core.specs.History.{IsOrderly}
use Rattle.tale_model.specs.Need.{IsClosed, IsIn, IsNeed, deps_of}
use Rattle.run_core.proofs.Marking.{fate_kept, fate_set}
use Rattle.run_core.proofs.Seats.{by_fronts, settled_kept}
use Rattle.run_core.proofs.Steps.{count_told, told_push}
use Rattle.store_model.specs.Signatures.{signatures}
use Rattle.store_model.specs.declared.signature.EquivRow.{EquivRow}
use Rattle.store_model.proofs.Needing.{available_one_way}
use Rattle.setscene_plan.proofs.Naming.{signed_count}
use Rattle.run_model.specs.Opening.{Opening}
use Rattle.run_model.specs.Courses.{IsThere, IsThereOver}
use Rattle.run_queue.specs.Keeps.{IsRun, IsUpToDate, WasThere}
use Rattle.run_queue.specs.Seen.{Known, Seen}
use Rattle.run_model.specs.Stands.{HasEnded}

-- Two views of what is needed and there agree on the tasks that aren't settled: on which are needed, and, of those that are needed and
-- haven't ended, on how their outputs are there; and what the second view needs the first needs too, or it is settled. So they agree as
-- far as a run asks.
pub record AgreeUnsettled (need other_need : List Bool) (avail other_avail : List Avail) (fates : List Fate) : Type 0 where
  pub needed : (t : ℕ) → is_settled (fate_at fates t) ≡ false → slice_get need t ≡ slice_get other_need t
  pub available : (t : ℕ) → (fate_at fates t ≡ fate.Ended → ⊥) → IsIn need t → slice_get avail t ≡ slice_get other_avail t
  pub unsettled : (t : ℕ) → IsIn other_need t → IsIn need t ⊎ (is_settled (fate_at fates t) ≡ true)

-- ---- what a task that ended needs is settled

abbrev SettledBelow : List PlanTask → List Fate → ℕ → Type 0
SettledBelow tasks fates t = All (λ d. is_settled (fate_at fates d) ≡ true) (deps_of tasks t)

-- what tasks need that run, or have ended, is settled
record AreOver (tasks : List PlanTask) (fates : List Fate) : Type 0 where
  runs : (t : ℕ) → is_running (fate_at fates t) ≡ true → SettledBelow tasks fates t
  ended : (t : ℕ) → fate_at fates t ≡ fate.Ended → SettledBelow tasks fates t

waits : (count t : ℕ) → fate_at (replicate count fate.Waiting) t ≡ fate.Waiting
waits zero t = refl
waits (suc count) zero = refl
waits (suc count) (suc t) = waits count t

over_first : (tasks : List PlanTask) → AreOver tasks (fates_told (length tasks) [])
over_first tasks = record {
  runs = λ t is. absurd (false≢true (sym (ap is_running (waits (length tasks) t)) ∙ is));
  ended = λ t is. absurd (let n : fate.Waiting ≡ fate.Ended = sym (waits (length tasks) t) ∙ is in cc);
}

-- an event by which a task runs starts it over settled dependencies
run_over : (tasks : List PlanTask) (fates : List Fate) (seat : ℕ) (event : Event) → Rattle.run_core.specs.History.IsOfSeat tasks fates seat event → is_running (fate_by event) ≡ true → SettledBelow tasks fates (task_of event)
run_over tasks fates seat (events.Found t) by is = absurd (false≢true is)
run_over tasks fates seat (events.Restored t) by is = absurd (false≢true is)
run_over tasks fates seat (events.Started t own) by is = by.1
run_over tasks fates seat (events.Ended t) by is = absurd (false≢true is)
run_over tasks fates seat (events.Failed t cause) by is = absurd (false≢true is)
run_over tasks fates seat (events.Broke t cut) by is = absurd (false≢true is)

-- an event by which a task has ended is of one that ran
end_over : (fates : List Fate) (event : Event) → CanMark fates event → fate_by event ≡ fate.Ended → is_running (fate_at fates (task_of event)) ≡ true
end_over fates (events.Found t) can is = absurd (let n : fate.Found ≡ fate.Ended = is in cc)
end_over fates (events.Restored t) can is = absurd (let n : fate.Restored ≡ fate.Ended = is in cc)
end_over fates (events.Started t own) can is = absurd (let n : fate.Running own ≡ fate.Ended = is in cc)
end_over fates (events.Ended t) can is = can.1
end_over fates (events.Failed t cause) can is = absurd (let n : fate.Failed ≡ fate.Ended = is in cc)
end_over fates (events.Broke t cut) can is = absurd (let n : fate.Waiting ≡ fate.Ended = is in cc)

over_next : (tasks : List PlanTask) (before : List Logged) (entry : Logged) → AreOver tasks (fates_told (length tasks) before) → IsOrderly tasks before entry → AreOver tasks (fates_told (length tasks) (before ++ entry ∷ []))
over_next tasks before entry over order = subst (AreOver tasks) (sym (told_push (length tasks) before entry)) made
  where
    fates : List Fate
    fates = fates_told (length tasks) before

    kept : (t : ℕ) → SettledBelow tasks fates t → SettledBelow tasks (fates_by fates entry.event) t
    kept t below k d lt = settled_kept fates entry.event order.can (get_or (deps_of tasks t) k d) (below k d lt)

    own : (t : ℕ) → t ≡ task_of entry.event → fate_at (fates_by fates entry.event) t ≡ fate_by entry.event
    own t same = ap (fate_at (fates_by fates entry.event)) same ∙ fate_set fates (task_of entry.event) (fate_by entry.event) (Rattle.run_core.proofs.Seats.within fates entry.event order.can)

    other : (t : ℕ) → t ≢ task_of entry.event → fate_at (fates_by fates entry.event) t ≡ fate_at fates t
    other t ne = fate_kept fates (task_of entry.event) t (fate_by entry.event) ne

    made : AreOver tasks (fates_by fates entry.event)
    made = record {
      runs = λ t is. elim (cases_eq t (task_of entry.event)) [
        | inl same ↦ kept t (subst (SettledBelow tasks fates) (sym same) (run_over tasks fates entry.seat entry.event order.by_seat (sym (ap is_running (own t same)) ∙ is)))
        | inr ne ↦ kept t (over.runs t (sym (ap is_running (other t ne)) ∙ is))
      ];
      ended = λ t is. elim (cases_eq t (task_of entry.event)) [
        | inl same ↦ kept t (subst (SettledBelow tasks fates) (sym same) (over.runs (task_of entry.event) (end_over fates entry.event order.can (sym (own t same) ∙ is))))
        | inr ne ↦ kept t (over.ended t (sym (other t ne) ∙ is))
      ];
    }

pub ended_over : (tasks : List PlanTask) (tale : List Logged) → EachAfter (IsOrderly tasks) tale → (t : ℕ) → fate_at (fates_told (length tasks) tale) t ≡ fate.Ended → All (λ d. is_settled (fate_at (fates_told (length tasks) tale) d) ≡ true) (deps_of tasks t)
ended_over tasks tale each t is = (by_fronts (IsOrderly tasks) (λ l. AreOver tasks (fates_told (length tasks) l)) (over_first tasks) (over_next tasks) tale each).ended t is

pub running_over : (tasks : List PlanTask) (tale : List Logged) → EachAfter (IsOrderly tasks) tale → (t : ℕ) → is_running (fate_at (fates_told (length tasks) tale) t) ≡ true → All (λ d. is_settled (fate_at (fates_told (length tasks) tale) d) ≡ true) (deps_of tasks t)
running_over tasks tale each t is = (by_fronts (IsOrderly tasks) (λ l. AreOver tasks (fates_told (length tasks) l)) (over_first tasks) (over_next tasks) tale each).runs t is

-- ---- sets

-- the members of a set, and the settled tasks
abbrev with_settled : List Bool → List Fate → List Bool
with_settled [] fates = []
with_settled (b ∷ set) [] = b ∷ set
with_settled (b ∷ set) (f ∷ fates) = (if b then true else is_settled f) ∷ with_settled set fates

-- what two sets both have
abbrev both : List Bool → List Bool → List Bool
both [] other = []
both (b ∷ set) [] = []
both (b ∷ set) (c ∷ other) = (if b then c else false) ∷ both set other

long_with : (set : List Bool) (fates : List Fate) → length (with_settled set fates) ≡ length set
long_with [] fates = refl
long_with (b ∷ set) [] = refl
long_with (b ∷ set) (f ∷ fates) = ap suc (long_with set fates)

in_with : (set : List Bool) (fates : List Fate) (t : ℕ) → IsIn set t → IsIn (with_settled set fates) t
in_with [] fates t is = is
in_with (b ∷ set) [] t is = is
in_with (true ∷ set) (f ∷ fates) zero is = refl
in_with (false ∷ set) (f ∷ fates) zero is = absurd (let n : Some false ≡ Some true = is in cc)
in_with (b ∷ set) (f ∷ fates) (suc t) is = in_with set fates t is

settled_with : (set : List Bool) (fates : List Fate) (t : ℕ) → length fates ≡ length set → is_settled (fate_at fates t) ≡ true → IsIn (with_settled set fates) t
settled_with [] [] t long is = absurd (false≢true is)
settled_with [] (f ∷ fates) t long is = absurd (omega (arith, long))
settled_with (b ∷ set) [] t long is = absurd (omega (arith, long))
settled_with (true ∷ set) (f ∷ fates) zero long is = refl
settled_with (false ∷ set) (f ∷ fates) zero long is = ap Some is
settled_with (b ∷ set) (f ∷ fates) (suc t) long is = settled_with set fates t (omega (arith, long)) is

of_with : (set : List Bool) (fates : List Fate) (t : ℕ) → IsIn (with_settled set fates) t → IsIn set t ⊎ (is_settled (fate_at fates t) ≡ true)
of_with [] fates t is = inl is
of_with (b ∷ set) [] t is = inl is
of_with (true ∷ set) (f ∷ fates) zero is = inl refl
of_with (false ∷ set) (f ∷ fates) zero is = inr (let e : Some (is_settled f) ≡ Some true = is in cc)
of_with (b ∷ set) (f ∷ fates) (suc t) is = of_with set fates t is

in_both : (set other : List Bool) (t : ℕ) → IsIn set t → IsIn other t → IsIn (both set other) t
in_both [] other t a b = a
in_both (x ∷ set) [] t a b = b
in_both (true ∷ set) (y ∷ other) zero a b = b
in_both (false ∷ set) (y ∷ other) zero a b = absurd (let n : Some false ≡ Some true = a in cc)
in_both (x ∷ set) (y ∷ other) (suc t) a b = in_both set other t a b

of_both : (set other : List Bool) (t : ℕ) → IsIn (both set other) t → IsIn set t × IsIn other t
of_both [] other t is = absurd (let n : None ≡ Some true = is in cc)
of_both (x ∷ set) [] t is = absurd (let n : None ≡ Some true = is in cc)
of_both (true ∷ set) (y ∷ other) zero is = (refl, is)
of_both (false ∷ set) (y ∷ other) zero is = absurd (let n : Some false ≡ Some true = is in cc)
of_both (x ∷ set) (y ∷ other) (suc t) is = of_both set other t is

-- sets of one length say the same of a task that is in both, or in none
same_flag : (set other : List Bool) (t : ℕ) → length set ≡ length other → (IsIn set t → IsIn other t) → (IsIn other t → IsIn set t) → slice_get set t ≡ slice_get other t
same_flag [] [] t long on back = refl
same_flag [] (y ∷ other) t long on back = absurd (omega (arith, long))
same_flag (x ∷ set) [] t long on back = absurd (omega (arith, long))
same_flag (true ∷ set) (y ∷ other) zero long on back = sym (on refl)
same_flag (false ∷ set) (true ∷ other) zero long on back = back refl
same_flag (false ∷ set) (false ∷ other) zero long on back = refl
same_flag (x ∷ set) (y ∷ other) (suc t) long on back = same_flag set other t (omega (arith, long)) on back

-- ---- the needs of two lists that agree on needed tasks that haven't ended

-- what a task needs that has ended is settled, and a settled one that hasn't isn't missing
record Settles (tasks : List PlanTask) (avail : List Avail) (fates : List Fate) : Type 0 where
  below : (t : ℕ) → fate_at fates t ≡ fate.Ended → SettledBelow tasks fates t
  there : (t : ℕ) → is_settled (fate_at fates t) ≡ true → (fate_at fates t ≡ fate.Ended → ⊥) → slice_get avail t ≢ Some Missing

ended_or : (fates : List Fate) (t : ℕ) → (fate_at fates t ≡ fate.Ended) ⊎ (fate_at fates t ≡ fate.Ended → ⊥)
ended_or fates t = by (fate_at fates t)
  where
    by : (f : Fate) → (f ≡ fate.Ended) ⊎ (f ≡ fate.Ended → ⊥)
    by fate.Waiting = inr (λ e. cc)
    by (fate.Running seat) = inr (λ e. cc)
    by fate.Found = inr (λ e. cc)
    by fate.Restored = inr (λ e. cc)
    by fate.Ended = inl refl
    by fate.Failed = inr (λ e. cc)

module _ (plan : Plan) (need other : List Bool) (avail others : List Avail) (fates : List Fate) (long : length fates ≡ length plan.tasks) (is : IsNeed plan avail need) (too : IsNeed plan others other)
    (agree : (t : ℕ) → (fate_at fates t ≡ fate.Ended → ⊥) → IsIn need t → slice_get avail t ≡ slice_get others t) (settles : Settles plan.tasks others fates) where
  in_front : (t : ℕ) → is_settled (fate_at fates t) ≡ true → IsIn (with_settled need fates) t
  in_front t settled = settled_with need fates t (long ∙ sym is.long) settled

  in_back : (t : ℕ) → is_settled (fate_at fates t) ≡ true → IsIn (with_settled other fates) t
  in_back t settled = settled_with other fates t (long ∙ sym too.long) settled

  -- what the first view needs, and what is settled, is closed for the second
  closed_front : IsClosed plan others (with_settled need fates)
  closed_front = record {
    targets = λ k d lt. in_with need fates (get_or plan.targets k d) (is.closed.targets k d lt);
    nostamp = λ t task found forced. in_with need fates t (is.closed.nostamp t task found forced);
    dependencies = λ t member lacks k d lt. elim (ended_or fates t) [
      | inl ended ↦ in_front (get_or (deps_of plan.tasks t) k d) (settles.below t ended k d lt)
      | inr not_yet ↦ elim (of_with need fates t member) [
        | inl here ↦ in_with need fates (get_or (deps_of plan.tasks t) k d) (is.closed.dependencies t here (agree t not_yet here ∙ lacks) k d lt)
        | inr settled ↦ absurd (settles.there t settled not_yet lacks)
      ]
    ];
  }

  unsettled_is : (t : ℕ) → IsIn other t → IsIn need t ⊎ (is_settled (fate_at fates t) ≡ true)
  unsettled_is t member = of_with need fates t (too.least (with_settled need fates) closed_front t member)

  -- what both views need, and what is settled of what the first needs, is closed for the first
  closed_back : IsClosed plan avail (both need (with_settled other fates))
  closed_back = record {
    targets = λ k d lt. in_both need (with_settled other fates) (get_or plan.targets k d) (is.closed.targets k d lt) (in_with other fates (get_or plan.targets k d) (too.closed.targets k d lt));
    nostamp = λ t task found forced. in_both need (with_settled other fates) t (is.closed.nostamp t task found forced) (in_with other fates t (too.closed.nostamp t task found forced));
    dependencies = λ t member lacks k d lt.
        let parts = of_both need (with_settled other fates) t member in
        in_both need (with_settled other fates) (get_or (deps_of plan.tasks t) k d) (is.closed.dependencies t parts.0 lacks k d lt)
        (elim (ended_or fates t) [
          | inl ended ↦ in_back (get_or (deps_of plan.tasks t) k d) (settles.below t ended k d lt)
          | inr not_yet ↦ elim (of_with other fates t parts.1) [
            | inl there ↦ in_with other fates (get_or (deps_of plan.tasks t) k d) (too.closed.dependencies t there (sym (agree t not_yet parts.0) ∙ lacks) k d lt)
            | inr settled ↦ absurd (settles.there t settled not_yet (sym (agree t not_yet parts.0) ∙ lacks))
          ]
        ]);
  }

  needed_on : (t : ℕ) → is_settled (fate_at fates t) ≡ false → IsIn need t → IsIn other t
  needed_on t rests member = elim (of_with other fates t (of_both need (with_settled other fates) t (is.least (both need (with_settled other fates)) closed_back t member)).1) [
    | inl there ↦ there
    | inr settled ↦ absurd (false≢true (sym rests ∙ settled))
  ]

  needed_back : (t : ℕ) → is_settled (fate_at fates t) ≡ false → IsIn other t → IsIn need t
  needed_back t rests member = elim (unsettled_is t member) [
    | inl here ↦ here
    | inr settled ↦ absurd (false≢true (sym rests ∙ settled))
  ]

  agree_unsettled : AgreeUnsettled need other avail others fates
  agree_unsettled = record {
    needed = λ t rests. same_flag need other t (is.long ∙ sym too.long) (needed_on t rests) (needed_back t rests);
    available = agree;
    unsettled = unsettled_is;
  }

-- ---- what a run knows

-- the place of a list that is as long holds something
at_place : {A B : Type 0} (xs : List A) (ys : List B) (t : ℕ) (x : A) → slice_get xs t ≡ Some x → length ys ≡ length xs → (y : B) × (slice_get ys t ≡ Some y)
at_place [] ys t x is long = absurd (let n : None ≡ Some x = is in cc)
at_place (a ∷ xs) [] t x is long = absurd (omega (arith, long))
at_place (a ∷ xs) (b ∷ ys) zero x is long = (b, refl)
at_place (a ∷ xs) (b ∷ ys) (suc t) x is long = at_place xs ys t x is (omega (arith, long))

pub some_known : (P : Known → Type 0) (x : Option Known) (k : Known) → x ≡ Some k → IfSome x P → P k
some_known P x k is h = subst (λ (y : Option Known). IfSome y P) is h

pub agreement : (o : Opening) (s : Seen) (k : Known) → IsRun o s → EachAfter (IsOrderly s.plan.tasks) s.tale → s.known ≡ Some k → IsUpToDate s.plan s.rows k →
    (avail : List Avail) (need : List Bool) → IsThere o s.plan s.options s.tale avail → IsNeed s.plan avail need → AgreeUnsettled k.need need k.avail avail (fates_told (length s.plan.tasks) s.tale)
agreement o s k run orderly known now avail need there is =
    agree_unsettled s.plan k.need need k.avail avail (fates_told (length s.plan.tasks) s.tale) (count_told (length s.plan.tasks) s.tale) now.need is
    agree
    (record { below = λ t ended. ended_over s.plan.tasks s.tale orderly t ended; there = not_missing })
  where
    over : IsThereOver o.story.held s.plan s.options.setscene s.rows avail
    over = subst (λ (r : List EquivRow). IsThereOver o.story.held s.plan s.options.setscene r avail) (sym run.rows) there

    -- what was answered is what the definitions say
    one : (t : ℕ) (a b : Avail) → t < length s.plan.tasks → WasThere o s t a → slice_get avail t ≡ Some b → a ≡ b
    one t a b lt was is_b =
        let sg = at_place avail (signatures s.rows s.plan.tasks) t b is_b (signed_count s.rows s.plan.tasks ∙ sym over.long) in
        available_one_way o.story.held s.rows s.options.setscene sg.0 a b (was sg.0 sg.1) (over.each t sg.0 b sg.1 is_b)

    agree : (t : ℕ) → (fate_at (fates_told (length s.plan.tasks) s.tale) t ≡ fate.Ended → ⊥) → IsIn k.need t → slice_get k.avail t ≡ slice_get avail t
    agree t not_yet member =
        let a = at_place k.need k.avail t true member (now.long ∙ sym now.need.long) in
        let b = at_place k.need avail t true member (over.long ∙ sym now.need.long) in
        let lt : t < length s.plan.tasks = subst (λ n. t < n) now.need.long (slice_get_within k.need t true member) in
        let was = some_known (λ (x : Known). (u : ℕ) (c : Avail) → IsIn x.need u → (HasEnded s.plan s.tale u → ⊥) → slice_get x.avail u ≡ Some c → WasThere o s u c) s.known k known run.there t a.0 member not_yet a.1 in
        a.1 ∙ ap Some (one t a.0 b.0 lt was b.1) ∙ sym b.1

    not_missing : (t : ℕ) → is_settled (fate_at (fates_told (length s.plan.tasks) s.tale) t) ≡ true → (fate_at (fates_told (length s.plan.tasks) s.tale) t ≡ fate.Ended → ⊥) → slice_get avail t ≢ Some Missing
    not_missing t settled not_yet missing =
        let m = run.met t settled not_yet in
        let lt : t < length s.plan.tasks = subst (λ n. t < n) over.long (slice_get_within avail t Missing missing) in
        m.2 (one t m.0 Missing lt m.1 missing)
