-- The publications that a run keeps as open, and those that its store has.
use Rattle.std.proofs.Common.{◌≡◌, ◌∙◌, sym, ap, subst, refl, ℕ, inl, inr, true, false, List, [], ◌∷◌, ◌≢◌, All, Some, None, get_or, length}
use Rattle.std.specs.Prelude.{Bool, Option, if◌then◌else◌}
use Rattle.std.specs.Str.{bytes_eq}
use Rattle.meta_model.proofs.Bools.{either_way, same_text, text_itself}
use Rattle.outside_traits.proofs.Puts.{path_cases}
use Rattle.std.specs.List.{slice_get}
use Rattle.std.specs.Option.{option_map}
use Rattle.std.proofs.lemmas.Bool.{cases_eq}
use Rattle.std.proofs.lemmas.Option.{none-some, same_Some}
use Rattle.meta_model.specs.declared.event.Logged.{Logged}
use Rattle.meta_model.specs.declared.plan.Plan.{Plan}
use Rattle.meta_model.specs.declared.plan.PlanTask.{PlanTask}
use Rattle.meta_model.specs.CleanBuild.{Entries}
use Rattle.plan_model.specs.Sound.{IsSound}
use Rattle.tale_model.specs.Fates.{fate_at, fates_told, is_running, is_settled}
use Rattle.tale_model.specs.History.{EachAfter}
use Rattle.tale_model.specs.Need.{deps_in}
use Rattle.run_core.specs.History.{IsOrderly}
use Rattle.store_model.specs.declared.signature.EquivRow.{EquivRow}
use Rattle.store_model.specs.Available.{task_folder}
use Rattle.store_model.specs.Origins.{rows_of}
use Rattle.store_model.specs.Recording.{NeedsHaveRows}
use Rattle.store_model.specs.Reuse.{MayReuse}
use Rattle.store_model.specs.Signatures.{Signed, signatures}
use Rattle.build_store.specs.Openings.{IsOpen, open_view}
use Rattle.build_store.specs.View.{NothingOpen, OpenView, OpenViews, opened_at}
use Rattle.run_model.specs.InFlight.{RunsAfter}
use Rattle.run_model.specs.Opening.{Opening}
use Rattle.run_queue.specs.Flights.{AreFlights, Flies, FliesAs, IsInHand, IsUnderWay, OpenTask, OpenTasks, SameOpen, view_of, with_open}
use Rattle.run_queue.specs.Keeps.{IsRun}
use Rattle.run_queue.specs.Seen.{IsBegun, Seen}
use Rattle.run_queue.proofs.Agreement.{running_over}
use Rattle.run_queue.proofs.Enduring.{differ_at}
use Rattle.run_queue.proofs.OwnNames.{signed_task_at}
use Rattle.run_queue.proofs.Flights.{folders_differ}
use Rattle.run_queue.proofs.Putting.{book_now, readable_now}
use Rattle.run_queue.specs.Mends.{both}
use Rattle.run_queue.proofs.Mends.{both_either, both_none, mend_at, mends_rest}

-- ---- as the store keeps them

-- where the store has none open none is
pub none_of : (opened : OpenTasks) (views : OpenViews) → SameOpen opened views → (folder : List ℕ) → opened_at views folder ≡ None → opened folder ≡ None
none_of opened views same folder none = by (opened folder) (same folder ∙ none)
  where
    by : (x : Option OpenTask) → option_map view_of x ≡ None → x ≡ None
    by None e = refl
    by (Some one) e = absurd (none-some (view_of one) (sym e))

-- and where it has one open that one is
pub some_of : (opened : OpenTasks) (views : OpenViews) → SameOpen opened views → (folder : List ℕ) (view : OpenView) → opened_at views folder ≡ Some view → (one : OpenTask) × (opened folder ≡ Some one) × (view_of one ≡ view)
some_of opened views same folder view is = by (opened folder) refl (same folder ∙ is)
  where
    by : (x : Option OpenTask) → opened folder ≡ x → option_map view_of x ≡ Some view → (one : OpenTask) × (opened folder ≡ Some one) × (view_of one ≡ view)
    by None at e = absurd (none-some view e)
    by (Some one) at e = (one, at, same_Some (view_of one) view e)

-- with one more in front it has that one besides
pub open_besides : (opened : OpenTasks) (views : OpenViews) (one : OpenTask) → SameOpen opened views → SameOpen (with_open (task_folder one.signed.task) one opened) (view_of one ∷ views)
open_besides opened views one same beside = elim (path_cases beside (task_folder one.signed.task)) [
  | inl e ↦
      ap (λ (b : Bool). option_map view_of (if b then Some one else opened beside)) (ap (bytes_eq beside) (sym e) ∙ text_itself beside)
      ∙ sym (ap (λ (b : Bool). if b then Some (view_of one) else opened_at views beside) (ap (λ (f : List ℕ). bytes_eq f beside) (sym e) ∙ text_itself beside))
  | inr ne ↦
      ap (λ (b : Bool). option_map view_of (if b then Some one else opened beside)) (other beside (task_folder one.signed.task) ne) ∙ same beside
      ∙ sym (ap (λ (b : Bool). if b then Some (view_of one) else opened_at views beside) (other (task_folder one.signed.task) beside (λ e. ne (sym e))))
]
  where
    other : (a b : List ℕ) → a ≢ b → bytes_eq a b ≡ false
    other a b ne = elim (either_way (bytes_eq a b)) [ inl equal ↦ absurd (ne (same_text a b equal)) | inr differ ↦ differ ]

-- a store with nothing open has an empty list
pub nothing_is_empty : (views : OpenViews) → NothingOpen views → views ≡ []
nothing_is_empty [] nothing = refl
nothing_is_empty (view ∷ views) nothing = absurd (none-some view (sym (nothing view.folder) ∙ ap (λ (b : Bool). if b then Some view else opened_at views view.folder) (text_itself view.folder)))

-- ---- what flies

-- It runs.
pub flies_runs : (o : Opening) (plan : Plan) (tale : List Logged) (opened : OpenTasks) → IsSound plan → AreFlights o plan tale opened → (t : ℕ) → Flies plan opened t → (seat : ℕ) × RunsAfter plan tale t seat
flies_runs o plan tale opened sound flights t flies = (hand.seat, subst (λ (n : ℕ). RunsAfter plan tale n hand.seat) same hand.runs)
  where
    hand : IsInHand o plan tale (task_folder flies.0.signed.task) flies.0
    hand = flights.each (task_folder flies.0.signed.task) flies.0 flies.1.1

    same : hand.number ≡ t
    same = elim (cases_eq hand.number t) [
      | inl e ↦ e
      | inr ne ↦ absurd (differ_at plan sound hand.number t flies.0.signed.task flies.0.signed.task hand.flight.at flies.1.0 ne refl refl)
    ]

-- All that the laws of open publications take, of a run that keeps no fault.
abbrev pub under_way : (o : Opening) (s : Seen) (run : IsRun o s) → s.fault ≡ None → EachAfter (IsOrderly s.plan.tasks) s.tale → MayReuse o.gives o.reading o.story.held (book_now o s) s.plan.tasks → IsUnderWay o s.plan s.tale run.opened
under_way o s run faultless orderly may = record {
  may = run.may;
  orderly = orderly;
  lines = run.lines;
  grown = run.grown;
  readable = readable_now o s run;
  reuse = may;
  flights = run.flights faultless;
}

module _ (o : Opening) (s : Seen) (run : IsRun o s) (faultless : s.fault ≡ None) (t : ℕ) where
  -- What the store has open of a task with its signature flies.
  pub flies_as : (seat : ℕ) → RunsAfter s.plan s.tale t seat → (x : Signed) → slice_get s.plan.tasks t ≡ Some x.task → slice_get (signatures s.rows s.plan.tasks) t ≡ Some x → (tree : Entries) → IsOpen s.opened x tree → FliesAs s.plan run.opened t (record { signed = x; tree = tree })
  flies_as seat runs x at signed tree is = (at, flies ∙ ap (λ (y : OpenTask). Some y) whole)
    where
      found : (one : OpenTask) × (both run.opened run.mends (task_folder x.task) ≡ Some one) × (view_of one ≡ open_view x tree)
      found = some_of (both run.opened run.mends) s.opened (run.open_are faultless) (task_folder x.task) (open_view x tree) is

      -- it is no restoring, since that would be of this task, which runs
      not_mend : run.mends (task_folder x.task) ≡ Some found.0 → ⊥
      not_mend beside =
          let m = (run.mending faultless).each (task_folder x.task) found.0 beside in
          elim (cases_eq m.number t) [
            | inl same ↦ mends_rest o s run faultless t seat runs (task_folder x.task) found.0 beside same
            | inr ne ↦ folders_differ s.plan run.may.sound m.number t m.own.task x.task (mend_at o s.plan s.rows s.begun s.tale s.restoring (task_folder x.task) found.0 m) at ne (sym m.folder_is)
          ]

      flies : run.opened (task_folder x.task) ≡ Some found.0
      flies = elim (both_either run.opened run.mends (task_folder x.task) found.0 found.1) [ inl it ↦ it | inr beside ↦ absurd (not_mend beside) ]

      hand : IsInHand o s.plan s.tale (task_folder x.task) found.0
      hand = (run.flights faultless).each (task_folder x.task) found.0 flies

      number : hand.number ≡ t
      number = elim (cases_eq hand.number t) [
        | inl e ↦ e
        | inr ne ↦ absurd (folders_differ s.plan run.may.sound hand.number t found.0.signed.task x.task hand.flight.at at ne (sym hand.folder_is))
      ]

      same : found.0.signed ≡ x
      same = same_Some found.0.signed x (sym hand.flight.signed ∙ ap (slice_get (signatures (rows_of (book_now o s)) s.plan.tasks)) number ∙ ap (λ (r : List EquivRow). slice_get (signatures r s.plan.tasks) t) (sym run.rows) ∙ signed)

      tree_is : found.0.tree ≡ tree
      tree_is = ap (λ (v : OpenView). v.tree) found.2

      whole : found.0 ≡ record { signed = x; tree = tree }
      whole = λ i. record { signed = same i; tree = tree_is i }

  -- a task that runs and of which the store has nothing open isn't begun
  pub unbegun_now : (seat : ℕ) → RunsAfter s.plan s.tale t seat → (own : PlanTask) → slice_get s.plan.tasks t ≡ Some own → opened_at s.opened (task_folder own) ≡ None → IsBegun s t → ⊥
  unbegun_now seat runs own at none begun =
      let flies = run.flying faultless t seat runs begun in
      let same : own ≡ flies.0.signed.task = same_Some own flies.0.signed.task (sym at ∙ flies.1.0) in
      none-some flies.0 (sym (both_none run.opened run.mends (task_folder own) (none_of (both run.opened run.mends) s.opened (run.open_are faultless) (task_folder own) none)).0 ∙ ap (λ (x : PlanTask). run.opened (task_folder x)) same ∙ flies.1.1)

-- What a task needs that runs has rows.
pub needs_now : (o : Opening) (s : Seen) (run : IsRun o s) → EachAfter (IsOrderly s.plan.tasks) s.tale → (t seat : ℕ) → RunsAfter s.plan s.tale t seat → (x : Signed) → slice_get (signatures s.rows s.plan.tasks) t ≡ Some x → NeedsHaveRows (rows_of (book_now o s)) (signatures (rows_of (book_now o s)) s.plan.tasks) x.task
needs_now o s run orderly t seat runs x is =
    let over : All (λ d. is_settled (fate_at (fates_told (length s.plan.tasks) s.tale) d) ≡ true) x.task.deps = subst (λ (l : List ℕ). All (λ d. is_settled (fate_at (fates_told (length s.plan.tasks) s.tale) d) ≡ true) l) (ap deps_in (signed_task_at s.rows s.plan.tasks t x is)) (running_over s.plan.tasks s.tale orderly t (ap is_running runs)) in
    subst (λ (r : List EquivRow). NeedsHaveRows r (signatures r s.plan.tasks) x.task) run.rows (λ n d inside y here. run.stored (get_or x.task.deps n d) y (over n d inside) here)
