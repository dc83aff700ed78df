-- What the turns of a job that is done leave of a run, as views of its state.
use Rattle.std.proofs.Common.{◌≡◌, ◌≢◌, ◌∙◌, sym, ap, subst, refl, ℕ, ◌<◌, ◌-◌, ◌^◌, ◌⊎◌, inl, inr, zero, suc, arith, min, Bool, true, false, List, [], ◌∷◌, ◌++◌, length, set, All, Some, None, Ok, Err, get_or}
use Rattle.tree_model.specs.declared.manifest.ManifestLine.{ManifestLine}
use Rattle.std.specs.Prelude.{IfSome, IsSome, Option}
use Rattle.std.specs.Option.{option_map, option_or}
use Rattle.std.specs.List.{slice_get}
use Rattle.std.proofs.lemmas.Bool.{false≢true}
use Rattle.std.proofs.lemmas.Option.{slice_get-get_or}
use Rattle.tree_model.specs.Tree.{IsTree}
use Rattle.outside_traits.specs.Passes.{Passes, Same}
use Rattle.outside_traits.specs.Store.{Store}
use Rattle.outside_traits.specs.Story.{Story, moment}
use Rattle.outside_traits.specs.Story as story_of
use Rattle.outside_traits.proofs.Calls.{then_same}
use Rattle.meta_model.specs.declared.event.Avail.{Avail}
use Rattle.meta_model.specs.declared.event.Event.{Event}
use Rattle.meta_model.specs.declared.event.Event.TheVariants as events
use Rattle.meta_model.specs.declared.event.Why.{Why}
use Rattle.task_worker.specs.declared.given.Given.{Given}
use Rattle.task_worker.specs.declared.given.Given.TheVariants as given
use Rattle.task_worker.specs.declared.given.Job.{Job}
use Rattle.task_worker.specs.Jobs.{outcome_of}
use Rattle.plan_model.specs.Sound.{IsSound}
use Rattle.std.proofs.lemmas.List.Elements.{recursion_from_All}
use Rattle.meta_model.specs.declared.event.Cut.{Cut}
use Rattle.meta_model.specs.declared.event.Cut.TheVariants as cuts
use Rattle.meta_model.specs.declared.event.Logged.{Logged}
use Rattle.meta_model.specs.declared.plan.Plan.{Plan}
use Rattle.meta_model.specs.declared.plan.PlanTask.{PlanTask}
use Rattle.meta_model.specs.CleanBuild.{Built, Entries, clean_build}
use Rattle.tale_model.specs.declared.fate.Fate.TheVariants as fate
use Rattle.tale_model.specs.Fates.{fate_at, fates_told, is_running, is_settled}
use Rattle.tale_model.specs.History.{Course, EachAfter, MayCome}
use Rattle.run_core.specs.History.{IsOrderly}
use Rattle.tale_model.specs.Need.{IsIn, deps_in}
use Rattle.store_model.specs.declared.signature.EquivRow.{EquivRow}
use Rattle.store_model.specs.Origins.{rows_of}
use Rattle.store_model.specs.Recording.{NeedsHaveRows}
use Rattle.store_model.specs.Reuse.{MayReuse}
use Rattle.store_model.specs.Signatures.{Signed, signatures}
use Rattle.store_model.specs.Spelling.{name_of}
use Rattle.build_store.specs.Keys.{HasNewKey, is_new_key}
use Rattle.build_store.specs.Publication.{IsPublished, first_publication, line_for, publication}
use Rattle.store_model.specs.Readable.{IsReadable}
use Rattle.build_store.specs.View.{SameBooks, View}
use Rattle.run_model.specs.Opening.{Opening}
use Rattle.run_model.specs.Courses.{IsCourse, clean_says, said}
use Rattle.run_queue.specs.declared.fault.RunFault.{RunFault}
use Rattle.run_queue.specs.Asking.{earlier_in, kept_or_meant}
use Rattle.run_queue.specs.Keeps.{IsRun, IsUpToDate, WasThere}
use Rattle.run_queue.specs.Puts.{IsCleanOutput, IsSignedAt}
use Rattle.setscene_plan.specs.declared.replan.Replan.{Replan}
use Rattle.setscene_plan.specs.Replans.{IsCurrent}
use Rattle.run_queue.specs.Seen.{Known, RunView, Seen, known_in, no_meaning, seen}
use Rattle.run_model.specs.Stands.{HasEnded}
use Rattle.run_queue.specs.Turns.{BreaksBy, IsCleanJob, IsGivenBy, MarksAt, Notes, closed_as, SameButFault}
use Rattle.run_queue.proofs.Agreement.{running_over}
use Rattle.run_queue.proofs.Breaking.{running_within}
use Rattle.run_queue.proofs.Enduring.{signed_task}
use Rattle.run_queue.proofs.Growing.{course_of_front}
use Rattle.run_queue.proofs.Jobs.{end_may_come, given_is_clean, says}
use Rattle.run_queue.specs.Mends.{both}
use Rattle.run_queue.proofs.Mends.{beside_running, both_mend, both_none, both_some, flight_alone, with_both}
use Rattle.setscene_plan.proofs.Naming.{signed_at}
use Rattle.run_queue.proofs.Passed.{same_now}
use Rattle.run_queue.proofs.Recorded.{IsPut, put_line}
use Rattle.run_queue.proofs.Touched.{broken_last}
use Rattle.run_queue.proofs.There.{tells_none}
use Rattle.run_queue.proofs.Unsettled.{logged_at, noted_run}
use Rattle.tree_model.specs.declared.hash.Hash.{Hash}
use Rattle.meta_model.specs.declared.event.Avail.TheVariants.{Missing}
use Rattle.outside_traits.specs.Passes.{EachNow}
use Rattle.outside_traits.proofs.Puts.{path_cases}
use Rattle.store_model.specs.Available.{task_folder}
use Rattle.tale_model.specs.Fates.{task_of}
use Rattle.build_store.specs.declared.kept.KeptSig.{KeptSig}
use Rattle.build_store.specs.Openings.{IsOpen, Lands, OpensTask, open_view}
use Rattle.build_store.specs.Pieces.{IsPublishing}
use Rattle.build_store.specs.Publication.{rows_with}
use Rattle.build_store.specs.View.{OpenViews, opened_at}
use Rattle.run_model.specs.Books.{book_after}
use Rattle.run_queue.specs.Flights.{Closes, Flies, FliesAs, IsFlight, MayTurn, OpenTask, OpenTasks, SameOpen, put_of_turn, view_of, with_open, without_open}
use Rattle.run_queue.specs.Puts.{MayOpen}
use Rattle.run_queue.specs.Seen.{IsBegun, IsBegunIn}
use Rattle.run_queue.specs.AskingLaws.{same_story}
use Rattle.run_queue.proofs.Boarding.{one_more_or_less}
use Rattle.run_queue.proofs.Concluding.{ended_run, ended_there, fault_run, flies_now, opened_with, put, steps_may_turn, turned_run}
use Rattle.run_queue.proofs.Flights.{flight_of}
use Rattle.run_queue.proofs.FreshKeys.{opening_may_turn}
use Rattle.run_queue.proofs.Opened.{flies_as, needs_now, none_of, open_besides, unbegun_now, under_way}
use Rattle.run_queue.proofs.OwnNames.{signed_task_at}
use Rattle.run_queue.proofs.Passed.{passed_run}
use Rattle.run_queue.proofs.Putting.{Begins, book_now, may_now}
use Rattle.run_queue.proofs.ReadyJobs.{task_at}
use Rattle.run_queue.proofs.Unsettled.{IsSpared, was_none}

-- ---- what is there before a publication

-- All that the laws of a publication ask of a running task and its clean output.
pub record IsReady (o : Opening) (s : Seen) (t : ℕ) (tree : Entries) : Type 0 where
  pub may : MayReuse o.gives o.reading o.story.held (book_now o s) s.plan.tasks
  pub sg : Signed
  pub at : slice_get s.plan.tasks t ≡ Some sg.task
  pub signed : slice_get (signatures s.rows s.plan.tasks) t ≡ Some sg
  pub is_sg : slice_get (signatures (rows_of (book_now o s)) s.plan.tasks) t ≡ Some sg
  pub built : Built
  pub is_built : slice_get (clean_build o.gives s.plan.tasks) t ≡ Some built
  pub clean : built.outcome ≡ Ok tree
  pub needs : NeedsHaveRows (rows_of (book_now o s)) (signatures (rows_of (book_now o s)) s.plan.tasks) sg.task
  pub put : IsPut o.gives o.reading (book_now o s) (publication (rows_of (book_now o s)) sg tree) sg tree

pub ready : (o : Opening) (s : Seen) (k : Known) (t seat : ℕ) (tree : Entries) → IsRun o s → s.fault ≡ None → EachAfter (IsOrderly s.plan.tasks) s.tale → IsUpToDate s.plan s.rows k → t < length s.plan.tasks → fate_at (fates_told (length s.plan.tasks) s.tale) t ≡ fate.Running seat → IsCleanOutput o.gives s.plan.tasks t tree → IsReady o s t tree
ready o s k t seat tree run faultless orderly now lt runs output = record {
  may = may;
  sg = x.0;
  at = at;
  signed = x.1;
  is_sg = is_sg;
  built = output.built;
  is_built = output.is_built;
  clean = output.clean;
  needs = needs;
  put = put_line o.gives o.reading o.story.held (book_now o s) s.plan.tasks may t x.0 output.built is_sg output.is_built needs tree output.clean;
}
  where
    may : MayReuse o.gives o.reading o.story.held (book_now o s) s.plan.tasks
    may = may_now o s run faultless now.clear

    x : (sg : Signed) × (slice_get (signatures s.rows s.plan.tasks) t ≡ Some sg)
    x = signed_at s.rows s.plan.tasks t lt

    is_sg : slice_get (signatures (rows_of (book_now o s)) s.plan.tasks) t ≡ Some x.0
    is_sg = subst (λ (r : List EquivRow). slice_get (signatures r s.plan.tasks) t ≡ Some x.0) run.rows x.1

    at : slice_get s.plan.tasks t ≡ Some x.0.task
    at =
        let here = slice_get-get_or s.plan.tasks t x.0.task lt in
        here ∙ ap (λ (y : PlanTask). Some y) (sym (signed_task s.rows s.plan.tasks t x.0 (get_or s.plan.tasks t x.0.task) x.1 here))

    over : All (λ d. is_settled (fate_at (fates_told (length s.plan.tasks) s.tale) d) ≡ true) x.0.task.deps
    over = subst (λ (l : List ℕ). All (λ d. is_settled (fate_at (fates_told (length s.plan.tasks) s.tale) d) ≡ true) l) (ap deps_in at) (running_over s.plan.tasks s.tale orderly t (ap is_running runs))

    needs : NeedsHaveRows (rows_of (book_now o s)) (signatures (rows_of (book_now o s)) s.plan.tasks) x.0.task
    needs = subst (λ (r : List EquivRow). NeedsHaveRows r (signatures r s.plan.tasks) x.0.task) run.rows (λ n d inside y here. run.stored (get_or x.0.task.deps n d) y (over n d inside) here)

-- ---- what is begun

pub set_here : (xs : List (Option Avail)) (t : ℕ) (y : Option Avail) → t < length xs → slice_get (set xs t y) t ≡ Some y
set_here [] t y lt = absurd (omega (arith, lt))
set_here (x ∷ xs) zero y lt = refl
set_here (x ∷ xs) (suc t) y lt = set_here xs t y (omega (arith, lt))

set_beside : (xs : List (Option Avail)) (t u : ℕ) (y : Option Avail) → (u ≡ t → ⊥) → slice_get (set xs t y) u ≡ slice_get xs u
set_beside [] t u y ne = refl
set_beside (x ∷ xs) zero zero y ne = absurd (ne refl)
set_beside (x ∷ xs) zero (suc u) y ne = refl
set_beside (x ∷ xs) (suc t) zero y ne = refl
set_beside (x ∷ xs) (suc t) (suc u) y ne = set_beside xs t u y (λ e. ne (ap suc e))

pub begins_at : (old new : List (Option Avail)) (t : ℕ) (a : Avail) → t < length old → new ≡ set old t (Some a) → Begins old new t
begins_at old new t a lt is = record {
  there = a;
  here = ap (λ (l : List (Option Avail)). slice_get l t) is ∙ set_here old t (Some a) lt;
  others = λ u ne. ap (λ (l : List (Option Avail)). slice_get l u) is ∙ set_beside old t u (Some a) ne;
}

-- ---- a publication is opened

module _ {D W : Type 0} (story : D → Story) (written : W → List ℕ) (o : Opening) (old : RunView D W) (t seat : ℕ) (tree : Entries) (store : View D) (begun : List (Option Avail))
    (run : IsRun o (seen story written old)) (faultless : old.fault ≡ None) (orderly : EachAfter (IsOrderly old.plan.tasks) old.tale) (runs : fate_at (fates_told (length old.plan.tasks) old.tale) t ≡ fate.Running seat) (lt : t < length old.plan.tasks)
    (output : IsCleanOutput o.gives old.plan.tasks t tree) (is_tree : IsTree tree) (sound : story_of.IsSound (story old.store.disk)) (begins : Begins old.begun begun t) (here : slice_get begun t ≡ Some (Some Missing))
    (rows : store.rows ≡ old.store.rows) where
  abbrev s : Seen
  s = seen story written old

  -- The publication of a task, by its signature, flies where it may be opened.
  module _ (k : Known) (now : IsUpToDate old.plan old.store.rows k) (x : Signed) (signed : IsSignedAt old.store.rows old.plan.tasks t x) (may : MayOpen old.store.rows old.store.opened x tree) where
    none_both : both run.opened run.mends (task_folder x.task) ≡ None
    none_both = none_of (both run.opened run.mends) old.store.opened (run.open_are faultless) (task_folder x.task) may.closed

    none : run.opened (task_folder x.task) ≡ None
    none = (both_none run.opened run.mends (task_folder x.task) (none_of (both run.opened run.mends) old.store.opened (run.open_are faultless) (task_folder x.task) may.closed)).0

    flight : IsFlight o old.plan (book_after o.gives old.plan o.book old.tale) t (record { signed = x; tree = tree })
    flight = record {
      at = signed_task_at old.store.rows old.plan.tasks t x signed;
      signed = subst (λ (r : List EquivRow). slice_get (signatures r old.plan.tasks) t ≡ Some x) run.rows signed;
      clean = (output.built, output.is_built, output.clean);
      says = output.says;
      is_tree = is_tree;
      needs = needs_now o (seen story written old) run orderly t seat runs x signed;
      readable = subst (λ (r : List EquivRow). IsReadable (line_for r x tree)) run.rows may.readable;
    }

    -- what is open is so in the store
    viewed : (beside : List ℕ) (other : OpenTask) → run.opened beside ≡ Some other → opened_at old.store.opened beside ≡ Some (view_of other)
    viewed beside other is = sym (run.open_are faultless beside) ∙ ap (option_map view_of) (both_some run.opened run.mends beside other is)

    -- with this one too
    with_view : (views : OpenViews) → SameOpen (with_open (task_folder x.task) (record { signed = x; tree = tree }) (both run.opened run.mends)) views → SameOpen (both (with_open (task_folder x.task) (record { signed = x; tree = tree }) run.opened) run.mends) views
    with_view views same beside = ap (option_map view_of) (with_both (task_folder x.task) (record { signed = x; tree = tree }) run.opened run.mends beside) ∙ same beside

    apart : (beside : List ℕ) (other : OpenTask) → run.opened beside ≡ Some other → name_of x.sig ≢ name_of other.signed.sig
    apart beside other is same = may.apart beside (view_of other) (viewed beside other is) (sym same)

    -- what is open before the disk is touched
    before : (kept : List KeptSig) → (r : IsRun o (record (seen story written old) { kept = kept; opened = open_view x tree ∷ old.store.opened; begun = begun })) × (r.opened ≡ with_open (task_folder x.task) (record { signed = x; tree = tree }) run.opened) × (r.mends ≡ run.mends)
    before kept =
        opened_with o (seen story written old) run faultless t seat runs begun begins here (record { signed = x; tree = tree }) none flight apart kept (open_view x tree ∷ old.store.opened)
        (with_view (open_view x tree ∷ old.store.opened) (open_besides (both run.opened run.mends) old.store.opened (record { signed = x; tree = tree }) (run.open_are faultless)))

    -- what flew flies still
    still : (u : ℕ) → Flies old.plan run.opened u → Flies old.plan (with_open (task_folder x.task) (record { signed = x; tree = tree }) run.opened) u
    still u flies = (
      flies.0,
      (
        flies.1.0,
        ((one_more_or_less (task_folder x.task) (record { signed = x; tree = tree }) run.opened).0 none).others (task_folder flies.0.signed.task)
            (λ same. let n : None ≡ Some flies.0 = sym none ∙ sym (ap run.opened same) ∙ flies.1.1 in cc) ∙ flies.1.1,
      ),
    )

    -- its key may be written, where that is new
    may_turn : (writes : Bool) → (writes ≡ true → HasNewKey old.store.rows old.store.opened x.sig) → EachNow (story old.store.disk) (MayTurn o old.plan old.tale (with_open (task_folder x.task) (record { signed = x; tree = tree }) run.opened) (record { signed = x; tree = tree }) writes)
    may_turn writes fresh image is =
        opening_may_turn o old.plan old.tale run.opened (with_open (task_folder x.task) (record { signed = x; tree = tree }) run.opened) old.store.opened
        (under_way o (seen story written old) run faultless orderly (may_now o (seen story written old) run faultless now.clear)) viewed (record { signed = x; tree = tree }) writes
        (λ written. subst (λ (r : List EquivRow). HasNewKey r old.store.opened x.sig) run.rows (fresh written)) still image (run.durable faultless image is)

    -- and behind the turn
    turned_at : (writes : Bool) → (writes ≡ true → HasNewKey old.store.rows old.store.opened x.sig) → (kept : List KeptSig) (views : OpenViews) (fault : Option RunFault) → (fault ≡ None → SameOpen (both (with_open (task_folder x.task) (record { signed = x; tree = tree }) run.opened) run.mends) views)
        → Passes (story old.store.disk) (story store.disk) (IsPublishing (put_of_turn old.store.rows (record { signed = x; tree = tree }) writes) (story old.store.disk).held)
        → IsRun o (record (seen story written old) { kept = kept; opened = views; fault = fault; begun = begun; story = story store.disk })
    turned_at writes fresh kept views fault are pass =
        let r = before kept in
        turned_run o (record (seen story written old) { kept = kept; opened = open_view x tree ∷ old.store.opened; begun = begun }) r.0
        faultless orderly (may_now o (seen story written old) run faultless now.clear) t (record { signed = x; tree = tree })
        (subst (λ (w : OpenTasks). FliesAs old.plan w t (record { signed = x; tree = tree })) (sym r.1)
        (flies_now o (seen story written old) run faultless t seat runs begun begins here (record { signed = x; tree = tree }) none flight apart))
        writes (subst (λ (w : OpenTasks). EachNow (story old.store.disk) (MayTurn o old.plan old.tale w (record { signed = x; tree = tree }) writes)) (sym r.1) (may_turn writes fresh))
        (story store.disk) sound
        (subst (λ (r : List EquivRow). Passes (story old.store.disk) (story store.disk) (IsPublishing (put_of_turn r (record { signed = x; tree = tree }) writes) (story old.store.disk).held)) run.rows pass) kept views fault
        (λ no. subst (λ (m : OpenTasks). SameOpen (both r.0.opened m) views) (sym r.2) (subst (λ (w : OpenTasks). SameOpen (both w run.mends) views) (sym r.1) (are no)))

  path : (fault : Option RunFault) → record (seen story written old) { kept = store.kept; opened = store.opened; fault = fault; begun = begun; story = story store.disk } ≡ seen story written (record old { store = store; begun = begun; fault = fault })
  path fault = λ i. record {
    plan = old.plan;
    options = old.options;
    rows = sym rows i;
    kept = store.kept;
    opened = store.opened;
    sink_failed = old.sink_failed;
    fault = fault;
    tale = old.tale;
    begun = begun;
    restoring = old.restoring;
    known = old.known;
    story = story store.disk;
    written = written old.sink;
  }

  -- A turn that opened the publication leaves what a run keeps.
  pub opened_seen : (k : Known) → IsUpToDate old.plan old.store.rows k
      → ((x : Signed) → IsSignedAt old.store.rows old.plan.tasks t x → OpensTask old.store store x tree × MayOpen old.store.rows old.store.opened x tree)
      → ((store ≡ old.store) ⊎ ((x : Signed) → IsSignedAt old.store.rows old.plan.tasks t x → is_new_key old.store.keys x.sig ≡ true → HasNewKey old.store.rows old.store.opened x.sig))
      → ((x : Signed) → IsSignedAt old.store.rows old.plan.tasks t x → Passes (story old.store.disk) (story store.disk) (IsPublishing (first_publication old.store.keys old.store.rows x tree) (story old.store.disk).held))
      → IsRun o (seen story written (record old { store = store; begun = begun }))
  opened_seen k now opens fresh pass =
      let x = signed_at old.store.rows old.plan.tasks t lt in
      let two = opens x.0 x.1 in
      subst (λ (v : Seen). IsRun o v) (path old.fault)
      (turned_at k now x.0 x.1 two.1 (is_new_key old.store.keys x.0.sig) (new_key x.0 two.0 (fresh_of x.0 x.1)) store.kept store.opened old.fault
      (λ no. with_view k now x.0 x.1 two.1 store.opened (λ beside. same x.0 x.1 two.1 two.0 k now beside (path_cases beside (task_folder x.0.task)))) (pass x.0 x.1))
    where
      fresh_of : (x : Signed) → IsSignedAt old.store.rows old.plan.tasks t x → (store ≡ old.store) ⊎ (is_new_key old.store.keys x.sig ≡ true → HasNewKey old.store.rows old.store.opened x.sig)
      fresh_of x signed = elim fresh [ inl untouched ↦ inl untouched | inr each ↦ inr (each x signed) ]

      -- the store isn't as it was, since the publication is open
      new_key : (x : Signed) → OpensTask old.store store x tree → (store ≡ old.store) ⊎ (is_new_key old.store.keys x.sig ≡ true → HasNewKey old.store.rows old.store.opened x.sig) → is_new_key old.store.keys x.sig ≡ true → HasNewKey old.store.rows old.store.opened x.sig
      new_key x opens (inr is) = is
      new_key x opens (inl untouched) =
          absurd (let e : None ≡ Some (open_view x tree) = sym opens.opened.none ∙ sym (ap (λ (v : View D). opened_at v.opened (task_folder x.task)) untouched) ∙ opens.opened.is_open in cc)

      same : (x : Signed) (signed : IsSignedAt old.store.rows old.plan.tasks t x) (may : MayOpen old.store.rows old.store.opened x tree) → OpensTask old.store store x tree → (k : Known) → IsUpToDate old.plan old.store.rows k → (beside : List ℕ) → (beside ≡ task_folder x.task) ⊎ (beside ≢ task_folder x.task)
          → option_map view_of (with_open (task_folder x.task) (record { signed = x; tree = tree }) (both run.opened run.mends) beside) ≡ opened_at store.opened beside
      same x signed may opens k now beside (inl e) =
          let at = (one_more_or_less (task_folder x.task) (record { signed = x; tree = tree }) (both run.opened run.mends)).0 (none_both k now x signed may) in
          ap (λ (f : List ℕ). option_map view_of (with_open (task_folder x.task) (record { signed = x; tree = tree }) (both run.opened run.mends) f)) e ∙ ap (option_map view_of) at.is_open ∙ sym opens.opened.is_open ∙ sym (ap (opened_at store.opened) e)
      same x signed may opens k now beside (inr ne) =
          let at = (one_more_or_less (task_folder x.task) (record { signed = x; tree = tree }) (both run.opened run.mends)).0 (none_both k now x signed may) in
          ap (option_map view_of) (at.others beside ne) ∙ run.open_are faultless beside ∙ sym (opens.opened.others beside ne)

  -- So does a turn in which a fault was met, with that fault.
  pub open_fault_seen : (f : RunFault) → IfSome old.known (IsUpToDate old.plan old.store.rows) → (old.known ≡ None → store ≡ old.store)
      → ((store.disk ≡ old.store.disk) ⊎ ((x : Signed) → IsSignedAt old.store.rows old.plan.tasks t x → MayOpen old.store.rows old.store.opened x tree))
      → ((store ≡ old.store) ⊎ ((x : Signed) → IsSignedAt old.store.rows old.plan.tasks t x → is_new_key old.store.keys x.sig ≡ true → HasNewKey old.store.rows old.store.opened x.sig))
      → ((x : Signed) → IsSignedAt old.store.rows old.plan.tasks t x → Passes (story old.store.disk) (story store.disk) (IsPublishing (first_publication old.store.keys old.store.rows x tree) (story old.store.disk).held))
      → IsRun o (seen story written (record old { store = store; begun = begun; fault = Some f }))
  open_fault_seen f current unlooked may fresh pass = subst (λ (v : Seen). IsRun o v) (path (Some f)) (by old.known refl current)
    where
      untouched : store.disk ≡ old.store.disk → IsRun o (record (seen story written old) { kept = store.kept; opened = store.opened; fault = Some f; begun = begun; story = story store.disk })
      untouched disk =
          subst (λ (d : D). IsRun o (record (seen story written old) { kept = store.kept; opened = store.opened; fault = Some f; begun = begun; story = story d })) (sym disk)
          (fault_run o (seen story written old) run faultless t seat runs begun begins store.kept store.opened f)

      by : (known : Option Known) → old.known ≡ known → IfSome known (IsUpToDate old.plan old.store.rows) → IsRun o (record (seen story written old) { kept = store.kept; opened = store.opened; fault = Some f; begun = begun; story = story store.disk })
      by None is now = untouched (ap (λ (v : View D). v.disk) (unlooked is))
      by (Some k) is now = elim may [
        | inl disk ↦ untouched disk
        | inr may_open ↦ elim fresh [
          | inl same ↦ untouched (ap (λ (v : View D). v.disk) same)
          | inr each ↦
              let x = signed_at old.store.rows old.plan.tasks t lt in
              turned_at k now x.0 x.1 (may_open x.0 x.1) (is_new_key old.store.keys x.0.sig) (each x.0 x.1) store.kept store.opened (Some f) (λ no. absurd (let n : Some f ≡ None = no in cc)) (pass x.0 x.1)
        ]
      ]

-- ---- a publication goes on

module _ {D W : Type 0} (story : D → Story) (written : W → List ℕ) (o : Opening) (old : RunView D W) (t seat : ℕ) (store : View D)
    (run : IsRun o (seen story written old)) (faultless : old.fault ≡ None) (orderly : EachAfter (IsOrderly old.plan.tasks) old.tale) (runs : fate_at (fates_told (length old.plan.tasks) old.tale) t ≡ fate.Running seat) (lt : t < length old.plan.tasks)
    (sound : story_of.IsSound (story old.store.disk))
    (pass : (x : Signed) → IsSignedAt old.store.rows old.plan.tasks t x → (tree : Entries) → IsOpen old.store.opened x tree → Passes (story old.store.disk) (story store.disk) (IsPublishing (publication old.store.rows x tree) (story old.store.disk).held)) where
  flies : (x : Signed) → IsSignedAt old.store.rows old.plan.tasks t x → (tree : Entries) → IsOpen old.store.opened x tree → FliesAs old.plan run.opened t (record { signed = x; tree = tree })
  flies x signed tree open_now = flies_as o (seen story written old) run faultless t seat runs x (signed_task_at old.store.rows old.plan.tasks t x signed) signed tree open_now

  by_book : (x : Signed) → IsSignedAt old.store.rows old.plan.tasks t x → (tree : Entries) → IsOpen old.store.opened x tree → Passes (story old.store.disk) (story store.disk) (IsPublishing (publication (rows_of (book_now o (seen story written old))) x tree) (story old.store.disk).held)
  by_book x signed tree open_now = subst (λ (r : List EquivRow). Passes (story old.store.disk) (story store.disk) (IsPublishing (publication r x tree) (story old.store.disk).held)) run.rows (pass x signed tree open_now)

  behind_it : (k : Known) → IsUpToDate old.plan old.store.rows k → (x : Signed) → IsSignedAt old.store.rows old.plan.tasks t x → (tree : Entries) → IsOpen old.store.opened x tree → (kept : List KeptSig) (views : OpenViews) (fault : Option RunFault) → (fault ≡ None → SameOpen (both run.opened run.mends) views)
      → IsRun o (record (seen story written old) { kept = kept; opened = views; fault = fault; story = story store.disk })
  behind_it k now x signed tree open_now kept views fault are =
      turned_run o (seen story written old) run faultless orderly (may_now o (seen story written old) run faultless now.clear) t (record { signed = x; tree = tree }) (flies x signed tree open_now)
      false (λ image is. steps_may_turn o old.plan old.tale run.opened (record { signed = x; tree = tree }) image (run.durable faultless image is)) (story store.disk) sound (by_book x signed tree open_now) kept views fault are

  step_path : (fault : Option RunFault) → store.rows ≡ old.store.rows → record (seen story written old) { kept = store.kept; opened = store.opened; fault = fault; story = story store.disk } ≡ seen story written (record old { store = store; fault = fault })
  step_path fault rows = λ i. record {
    plan = old.plan;
    options = old.options;
    rows = sym rows i;
    kept = store.kept;
    opened = store.opened;
    sink_failed = old.sink_failed;
    fault = fault;
    tale = old.tale;
    begun = old.begun;
    restoring = old.restoring;
    known = old.known;
    story = story store.disk;
    written = written old.sink;
  }

  -- A turn behind which more is left leaves what a run keeps.
  pub stepped_seen : (k : Known) → IsUpToDate old.plan old.store.rows k → ((x : Signed) → IsSignedAt old.store.rows old.plan.tasks t x → Rattle.build_store.specs.Openings.GoesOn old.store store x) → IsRun o (seen story written (record old { store = store }))
  stepped_seen k now goes =
      let x = signed_at old.store.rows old.plan.tasks t lt in
      let g = goes x.0 x.1 in
      subst (λ (v : Seen). IsRun o v) (step_path old.fault g.books.rows)
      (behind_it k now x.0 x.1 g.tree g.was_open store.kept store.opened old.fault (λ no beside. run.open_are faultless beside ∙ sym (ap (λ (v : OpenViews). opened_at v beside) g.books.opened)))

  -- So does a turn in which a fault was met, with that fault.
  pub step_fault_seen : (f : RunFault) → IfSome old.known (IsUpToDate old.plan old.store.rows) → store.rows ≡ old.store.rows → (old.known ≡ None → store ≡ old.store)
      → ((x : Signed) → IsSignedAt old.store.rows old.plan.tasks t x → (store ≡ old.store) ⊎ ((tree : Entries) × IsOpen old.store.opened x tree))
      → IsRun o (seen story written (record old { store = store; fault = Some f }))
  step_fault_seen f current rows unlooked touched = by old.known refl current
    where
      untouched : store ≡ old.store → IsRun o (seen story written (record old { store = store; fault = Some f }))
      untouched same =
          subst (λ (v : View D). IsRun o (seen story written (record old { store = v; fault = Some f }))) (sym same)
          (passed_run o (seen story written old) (story old.store.disk) (Some f) (same_story (story old.store.disk)) (λ no. absurd (let n : Some f ≡ None = no in cc)) run)

      by : (known : Option Known) → old.known ≡ known → IfSome known (IsUpToDate old.plan old.store.rows) → IsRun o (seen story written (record old { store = store; fault = Some f }))
      by None is now = untouched (unlooked is)
      by (Some k) is now =
          let x = signed_at old.store.rows old.plan.tasks t lt in
          elim (touched x.0 x.1) [
            | inl same ↦ untouched same
            | inr it ↦ subst (λ (v : Seen). IsRun o v) (step_path (Some f) rows) (behind_it k now x.0 x.1 it.0 it.1 store.kept store.opened (Some f) (λ no. absurd (let n : Some f ≡ None = no in cc)))
          ]

  -- ---- the task has ended

  module _ (new : RunView D W) (k : Known) (now : IsUpToDate old.plan old.store.rows k) (after : View D) (books : SameBooks store after) (passed : Passes (story store.disk) (story after.disk) Same) (later_sound : story_of.IsSound (story after.disk))
      (unihash : Hash) (lands : (x : Signed) → IsSignedAt old.store.rows old.plan.tasks t x → Lands old.store store x unihash)
      (published : (x : Signed) → IsSignedAt old.store.rows old.plan.tasks t x → (tree : Entries) → IsOpen old.store.opened x tree → EachNow (story store.disk) (IsPublished (publication old.store.rows x tree)))
      (tells : Type 0) (tell : tells) (before : Replan) (was_known : old.known ≡ Some (known_in before)) (was : IsCurrent no_meaning (record { plan = old.plan; rows = old.store.rows }) before)
      (made : Option Replan) (fault : Option RunFault) (current : IfSome made (IsCurrent (kept_or_meant (earlier_in before) tells (story store.disk).held store.rows old.options.setscene old.plan.tasks old.begun) (record { plan = old.plan; rows = store.rows })))
      (notes : Notes seat (events.Ended t) (record old { store = after; fault = fault; known = option_map known_in made }) new) (marks : MarksAt (story after.disk) seat (events.Ended t) old.tale new.tale) where
    x : (sg : Signed) × (slice_get (signatures old.store.rows old.plan.tasks) t ≡ Some sg)
    x = signed_at old.store.rows old.plan.tasks t lt

    land : Lands old.store store x.0 unihash
    land = lands x.0 x.1

    abbrev one : OpenTask
    one = record { signed = x.0; tree = land.tree }

    fl : FliesAs old.plan run.opened t one
    fl = flies x.0 x.1 land.tree land.was_open

    abbrev may : MayReuse o.gives o.reading o.story.held (book_now o (seen story written old)) old.plan.tasks
    may = may_now o (seen story written old) run faultless now.clear

    steps : EachNow (story old.store.disk) (MayTurn o old.plan old.tale run.opened one false)
    steps image is = steps_may_turn o old.plan old.tale run.opened one image (run.durable faultless image is)

    turn : Passes (story old.store.disk) (story after.disk) (IsPublishing (publication (rows_of (book_now o (seen story written old))) x.0 land.tree) (story old.store.disk).held)
    turn = then_same (by_book x.0 x.1 land.tree land.was_open) passed

    all_there : (image : Store) → story_of.IsImage (story after.disk) image → IsPublished (publication (rows_of (book_now o (seen story written old))) x.0 land.tree) image
    all_there image is = subst (λ (r : List EquivRow). IsPublished (publication r x.0 land.tree) image) run.rows (published x.0 x.1 land.tree land.was_open image (same_now (story store.disk) (story after.disk) image passed is))

    abbrev line : IsPut o.gives o.reading (book_now o (seen story written old)) (publication (rows_of (book_now o (seen story written old))) x.0 land.tree) x.0 land.tree
    line = put o (seen story written old) run faultless orderly may t one fl false steps (story after.disk) sound turn

    rows_are : after.rows ≡ rows_of (book_now o (seen story written old) ++ line.more)
    rows_are = books.rows ∙ land.rows ∙ ap (λ (r : List EquivRow). rows_with r x.0 land.tree) run.rows ∙ line.rows

    open_are : SameOpen (both (without_open (task_folder x.0.task) run.opened) run.mends) after.opened
    open_are beside = by (path_cases beside (task_folder x.0.task)) ∙ sym (ap (λ (v : OpenViews). opened_at v beside) books.opened)
      where
        closes : Closes (task_folder x.0.task) run.opened (without_open (task_folder x.0.task) run.opened)
        closes = (one_more_or_less (task_folder x.0.task) one run.opened).1

        -- nothing is open there
        closed : both (without_open (task_folder x.0.task) run.opened) run.mends (task_folder x.0.task) ≡ None
        closed = both_mend (without_open (task_folder x.0.task) run.opened) run.mends (task_folder x.0.task) closes.closed ∙ flight_alone o (seen story written old) run faultless (task_folder x.0.task) one fl.1

        by : (beside ≡ task_folder x.0.task) ⊎ (beside ≢ task_folder x.0.task) → option_map view_of (both (without_open (task_folder x.0.task) run.opened) run.mends beside) ≡ opened_at store.opened beside
        by (inl e) = ap (λ (f : List ℕ). option_map view_of (both (without_open (task_folder x.0.task) run.opened) run.mends f)) e ∙ ap (option_map view_of) closed ∙ sym land.opened.closed ∙ sym (ap (opened_at store.opened) e)
        by (inr ne) = ap (λ (y : Option OpenTask). option_map view_of (option_or y (run.mends beside))) (closes.others beside ne) ∙ run.open_are faultless beside ∙ sym (land.opened.others beside ne)

    -- the event may come
    may_come : (at : ℕ) (course : Course) → course.plan ≡ old.plan → IsCourse o old.options (old.tale ++ record { event = events.Ended t; seat = seat; moment = at } ∷ []) course → MayCome course old.tale (record { event = events.Ended t; seat = seat; moment = at })
    may_come at course same longer =
        let is = course_of_front o old.options old.tale (record { event = events.Ended t; seat = seat; moment = at }) course longer in (
          subst (λ (p : Plan). fate_at (fates_told (length p.tasks) old.tale) t ≡ fate.Running seat) (sym same) runs,
          is.clean t ∙ ap (λ (p : Plan). clean_says o.gives p.tasks t) same ∙ (flight_of o old.plan old.tale run.opened (under_way o (seen story written old) run faultless orderly may) t one fl).says,
        )

    -- A task that was published and marked as ended leaves what a run keeps, where the store was asked anew between.
    pub ended_seen : IsRun o (seen story written new)
    ended_seen =
        let course = may_come (min (moment (story after.disk)) (2 ^ 64 - 1)) in
        let there = made_on made current (λ m is. ended_there o (seen story written old) run faultless orderly may t one fl false steps (story after.disk) sound turn seat all_there later_sound
        after.rows after.kept after.opened rows_are open_are course tells tell before m was_known was (current_on m is)) in
        subst (IsRun o) same
        (ended_run o (seen story written old) run faultless orderly may t one fl false steps (story after.disk) sound turn seat all_there later_sound
        after.rows after.kept after.opened (option_map known_in made) new.sink_failed new.fault (written new.sink) rows_are open_are there course)
      where
        Longer : List Logged
        Longer = old.tale ++ record { event = events.Ended t; seat = seat; moment = min (moment (story after.disk)) (2 ^ 64 - 1) } ∷ []

        IsThen : Known → Type 0
        IsThen w = (u : ℕ) (a : Avail) → IsIn w.need u → (HasEnded old.plan Longer u → ⊥) → slice_get w.avail u ≡ Some a → WasThere o (record (seen story written old) { rows = after.rows }) u a

        -- what is known is up to date by the store as it is afterwards
        current_on : (m : Replan) → IsCurrent (kept_or_meant (earlier_in before) tells (story store.disk).held store.rows old.options.setscene old.plan.tasks old.begun) (record { plan = old.plan; rows = store.rows }) m
            → IsCurrent (kept_or_meant (earlier_in before) tells (story after.disk).held after.rows old.options.setscene old.plan.tasks old.begun) (record { plan = old.plan; rows = after.rows }) m
        current_on m is =
            subst (λ (rows : List EquivRow). IsCurrent (kept_or_meant (earlier_in before) tells (story after.disk).held rows old.options.setscene old.plan.tasks old.begun) (record { plan = old.plan; rows = rows }) m) (sym books.rows)
            (subst (λ (held : Store). IsCurrent (kept_or_meant (earlier_in before) tells held store.rows old.options.setscene old.plan.tasks old.begun) (record { plan = old.plan; rows = store.rows }) m) (sym passed.held) is)

        made_on : (m : Option Replan) → IfSome m (IsCurrent (kept_or_meant (earlier_in before) tells (story store.disk).held store.rows old.options.setscene old.plan.tasks old.begun) (record { plan = old.plan; rows = store.rows }))
            → ((n : Replan) → IsCurrent (kept_or_meant (earlier_in before) tells (story store.disk).held store.rows old.options.setscene old.plan.tasks old.begun) (record { plan = old.plan; rows = store.rows }) n → IsThen (known_in n)) → IfSome (option_map known_in m) IsThen
        made_on None is f = tt
        made_on (Some n) is f = f n is

        same : record (seen story written old) {
          rows = after.rows;
          kept = after.kept;
          opened = after.opened;
          sink_failed = new.sink_failed;
          fault = new.fault;
          tale = old.tale ++ record { event = events.Ended t; seat = seat; moment = min (moment (story after.disk)) (2 ^ 64 - 1) } ∷ [];
          known = option_map known_in made;
          story = story after.disk;
          written =
              written new.sink;
        } ≡ seen story written new
        same = λ i. record {
          plan = sym notes.plan i;
          options = sym notes.options i;
          rows = (sym notes.store i).rows;
          kept = (sym notes.store i).kept;
          opened = (sym notes.store i).opened;
          sink_failed = new.sink_failed;
          fault = new.fault;
          tale = sym marks.is i;
          begun = sym notes.begun i;
          restoring = sym notes.restoring i;
          known = sym notes.known i;
          story = story (sym notes.store i).disk;
          written = written new.sink;
        }

-- ---- views of a state in hand

pub some_current : (plan : Plan) (rows : List EquivRow) (replan : Option Replan) → IsSome replan → IfSome (option_map known_in replan) (IsUpToDate plan rows) → (k : Known) × IsUpToDate plan rows k
some_current plan rows None some now = absurd (false≢true some)
some_current plan rows (Some r) some now = (known_in r, now)

pub some_replan : (replan : Option Replan) → IsSome replan → (r : Replan) × (replan ≡ Some r)
some_replan None some = absurd (false≢true some)
some_replan (Some r) some = (r, refl)

pub none_known : (replan : Option Replan) → option_map known_in replan ≡ None → replan ≡ None
none_known None e = refl
none_known (Some r) e = absurd (let n : Some (known_in r) ≡ None = e in cc)

-- a task that broke off by another cut than its bench's, where a fault is kept, is told of
pub spared_by : (s : Seen) (seat t : ℕ) (cut : Cut) → cut ≢ cuts.Bench → IsSome s.fault → IsSpared s seat (events.Broke t cut)
spared_by s seat t cut other some = inr (some, broken_last s.tale (logged_at s seat (events.Broke t cut)) t cut refl other)

-- so is one that runs and of which nothing is open, where no fault is kept
pub spared_now : (o : Opening) (s : Seen) (seat number t : ℕ) (event : Event) → task_of event ≡ t → IsRun o s → s.fault ≡ None → fate_at (fates_told (length s.plan.tasks) s.tale) t ≡ fate.Running number → t < length s.plan.tasks → ((own : PlanTask) → slice_get s.plan.tasks t ≡ Some own → opened_at s.opened (task_folder own) ≡ None) → IsSpared s seat event
spared_now o s seat number t event of run faultless runs lt none =
    let own = task_at s.plan.tasks t lt in
    inl (λ begun. unbegun_now o s run faultless t number runs own.0 own.1 (none own.0 own.1) (subst (λ (n : ℕ). IsBegun s n) of begun))

-- So is one that breaks off by a cut that is chosen so.
pub spared_either : {D W : Type 0} (story : D → Story) (written : W → List ℕ) (o : Opening) (old mid : RunView D W) (t seat : ℕ) (asked broke : Cut) → SameButFault old mid → BreaksBy t asked broke old mid → IsRun o (seen story written old) → fate_at (fates_told (length old.plan.tasks) old.tale) t ≡ fate.Running seat → t < length old.plan.tasks → IsSpared
    (seen story written mid) seat (events.Broke t broke)
spared_either story written o old mid t seat asked broke same cut run runs lt = elim cut [
  | inl as_asked ↦ inl (λ begun. by as_asked.1 (subst (λ (l : List (Option Avail)). IsBegunIn l t) same.begun begun))
  | inr it ↦ spared_by (seen story written mid) seat t broke it.0 it.1
]
  where
    by : ((old.fault ≡ None) × ((own : PlanTask) → slice_get old.plan.tasks t ≡ Some own → opened_at old.store.opened (task_folder own) ≡ None)) ⊎ (slice_get old.begun t ≡ Some None) → IsBegunIn old.begun t → ⊥
    by (inl sound) begun = let own = task_at old.plan.tasks t lt in unbegun_now o (seen story written old) run sound.0 t seat runs own.0 own.1 (sound.1 own.0 own.1) begun
    by (inr none) begun = let n : Some None ≡ Some (Some begun.0) = sym none ∙ begun.1 in cc

-- where nothing but the fault changed a run keeps what it keeps
pub cut_seen : {D W : Type 0} (story : D → Story) (written : W → List ℕ) (o : Opening) (old mid : RunView D W) → SameButFault old mid → (IsSome old.fault → mid.fault ≡ old.fault) → IsRun o (seen story written old) → IsRun o (seen story written mid)
cut_seen story written o old mid same stays run =
    subst (λ (v : Seen). IsRun o v) path
    (passed_run o (seen story written old) (story old.store.disk) mid.fault (same_story (story old.store.disk)) (was_none old.fault mid.fault stays) run)
  where
    path : record (seen story written old) { fault = mid.fault } ≡ seen story written mid
    path = λ i. record {
      plan = sym same.plan i;
      options = sym same.options i;
      rows = (sym same.store i).rows;
      kept = (sym same.store i).kept;
      opened = (sym same.store i).opened;
      sink_failed = sym same.sink_failed i;
      fault = mid.fault;
      tale = sym same.tale i;
      begun = sym same.begun i;
      restoring = sym same.restoring i;
      known = sym same.known i;
      story = story (sym same.store i).disk;
      written = written (sym same.sink i);
    }

-- A task that broke off leaves what a run keeps.
pub broken_seen : {D W : Type 0} (story : D → Story) (written : W → List ℕ) (o : Opening) (mid new : RunView D W) (t seat : ℕ) (cut : Cut) → Notes seat (events.Broke t cut) mid new → MarksAt (story mid.store.disk) seat (events.Broke t cut) mid.tale new.tale → (IsSome mid.fault → new.fault ≡ mid.fault)
    → fate_at (fates_told (length mid.plan.tasks) mid.tale) t ≡ fate.Running seat → IsSpared (seen story written mid) seat (events.Broke t cut) → IsRun o (seen story written mid) → IsRun o (seen story written new)
broken_seen story written o mid new t seat cut n m stays runs spared run =
    noted_run story written o mid new seat (events.Broke t cut) n m stays
    (record { within = running_within (fates_told (length mid.plan.tasks) mid.tale) t seat runs; before = ap is_settled runs; after = refl; book = λ b. refl })
    run (beside_running o (seen story written mid) run (events.Broke t cut) seat runs refl) spared
    (λ course same is. subst (λ (p : Plan). fate_at (fates_told (length p.tasks) mid.tale) t ≡ fate.Running seat) (sym same) runs)
    tt
    (tells_none o mid.plan mid.options mid.tale (events.Broke t cut) refl)

-- a job that failed leaves what a run keeps
pub failed_seen : {D W : Type 0} (story : D → Story) (written : W → List ℕ) (o : Opening) (old new : RunView D W) (job : Job) (g : Given) (cause : Why) (seat : ℕ) → outcome_of g ≡ Err cause → closed_as job.task g ≡ events.Failed job.task cause
    → IsCleanJob o (seen story written old) job → IsGivenBy o.gives job g → Notes seat (events.Failed job.task cause) old new → MarksAt (story old.store.disk) seat (events.Failed job.task cause) old.tale new.tale → (IsSome old.fault → new.fault ≡ old.fault)
    → fate_at (fates_told (length old.plan.tasks) old.tale) job.task ≡ fate.Running seat → IsSpared (seen story written old) seat (events.Failed job.task cause) → IsRun o (seen story written old) → IsRun o (seen story written new)
failed_seen story written o old new job g cause seat fails closed j is_given n m stays runs spared run =
    noted_run story written o old new seat (events.Failed job.task cause) n m stays
    (record { within = running_within (fates_told (length old.plan.tasks) old.tale) job.task seat runs; before = ap is_settled runs; after = refl; book = λ b. refl })
    run (beside_running o (seen story written old) run (events.Failed job.task cause) seat runs refl) spared
    (λ course same longer.
    let at = logged_at (seen story written old) seat (events.Failed job.task cause) in
    subst (λ (e : Event). MayCome course old.tale (record { event = e; seat = seat; moment = at.moment })) closed
    (end_may_come o (seen story written old) job g seat at.moment j is_given runs course same (course_of_front o old.options old.tale at course longer)))
    (inl (says o (seen story written old) job g j is_given ∙ ap said fails))
    (tells_none o old.plan old.options old.tale (events.Failed job.task cause) refl)

-- the tree that a job gave is its task's clean output
pub output_of : {D W : Type 0} (story : D → Story) (written : W → List ℕ) (o : Opening) (old : RunView D W) (job : Job) (tree : Entries) (manifest : List ManifestLine) → IsSound old.plan → IsCleanJob o (seen story written old) job → IsGivenBy o.gives job (given.Tree tree manifest) → IsCleanOutput o.gives old.plan.tasks job.task tree
output_of story written o old job tree manifest sound j is_given =
    let b = given_is_clean o (seen story written old) job tree manifest j is_given (λ task at. recursion_from_All (λ d. d < job.task) task.deps (sound.tasks job.task task at).below) in
    record { built = b.0; is_built = b.1; clean = b.2; says = says o (seen story written old) job (given.Tree tree manifest) j is_given }
