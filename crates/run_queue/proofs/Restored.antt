-- A task that is restored from its object, as views of a state.
use Rattle.std.proofs.Common.{◌≡◌, ◌≢◌, ◌∙◌, sym, ap, subst, refl, ℕ, ◌<◌, ◌-◌, ◌^◌, min, zero, suc, arith, Bool, true, List, [], ◌∷◌, ◌++◌, length, set, Some, None, ◌⊎◌, inl, inr}
use Rattle.std.specs.Prelude.{Contains, IfSome, IsSome, Option}
use Rattle.std.specs.Option.{option_map, option_or}
use Rattle.std.specs.List.{slice_get}
use Rattle.std.proofs.lemmas.Bool.{cases_eq}
use Rattle.std.proofs.lemmas.List.Elements.{Contains-append_left, Contains-push, Contains-push_cases}
use Rattle.std.proofs.lemmas.Option.{none-some, same_Some, slice_get_within}
use Rattle.outside_traits.specs.Passes.{EachNow, Passes}
use Rattle.outside_traits.specs.Store.{Store}
use Rattle.outside_traits.specs.Story.{IsImage, Story, moment}
use Rattle.outside_traits.specs.Story as story_of
use Rattle.outside_traits.proofs.Images.{held-image}
use Rattle.outside_traits.proofs.Puts.{path_cases}
use Rattle.outside_traits.proofs.Runs.{passes_so}
use Rattle.meta_model.specs.CleanBuild.{Entries}
use Rattle.meta_model.specs.declared.event.Avail.{Avail}
use Rattle.meta_model.specs.declared.event.Avail.TheVariants as avail
use Rattle.meta_model.specs.declared.event.Event.TheVariants as events
use Rattle.meta_model.specs.declared.event.Logged.{Logged}
use Rattle.meta_model.specs.declared.plan.Plan.{Plan}
use Rattle.meta_model.specs.declared.plan.PlanTask.{PlanTask}
use Rattle.tale_model.specs.declared.fate.Fate.{Fate}
use Rattle.tale_model.specs.declared.fate.Fate.TheVariants as fate
use Rattle.run_core.specs.declared.next.Next.TheVariants as next
use Rattle.run_core.specs.Choice.{MayAnswer}
use Rattle.tale_model.specs.Fates.{IsFree, fate_at, fates_told, is_running}
use Rattle.tale_model.specs.History.{Course, EachAfter, MayCome}
use Rattle.run_core.specs.History.{IsInOrder, IsOrderly, settled_as}
use Rattle.tale_model.specs.Need.{IsIn}
use Rattle.run_core.proofs.Steps.{count_told, told_push}
use Rattle.tree_model.specs.declared.hash.Hash.{Hash}
use Rattle.store_model.specs.declared.signature.EquivRow.{EquivRow}
use Rattle.store_model.specs.Available.{IsInWork, task_folder}
use Rattle.store_model.specs.Origins.{rows_of}
use Rattle.store_model.specs.Reuse.{MayReuse}
use Rattle.store_model.specs.Rows.{row_at}
use Rattle.store_model.specs.Signatures.{Signed, signatures}
use Rattle.store_model.specs.Spelling.{name_of}
use Rattle.setscene_plan.proofs.Naming.{signed_at}
use Rattle.build_store.specs.Openings.{GoesOn, IsOpen, Lands, OpensRestoring, open_view}
use Rattle.build_store.specs.Pieces.{IsPublishing}
use Rattle.build_store.specs.Publication.{HasNoObject, IsObjectOf, IsPublished, IsRestored, KeepsOthers, Publishes, Restores, publication, restoration}
use Rattle.build_store.specs.View.{OpenView, OpenViews, View, opened_at, unshared}
use Rattle.build_store.proofs.RestoringOpens.{restoring_is_publishing}
use Rattle.run_model.specs.Opening.{Opening}
use Rattle.run_model.specs.Books.{rows_after, signed_after}
use Rattle.run_model.specs.Courses.{IsCourse}
use Rattle.run_model.specs.Stands.{HasOwnRow, IsPlaced, IsStanding}
use Rattle.run_queue.specs.declared.fault.RunFault.{RunFault}
use Rattle.run_queue.specs.AskingLaws.{same_story}
use Rattle.run_queue.specs.Flights.{OpenTask, OpenTasks, SameOpen, view_of, with_open, without_open}
use Rattle.run_queue.specs.Keeps.{IsRun, IsUpToDate, WasThere}
use Rattle.run_queue.specs.Mends.{AreMends, IsMend, both}
use Rattle.run_queue.specs.Puts.{IsSignedAt, PutsObject}
use Rattle.run_queue.specs.Seen.{Known, RunView, Seen, seen}
use Rattle.run_queue.specs.Turns.{MarksAt, Notes, without}
use Rattle.run_queue.proofs.Boarding.{one_more_or_less}
use Rattle.run_queue.proofs.Claiming.{claim_may_come}
use Rattle.run_queue.proofs.Growing.{book_grows}
use Rattle.run_queue.proofs.Hands.{from_without, in_without}
use Rattle.run_queue.proofs.Meanwhile.{told_by}
use Rattle.run_queue.proofs.Mends.{IsBeside, both_mend, both_none, mend_grounded, mend_number, mend_open, mend_own, mend_waits}
use Rattle.run_queue.proofs.Notes.{set_same}
use Rattle.run_queue.proofs.Opened.{none_of, some_of}
use Rattle.run_queue.proofs.Passed.{passed_run}
use Rattle.run_queue.proofs.PutBack.{at, built, has_object, in_object, line_at, object_is_clean, object_now, object_then, restoring_run, was_object}
use Rattle.run_queue.proofs.Putting.{Begins, book_now, may_now}
use Rattle.run_queue.proofs.Settled.{SettlesOne, settled_view}
use Rattle.run_queue.proofs.There.{tells_one}
use Rattle.run_queue.proofs.Touched.{restored_last}
use Rattle.run_queue.proofs.Unsettled.{logged_at}

pub restored_order : (tasks : List PlanTask) (tale : List Logged) (need : List Bool) (t seat : ℕ) → length need ≡ length tasks → IsIn need t → fate_at (fates_told (length tasks) tale) t ≡ fate.Waiting → IsFree (fates_told (length tasks) tale) seat → IsInOrder tasks (fates_told (length tasks) tale) seat (events.Restored t)
restored_order tasks tale need t seat long member waits free =
    let w = slice_get_within need t true member in
    let c = count_told (length tasks) tale in
    record { can = (omega arith, waits); by_seat = free }

-- a task that is needed is one of the plan
pub needed_within : (count : ℕ) (need : List Bool) (t : ℕ) → length need ≡ count → IsIn need t → t < count
needed_within count need t long member = let w = slice_get_within need t true member in omega (arith, long, w)

-- what is written to a place last stands there
pub set_again : {A : Type 0} (xs : List A) (t : ℕ) (a b : A) → set (set xs t a) t b ≡ set xs t b
set_again [] t a b = refl
set_again (x ∷ xs) zero a b = refl
set_again (x ∷ xs) (suc t) a b = ap (λ l. x ∷ l) (set_again xs t a b)

pub told_object : (tells : Type 0) (old new : Story) (rows : List EquivRow) (s : Signed) → tells → PutsObject tells old new rows s → PutsObject (Unit {0}) old new rows s
told_object tells old new rows s t puts = record { images = λ u. puts.images t; others = λ u. puts.others t }

-- ---- a restoring is opened

module _ {D W : Type 0} (story : D → Story) (written : W → List ℕ) (o : Opening) (old : RunView D W) (run : IsRun o (seen story written old)) (none : old.fault ≡ None) (orderly : EachAfter (IsOrderly old.plan.tasks) old.tale) (k : Known) (is_known : old.known ≡ Some k) (now : IsUpToDate old.plan old.store.rows k) (t : ℕ)
    (answer : MayAnswer old.options old.plan.tasks k.need k.avail (fates_told (length old.plan.tasks) old.tale) (next.Settle t)) (object : slice_get k.avail t ≡ Some avail.Object) (sound : story_of.IsSound (story old.store.disk)) where
  pub x : (y : Signed) × (slice_get (signatures old.store.rows old.plan.tasks) t ≡ Some y)
  x = signed_at old.store.rows old.plan.tasks t (needed_within (length old.plan.tasks) k.need t now.need.long answer.0.needed)

  may : MayReuse o.gives o.reading o.story.held (book_now o (seen story written old)) old.plan.tasks
  may = may_now o (seen story written old) run none now.clear

  was : WasThere o (seen story written old) t avail.Object
  was = was_object o (seen story written old) run k is_known t answer object

  -- that the task has no object can't be answered
  pub never_gone : (X : Type 0) → ((y : Signed) → IsSignedAt old.store.rows old.plan.tasks t y → HasNoObject (story old.store.disk).held old.store.rows y) → X
  never_gone X answered = absurd (has_object o (seen story written old) run sound none orderly may t x.0 x.1 answer.0.waits was (answered x.0 x.1))

  module _ (store : View D) (rows : store.rows ≡ old.store.rows) (begun : List (Option Avail)) (begins : Begins old.begun begun t) (is_object : slice_get begun t ≡ Some (Some avail.Object)) (puts : (y : Signed) → IsSignedAt old.store.rows old.plan.tasks t y → PutsObject (Unit {0}) (story old.store.disk) (story store.disk) old.store.rows y) where
    abbrev longer : List ℕ
    longer = old.restoring ++ t ∷ []

    path : (fault : Option RunFault) → record (seen story written old) { story = story store.disk; kept = store.kept; opened = store.opened; begun = begun; restoring = old.restoring ++ t ∷ []; fault = fault } ≡ seen story written (record old { store = store; begun = begun; restoring = old.restoring ++ t ∷ []; fault = fault })
    path fault = λ i. record {
      plan = old.plan;
      options = old.options;
      rows = sym rows i;
      kept = store.kept;
      opened = store.opened;
      sink_failed = old.sink_failed;
      fault = fault;
      tale = old.tale;
      begun = begun;
      restoring = old.restoring ++ t ∷ [];
      known = old.known;
      story = story store.disk;
      written = written old.sink;
    }

    run_by : (mends : OpenTasks) (fault : Option RunFault) → (fault ≡ None → SameOpen (both run.opened mends) store.opened) → (fault ≡ None → AreMends o old.plan old.store.rows begun old.tale (old.restoring ++ t ∷ []) mends) → IsRun o (seen story written (record old { store = store; begun = begun; restoring = old.restoring ++ t ∷ []; fault = fault }))
    run_by mends fault are mending =
        let p = puts x.0 x.1 in
        subst (IsRun o) (path fault)
        (restoring_run o (seen story written old) run sound none orderly may t x.0 x.1 answer.0.waits was (story store.disk) (p.images tt) (p.others tt) begun begins is_object
        (old.restoring ++ t ∷ []) (λ u hand. Contains-append_left old.restoring (t ∷ []) u hand) (Contains-push old.restoring t) store.kept store.opened mends fault are mending)

    -- Where the opening met a fault, which is kept, it leaves what a run keeps.
    pub opening_fault : (f : RunFault) → IsRun o (seen story written (record old { store = store; begun = begun; restoring = old.restoring ++ t ∷ []; fault = Some f }))
    opening_fault f = run_by run.mends (Some f) (λ no. absurd (let n : Some f ≡ None = no in cc)) (λ no. absurd (let n : Some f ≡ None = no in cc))

    -- So it does where the restoring is open.
    module _ (fresh : Contains old.restoring t → ⊥) (opens : OpensRestoring (Unit {0}) story old.store store x.0) where
      abbrev folder : List ℕ
      folder = task_folder x.0.task

      abbrev one : OpenTask
      one = record { signed = unshared x.0; tree = opens.tree }

      nothing : (run.opened folder ≡ None) × (run.mends folder ≡ None)
      nothing = both_none run.opened run.mends folder (none_of (both run.opened run.mends) old.store.opened (run.open_are none) folder opens.opens.opened.none)

      abbrev later : OpenTasks
      later = with_open folder one run.mends

      are : SameOpen (both run.opened later) store.opened
      are beside = elim (path_cases beside folder) [
        | inl e ↦
            ap (λ (f : List ℕ). option_map view_of (both run.opened later f)) e ∙ ap (option_map view_of) (both_mend run.opened later folder nothing.0 ∙ ((one_more_or_less folder one run.mends).0 nothing.1).is_open)
            ∙ sym opens.opens.opened.is_open ∙ sym (ap (opened_at store.opened) e)
        | inr ne ↦
            ap (λ (y : Option OpenTask). option_map view_of (option_or (run.opened beside) y)) (((one_more_or_less folder one run.mends).0 nothing.1).others beside ne)
            ∙ run.open_are none beside ∙ sym (opens.opens.opened.others beside ne)
      ]

      mend : IsMend o old.plan old.store.rows begun old.tale (old.restoring ++ t ∷ []) folder one
      mend = record {
        number = t;
        among = Contains-push old.restoring t;
        waits = answer.0.waits;
        begins = is_object;
        own = x.0;
        signed = x.1;
        folder_is = refl;
        puts = refl;
        row = opens.row;
        object = object_then o (seen story written old) run sound none orderly may t x.0 x.1 answer.0.waits was (story old.store.disk).held (held-image (story old.store.disk) sound) opens.row opens.tree (opens.object tt);
      }

      mended : (beside : List ℕ) (other : OpenTask) → later beside ≡ Some other → (beside ≡ folder) ⊎ (beside ≢ folder) → IsMend o old.plan old.store.rows begun old.tale (old.restoring ++ t ∷ []) beside other
      mended beside other is (inl e) =
          let same : one ≡ other = same_Some one other (sym ((one_more_or_less folder one run.mends).0 nothing.1).is_open ∙ sym (ap later e) ∙ is) in
          subst (IsMend o old.plan old.store.rows begun old.tale (old.restoring ++ t ∷ []) beside) same (subst (λ (f : List ℕ). IsMend o old.plan old.store.rows begun old.tale (old.restoring ++ t ∷ []) f one) (sym e) mend)
      mended beside other is (inr ne) =
          let m = (run.mending none).each beside other (sym (((one_more_or_less folder one run.mends).0 nothing.1).others beside ne) ∙ is) in
          record {
            number = m.number;
            among = Contains-append_left old.restoring (t ∷ []) m.number m.among;
            waits = m.waits;
            begins = begins.others m.number (λ same. fresh (subst (Contains old.restoring) same m.among)) ∙ m.begins;
            own = m.own;
            signed = m.signed;
            folder_is = m.folder_is;
            puts = m.puts;
            row = m.row;
            object = m.object;
          }

      pub opening_view : IsRun o (seen story written (record old { store = store; begun = begun; restoring = old.restoring ++ t ∷ []; fault = old.fault }))
      opening_view = run_by later old.fault (λ no. are) (λ no. record {
        each = λ beside other is. mended beside other is (path_cases beside folder);
        rest = λ u hand. elim (Contains-push_cases old.restoring t u hand) [
          | inl was_there ↦ (run.mending none).rest u was_there
          | inr same ↦ ap (λ (n : ℕ). is_running (fate_at (fates_told (length old.plan.tasks) old.tale) n)) (sym same) ∙ ap is_running answer.0.waits
        ];
      })

-- ---- a restoring goes on

module _ {D W : Type 0} (story : D → Story) (written : W → List ℕ) (o : Opening) (old : RunView D W) (run : IsRun o (seen story written old)) (none : old.fault ≡ None) (orderly : EachAfter (IsOrderly old.plan.tasks) old.tale) (t : ℕ) (hand : Contains old.restoring t) (lt : t < length old.plan.tasks)
    (sound : story_of.IsSound (story old.store.disk)) (store : View D) (rows : store.rows ≡ old.store.rows)
    (pass : (y : Signed) → IsSignedAt old.store.rows old.plan.tasks t y → (tree : Entries) → IsOpen old.store.opened (unshared y) tree → Passes (story old.store.disk) (story store.disk) (IsPublishing (publication old.store.rows (unshared y) tree) (story old.store.disk).held)) where
  pub own : (y : Signed) × (slice_get (signatures old.store.rows old.plan.tasks) t ≡ Some y)
  own = signed_at old.store.rows old.plan.tasks t lt

  step_path : (fault : Option RunFault) → record (seen story written old) { story = story store.disk; kept = store.kept; opened = store.opened; fault = fault } ≡ seen story written (record old { store = store; fault = fault })
  step_path fault = λ i. record {
    plan = old.plan;
    options = old.options;
    rows = sym rows i;
    kept = store.kept;
    opened = store.opened;
    sink_failed = old.sink_failed;
    fault = fault;
    tale = old.tale;
    begun = old.begun;
    restoring = old.restoring;
    known = old.known;
    story = story store.disk;
    written = written old.sink;
  }

  module _ (k : Known) (now : IsUpToDate old.plan old.store.rows k) (tree : Entries) (is_open : IsOpen old.store.opened (unshared own.0) tree) where
    pub found : (one : OpenTask) × (both run.opened run.mends (task_folder own.0.task) ≡ Some one) × (view_of one ≡ open_view (unshared own.0) tree)
    found = some_of (both run.opened run.mends) old.store.opened (run.open_are none) (task_folder own.0.task) (open_view (unshared own.0) tree) is_open

    mend_is : run.mends (task_folder own.0.task) ≡ Some found.0
    mend_is = mend_open o (seen story written old) run none t hand own.0 own.1 found.0 found.1

    abbrev in_hand : IsMend o old.plan old.store.rows old.begun old.tale old.restoring (task_folder own.0.task) found.0
    in_hand = (run.mending none).each (task_folder own.0.task) found.0 (mend_open o (seen story written old) run none t hand own.0 own.1 found.0 found.1)

    waits : fate_at (fates_told (length old.plan.tasks) old.tale) t ≡ fate.Waiting
    waits = mend_waits o (seen story written old) run none t hand own.0 own.1 found.0 found.1

    begins_here : slice_get old.begun t ≡ Some (Some avail.Object)
    begins_here = ap (slice_get old.begun) (sym (mend_number o (seen story written old) run none t hand own.0 own.1 found.0 found.1)) ∙ in_hand.begins

    was_there : WasThere o (seen story written old) t avail.Object
    was_there = (run.answered none t avail.Object begins_here (λ e. let n : fate.Waiting ≡ fate.Ended = sym waits ∙ e in cc)).0

    may_be : MayReuse o.gives o.reading o.story.held (book_now o (seen story written old)) old.plan.tasks
    may_be = may_now o (seen story written old) run none now.clear

    pub object_of : IsObjectOf o.story.held old.store.rows own.0 in_hand.row tree
    object_of =
        subst (λ (y : Entries). IsObjectOf o.story.held old.store.rows own.0 in_hand.row y) (ap (λ (v : OpenView). v.tree) found.2)
        (subst (λ (y : Signed). IsObjectOf o.story.held old.store.rows y in_hand.row found.0.tree) (mend_own o (seen story written old) run none t hand own.0 own.1 found.0 found.1) in_hand.object)

    same_put : publication old.store.rows (unshared own.0) tree ≡ restoration own.0 in_hand.row tree
    same_put = restoring_is_publishing old.store.rows own.0 in_hand.row tree object_of.stored.is_row object_of.manifest

    images : Passes (story old.store.disk) (story store.disk) (Restores (story old.store.disk).held old.store.rows own.0)
    images = passes_so (Restores (story old.store.disk).held old.store.rows own.0) (pass own.0 own.1 tree is_open) (λ i j p. inr (record {
      row = in_hand.row;
      tree = tree;
      object = object_now o (seen story written old) run sound none orderly may_be t own.0 own.1 waits was_there in_hand.row tree object_of;
      publishes = subst (λ y. Publishes y i j) same_put p.own;
    }))

    aside : Passes (story old.store.disk) (story store.disk) (KeepsOthers (task_folder own.0.task) None (story old.store.disk).held)
    aside = passes_so (KeepsOthers (task_folder own.0.task) None (story old.store.disk).held) (pass own.0 own.1 tree is_open) (λ i j p. p.others)

    stepped : (mends : OpenTasks) (fault : Option RunFault) → (fault ≡ None → SameOpen (both run.opened mends) store.opened) → (fault ≡ None → AreMends o old.plan old.store.rows old.begun old.tale old.restoring mends) → IsRun o (seen story written (record old { store = store; fault = fault }))
    stepped mends fault are mending =
        subst (IsRun o) (step_path fault)
        (restoring_run o (seen story written old) run sound none orderly may_be t own.0 own.1 waits was_there (story store.disk) images aside old.begun (record { there = avail.Object; here = begins_here; others = λ u ne. refl }) begins_here
        old.restoring (λ u still. still) hand store.kept store.opened mends fault are mending)

    -- A turn behind which nothing is left closes it.
    module _ (unihash : Hash) (lands : Lands old.store store (unshared own.0) unihash) where
      abbrev rest : OpenTasks
      rest = without_open (task_folder own.0.task) run.mends

      closed_are : SameOpen (both run.opened rest) store.opened
      closed_are beside = elim (path_cases beside (task_folder own.0.task)) [
        | inl e ↦
            ap (λ (f : List ℕ). option_map view_of (both run.opened rest f)) e
            ∙ ap (option_map view_of) (both_mend run.opened rest (task_folder own.0.task) (mend_grounded o (seen story written old) run none (task_folder own.0.task) found.0 mend_is) ∙ (one_more_or_less (task_folder own.0.task) found.0 run.mends).1.closed)
            ∙ sym lands.opened.closed ∙ sym (ap (opened_at store.opened) e)
        | inr ne ↦
            ap (λ (y : Option OpenTask). option_map view_of (option_or (run.opened beside) y)) ((one_more_or_less (task_folder own.0.task) found.0 run.mends).1.others beside ne)
            ∙ run.open_are none beside ∙ sym (lands.opened.others beside ne)
      ]

      was_open : (beside : List ℕ) (other : OpenTask) → rest beside ≡ Some other → (beside ≡ task_folder own.0.task) ⊎ (beside ≢ task_folder own.0.task) → run.mends beside ≡ Some other
      was_open beside other is (inl e) = absurd (none-some other (sym (one_more_or_less (task_folder own.0.task) found.0 run.mends).1.closed ∙ sym (ap rest e) ∙ is))
      was_open beside other is (inr ne) = sym ((one_more_or_less (task_folder own.0.task) found.0 run.mends).1.others beside ne) ∙ is

      pub closed_run : IsRun o (seen story written (record old { store = store; fault = old.fault }))
      closed_run = stepped rest old.fault (λ no. closed_are) (λ no. record {
        each = λ beside other is. (run.mending none).each beside other (was_open beside other is (path_cases beside (task_folder own.0.task)));
        rest = (run.mending none).rest;
      })

      -- and then each image has all that the task's stamp tells of
      pub each_restored : EachNow (story store.disk) (IsPublished (publication old.store.rows (unshared own.0) tree)) → (image : Store) → IsImage (story store.disk) image → IsRestored o.story.held old.store.rows own.0 image
      each_restored published image is = record { row = in_hand.row; tree = tree; object = object_of; published = subst (λ y. IsPublished y image) same_put (published image is) }

      pub closed_waits : fate_at (fates_told (length old.plan.tasks) old.tale) t ≡ fate.Waiting
      closed_waits = waits

      pub closed_was : WasThere o (seen story written old) t avail.Object
      closed_was = was_there

  -- A turn behind which more is left leaves what a run keeps.
  pub mend_goes_on : (k : Known) → IsUpToDate old.plan old.store.rows k → ((y : Signed) → IsSignedAt old.store.rows old.plan.tasks t y → GoesOn old.store store (unshared y)) → IsRun o (seen story written (record old { store = store }))
  mend_goes_on k now goes =
      let g = goes own.0 own.1 in
      stepped k now g.tree g.was_open run.mends old.fault (λ no beside. run.open_are none beside ∙ sym (ap (λ (v : OpenViews). opened_at v beside) g.books.opened)) (λ no. run.mending none)

  -- So does a turn in which a fault was met, with that fault.
  pub mend_fault : (f : RunFault) → IfSome old.known (IsUpToDate old.plan old.store.rows) → (old.known ≡ None → store ≡ old.store)
      → ((y : Signed) → IsSignedAt old.store.rows old.plan.tasks t y → (store ≡ old.store) ⊎ ((tree : Entries) × IsOpen old.store.opened (unshared y) tree))
      → IsRun o (seen story written (record old { store = store; fault = Some f }))
  mend_fault f current unlooked touched = by old.known refl current
    where
      untouched : store ≡ old.store → IsRun o (seen story written (record old { store = store; fault = Some f }))
      untouched same =
          subst (λ (v : View D). IsRun o (seen story written (record old { store = v; fault = Some f }))) (sym same)
          (passed_run o (seen story written old) (story old.store.disk) (Some f) (same_story (story old.store.disk)) (λ no. absurd (let n : Some f ≡ None = no in cc)) run)

      by : (known : Option Known) → old.known ≡ known → IfSome known (IsUpToDate old.plan old.store.rows) → IsRun o (seen story written (record old { store = store; fault = Some f }))
      by None is now = untouched (unlooked is)
      by (Some k) is now = elim (touched own.0 own.1) [
        | inl same ↦ untouched same
        | inr it ↦ stepped k now it.0 it.1 run.mends (Some f) (λ no. absurd (let n : Some f ≡ None = no in cc)) (λ no. absurd (let n : Some f ≡ None = no in cc))
      ]

-- a fault that is kept besides leaves what a run keeps
pub stopped_view : {D W : Type 0} (story : D → Story) (written : W → List ℕ) (o : Opening) (old : RunView D W) (fault : Option RunFault) → (fault ≡ None → old.fault ≡ None) → IsRun o (seen story written old) → IsRun o (seen story written (record old { fault = fault }))
stopped_view story written o old fault faultless run = passed_run o (seen story written old) (story old.store.disk) fault (same_story (story old.store.disk)) faultless run

-- ---- it is marked that a task was restored

module _ (o : Opening) (s : Seen) (run : IsRun o s) (sound : story_of.IsSound s.story) (none : s.fault ≡ None) (orderly : EachAfter (IsOrderly s.plan.tasks) s.tale) (may : MayReuse o.gives o.reading o.story.held (book_now o s) s.plan.tasks)
    (t : ℕ) (sg : Signed) (signed : slice_get (signatures s.rows s.plan.tasks) t ≡ Some sg) (waiting : fate_at (fates_told (length s.plan.tasks) s.tale) t ≡ fate.Waiting) (was : WasThere o s t avail.Object) (seat : ℕ)
    (each : (image : Store) → IsImage s.story image → IsRestored o.story.held s.rows sg image) where
  module _ (moment_of : ℕ) where
    abbrev entry : Logged
    entry = record { event = events.Restored t; seat = seat; moment = moment_of }

    in_count : t < length (fates_told (length s.plan.tasks) s.tale)
    in_count = let w = slice_get_within s.plan.tasks t sg.task (at o s run sound none orderly may t sg signed waiting was) in let c = count_told (length s.plan.tasks) s.tale in omega (arith, w, c)

    rows_next : rows_after o s.plan (s.tale ++ entry ∷ []) ≡ s.rows
    rows_next = ap rows_of (book_grows o.gives s.plan o.book s.tale entry) ∙ sym run.rows

    one_signed : (y : Signed) → signed_after o s.plan (s.tale ++ entry ∷ []) t ≡ Some y → sg ≡ y
    one_signed y is = same_Some sg y (sym signed ∙ ap (λ (r : List EquivRow). slice_get (signatures r s.plan.tasks) t) (sym rows_next) ∙ is)

    is_restored : fate_at (fates_told (length s.plan.tasks) (s.tale ++ entry ∷ [])) t ≡ fate.Restored
    is_restored = ap (λ (l : List Fate). fate_at l t) (told_push (length s.plan.tasks) s.tale entry) ∙ set_same (fates_told (length s.plan.tasks) s.tale) t fate.Restored in_count

    own_row : (row : EquivRow) → row_at s.rows (name_of sg.sig) ≡ Some row → HasOwnRow s.rows sg
    own_row row is =
        let r = line_at o s run sound none orderly may t sg signed waiting was row is in
        record { row = row; is_row = is; pn = ap (λ (y : EquivRow). y.pn) (sym r.is_row) ∙ r.pn; task = ap (λ (y : EquivRow). y.task) (sym r.is_row) ∙ r.task }

    has_some : row_at s.rows (name_of sg.sig) ≢ None
    has_some e = let w = in_object o s run sound none orderly may t sg signed waiting was in let n : Some w.row ≡ None = sym w.stored.is_row ∙ e in cc

    standing : (image : Store) → IsImage s.story image → IsStanding o s.plan (s.tale ++ entry ∷ []) t sg.task image
    standing image is =
        let b = built o s run sound none orderly may t sg signed waiting was in
        let w = in_object o s run sound none orderly may t sg signed waiting was in
        let r = each image is in
        let clean = object_is_clean o s run sound none orderly may t sg signed waiting was r.row r.tree r.object in
        record {
          built = b.0;
          is_built = b.1;
          stored = λ y here. subst (λ (l : List EquivRow). HasOwnRow l y) (sym rows_next) (subst (λ (z : Signed). HasOwnRow s.rows z) (one_signed y here) (own_row r.row r.object.stored.is_row));
          work = record { tree = r.tree; clean = clean; holds = r.published.work };
          tree = r.object.is_tree;
          stays = λ kept y here. subst (λ (l : List EquivRow). IsInWork image l y) (sym rows_next) (subst (λ (z : Signed). IsInWork image s.rows z) (one_signed y here) (record {
            kept = w.kept;
            row = r.row;
            stored = r.object.stored;
            stamp = r.published.stamp;
            folder = record { tree = r.tree; is_tree = r.object.is_tree; holds = r.published.work; manifest = r.object.manifest };
          }));
          shared = λ sstate ended y here. absurd (let n : fate.Restored ≡ fate.Ended = sym is_restored ∙ ended in cc);
        }

    pub restored_settles : SettlesOne o s entry
    restored_settles = record {
      within = in_count;
      before = waiting;
      after = λ e. (let n : fate.Restored ≡ fate.Ended = e in cc);
      rests = λ other e. (let n : fate.Restored ≡ fate.Running other = e in cc);
      book = λ b. refl;
      stored = λ y here. subst (λ (z : Signed). row_at s.rows (name_of z.sig) ≢ None) (same_Some sg y (sym signed ∙ here)) has_some;
      so = tells_one o s (events.Restored t) t avail.Object run.rows was refl;
      met = (avail.Object, λ y here. was y here, λ e. (let n : avail.Object ≡ avail.Missing = e in cc));
      stands = λ image is own here. subst (λ (y : PlanTask). IsStanding o s.plan (s.tale ++ entry ∷ []) t y image) (same_Some sg.task own (sym (at o s run sound none orderly may t sg signed waiting was) ∙ here)) (standing image is);
    }

-- No restoring of a task is open where the store has nothing open of it.
pub closed_apart : (o : Opening) (s : Seen) (run : IsRun o s) (t : ℕ) (sg : Signed) → slice_get (signatures s.rows s.plan.tasks) t ≡ Some sg → opened_at s.opened (task_folder sg.task) ≡ None → (none : s.fault ≡ None) (folder : List ℕ) (one : OpenTask) (is : run.mends folder ≡ Some one) → ((run.mending none).each folder one is).number ≢ t
closed_apart o s run t sg signed closed none folder one is same =
    let m = (run.mending none).each folder one is in
    let own : m.own ≡ sg = same_Some m.own sg (sym m.signed ∙ ap (slice_get (signatures s.rows s.plan.tasks)) same ∙ signed) in
    let here : folder ≡ task_folder sg.task = m.folder_is ∙ ap (λ (y : Signed). task_folder y.task) own in
    none-some one (sym (both_none run.opened run.mends (task_folder sg.task) (none_of (both run.opened run.mends) s.opened (run.open_are none) (task_folder sg.task) closed)).1 ∙ ap run.mends (sym here) ∙ is)

module _ {D W : Type 0} (story : D → Story) (written : W → List ℕ) (o : Opening) (mid new : RunView D W) (run : IsRun o (seen story written mid)) (none : mid.fault ≡ None) (orderly : EachAfter (IsOrderly mid.plan.tasks) mid.tale) (k : Known) (is_known : mid.known ≡ Some k) (now : IsUpToDate mid.plan mid.store.rows k)
    (t seat : ℕ) (free : IsFree (fates_told (length mid.plan.tasks) mid.tale) seat) (answer : MayAnswer mid.options mid.plan.tasks k.need k.avail (fates_told (length mid.plan.tasks) mid.tale) (next.Settle t)) (object : slice_get k.avail t ≡ Some avail.Object)
    (sg : Signed) (signed : slice_get (signatures mid.store.rows mid.plan.tasks) t ≡ Some sg) (closed : opened_at mid.store.opened (task_folder sg.task) ≡ None) (sound : story_of.IsSound (story mid.store.disk))
    (each : (image : Store) → IsImage (story mid.store.disk) image → IsRestored o.story.held mid.store.rows sg image)
    (notes : Notes seat (events.Restored t) mid new) (marks : MarksAt (story mid.store.disk) seat (events.Restored t) mid.tale new.tale) (stays : IsSome mid.fault → new.fault ≡ mid.fault) where
  abbrev s : Seen
  s = seen story written mid

  may_come : (course : Course) → course.plan ≡ mid.plan → IsCourse o mid.options (mid.tale ++ logged_at (seen story written mid) seat (events.Restored t) ∷ []) course → MayCome course mid.tale (logged_at (seen story written mid) seat (events.Restored t))
  may_come = claim_may_come o (seen story written mid) k (next.Settle t) (logged_at (seen story written mid) seat (events.Restored t)) run orderly is_known now free answer (ap (settled_as t) object)

  beside : IsBeside o (seen story written mid) run (events.Restored t)
  beside = record { numbers = λ n folder one is. closed_apart o (seen story written mid) run t sg signed closed n folder one is; rest = λ n hand. refl }

  -- A task that was restored and marked so leaves what a run keeps.
  pub restored_view : IsRun o (seen story written new)
  restored_view =
      settled_view story written o mid new seat (events.Restored t) notes marks stays
      (restored_settles o (seen story written mid) run sound none orderly (may_now o (seen story written mid) run none now.clear) t sg signed answer.0.waits (was_object o (seen story written mid) run k is_known t answer object) seat each (min (moment (story mid.store.disk)) (2 ^ 64 - 1)))
      run beside may_come tt

  restored_fate : fate_at (fates_told (length mid.plan.tasks) (mid.tale ++ logged_at (seen story written mid) seat (events.Restored t) ∷ [])) t ≡ fate.Restored
  restored_fate = is_restored o (seen story written mid) run sound none orderly (may_now o (seen story written mid) run none now.clear) t sg signed answer.0.waits (was_object o (seen story written mid) run k is_known t answer object) seat each (min (moment (story mid.store.disk)) (2 ^ 64 - 1))

  pub restored_now : fate_at (fates_told (length new.plan.tasks) new.tale) t ≡ fate.Restored
  restored_now = subst (λ (l : List Logged). fate_at (fates_told (length new.plan.tasks) l) t ≡ fate.Restored) (sym marks.is) (subst (λ (p : Plan). fate_at (fates_told (length p.tasks) (mid.tale ++ logged_at (seen story written mid) seat (events.Restored t) ∷ [])) t ≡ fate.Restored) (sym notes.plan) restored_fate)

  pub restored_placed : IsPlaced new.tale t
  restored_placed = subst (λ (l : List Logged). IsPlaced l t) (sym marks.is) (restored_last mid.tale (logged_at (seen story written mid) seat (events.Restored t)) t refl)

-- A task that was restored is in hand no more.
pub handed_back : (o : Opening) (s : Seen) (t : ℕ) → fate_at (fates_told (length s.plan.tasks) s.tale) t ≡ fate.Restored → IsPlaced s.tale t → IsRun o s → IsRun o (record s { restoring = without t s.restoring })
handed_back o s t restored placed run = record {
  may = run.may;
  rows = run.rows;
  lines = run.lines;
  grown = run.grown;
  own = run.own;
  readable = run.readable;
  opened = run.opened;
  mends = run.mends;
  book = run.book;
  open_are = run.open_are;
  flights = run.flights;
  mending = λ none. record {
    each = λ folder one is.
        let m = (run.mending none).each folder one is in
        record {
          number = m.number;
          among = in_without t m.number (λ same. let n : fate.Waiting ≡ fate.Restored = sym m.waits ∙ ap (fate_at (fates_told (length s.plan.tasks) s.tale)) same ∙ restored in cc) s.restoring m.among;
          waits = m.waits;
          begins = m.begins;
          own = m.own;
          signed = m.signed;
          folder_is = m.folder_is;
          puts = m.puts;
          row = m.row;
          object = m.object;
        };
    rest = λ u hand. (run.mending none).rest u (from_without t u s.restoring hand);
  };
  touched = run.touched;
  flying = run.flying;
  durable = run.durable;
  objects = run.objects;
  later = run.later;
  marked = run.marked;
  reusable = run.reusable;
  legal = run.legal;
  were_there = run.were_there;
  real = run.real;
  stored = run.stored;
  missing = run.missing;
  there = run.there;
  answered = run.answered;
  met = run.met;
  told = λ u b. elim (cases_eq u t) [
    | inl same ↦ inl (subst (IsPlaced s.tale) (sym same) placed)
    | inr ne ↦ told_by o s (record s { restoring = without t s.restoring }) u refl refl (λ some. some) (λ hand was. (in_without t u ne s.restoring hand, λ y here. was y here)) (run.told u b)
  ];
  images = run.images;
  stands = run.stands;
  settled = run.settled;
}

-- ---- what is told

pub told_opens : {D : Type 0} (tells : Type 0) (story : D → Story) (old new : View D) (s : Signed) → tells → OpensRestoring tells story old new s → OpensRestoring (Unit {0}) story old new s
told_opens tells story old new s t r = record { row = r.row; tree = r.tree; opens = r.opens; stored = r.stored; manifest = r.manifest; object = λ u. r.object t }

-- ---- the last turn of a restoring

module _ {D W : Type 0} (story : D → Story) (written : W → List ℕ) (o : Opening) (old : RunView D W) (run : IsRun o (seen story written old)) (none : old.fault ≡ None) (orderly : EachAfter (IsOrderly old.plan.tasks) old.tale) (t : ℕ) (hand : Contains old.restoring t) (lt : t < length old.plan.tasks)
    (sound : story_of.IsSound (story old.store.disk)) (store : View D) (rows : store.rows ≡ old.store.rows)
    (pass : (y : Signed) → IsSignedAt old.store.rows old.plan.tasks t y → (tree : Entries) → IsOpen old.store.opened (unshared y) tree → Passes (story old.store.disk) (story store.disk) (IsPublishing (publication old.store.rows (unshared y) tree) (story old.store.disk).held))
    (k : Known) (now : IsUpToDate old.plan old.store.rows k) (unihash : Hash) (lands : (y : Signed) → IsSignedAt old.store.rows old.plan.tasks t y → Lands old.store store (unshared y) unihash) where
  abbrev its : (y : Signed) × (slice_get (signatures old.store.rows old.plan.tasks) t ≡ Some y)
  its = own story written o old run none orderly t hand lt sound store rows pass

  abbrev land : Lands old.store store (unshared its.0) unihash
  land = lands its.0 its.1

  -- A turn behind which nothing is left leaves what a run keeps.
  pub done_view : IsRun o (seen story written (record old { store = store }))
  done_view = closed_run story written o old run none orderly t hand lt sound store rows pass k now land.tree land.was_open unihash land

  -- So does the mark that the task was restored, as it is in hand no more.
  module _ (published : (y : Signed) → IsSignedAt old.store.rows old.plan.tasks t y → (tree : Entries) → IsOpen old.store.opened (unshared y) tree → EachNow (story store.disk) (IsPublished (publication old.store.rows (unshared y) tree))) (later : story_of.IsSound (story store.disk))
      (is_known : old.known ≡ Some k) (answer : MayAnswer old.options old.plan.tasks k.need k.avail (fates_told (length old.plan.tasks) old.tale) (next.Settle t)) (object : slice_get k.avail t ≡ Some avail.Object) (seat : ℕ) (free : IsFree (fates_told (length old.plan.tasks) old.tale) seat)
      (new : RunView D W) (notes : Notes seat (events.Restored t) (record old { store = store }) new) (marks : MarksAt (story store.disk) seat (events.Restored t) old.tale new.tale) (stays : IsSome old.fault → new.fault ≡ old.fault) where
    each : (image : Store) → IsImage (story store.disk) image → IsRestored o.story.held store.rows its.0 image
    each image is = subst (λ (r : List EquivRow). IsRestored o.story.held r its.0 image) (sym rows) (each_restored story written o old run none orderly t hand lt sound store rows pass k now land.tree land.was_open unihash land (published its.0 its.1 land.tree land.was_open) image is)

    signed_now : slice_get (signatures store.rows old.plan.tasks) t ≡ Some its.0
    signed_now = ap (λ (r : List EquivRow). slice_get (signatures r old.plan.tasks) t) rows ∙ its.1

    now_later : IsUpToDate old.plan store.rows k
    now_later = subst (λ (r : List EquivRow). IsUpToDate old.plan r k) (sym rows) now

    pub marked_view : IsRun o (record (seen story written new) { restoring = without t new.restoring })
    marked_view =
        handed_back o (seen story written new) t
        (restored_now story written o (record old { store = store }) new done_view none orderly k is_known now_later t seat free answer object its.0 signed_now land.opened.closed later each notes marks stays)
        (restored_placed story written o (record old { store = store }) new done_view none orderly k is_known now_later t seat free answer object its.0 signed_now land.opened.closed later each notes marks stays)
        (restored_view story written o (record old { store = store }) new done_view none orderly k is_known now_later t seat free answer object its.0 signed_now land.opened.closed later each notes marks stays)
