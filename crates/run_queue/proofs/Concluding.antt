-- How a run goes on behind a turn of a publication: with the task's line, or with a fault, or with more that is left.
use Rattle.std.proofs.Common.{◌≡◌, ◌≢◌, ◌∙◌, sym, ap, subst, refl, ℕ, ◌<◌, ◌≤◌, ◌-◌, ◌^◌, ◌⊎◌, inl, inr, min, zero, suc, arith, Bool, false, List, [], ◌∷◌, ◌++◌, length, set, Some, None, append_assoc, append-nil}
use Rattle.std.specs.Prelude.{Contains, Option, IfSome}
use Rattle.std.specs.List.{AllByRecursion, slice_get}
use Rattle.std.proofs.lemmas.Bool.{cases_eq}
use Rattle.std.proofs.lemmas.Option.{same_Some}
use Rattle.outside_traits.specs.Passes.{EachNow, Passes}
use Rattle.outside_traits.specs.Store.{Store}
use Rattle.outside_traits.specs.Story.{IsImage, IsImageSince, Story, moment}
use Rattle.outside_traits.specs.Story as story_of
use Rattle.meta_model.specs.declared.event.Avail.{Avail}
use Rattle.meta_model.specs.declared.event.Avail.TheVariants as avail
use Rattle.meta_model.specs.declared.event.Event.TheVariants as events
use Rattle.meta_model.specs.declared.event.Logged.{Logged}
use Rattle.meta_model.specs.declared.plan.PlanTask.{PlanTask}
use Rattle.tale_model.specs.declared.fate.Fate.{Fate}
use Rattle.tale_model.specs.declared.fate.Fate.TheVariants as fate
use Rattle.tale_model.specs.Fates.{fate_at, fates_told, is_settled}
use Rattle.tale_model.specs.History.{Course, EachAfter, MayCome}
use Rattle.run_core.specs.History.{IsOrderly}
use Rattle.run_core.specs.Need.{AreOrdered}
use Rattle.tale_model.specs.Need.{IsIn}
use Rattle.run_core.proofs.Steps.{told_push}
use Rattle.sig_gen.specs.Signing.{signature_by}
use Rattle.store_model.specs.declared.signature.EquivRow.{EquivRow}
use Rattle.store_model.specs.declared.signature.SigRecord.{SigRecord}
use Rattle.store_model.specs.Available.{IsAvailable, IsInObject, IsInWork}
use Rattle.store_model.specs.Origins.{Book, Line, row_of, rows_of}
use Rattle.store_model.specs.Premises.{HasNoCollision, HasOneSignature}
use Rattle.store_model.specs.Recording.{recorded}
use Rattle.store_model.specs.Reuse.{MayReuse}
use Rattle.store_model.specs.Rows.{row_at}
use Rattle.store_model.specs.Signatures.{Signed, signatures}
use Rattle.store_model.specs.Spelling.{name_of, signature_bytes}
use Rattle.store_model.specs.Valid.{IsValidLine, StandsIn}
use Rattle.store_model.proofs.Lasting.{available_stays, reuse_goes_on}
use Rattle.store_model.proofs.Standing.{row_found, row_none, split_last}
use Rattle.store_model.proofs.Staying.{signatures_stay}
use Rattle.build_store.specs.declared.kept.KeptSig.{KeptSig}
use Rattle.store_model.specs.Lines.{HasLine}
use Rattle.build_store.specs.Publication.{IsPublished, publication}
use Rattle.store_model.specs.Readable.{IsReadable}
use Rattle.setscene_plan.specs.declared.replan.Replan.{Replan}
use Rattle.setscene_plan.specs.Replans.{IsCurrent, avail_in, names_in, need_in, unihashes_in}
use Rattle.setscene_plan.specs.View.{Says}
use Rattle.run_model.specs.Opening.{Opening}
use Rattle.run_queue.specs.Asking.{WasKept, earlier_in, kept_or_meant, meant}
use Rattle.run_model.specs.Books.{book_after, rows_after, signed_after}
use Rattle.run_model.specs.Courses.{IsCourse}
use Rattle.run_queue.specs.Courses.{IsReal}
use Rattle.run_queue.specs.declared.fault.RunFault.{RunFault}
use Rattle.run_queue.specs.Seen.{Known, Seen, known_in, no_meaning}
use Rattle.run_model.specs.Stands.{AllStand, HasEnded, IsSettledIn}
use Rattle.run_queue.specs.Stands.{IsLeft}
use Rattle.run_queue.proofs.Answered.{means_there, one_signature, own_name, own_pn}
use Rattle.run_queue.proofs.Known.{own_signature, own_task, sound_ordered, up_to_date}
use Rattle.run_queue.proofs.Enduring.{differ_at, same_signed, row_on, signed_at, signed_task}
use Rattle.run_queue.proofs.Growing.{legal_grows}
use Rattle.run_queue.proofs.There.{tells_none, there_grows}
use Rattle.run_queue.proofs.Notes.{set_other, set_same}
use Rattle.run_queue.proofs.Recorded.{IsPut}
use Rattle.run_queue.proofs.Unsettled.{if_some_on}
use Rattle.std.proofs.lemmas.Bool.{false≢true}
use Rattle.std.specs.Prelude.{IsSome}
use Rattle.std.proofs.lemmas.Option.{none-some}
use Rattle.outside_traits.proofs.Puts.{path_cases}
use Rattle.meta_model.specs.declared.plan.Plan.{Plan}
use Rattle.store_model.specs.Available.{task_folder}
use Rattle.store_model.specs.Valid.{IsValidBook}
use Rattle.store_model.proofs.Ordered.{each_append}
use Rattle.build_store.specs.Pieces.{IsPublishing}
use Rattle.build_store.specs.View.{OpenViews}
use Rattle.run_model.specs.Books.{line_of_ended}
use Rattle.run_model.specs.InFlight.{RunsAfter}
use Rattle.run_model.specs.Stands.{HasFinished}
use Rattle.run_queue.specs.Keeps.{IsToldOf}
use Rattle.run_queue.specs.Mends.{both}
use Rattle.run_queue.specs.Seen.{IsBegun, IsBegunIn}
use Rattle.run_queue.specs.Flights.{AreFlights, AreLeft, Closes, Flies, FliesAs, IsFlight, IsUnderWay, IsValidWith, KeepOtherObjects, MayTurn, OpenTask, OpenTasks, OpensAt, SameOpen, StandTo, put_of_turn, with_open, without_open}
use Rattle.run_queue.proofs.Breaking.{running_within}
use Rattle.run_queue.proofs.Boarding.{one_more_or_less, opening_keeps_flights, opening_keeps_others}
use Rattle.run_queue.proofs.Flights.{choice_valid, flight_of, folders_differ, in_hand, line_is, line_readable, runs_now}
use Rattle.run_queue.proofs.Landing as of_landing
use Rattle.run_queue.proofs.Landing.{flights_longer, objects_longer, stand_to_longer, stands_longer, still_flies, valid_longer}
use Rattle.run_queue.proofs.Leaving.{left_after, objects_now, stand_now, stand_since}
use Rattle.run_queue.proofs.Meanwhile.{other_bytes, started_stays_missing, told_by, told_goes_on}
use Rattle.run_queue.proofs.Mends.{beside_running, mends_begun, mends_marked, mends_over, mends_rest}
use Rattle.run_queue.proofs.Opened.{needs_now, under_way}
use Rattle.run_queue.proofs.OwnNames.{has_own_name, signed_task_at}
use Rattle.run_queue.proofs.Putting.{Begins, book_now, more_begun, readable_now}
use Rattle.run_queue.proofs.Staging.{turn_valid}
use Rattle.run_queue.proofs.Staging.{put as line_put}
use Rattle.run_queue.proofs.Touched.{finished_last, left_behind, left_besides}
use Rattle.run_queue.specs.Keeps.{IsRun, WasThere}

-- ---- with a fault, or with more that is left

-- a longer list of moments
pub later_moment : (a b c : ℕ) → a ≤ b → b ≤ c → a ≤ c
later_moment a b c x y = omega (arith, x, y)

-- a fault isn't kept where none is
pub none_kept : (f : Option RunFault) → f ≡ None → IsSome f → ⊥
none_kept f none some = false≢true (subst (λ (x : Option RunFault). IsSome x) none some)

-- ---- a task that runs is begun

module _ (o : Opening) (s : Seen) (run : IsRun o s) (faultless : s.fault ≡ None) (t seat : ℕ) (runs : RunsAfter s.plan s.tale t seat) (begun : List (Option Avail)) (begins : Begins s.begun begun t) where
  left_was : (from : ℕ) (image : Store) → from ≤ moment o.story → IsImageSince s.story from image → IsImageSince o.story from image ⊎ IsLeft o s.plan begun s.tale image
  left_was from image le since = elim (run.images from image le since) [
    | inl before ↦ inl before
    | inr left ↦ inr (left_besides o s.plan s.begun begun s.tale image (more_begun s begun t begins) left)
  ]

  -- What is begun is told of still: the task runs.
  still_told : (later : Seen) → later.plan ≡ s.plan → later.tale ≡ s.tale → ((u : ℕ) → Contains s.restoring u → WasThere o s u avail.Object → Contains later.restoring u × WasThere o later u avail.Object) → (u : ℕ) → IsBegunIn begun u → IsToldOf o later u
  still_told later same_plan same_tale there u b = elim (cases_eq u t) [
    | inl same ↦ inr (inl (seat, subst (λ (n : ℕ). RunsAfter later.plan later.tale n seat) (sym same) (subst (λ (p : Plan). RunsAfter p later.tale t seat) (sym same_plan) (subst (λ (l : List Logged). RunsAfter s.plan l t seat) (sym same_tale) runs))))
    | inr ne ↦ told_by o s later u same_plan same_tale (λ some. absurd (none_kept s.fault faultless some)) (there u) (run.told u (b.0, sym (begins.others u ne) ∙ b.1))
  ]

  -- A fault that is kept then, with which the disk wasn't touched, leaves what a run keeps.
  pub fault_run : (kept : List KeptSig) (views : OpenViews) (f : RunFault) → IsRun o (record s { kept = kept; opened = views; fault = Some f; begun = begun })
  fault_run kept views f = record {
    may = run.may;
    rows = run.rows;
    lines = run.lines;
    grown = run.grown;
    own = λ l has u other at pn name. more_begun s begun t begins u (run.own l has u other at pn name);
    readable = run.readable;
    opened = run.opened;
    mends = run.mends;
    book = λ none. absurd (cc);
    open_are = λ none. absurd (cc);
    mending = λ none. absurd (cc);
    flights = λ none. absurd (cc);
    touched = λ none. absurd (cc);
    flying = λ none. absurd (cc);
    durable = λ none. absurd (cc);
    objects = λ none. absurd (cc);
    later = run.later;
    marked = run.marked;
    reusable = run.reusable;
    legal = run.legal;
    were_there = run.were_there;
    real = run.real;
    stored = run.stored;
    missing = run.missing;
    there = run.there;
    answered = λ none. absurd (cc);
    met = run.met;
    told = λ u b. still_told (record s { kept = kept; opened = views; fault = Some f; begun = begun }) refl refl (λ v hand was. (hand, λ x here. was x here)) u b;
    images = λ from image le since. left_was from image le since;
    stands = run.stands;
    settled = run.settled;
  }

  module _ (here : slice_get begun t ≡ Some (Some avail.Missing)) (one : OpenTask) (none : run.opened (task_folder one.signed.task) ≡ None) (flight : IsFlight o s.plan (book_after o.gives s.plan o.book s.tale) t one)
      (apart : (beside : List ℕ) (other : OpenTask) → run.opened beside ≡ Some other → name_of one.signed.sig ≢ name_of other.signed.sig) where
    opens : OpensAt (task_folder one.signed.task) one run.opened (with_open (task_folder one.signed.task) one run.opened)
    opens = (one_more_or_less (task_folder one.signed.task) one run.opened).0 none

    law : AreFlights o s.plan s.tale (with_open (task_folder one.signed.task) one run.opened) × ((image : Store) → IsValidWith o s.plan s.tale run.opened image → IsValidWith o s.plan s.tale (with_open (task_folder one.signed.task) one run.opened) image)
    law = opening_keeps_flights o s.plan s.tale run.opened (with_open (task_folder one.signed.task) one run.opened) (run.flights faultless) one opens (record { number = t; seat = seat; runs = runs; folder_is = refl; flight = flight }) apart

    -- it flies
    pub flies_now : FliesAs s.plan (with_open (task_folder one.signed.task) one run.opened) t one
    flies_now = (flight.at, opens.is_open)

    -- what flies is another one, and flew, or it is this one
    flew : (u : ℕ) → (u ≡ t → ⊥) → Flies s.plan (with_open (task_folder one.signed.task) one run.opened) u → Flies s.plan run.opened u
    flew u ne flies = (flies.0, (flies.1.0, sym (opens.others (task_folder flies.0.signed.task) (folders_differ s.plan run.may.sound u t flies.0.signed.task one.signed.task flies.1.0 flight.at ne)) ∙ flies.1.1))

    flies_still : (u : ℕ) → (u ≡ t → ⊥) → Flies s.plan run.opened u → Flies s.plan (with_open (task_folder one.signed.task) one run.opened) u
    flies_still u ne flies = (flies.0, (flies.1.0, opens.others (task_folder flies.0.signed.task) (folders_differ s.plan run.may.sound u t flies.0.signed.task one.signed.task flies.1.0 flight.at ne) ∙ flies.1.1))

    -- Where its publication is opened besides, and the disk isn't touched yet, that is what a run keeps.
    pub opened_run : (kept : List KeptSig) (views : OpenViews) → SameOpen (both (with_open (task_folder one.signed.task) one run.opened) run.mends) views → IsRun o (record s { kept = kept; opened = views; begun = begun })
    opened_run kept views are = record {
      may = run.may;
      rows = run.rows;
      lines = run.lines;
      grown = run.grown;
      own = λ l has u other at pn name. more_begun s begun t begins u (run.own l has u other at pn name);
      readable = run.readable;
      opened = with_open (task_folder one.signed.task) one run.opened;
      mends = run.mends;
      book = run.book;
      open_are = λ no. are;
      mending = λ no. mends_begun o s run faultless begun t begins (mends_rest o s run faultless t seat runs);
      flights = λ no. law.0;
      touched = λ no u flies. elim (cases_eq u t) [
        | inl same ↦ (avail.Missing, ap (slice_get begun) same ∙ here)
        | inr ne ↦ more_begun s begun t begins u (run.touched faultless u (flew u ne flies))
      ];
      flying = λ no u other ran b. elim (cases_eq u t) [
        | inl same ↦ subst (Flies s.plan (with_open (task_folder one.signed.task) one run.opened)) (sym same) (one, flies_now)
        | inr ne ↦ flies_still u ne (run.flying faultless u other ran (b.0, sym (begins.others u ne) ∙ b.1))
      ];
      durable = λ no image is. law.1 image (run.durable faultless image is);
      objects = λ no image is. opening_keeps_others o s.plan s.tale run.opened (with_open (task_folder one.signed.task) one run.opened) (task_folder one.signed.task) one opens image (run.objects faultless image is);
      later = run.later;
      marked = run.marked;
      reusable = run.reusable;
      legal = run.legal;
      were_there = run.were_there;
      real = run.real;
      stored = run.stored;
      missing = run.missing;
      there = run.there;
      answered = λ no u a is not_yet. elim (cases_eq u t) [
        | inl same ↦
            let gone : a ≡ avail.Missing = (let n : Some (Some a) ≡ Some (Some avail.Missing) = sym is ∙ ap (slice_get begun) same ∙ here in cc) in
            let ran : RunsAfter s.plan s.tale u seat = subst (λ (n : ℕ). RunsAfter s.plan s.tale n seat) (sym same) runs in
            ((λ x at. subst (IsAvailable o.story.held s.rows s.options.setscene x) (sym gone) (run.missing u seat ran x at)), inr (gone, (seat, ran)))
        | inr ne ↦ run.answered faultless u a (sym (begins.others u ne) ∙ is) not_yet
      ];
      met = run.met;
      told = λ u b. still_told (record s { kept = kept; opened = views; begun = begun }) refl refl (λ v hand was. (hand, λ x at. was x at)) u b;
      images = λ from image le since. left_was from image le since;
      stands = run.stands;
      settled = run.settled;
    }

    -- with the publications that are open then
    pub opened_with : (kept : List KeptSig) (views : OpenViews) → SameOpen (both (with_open (task_folder one.signed.task) one run.opened) run.mends) views
        → (r : IsRun o (record s { kept = kept; opened = views; begun = begun })) × (r.opened ≡ with_open (task_folder one.signed.task) one run.opened) × (r.mends ≡ run.mends)
    unfolding opened_run
    opened_with kept views are = (opened_run kept views are, refl, refl)

-- ---- what was there, over more rows

-- how a task is available depends on the row of its name alone
pub same_available : (held : Store) (rows others : List EquivRow) (setscene : Bool) (sg : Signed) (a : Avail) → row_at others (name_of sg.sig) ≡ row_at rows (name_of sg.sig) → IsAvailable held rows setscene sg a → IsAvailable held others setscene sg a
same_available held rows others setscene sg a same = by a
  where
    work : (r q : List EquivRow) → row_at q (name_of sg.sig) ≡ row_at r (name_of sg.sig) → IsInWork held r sg → IsInWork held q sg
    work r q e w = record { kept = w.kept; row = w.row; stored = record { is_row = e ∙ w.stored.is_row; sig = w.stored.sig }; stamp = w.stamp; folder = w.folder }

    object : (r q : List EquivRow) → row_at q (name_of sg.sig) ≡ row_at r (name_of sg.sig) → IsInObject held r setscene sg → IsInObject held q setscene sg
    object r q e w = record { kept = w.kept; sstate = w.sstate; counts = w.counts; row = w.row; stored = record { is_row = e ∙ w.stored.is_row; sig = w.stored.sig }; object = w.object }

    by : (x : Avail) → IsAvailable held rows setscene sg x → IsAvailable held others setscene sg x
    by avail.Work w = work rows others same w
    by avail.Object w = (λ x. w.0 (work others rows (sym same) x), object rows others same w.1)
    by avail.Missing w = (λ x. w.0 (work others rows (sym same) x), λ x. w.1 (object others rows (sym same) x))

-- What was there and isn't missing is so over the rows of a longer book.
pub was_on : (o : Opening) (s : Seen) (more : Book) (rows : List EquivRow) → s.rows ≡ rows_of (book_now o s) → rows ≡ rows_of (book_now o s ++ more) → MayReuse o.gives o.reading o.story.held (book_now o s) s.plan.tasks → (u : ℕ) (a : Avail) → a ≢ avail.Missing → WasThere o s u a → WasThere o (record s { rows = rows }) u a
was_on o s more rows old new may u a there was sg is = by a there was
  where
    Old : List EquivRow
    Old = rows_of (book_now o s)

    x : (y : Signed) × (slice_get (signatures s.rows s.plan.tasks) u ≡ Some y)
    x = signed_at rows s.rows s.plan.tasks u sg is

    is_old : slice_get (signatures (rows_of (book_now o s)) s.plan.tasks) u ≡ Some x.0
    is_old = subst (λ (r : List EquivRow). slice_get (signatures r s.plan.tasks) u ≡ Some x.0) old x.1

    is_new : slice_get (signatures (rows_of (book_now o s ++ more)) s.plan.tasks) u ≡ Some sg
    is_new = subst (λ (r : List EquivRow). slice_get (signatures r s.plan.tasks) u ≡ Some sg) new is

    stays : (IsAvailable o.story.held (rows_of (book_now o s)) s.options.setscene x.0 avail.Work → IsAvailable o.story.held (rows_of (book_now o s ++ more)) s.options.setscene sg avail.Work)
        × (IsAvailable o.story.held (rows_of (book_now o s)) s.options.setscene x.0 avail.Object → IsAvailable o.story.held (rows_of (book_now o s ++ more)) s.options.setscene sg avail.Object)
    stays = available_stays o.gives o.reading o.story.held (book_now o s) more s.plan.tasks may u x.0 sg is_old is_new s.options.setscene

    by : (b : Avail) → b ≢ avail.Missing → WasThere o s u b → IsAvailable o.story.held rows s.options.setscene sg b
    by avail.Work ne w = subst (λ (r : List EquivRow). IsInWork o.story.held r sg) (sym new) (stays.0 (subst (λ (r : List EquivRow). IsInWork o.story.held r x.0) old (w x.0 x.1)))
    by avail.Object ne w =
        subst (λ (r : List EquivRow). IsAvailable o.story.held r s.options.setscene sg avail.Object) (sym new)
        (stays.1 (subst (λ (r : List EquivRow). IsAvailable o.story.held r s.options.setscene x.0 avail.Object) old (w x.0 x.1)))
    by avail.Missing ne w = absurd (ne refl)

-- a step writes no key
pub steps_may_turn : (o : Opening) (plan : Plan) (tale : List Logged) (opened : OpenTasks) (one : OpenTask) (image : Store) → IsValidWith o plan tale opened image → MayTurn o plan tale opened one false image
steps_may_turn o plan tale opened one image v = record { with_lines = v; new_key = λ written. absurd (false≢true written) }

-- ---- behind a turn of an open publication

module _ (o : Opening) (s : Seen) (run : IsRun o s) (faultless : s.fault ≡ None) (orderly : EachAfter (IsOrderly s.plan.tasks) s.tale) (may : MayReuse o.gives o.reading o.story.held (book_now o s) s.plan.tasks)
    (t : ℕ) (one : OpenTask) (fl : FliesAs s.plan run.opened t one) (writes : Bool) (new_keys : EachNow s.story (MayTurn o s.plan s.tale run.opened one writes)) (later : Story) (sound : story_of.IsSound s.story)
    (pass : Passes s.story later (IsPublishing (put_of_turn (rows_of (book_now o s)) one writes) s.story.held)) where
  abbrev way : IsUnderWay o s.plan s.tale run.opened
  way = under_way o s run faultless orderly may

  valid_then : EachNow later (IsValidWith o s.plan s.tale run.opened)
  valid_then image is =
      let made = pass.now image is in
      turn_valid o s.plan s.tale run.opened way t one fl writes made.0 image (new_keys made.0 made.1) made.2.own

  left_then : AreLeft o s.plan s.begun s.tale later
  left_then = left_after o s.plan s.tale run.opened way t one fl writes s.begun (run.touched faultless t (one, fl)) s.story later sound run.later pass new_keys run.images

  stands_then : EachNow later (AllStand o s.plan s.tale)
  stands_then = stand_now o s.plan s.tale run.opened way t one fl writes s.story later sound pass run.stands

  since_then : StandTo o s.plan s.tale later
  since_then = stand_since o s.plan s.tale run.opened way t one fl writes s.story later sound pass run.settled run.marked

  objects_then : EachNow later (KeepOtherObjects o s.plan s.tale run.opened)
  objects_then = objects_now o s.plan s.tale run.opened way t one fl writes s.story later pass (run.objects faultless)

  -- With more that is left, or with a fault, a run goes on.
  pub turned_run : (kept : List KeptSig) (views : OpenViews) (fault : Option RunFault) → (fault ≡ None → SameOpen (both run.opened run.mends) views) → IsRun o (record s { kept = kept; opened = views; fault = fault; story = later })
  turned_run kept views fault are = record {
    may = run.may;
    rows = run.rows;
    lines = run.lines;
    grown = run.grown;
    own = run.own;
    readable = run.readable;
    opened = run.opened;
    mends = run.mends;
    book = λ none. run.book faultless;
    open_are = are;
    mending = λ none. run.mending faultless;
    flights = λ none. run.flights faultless;
    touched = λ none. run.touched faultless;
    flying = λ none. run.flying faultless;
    durable = λ none. valid_then;
    objects = λ none. objects_then;
    later = later_moment (moment o.story) (moment s.story) (moment later) run.later pass.later;
    marked = λ k entry here. later_moment entry.moment (moment s.story) (moment later) (run.marked k entry here) pass.later;
    reusable = run.reusable;
    legal = run.legal;
    were_there = run.were_there;
    real = run.real;
    stored = run.stored;
    missing = run.missing;
    there = run.there;
    answered = λ none. run.answered faultless;
    met = run.met;
    told = λ u b. told_by o s (record s { kept = kept; opened = views; fault = fault; story = later }) u refl refl (λ some. absurd (none_kept s.fault faultless some)) (λ hand was. (hand, λ x here. was x here)) (run.told u b);
    images = left_then;
    stands = stands_then;
    settled = since_then;
  }

  -- ---- the task has ended

  abbrev pub put : IsPut o.gives o.reading (book_now o s) (publication (rows_of (book_now o s)) one.signed one.tree) one.signed one.tree
  put = line_put o s.plan s.tale run.opened way t one fl writes

  abbrev flight : IsFlight o s.plan (book_after o.gives s.plan o.book s.tale) t one
  flight = flight_of o s.plan s.tale run.opened way t one fl

  own_is : line_of_ended o.gives s.plan (book_now o s) t ≡ put.more
  own_is = line_is o s.plan (book_now o s) may t one flight

  more_readable : AllByRecursion IsReadable put.more
  more_readable = subst (AllByRecursion IsReadable) own_is (line_readable o s.plan (book_now o s) may t one flight)

  longer_is : book_now o s ++ put.more ≡ o.book ++ (run.lines ++ put.more)
  longer_is = ap (λ (b : Book). b ++ put.more) run.grown ∙ append_assoc o.book run.lines put.more

  longer_valid : IsValidBook o.gives o.reading (book_now o s ++ put.more)
  longer_valid = subst (λ (b : Book). IsValidBook o.gives o.reading (book_now o s ++ b)) (append-nil (line_of_ended o.gives s.plan (book_now o s) t) ∙ own_is)
      (choice_valid o s.plan s.tale run.opened way (t ∷ []) ((one, fl), tt) (tt, tt))

  -- the lines are of tasks that are begun
  own_after : (l : Line) → HasLine (run.lines ++ put.more) l → (u : ℕ) (other : PlanTask) → slice_get s.plan.tasks u ≡ Some other → l.sig.pn ≡ other.id.pn → l.sig.task ≡ other.id.task → IsBegun s u
  own_after l has u other at_u pn name = by put.stands
    where
      last : l ≡ put.line → (u ≡ t) ⊎ (u ≡ t → ⊥) → IsBegun s u
      last is (inl same) = subst (IsBegun s) (sym same) (run.touched faultless t (one, fl))
      last is (inr ne) =
          absurd (differ_at s.plan run.may.sound u t other one.signed.task at_u fl.0 ne
          (sym pn ∙ ap (λ (x : Line). x.sig.pn) is ∙ put.pn) (sym name ∙ ap (λ (x : Line). x.sig.task) is ∙ put.task))

      by : (HasLine (book_now o s) put.line × (put.more ≡ []) × ((publication (rows_of (book_now o s)) one.signed one.tree).is_new ≡ false)) ⊎ (IsValidLine o.gives o.reading (book_now o s) put.line × (put.more ≡ put.line ∷ []) × (row_at (rows_of (book_now o s)) (name_of one.signed.sig) ≡ None) × (put.line ≡ recorded (rows_of (book_now o s)) one.signed one.tree)) → IsBegun s u
      by (inl none) = run.own l (subst (λ (b : Book). HasLine b l) (ap (λ (b : Book). run.lines ++ b) none.1 ∙ append-nil run.lines) has) u other at_u pn name
      by (inr new) =
          let it = subst (λ (b : Book). HasLine b l) (ap (λ (b : Book). run.lines ++ b) new.1) has in
          elim (split_last run.lines it.0 put.line l it.1) [
            | inl e ↦ last e.1 (cases_eq u t)
            | inr stands ↦ run.own l (it.0, stands) u other at_u pn name
          ]

  module _ (seat : ℕ) (published : (image : Store) → IsImage later image → IsPublished (publication (rows_of (book_now o s)) one.signed one.tree) image) (later_sound : story_of.IsSound later) where
    abbrev pub entry : Logged
    entry = record { event = events.Ended t; seat = seat; moment = min (moment later) (2 ^ 64 - 1) }

    abbrev longer : List Logged
    longer = s.tale ++ record { event = events.Ended t; seat = seat; moment = min (moment later) (2 ^ 64 - 1) } ∷ []

    abbrev rest : OpenTasks
    rest = without_open (task_folder one.signed.task) run.opened

    closes : Closes (task_folder one.signed.task) run.opened rest
    closes = (one_more_or_less (task_folder one.signed.task) one run.opened).1

    book_longer : book_after o.gives s.plan o.book (s.tale ++ record { event = events.Ended t; seat = seat; moment = min (moment later) (2 ^ 64 - 1) } ∷ []) ≡ book_now o s ++ put.more
    book_longer = of_landing.book_longer o s.plan s.tale run.opened way t one fl rest closes entry refl ∙ ap (λ (b : Book). book_now o s ++ b) own_is

    -- ---- fates

    fates_are : fates_told (length s.plan.tasks) longer ≡ set (fates_told (length s.plan.tasks) s.tale) t fate.Ended
    fates_are = told_push (length s.plan.tasks) s.tale entry

    other_fate : (u : ℕ) → (u ≡ t → ⊥) → fate_at (fates_told (length s.plan.tasks) longer) u ≡ fate_at (fates_told (length s.plan.tasks) s.tale) u
    other_fate u ne = ap (λ (l : List Fate). fate_at l u) fates_are ∙ set_other (fates_told (length s.plan.tasks) s.tale) t u fate.Ended (λ e. ne (sym e))

    within : t < length (fates_told (length s.plan.tasks) s.tale)
    within = running_within (fates_told (length s.plan.tasks) s.tale) t (in_hand o s.plan s.tale run.opened way t one fl).seat (runs_now o s.plan s.tale run.opened way t one fl)

    has_ended : HasEnded s.plan longer t
    has_ended = ap (λ (l : List Fate). fate_at l t) fates_are ∙ set_same (fates_told (length s.plan.tasks) s.tale) t fate.Ended within

    settled_back : (u : ℕ) → (u ≡ t → ⊥) → IsSettledIn s.plan longer u → IsSettledIn s.plan s.tale u
    settled_back u ne settled = sym (ap is_settled (other_fate u ne)) ∙ settled

    -- a task that hasn't ended is another one, and hadn't
    open_before : (u : ℕ) → (HasEnded s.plan longer u → ⊥) → (u ≡ t → ⊥) × (HasEnded s.plan s.tale u → ⊥)
    open_before u not_yet =
        let ne : u ≡ t → ⊥ = λ same. not_yet (subst (λ (n : ℕ). HasEnded s.plan longer n) (sym same) has_ended) in
        (ne, λ ended. not_yet (other_fate u ne ∙ ended))

    -- a task that runs is another one, and ran
    ran_before : (u other : ℕ) → RunsAfter s.plan longer u other → (u ≡ t → ⊥) × RunsAfter s.plan s.tale u other
    ran_before u other runs =
        let ne : u ≡ t → ⊥ = λ same. (let n : fate.Ended ≡ fate.Running other = sym has_ended ∙ ap (fate_at (fates_told (length s.plan.tasks) longer)) (sym same) ∙ runs in cc) in
        (ne, sym (other_fate u ne) ∙ runs)

    -- ---- the rows

    rows_longer : rows_after o s.plan longer ≡ rows_of (book_now o s ++ put.more)
    rows_longer = ap rows_of book_longer

    same_own : (x : Signed) → signed_after o s.plan longer t ≡ Some x → one.signed ≡ x
    same_own x is =
        let is' = subst (λ (r : List EquivRow). slice_get (signatures r s.plan.tasks) t ≡ Some x) rows_longer is in
        let sig = sym (signatures_stay o.gives o.reading o.story.held (book_now o s) put.more s.plan.tasks may t one.signed x flight.signed is' flight.needs) in
        let task = sym (signed_task (rows_after o s.plan longer) s.plan.tasks t x one.signed.task is fl.0) in
        λ i. record { task = task i; sig = sig i }

    own_row : row_at (rows_after o s.plan longer) (name_of one.signed.sig) ≡ Some (row_of put.line)
    own_row = ap (λ (r : List EquivRow). row_at r (name_of one.signed.sig)) rows_longer ∙ put.row

    -- ---- names

    stored_longer : (rows : List EquivRow) → rows ≡ rows_of (book_now o s ++ put.more) → (u : ℕ) (x : Signed) → IsSettledIn s.plan longer u → slice_get (signatures rows s.plan.tasks) u ≡ Some x → row_at rows (name_of x.sig) ≢ None
    stored_longer rows rows_are u x settled is = elim (cases_eq u t) [
      | inl same ↦
          let here : signed_after o s.plan longer t ≡ Some x = subst (λ (n : ℕ). signed_after o s.plan longer n ≡ Some x) same (subst (λ (r : List EquivRow). slice_get (signatures r s.plan.tasks) u ≡ Some x) (rows_are ∙ sym rows_longer) is) in
          λ none. let n : None ≡ Some (row_of put.line) = sym none ∙ ap (λ (r : List EquivRow). row_at r (name_of x.sig)) (rows_are ∙ sym rows_longer) ∙ ap (λ (y : Signed). row_at (rows_after o s.plan longer) (name_of y.sig)) (sym (same_own x here)) ∙ own_row in cc
      | inr ne ↦
          let y = signed_at rows s.rows s.plan.tasks u x is in
          let old = subst (λ (r : List EquivRow). slice_get (signatures r s.plan.tasks) u ≡ Some y.0) run.rows y.1 in
          let has = subst (λ (r : List EquivRow). row_at r (name_of y.0.sig) ≢ None) run.rows (run.stored u y.0 (settled_back u ne settled) y.1) in
          let one = same_signed o.gives o.reading o.story.held (book_now o s) put.more s.plan.tasks may u y.0 x old (subst (λ (r : List EquivRow). slice_get (signatures r s.plan.tasks) u ≡ Some x) rows_are is) has in
          λ none. has (sym (row_on o.gives o.reading o.story.held (book_now o s) put.more s.plan.tasks may (name_of y.0.sig) has) ∙ ap (λ (z : Signed). row_at (rows_of (book_now o s ++ put.more)) (name_of z.sig)) one ∙ ap (λ (r : List EquivRow). row_at r (name_of x.sig)) (sym rows_are) ∙ none)
    ]

    -- the plan may reuse the longer book, where no line has the name of a task and another signature
    reusable_longer : HasNoCollision (book_now o s ++ put.more) (rows_of (book_now o s ++ put.more)) s.plan.tasks → MayReuse o.gives o.reading o.story.held (book_now o s ++ put.more) s.plan.tasks
    reusable_longer clear = by put.stands
      where
        by : (HasLine (book_now o s) put.line × (put.more ≡ []) × ((publication (rows_of (book_now o s)) one.signed one.tree).is_new ≡ false)) ⊎ (IsValidLine o.gives o.reading (book_now o s) put.line × (put.more ≡ put.line ∷ []) × (row_at (rows_of (book_now o s)) (name_of one.signed.sig) ≡ None) × (put.line ≡ recorded (rows_of (book_now o s)) one.signed one.tree))
            → MayReuse o.gives o.reading o.story.held (book_now o s ++ put.more) s.plan.tasks
        by (inl known) = subst (λ (b : Book). MayReuse o.gives o.reading o.story.held b s.plan.tasks) (sym (ap (λ (b : Book). book_now o s ++ b) known.1 ∙ append-nil (book_now o s))) may
        by (inr new) = reuse_goes_on o.gives o.reading o.story.held (book_now o s) s.plan.tasks may t one.signed flight.clean.0 flight.signed flight.clean.1 flight.needs one.tree flight.clean.2 new.2 (book_now o s ++ put.more)
            (ap (λ (b : Book). book_now o s ++ b) new.1 ∙ ap (λ (l : Line). book_now o s ++ l ∷ []) new.3) clear

    front_at : (k : ℕ) (e : Logged) → slice_get longer k ≡ Some e → (slice_get s.tale k ≡ Some e) ⊎ ((k ≡ length s.tale) × (e ≡ entry))
    front_at k e is = by s.tale k is
      where
        by : (xs : List Logged) (j : ℕ) → slice_get (xs ++ entry ∷ []) j ≡ Some e → (slice_get xs j ≡ Some e) ⊎ ((j ≡ length xs) × (e ≡ entry))
        by [] zero h = inr (refl, let x : Some entry ≡ Some e = h in cc)
        by [] (suc j) h = absurd (cc)
        by (x ∷ xs) zero h = inl h
        by (x ∷ xs) (suc j) h = elim (by xs j h) [ inl f ↦ inl f | inr l ↦ inr (ap suc l.0, l.1) ]

    -- ---- tasks that run were missing

    other_lines : (u : ℕ) (x : Signed) → (u ≡ t → ⊥) → slice_get (signatures (rows_of (book_now o s)) s.plan.tasks) u ≡ Some x → AllByRecursion (λ (line : Line). signature_bytes line.sig ≢ signature_bytes x.sig) put.more
    other_lines u x ne is = by put.stands
      where
        own : (x.sig.pn ≡ x.task.id.pn) × (x.sig.task ≡ x.task.id.task)
        own = has_own_name (rows_of (book_now o s)) s.plan.tasks u x is

        differs : put.line.sig.pn ≡ x.sig.pn → put.line.sig.task ≡ x.sig.task → ⊥
        differs pn name = differ_at s.plan run.may.sound u t x.task one.signed.task (signed_task_at (rows_of (book_now o s)) s.plan.tasks u x is) fl.0 ne (sym own.0 ∙ sym pn ∙ put.pn) (sym own.1 ∙ sym name ∙ put.task)

        by : (HasLine (book_now o s) put.line × (put.more ≡ []) × ((publication (rows_of (book_now o s)) one.signed one.tree).is_new ≡ false)) ⊎ (IsValidLine o.gives o.reading (book_now o s) put.line × (put.more ≡ put.line ∷ []) × (row_at (rows_of (book_now o s)) (name_of one.signed.sig) ≡ None) × (put.line ≡ recorded (rows_of (book_now o s)) one.signed one.tree))
            → AllByRecursion (λ (line : Line). signature_bytes line.sig ≢ signature_bytes x.sig) put.more
        by (inl known) = subst (AllByRecursion (λ (line : Line). signature_bytes line.sig ≢ signature_bytes x.sig)) (sym known.1) tt
        by (inr new) = subst (AllByRecursion (λ (line : Line). signature_bytes line.sig ≢ signature_bytes x.sig)) (sym new.1)
            (other_bytes o s.plan (book_now o s) run.may may.valid u x is put.line (subst (AllByRecursion IsReadable) new.1 more_readable).0 differs, tt)

    missing_longer : (rows : List EquivRow) → rows ≡ rows_of (book_now o s ++ put.more) → (u other : ℕ) → (u ≡ t → ⊥) → RunsAfter s.plan s.tale u other → WasThere o (record s { rows = rows }) u avail.Missing
    missing_longer rows rows_are u other ne runs sg is =
        let x = signed_at rows s.rows s.plan.tasks u sg is in
        let is_old = subst (λ (r : List EquivRow). slice_get (signatures r s.plan.tasks) u ≡ Some x.0) run.rows x.1 in
        let is_new = subst (λ (r : List EquivRow). slice_get (signatures r s.plan.tasks) u ≡ Some sg) rows_are is in
        let was = subst (λ (r : List EquivRow). IsAvailable o.story.held r s.options.setscene x.0 avail.Missing) run.rows (run.missing u other runs x.0 x.1) in
        subst (λ (r : List EquivRow). IsAvailable o.story.held r s.options.setscene sg avail.Missing) (sym rows_are)
        (started_stays_missing o s.plan (book_now o s) put.more may s.options.setscene u x.0 sg is_old is_new (needs_now o s run orderly u other runs x.0 x.1) (other_lines u x.0 ne is_old) was)

    -- ---- the run goes on

    abbrev pub ended_as : List EquivRow → List KeptSig → OpenViews → Option Known → Bool → Option RunFault → List ℕ → Seen
    ended_as rows kept views known failed fault written = record s {
      rows = rows;
      kept = kept;
      opened = views;
      sink_failed = failed;
      fault = fault;
      tale = s.tale ++ record { event = events.Ended t; seat = seat; moment = min (moment later) (2 ^ 64 - 1) } ∷ [];
      known = known;
      story = later;
      written = written;
    }

    -- A run goes on behind a publication, whose task has ended; what is known afterwards of needed tasks must have been so when the run
    -- began.
    pub ended_run : (rows : List EquivRow) (kept : List KeptSig) (views : OpenViews) (known : Option Known) (failed : Bool) (fault : Option RunFault) (written : List ℕ) → rows ≡ rows_of (book_now o s ++ put.more) → SameOpen (both (without_open (task_folder one.signed.task) run.opened) run.mends) views
        → IfSome known (λ k. (u : ℕ) (a : Avail) → IsIn k.need u → (HasEnded s.plan (s.tale ++ record { event = events.Ended t; seat = seat; moment = min (moment later) (2 ^ 64 - 1) } ∷ []) u → ⊥) → slice_get k.avail u ≡ Some a → WasThere o (record s { rows = rows }) u a)
        → ((course : Course) → course.plan ≡ s.plan → IsCourse o s.options (s.tale ++ record { event = events.Ended t; seat = seat; moment = min (moment later) (2 ^ 64 - 1) } ∷ []) course → MayCome course s.tale (record { event = events.Ended t; seat = seat; moment = min (moment later) (2 ^ 64 - 1) }))
        → IsRun o (ended_as rows kept views known failed fault written)
    ended_run rows kept views known failed fault written rows_are open_are there may_come =
        let object_on = λ (u : ℕ) (was : WasThere o s u avail.Object). was_on o s put.more rows run.rows rows_are may u avail.Object (λ n. let e : avail.Object ≡ avail.Missing = n in cc) was in
        record {
          may = run.may;
          rows = rows_are ∙ sym rows_longer;
          lines = run.lines ++ put.more;
          grown = book_longer ∙ longer_is;
          own = own_after;
          readable = subst (AllByRecursion IsReadable) longer_is (each_append IsReadable (book_now o s) put.more (readable_now o s run) more_readable);
          opened = without_open (task_folder one.signed.task) run.opened;
          mends = run.mends;
          book = λ n. subst (IsValidBook o.gives o.reading) longer_is longer_valid;
          open_are = λ n. open_are;
          mending = λ n.
              mends_over o s.plan (book_now o s) put.more s.rows rows s.begun longer s.restoring run.mends run.rows rows_are may
              (mends_marked o s run faultless entry (beside_running o s run (events.Ended t) (in_hand o s.plan s.tale run.opened way t one fl).seat (runs_now o s.plan s.tale run.opened way t one fl) refl));
          flights = λ n. flights_longer o s.plan s.tale run.opened way t one fl rest closes entry refl;
          touched = λ n u flies. run.touched faultless u (flies.0, (flies.1.0, was_open flies.0 flies.1.1 (path_cases (task_folder flies.0.signed.task) (task_folder one.signed.task))));
          flying = λ n u other runs b.
              let ran = ran_before u other runs in
              still_flies o s.plan s.tale run.opened way t one fl rest closes entry refl u (λ same. ran.0 (sym same)) (run.flying faultless u other ran.1 b);
          durable = λ n image is. valid_longer o s.plan s.tale run.opened way t one fl rest closes entry refl image (published image is) (valid_then image is);
          objects = λ n image is. objects_longer o s.plan s.tale run.opened way t one fl rest closes entry refl image (objects_then image is);
          later = later_moment (moment o.story) (moment s.story) (moment later) run.later pass.later;
          marked = λ k x here. elim (front_at k x here) [
            | inl f ↦ later_moment x.moment (moment s.story) (moment later) (run.marked k x f) pass.later
            | inr l ↦ omega (arith, ap (λ (y : Logged). y.moment) l.1)
          ];
          reusable = λ clear.
              subst (λ (b : Book). MayReuse o.gives o.reading o.story.held b s.plan.tasks) (sym book_longer)
              (reusable_longer (subst (λ (r : List EquivRow). HasNoCollision (book_now o s ++ put.more) r s.plan.tasks) rows_are (subst (λ (b : Book). HasNoCollision b rows s.plan.tasks) book_longer clear)));
          legal = legal_grows o s.plan s.options s.tale entry run.legal may_come;
          were_there = there_grows o s.plan s.options s.tale entry run.were_there (tells_none o s.plan s.options s.tale (events.Ended t) refl);
          real = λ k x here. elim (front_at k x here) [
            | inl f ↦ run.real k x f
            | inr l ↦ subst (λ (y : Logged). IsReal o.gives s.plan.tasks y.event) (sym l.1) tt
          ];
          stored = λ u x settled is. stored_longer rows rows_are u x settled is;
          missing = λ u other runs x is. let ran = ran_before u other runs in missing_longer rows rows_are u other ran.0 ran.1 x is;
          there = if_some_on known (λ (k : Known). (u : ℕ) (a : Avail) → IsIn k.need u → (HasEnded s.plan longer u → ⊥) → slice_get k.avail u ≡ Some a → WasThere o (record s { rows = rows }) u a)
              (λ (k : Known). (u : ℕ) (a : Avail) → IsIn k.need u → (HasEnded s.plan longer u → ⊥) → slice_get k.avail u ≡ Some a → WasThere o (ended_as rows kept views known failed fault written) u a)
              (λ k h u a member not_yet is. h u a member not_yet is) there;
          answered = λ n u a is not_yet.
              let b = open_before u not_yet in
              let was = run.answered faultless u a is b.1 in
              elim was.1 [
                | inl object ↦ ((λ x here. was_on o s put.more rows run.rows rows_are may u a (λ gone. let n : avail.Object ≡ avail.Missing = sym object ∙ gone in cc) was.0 x here), inl object)
                | inr gone ↦ ((λ x here. subst (IsAvailable o.story.held rows s.options.setscene x) (sym gone.0) (missing_longer rows rows_are u gone.1.0 b.0 gone.1.1 x here)), inr (gone.0, (gone.1.0, other_fate u b.0 ∙ gone.1.1)))
              ];
          met = λ u settled not_yet.
              let b = open_before u not_yet in
              let m = run.met u (settled_back u b.0 settled) b.1 in
              (m.0, was_on o s put.more rows run.rows rows_are may u m.0 m.2 m.1, m.2);
          told = λ u b. told_goes_on o s (ended_as rows kept views known failed fault written) u entry refl refl (λ some. absurd (none_kept s.fault faultless some)) (λ hand was. (hand, λ x here. object_on u was x here))
              (λ other same runs. inl (inl (subst (HasFinished longer) (sym same) (finished_last s.tale entry t refl)))) (run.told u b);
          images = λ from image le since. elim (left_then from image le since) [
            | inl before ↦ inl before
            | inr left ↦ inr (left_behind o s.plan s.begun s.tale entry image left)
          ];
          stands = λ image is. stands_longer o s.plan s.tale run.opened way t one fl rest closes entry refl image (published image is) (stands_then image is);
          settled = stand_to_longer o s.plan s.tale entry later refl since_then (λ image is. stands_longer o s.plan s.tale run.opened way t one fl rest closes entry refl image (published image is) (stands_then image is));
        }
      where
        was_open : (other : OpenTask) → without_open (task_folder one.signed.task) run.opened (task_folder other.signed.task) ≡ Some other → (task_folder other.signed.task ≡ task_folder one.signed.task) ⊎ (task_folder other.signed.task ≢ task_folder one.signed.task) → run.opened (task_folder other.signed.task) ≡ Some other
        was_open other is (inl same) = absurd (none-some other (sym closes.closed ∙ sym (ap (without_open (task_folder one.signed.task) run.opened) same) ∙ is))
        was_open other is (inr ne) = sym (closes.others (task_folder other.signed.task) ne) ∙ is

    -- ---- what is known afterwards

    -- The row of the name of another task is as it was, where no line has that name and another signature.
    row_same : (rows : List EquivRow) → rows ≡ rows_of (book_now o s ++ put.more) → (u : ℕ) (x : Signed) → slice_get s.plan.tasks u ≡ Some x.task → (u ≡ t → ⊥) → x.sig.pn ≡ x.task.id.pn → x.sig.task ≡ x.task.id.task → HasOneSignature (book_now o s ++ put.more) x → row_at rows (name_of x.sig) ≡ row_at s.rows (name_of x.sig)
    row_same rows rows_are u x at_u ne pn name single =
        ap (λ (r : List EquivRow). row_at r (name_of x.sig)) rows_are ∙ by (row_at (rows_of (book_now o s)) (name_of x.sig)) refl ∙ sym (ap (λ (r : List EquivRow). row_at r (name_of x.sig)) run.rows)
      where
        -- no line that came has the name
        none_came : (l : Line) → l ≡ put.line → l.sig ≡ x.sig → ⊥
        none_came l is same =
            let of : put.line.sig ≡ x.sig = ap (λ (y : Line). y.sig) (sym is) ∙ same in
            differ_at s.plan run.may.sound u t x.task one.signed.task at_u fl.0 ne
            (sym pn ∙ ap (λ (g : SigRecord). g.pn) (sym of) ∙ put.pn) (sym name ∙ ap (λ (g : SigRecord). g.task) (sym of) ∙ put.task)

        still : row_at (rows_of (book_now o s)) (name_of x.sig) ≡ None
            → (HasLine (book_now o s) put.line × (put.more ≡ []) × ((publication (rows_of (book_now o s)) one.signed one.tree).is_new ≡ false)) ⊎ (IsValidLine o.gives o.reading (book_now o s) put.line × (put.more ≡ put.line ∷ []) × (row_at (rows_of (book_now o s)) (name_of one.signed.sig) ≡ None) × (put.line ≡ recorded (rows_of (book_now o s)) one.signed one.tree))
            → row_at (rows_of (book_now o s ++ put.more)) (name_of x.sig) ≡ None
        still none (inl known) = ap (λ (b : Book). row_at (rows_of b) (name_of x.sig)) (ap (λ (b : Book). book_now o s ++ b) known.1 ∙ append-nil (book_now o s)) ∙ none
        still none (inr new) = fresh (row_at (rows_of (book_now o s ++ put.more)) (name_of x.sig)) refl
          where
            fresh : (r : Option EquivRow) → row_at (rows_of (book_now o s ++ put.more)) (name_of x.sig) ≡ r → row_at (rows_of (book_now o s ++ put.more)) (name_of x.sig) ≡ None
            fresh None e = e
            fresh (Some row) e =
                let f = row_found (book_now o s ++ put.more) (name_of x.sig) row e in
                let same = single f.0 f.1 f.2 f.4 in
                elim (split_last (book_now o s) f.0 put.line f.1 (subst (λ (b : Book). StandsIn (book_now o s ++ b) f.0 f.1) new.1 f.2)) [
                  | inl last ↦ absurd (none_came f.1 last.1 same)
                  | inr stands ↦ absurd (row_none (book_now o s) (name_of x.sig) none f.0 f.1 stands f.4)
                ]

        by : (r : Option EquivRow) → row_at (rows_of (book_now o s)) (name_of x.sig) ≡ r → row_at (rows_of (book_now o s ++ put.more)) (name_of x.sig) ≡ row_at (rows_of (book_now o s)) (name_of x.sig)
        by None e = still e put.stands ∙ sym e
        by (Some row) e = row_on o.gives o.reading o.story.held (book_now o s) put.more s.plan.tasks may (name_of x.sig) (λ none. let n : None ≡ Some row = sym none ∙ e in cc)

    module _ (rows : List EquivRow) (sigs : List KeptSig) (views : OpenViews) (rows_are : rows ≡ rows_of (book_now o s ++ put.more)) (open_are : SameOpen (both (without_open (task_folder one.signed.task) run.opened) run.mends) views)
        (may_come : (course : Course) → course.plan ≡ s.plan → IsCourse o s.options (s.tale ++ record { event = events.Ended t; seat = seat; moment = min (moment later) (2 ^ 64 - 1) } ∷ []) course → MayCome course s.tale (record { event = events.Ended t; seat = seat; moment = min (moment later) (2 ^ 64 - 1) }))
        (tells : Type 0) (tell : tells) (before made : Replan) (was_known : s.known ≡ Some (known_in before)) (was : IsCurrent no_meaning (record { plan = s.plan; rows = s.rows }) before)
        (is : IsCurrent (kept_or_meant (earlier_in before) tells later.held rows s.options.setscene s.plan.tasks s.begun) (record { plan = s.plan; rows = rows }) made) where
      -- the run where nothing is known any more
      forgotten : IsRun o (ended_as rows sigs views None false None [])
      forgotten = ended_run rows sigs views None false None [] rows_are open_are tt may_come

      abbrev says : Says
      says = kept_or_meant (earlier_in before) tells later.held rows s.options.setscene s.plan.tasks s.begun

      order : AreOrdered s.plan.tasks
      order = sound_ordered s.plan run.may.sound

      -- an answer that was kept
      kept_there : (u : ℕ) (a : Avail) → (HasEnded s.plan longer u → ⊥) → (x : Signed) → slice_get (signatures rows s.plan.tasks) u ≡ Some x → WasKept (earlier_in before) s.plan.tasks u x.sig a → IsAvailable o.story.held rows s.options.setscene x a
      kept_there u a not_yet x at_x k =
          same_available o.story.held s.rows rows s.options.setscene x a (row_same rows rows_are u x task apart.0 pn name single)
          (subst (λ (z : Signed). IsAvailable o.story.held s.rows s.options.setscene z a) same (there y.0 y.1))
        where
          apart : (u ≡ t → ⊥) × (HasEnded s.plan s.tale u → ⊥)
          apart = open_before u not_yet

          task : slice_get s.plan.tasks u ≡ Some x.task
          task = own_task says (record { plan = s.plan; rows = rows }) made order is u x at_x

          sig : signature_by s.plan.tasks (unihashes_in made) x.task ≡ x.sig
          sig = own_signature says (record { plan = s.plan; rows = rows }) made order is u x at_x

          pn : x.sig.pn ≡ x.task.id.pn
          pn = sym (ap (λ (g : SigRecord). g.pn) sig) ∙ own_pn s.plan.tasks (unihashes_in made) x.task

          name : x.sig.task ≡ x.task.id.task
          name = sym (ap (λ (g : SigRecord). g.task) sig) ∙ own_name s.plan.tasks (unihashes_in made) x.task

          single : HasOneSignature (book_now o s ++ put.more) x
          single = subst (λ (b : Book). HasOneSignature b x) (sym forgotten.grown ∙ book_longer)
              (one_signature o (ended_as rows sigs views None false None []) forgotten later_sound (names_in made) (need_in made) (avail_in made) refl (up_to_date says (record { plan = s.plan; rows = rows }) made order is) u x at_x)

          y : (z : Signed) × (slice_get (signatures s.rows s.plan.tasks) u ≡ Some z)
          y = signed_at rows s.rows s.plan.tasks u x at_x

          same_task : y.0.task ≡ x.task
          same_task = same_Some y.0.task x.task (sym (own_task no_meaning (record { plan = s.plan; rows = s.rows }) before order was u y.0 y.1) ∙ task)

          same_sig : y.0.sig ≡ x.sig
          same_sig = sym (own_signature no_meaning (record { plan = s.plan; rows = s.rows }) before order was u y.0 y.1) ∙ ap (signature_by s.plan.tasks (unihashes_in before)) same_task ∙ sym (k.signed x.task task)

          same : y.0 ≡ x
          same = λ i. record { task = same_task i; sig = same_sig i }

          there : WasThere o s u a
          there = subst (λ (z : Option Known). IfSome z (λ w. (v : ℕ) (b : Avail) → IsIn w.need v → (HasEnded s.plan s.tale v → ⊥) → slice_get w.avail v ≡ Some b → WasThere o s v b)) was_known run.there u a k.needed apart.1 k.kept

      -- What is known by what was kept, and by what the store answers now, was so when the run began.
      pub ended_there : (u : ℕ) (a : Avail) → IsIn (need_in made) u → (HasEnded s.plan (s.tale ++ record { event = events.Ended t; seat = seat; moment = min (moment later) (2 ^ 64 - 1) } ∷ []) u → ⊥) → slice_get (avail_in made) u ≡ Some a → WasThere o (record s { rows = rows }) u a
      ended_there u a member not_yet here x at_x =
          let task = own_task says (record { plan = s.plan; rows = rows }) made order is u x at_x in
          let sig = own_signature says (record { plan = s.plan; rows = rows }) made order is u x at_x in
          by (subst (λ (g : SigRecord). kept_or_meant (earlier_in before) tells later.held rows s.options.setscene s.plan.tasks s.begun u g a) sig ((is.needs.known u member).told x.task a task here))
        where
          by : WasKept (earlier_in before) s.plan.tasks u x.sig a ⊎ meant tells later.held rows s.options.setscene s.plan.tasks s.begun u x.sig a → IsAvailable o.story.held rows s.options.setscene x a
          by (inl k) = kept_there u a not_yet x at_x k
          by (inr m) =
              means_there o (ended_as rows sigs views None false None []) forgotten later_sound says tells tell refl made is u a not_yet x at_x
              (m x.task (own_task says (record { plan = s.plan; rows = rows }) made order is u x at_x))
