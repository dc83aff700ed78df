-- An event that settles a task that waits, without ending it, leaves what a run keeps over its opening.
use Rattle.std.proofs.Common.{◌≡◌, ◌∙◌, sym, ap, subst, refl, ℕ, ◌+◌, ◌<◌, ◌-◌, ◌^◌, min, zero, suc, arith, List, [], ◌∷◌, ◌++◌, length, take, set, Some, None, inl, inr, length-append}
use Rattle.std.specs.Prelude.{◌⊎◌, ◌≢◌, Bool, Option, IsSome}
use Rattle.std.specs.List.{slice_get}
use Rattle.std.proofs.lemmas.Bool.{cases_eq}
use Rattle.std.proofs.lemmas.List.{take-append-le, take_all}
use Rattle.std.proofs.lemmas.Option.{slice_get_within}
use Rattle.outside_traits.specs.Store.{Store}
use Rattle.outside_traits.specs.Story.{IsImage, IsImageSince, Story, moment}
use Rattle.outside_traits.proofs.Images.{since-now}
use Rattle.meta_model.specs.declared.event.Avail.{Avail}
use Rattle.meta_model.specs.declared.event.Avail.TheVariants.{Missing}
use Rattle.meta_model.specs.declared.event.Event.{Event}
use Rattle.meta_model.specs.declared.event.Logged.{Logged}
use Rattle.meta_model.specs.declared.plan.PlanTask.{PlanTask}
use Rattle.tale_model.specs.declared.fate.Fate.{Fate}
use Rattle.tale_model.specs.declared.fate.Fate.TheVariants as fate
use Rattle.tale_model.specs.Fates.{fate_at, fate_by, fates_told, is_settled, task_of}
use Rattle.tale_model.specs.History.{Course, MayCome}
use Rattle.tale_model.specs.Need.{IsIn}
use Rattle.run_core.proofs.Steps.{told_push}
use Rattle.store_model.specs.Origins.{Book, rows_of}
use Rattle.store_model.specs.Premises.{HasNoCollision}
use Rattle.store_model.specs.declared.signature.EquivRow.{EquivRow}
use Rattle.store_model.specs.Available.{HoldsClean, IsInWork, object_folder}
use Rattle.store_model.specs.Reuse.{MayReuse}
use Rattle.store_model.specs.Rows.{row_at, uni}
use Rattle.store_model.specs.Signatures.{Signed, signatures}
use Rattle.store_model.specs.Spelling.{name_of}
use Rattle.run_model.specs.Opening.{Opening}
use Rattle.run_model.specs.Books.{book_after, book_by, rows_after, signed_after}
use Rattle.run_model.specs.Courses.{IsCourse}
use Rattle.run_queue.specs.Courses.{IsReal}
use Rattle.run_queue.specs.Flights.{AreFlights, IsValidWith}
use Rattle.run_queue.specs.Keeps.{IsRun, WasThere}
use Rattle.run_queue.specs.declared.fault.RunFault.{RunFault}
use Rattle.run_queue.specs.Seen.{Known, RunView, Seen, seen}
use Rattle.run_model.specs.InFlight.{RunsAfter}
use Rattle.run_model.specs.Stands.{AllStand, HasEnded, HasOwnRow, IsSettledIn, IsStanding}
use Rattle.run_queue.specs.Stands.{HasObjects}
use Rattle.run_queue.specs.Turns.{MarksAt, Notes}
use Rattle.run_queue.proofs.Boarding.{marks_keep_flights}
use Rattle.run_queue.proofs.Meanwhile.{fault_stays, told_goes_on}
use Rattle.run_queue.proofs.Mends.{IsBeside, mends_marked}
use Rattle.run_queue.proofs.Touched.{left_behind}
use Rattle.run_queue.proofs.Growing.{book_grows, legal_grows}
use Rattle.run_queue.proofs.There.{WasSo, there_grows}
use Rattle.run_queue.proofs.Notes.{set_other, set_same}
use Rattle.run_queue.proofs.Unsettled.{behind, if_some_on, logged_at, was_none}

-- The event of an entry settles its task, which waited, and doesn't end it; no line is recorded of it; the task's name has a row, its
-- output was there when the run began, so as the event tells, and it stands in each image now.
pub record SettlesOne (o : Opening) (s : Seen) (e : Logged) : Type 0 where
  pub within : task_of e.event < length (fates_told (length s.plan.tasks) s.tale)
  pub before : fate_at (fates_told (length s.plan.tasks) s.tale) (task_of e.event) ≡ fate.Waiting
  pub after : fate_by e.event ≢ fate.Ended
  pub rests : (seat : ℕ) → fate_by e.event ≢ fate.Running seat
  pub book : (b : Book) → book_by o.gives s.plan b e.event ≡ b
  pub stored : (sg : Signed) → slice_get (signatures s.rows s.plan.tasks) (task_of e.event) ≡ Some sg → row_at s.rows (name_of sg.sig) ≢ None
  pub met : (a : Avail) × WasThere o s (task_of e.event) a × (a ≢ Missing)
  pub so : WasSo o s.plan s.options s.tale e.event
  pub stands : (image : Store) → IsImage s.story image → (task : PlanTask) → slice_get s.plan.tasks (task_of e.event) ≡ Some task → IsStanding o s.plan (s.tale ++ e ∷ []) (task_of e.event) task image

module _ (o : Opening) (s : Seen) (entry : Logged) (one : SettlesOne o s entry) where
  abbrev next : List Logged
  next = s.tale ++ entry ∷ []

  abbrev t : ℕ
  t = task_of entry.event

  abbrev old_fates : List Fate
  old_fates = fates_told (length s.plan.tasks) s.tale

  book_same : book_after o.gives s.plan o.book next ≡ book_after o.gives s.plan o.book s.tale
  book_same = book_grows o.gives s.plan o.book s.tale entry ∙ one.book (book_after o.gives s.plan o.book s.tale)

  rows_same : rows_after o s.plan next ≡ rows_after o s.plan s.tale
  rows_same = ap rows_of book_same

  fates_are : fates_told (length s.plan.tasks) next ≡ set old_fates t (fate_by entry.event)
  fates_are = told_push (length s.plan.tasks) s.tale entry

  other_fate : (u : ℕ) → (t ≡ u → ⊥) → fate_at (fates_told (length s.plan.tasks) next) u ≡ fate_at old_fates u
  other_fate u ne = ap (λ (l : List Fate). fate_at l u) fates_are ∙ set_other old_fates t u (fate_by entry.event) ne

  own_fate : fate_at (fates_told (length s.plan.tasks) next) t ≡ fate_by entry.event
  own_fate = ap (λ (l : List Fate). fate_at l t) fates_are ∙ set_same old_fates t (fate_by entry.event) one.within

  ended_back : (u : ℕ) → HasEnded s.plan next u → HasEnded s.plan s.tale u
  ended_back u e = elim (cases_eq t u) [
    | inl same ↦ absurd (one.after (sym own_fate ∙ ap (fate_at (fates_told (length s.plan.tasks) next)) same ∙ e))
    | inr ne ↦ sym (other_fate u ne) ∙ e
  ]

  ended_on : (u : ℕ) → HasEnded s.plan s.tale u → HasEnded s.plan next u
  ended_on u e = elim (cases_eq t u) [
    | inl same ↦ absurd (let n : fate.Waiting ≡ fate.Ended = sym one.before ∙ ap (fate_at old_fates) same ∙ e in cc)
    | inr ne ↦ other_fate u ne ∙ e
  ]

  settled_back : (u : ℕ) → (t ≡ u → ⊥) → IsSettledIn s.plan next u → IsSettledIn s.plan s.tale u
  settled_back u ne e = sym (ap is_settled (other_fate u ne)) ∙ e

  signed_back : (u : ℕ) (sg : Signed) → signed_after o s.plan next u ≡ Some sg → signed_after o s.plan s.tale u ≡ Some sg
  signed_back u sg e = ap (λ (r : List EquivRow). slice_get (signatures r s.plan.tasks) u) (sym rows_same) ∙ e

  standing_on : (image : Store) (u : ℕ) (task : PlanTask) → IsStanding o s.plan s.tale u task image → IsStanding o s.plan next u task image
  standing_on image u task st = record {
    built = st.built;
    is_built = st.is_built;
    stored = λ x is. subst (λ (r : List EquivRow). HasOwnRow r x) (sym rows_same) (st.stored x (signed_back u x is));
    work = st.work;
    tree = st.tree;
    stays = λ kept x is. subst (λ (r : List EquivRow). IsInWork image r x) (sym rows_same) (st.stays kept x (signed_back u x is));
    shared = λ sstate ended x is. subst (λ (r : List EquivRow). HoldsClean image (object_folder (uni r (name_of x.sig))) st.built) (sym rows_same) (st.shared sstate (ended_back u ended) x (signed_back u x is));
  }

  stands_on : (image : Store) → IsImage s.story image → AllStand o s.plan s.tale image → AllStand o s.plan next image
  stands_on image now stand u task at settled = elim (cases_eq t u) [
    | inl same ↦ subst (λ (v : ℕ). IsStanding o s.plan next v task image) same (one.stands image now task (ap (slice_get s.plan.tasks) same ∙ at))
    | inr ne ↦ standing_on image u task (stand u task at (settled_back u ne settled))
  ]

  front_at : (k : ℕ) (e : Logged) → slice_get next k ≡ Some e → (slice_get s.tale k ≡ Some e) ⊎ ((k ≡ length s.tale) × (e ≡ entry))
  front_at k e is = by s.tale k is
    where
      by : (xs : List Logged) (j : ℕ) → slice_get (xs ++ entry ∷ []) j ≡ Some e → (slice_get xs j ≡ Some e) ⊎ ((j ≡ length xs) × (e ≡ entry))
      by [] zero h = inr (refl, let x : Some entry ≡ Some e = h in cc)
      by [] (suc j) h = absurd (cc)
      by (x ∷ xs) zero h = inl h
      by (x ∷ xs) (suc j) h = elim (by xs j h) [ inl f ↦ inl f | inr l ↦ inr (ap suc l.0, l.1) ]

take_front : {A : Type 0} (k : ℕ) (xs : List A) (y : A) → k < length xs → take (k + 1) (xs ++ y ∷ []) ≡ take (k + 1) xs
take_front k xs y lt = take-append-le (k + 1) xs (y ∷ []) (omega arith)

entry_moment : (m n : ℕ) → min m n < n → min m n ≡ m
entry_moment m n lt = omega (arith, lt)

-- A task that is settled leaves what a run keeps.
pub settled_run : (o : Opening) (s : Seen) (seat : ℕ) (event : Event) (failed : Bool) (fault : Option RunFault) (written : List ℕ) → SettlesOne o s (logged_at s seat event) → (run : IsRun o s) → IsBeside o s run event
    → (fault ≡ None → s.fault ≡ None)
    → ((course : Course) → course.plan ≡ s.plan → IsCourse o s.options (s.tale ++ logged_at s seat event ∷ []) course → MayCome course s.tale (logged_at s seat event))
    → IsReal o.gives s.plan.tasks event
    → IsRun o (behind s seat event failed fault written)
settled_run o s seat event failed fault written settles run beside faultless may real =
    let at : ℕ = min (moment s.story) (2 ^ 64 - 1) in
    let e : Logged = logged_at s seat event in
    let later : Seen = behind s seat event failed fault written in
    let books = book_same o s e settles in
    let rows = rows_same o s e settles in
    record {
      may = run.may;
      rows = run.rows ∙ sym rows;
      lines = run.lines;
      grown = books ∙ run.grown;
      own = run.own;
      readable = run.readable;
      opened = run.opened;
      mends = run.mends;
      book = λ none. run.book (faultless none);
      open_are = λ none. run.open_are (faultless none);
      mending = λ none. mends_marked o s run (faultless none) (logged_at s seat event) beside;
      flights = λ none. (flown none).0;
      touched = λ none. run.touched (faultless none);
      flying = λ none u other runs begun. run.flying (faultless none) u other (ran u other runs).1 begun;
      durable = λ none image is. (flown none).1 image (run.durable (faultless none) image is);
      objects = λ none image is u task at_task not_yet on_ground. subst (λ (b : Book). HasObjects b o.story.held image task) (sym books) (run.objects (faultless none) image is u task at_task (λ ended. not_yet (ended_on o s e settles u ended)) on_ground);
      later = run.later;
      marked = λ k x here. elim (front_at o s e settles k x here) [
        | inl f ↦ run.marked k x f
        | inr l ↦ omega (arith, ap (λ (y : Logged). y.moment) l.1)
      ];
      reusable = subst (λ (b : Book). HasNoCollision b s.rows s.plan.tasks → MayReuse o.gives o.reading o.story.held b s.plan.tasks) (sym books) run.reusable;
      legal = legal_grows o s.plan s.options s.tale e run.legal may;
      were_there = there_grows o s.plan s.options s.tale e run.were_there settles.so;
      real = λ k x here. elim (front_at o s e settles k x here) [
        | inl f ↦ run.real k x f
        | inr l ↦ subst (λ (y : Logged). IsReal o.gives s.plan.tasks y.event) (sym l.1) real
      ];
      stored = λ u sg settled is. elim (cases_eq (task_of event) u) [
        | inl same ↦ settles.stored sg (ap (slice_get (signatures s.rows s.plan.tasks)) same ∙ is)
        | inr ne ↦ run.stored u sg (settled_back o s e settles u ne settled) is
      ];
      missing = λ u other runs sg is. run.missing u other (ran u other runs).1 sg is;
      there = if_some_on s.known (λ (k : Known). (u : ℕ) (a : Avail) → IsIn k.need u → (HasEnded s.plan s.tale u → ⊥) → slice_get k.avail u ≡ Some a → WasThere o s u a)
          (λ (k : Known). (u : ℕ) (a : Avail) → IsIn k.need u → (HasEnded s.plan (s.tale ++ e ∷ []) u → ⊥) → slice_get k.avail u ≡ Some a → WasThere o later u a)
          (λ k h u a member not_yet is. h u a member (λ ended. not_yet (ended_on o s e settles u ended)) is) run.there;
      answered = λ none u a is not_yet.
          let was = run.answered (faultless none) u a is (λ ended. not_yet (ended_on o s e settles u ended)) in
          ((λ x here. was.0 x here), elim was.1 [ inl object ↦ inl object | inr gone ↦ inr (gone.0, (gone.1.0, runs_on u gone.1.0 gone.1.1)) ]);
      met = λ u settled not_yet. elim (cases_eq (task_of event) u) [
        | inl same ↦ subst (λ (v : ℕ). (a : Avail) × WasThere o later v a × (a ≢ Missing)) same (settles.met.0, settles.met.1, settles.met.2)
        | inr ne ↦
            let m = run.met u (settled_back o s e settles u ne settled) (λ ended. not_yet (ended_on o s e settles u ended)) in
            (m.0, m.1, m.2)
      ];
      told = λ u b. told_goes_on o s later u e refl refl (fault_stays s.fault fault faultless) (λ hand was. (hand, λ x here. was x here)) (λ other same runs. absurd (waits u other runs (sym same))) (run.told u b);
      images = λ t image le since. elim (run.images t image le since) [ inl before ↦ inl before | inr left ↦ inr (left_behind o s.plan s.begun s.tale e image left) ];
      stands = λ image is. stands_on o s e settles image is (run.stands image is);
      settled = λ k x here lt image since. elim (front_at o s e settles k x here) [
        | inl f ↦ subst (λ (l : List Logged). AllStand o s.plan l image) (sym (take_front k s.tale e (slice_get_within s.tale k x f))) (run.settled k x f lt image since)
        | inr l ↦
            let is_at : x.moment ≡ at = ap (λ (y : Logged). y.moment) l.1 in
            let below : at < 2 ^ 64 - 1 = subst (λ (n : ℕ). n < 2 ^ 64 - 1) is_at lt in
            let now : x.moment ≡ moment s.story = is_at ∙ entry_moment (moment s.story) (2 ^ 64 - 1) below in
            let image_now : IsImage s.story image = since-now s.story image (subst (λ (n : ℕ). IsImageSince s.story n image) now since) in
            let whole : take (k + 1) (s.tale ++ e ∷ []) ≡ s.tale ++ e ∷ [] = take_all (k + 1) (s.tale ++ e ∷ []) (omega (arith, l.0, length-append s.tale (e ∷ []))) in
            subst (λ (l : List Logged). AllStand o s.plan l image) (sym whole) (stands_on o s e settles image image_now (run.stands image image_now))
      ];
    }
  where
    -- the task of the event waits
    waits : (u other : ℕ) → RunsAfter s.plan s.tale u other → task_of event ≡ u → ⊥
    waits u other runs same = let n : fate.Waiting ≡ fate.Running other = sym settles.before ∙ ap (fate_at (fates_told (length s.plan.tasks) s.tale)) same ∙ runs in cc

    runs_on : (u other : ℕ) → RunsAfter s.plan s.tale u other → RunsAfter s.plan (s.tale ++ logged_at s seat event ∷ []) u other
    runs_on u other runs = other_fate o s (logged_at s seat event) settles u (waits u other runs) ∙ runs

    ran : (u other : ℕ) → RunsAfter s.plan (s.tale ++ logged_at s seat event ∷ []) u other → (task_of event ≡ u → ⊥) × RunsAfter s.plan s.tale u other
    ran u other runs = elim (cases_eq (task_of event) u) [
      | inl same ↦ absurd (settles.rests other (sym (own_fate o s (logged_at s seat event) settles) ∙ ap (fate_at (fates_told (length s.plan.tasks) (s.tale ++ logged_at s seat event ∷ []))) same ∙ runs))
      | inr ne ↦ (ne, sym (other_fate o s (logged_at s seat event) settles u ne) ∙ runs)
    ]

    flown : (none : fault ≡ None) → AreFlights o s.plan (s.tale ++ logged_at s seat event ∷ []) run.opened × ((image : Store) → IsValidWith o s.plan s.tale run.opened image → IsValidWith o s.plan (s.tale ++ logged_at s seat event ∷ []) run.opened image)
    flown none = marks_keep_flights o s.plan s.tale run.opened (logged_at s seat event) settles.book (λ u other flies runs same. waits u other runs (sym same)) (run.flights (faultless none))

-- the same of views of a state
pub settled_view : {D W : Type 0} (story : D → Story) (written : W → List ℕ) (o : Opening) (old new : RunView D W) (seat : ℕ) (event : Event) → Notes seat event old new → MarksAt (story old.store.disk) seat event old.tale new.tale → (IsSome old.fault → new.fault ≡ old.fault)
    → SettlesOne o (seen story written old) (logged_at (seen story written old) seat event) → (run : IsRun o (seen story written old)) → IsBeside o (seen story written old) run event
    → ((course : Course) → course.plan ≡ old.plan → IsCourse o old.options (old.tale ++ logged_at (seen story written old) seat event ∷ []) course → MayCome course old.tale (logged_at (seen story written old) seat event))
    → IsReal o.gives old.plan.tasks event
    → IsRun o (seen story written new)
settled_view story written o old new seat event n m stays settles run beside may real =
    let made : Seen = behind (seen story written old) seat event new.sink_failed new.fault (written new.sink) in
    let same : made ≡ seen story written new = λ i. record {
      plan = sym n.plan i;
      options = sym n.options i;
      rows = (sym n.store i).rows;
      kept = (sym n.store i).kept;
      opened = (sym n.store i).opened;
      sink_failed = new.sink_failed;
      fault = new.fault;
      tale = sym m.is i;
      begun = sym n.begun i;
      restoring = sym n.restoring i;
      known = sym n.known i;
      story = story (sym n.store i).disk;
      written = written new.sink;
    } in
    subst (IsRun o) same (settled_run o (seen story written old) seat event new.sink_failed new.fault (written new.sink) settles run beside (was_none old.fault new.fault stays) may real)
