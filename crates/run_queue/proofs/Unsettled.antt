-- An event that settles no task leaves what a run keeps over its opening.
use Rattle.std.proofs.Common.{◌≡◌, ◌∙◌, sym, ap, subst, refl, ℕ, ◌+◌, ◌<◌, ◌-◌, ◌^◌, min, zero, suc, arith, Bool, false, List, [], ◌∷◌, ◌++◌, length, take, set, Some, None, inl, inr, length-append, append-nil}
use Rattle.std.specs.Prelude.{◌⊎◌, Option, IfSome, IsSome}
use Rattle.std.specs.List.{slice_get}
use Rattle.std.proofs.lemmas.Bool.{cases_eq, false≢true}
use Rattle.std.proofs.lemmas.Grind.{flat_map-append}
use Rattle.std.proofs.lemmas.Option.{slice_get_within}
use Rattle.std.proofs.lemmas.List.{take_all, take-append-le}
use Rattle.outside_traits.specs.Store.{Store}
use Rattle.outside_traits.specs.Story.{IsImage, IsImageSince, Story, moment}
use Rattle.outside_traits.proofs.Images.{since-now}
use Rattle.meta_model.specs.declared.event.Avail.{Avail}
use Rattle.meta_model.specs.declared.event.Avail.TheVariants.{Missing}
use Rattle.meta_model.specs.declared.event.Event.{Event}
use Rattle.meta_model.specs.declared.event.Logged.{Logged}
use Rattle.meta_model.specs.declared.plan.Plan.{Plan}
use Rattle.tale_model.specs.declared.fate.Fate.{Fate}
use Rattle.tale_model.specs.declared.fate.Fate.TheVariants as fate
use Rattle.tale_model.specs.Fates.{fate_at, fate_by, fates_told, is_settled, task_of}
use Rattle.tale_model.specs.History.{Course, MayCome}
use Rattle.run_core.proofs.Steps.{told_push}
use Rattle.store_model.specs.Origins.{Book, rows_of}
use Rattle.store_model.specs.Premises.{HasNoCollision}
use Rattle.store_model.specs.declared.signature.EquivRow.{EquivRow}
use Rattle.store_model.specs.Available.{HoldsClean, IsAvailable, IsInWork, object_folder}
use Rattle.store_model.specs.Reuse.{MayReuse}
use Rattle.store_model.specs.Rows.{uni}
use Rattle.store_model.specs.Signatures.{Signed, signatures}
use Rattle.store_model.specs.Spelling.{name_of}
use Rattle.run_model.specs.Opening.{Opening}
use Rattle.run_model.specs.Books.{book_after, book_by, rows_after, signed_after}
use Rattle.run_model.specs.Courses.{IsCourse}
use Rattle.run_queue.specs.Courses.{IsReal}
use Rattle.run_queue.specs.Keeps.{IsRun, Prints, WasThere}
use Rattle.run_queue.specs.declared.fault.RunFault.{RunFault}
use Rattle.run_queue.specs.Flights.{AreFlights, IsValidWith}
use Rattle.run_queue.specs.Seen.{IsBegun, Known, RunView, Seen, seen}
use Rattle.run_model.specs.InFlight.{RunsAfter}
use Rattle.run_model.specs.Stands.{AllStand, HasBroken, HasEnded, HasOwnRow, IsPlaced, IsSettledIn, there_by}
use Rattle.run_queue.specs.Stands.{HasObjects}
use Rattle.run_queue.specs.Turns.{Marks, MarksAt, Notes}
use Rattle.run_model.specs.Report.{event_line, tale_text}
use Rattle.run_queue.proofs.Boarding.{marks_keep_flights}
use Rattle.run_queue.proofs.Meanwhile.{fault_stays, told_goes_on}
use Rattle.run_queue.proofs.Mends.{IsBeside, mends_marked}
use Rattle.run_queue.proofs.Touched.{left_behind, starts_by}
use Rattle.run_queue.proofs.Growing.{book_grows, legal_grows}
use Rattle.run_queue.proofs.There.{WasSo, there_grows}
use Rattle.run_queue.proofs.Notes.{set_other, set_same}

-- The event of an entry settles no task, and takes none that was settled: its task was not settled, and isn't now; and no line is recorded
-- of it.
pub record SettlesNone (o : Opening) (plan : Plan) (tale : List Logged) (e : Logged) : Type 0 where
  pub within : task_of e.event < length (fates_told (length plan.tasks) tale)
  pub before : is_settled (fate_at (fates_told (length plan.tasks) tale) (task_of e.event)) ≡ false
  pub after : is_settled (fate_by e.event) ≡ false
  pub book : (b : Book) → book_by o.gives plan b e.event ≡ b

module _ (o : Opening) (plan : Plan) (tale : List Logged) (entry : Logged) (settles : SettlesNone o plan tale entry) where
  abbrev next : List Logged
  next = tale ++ entry ∷ []

  abbrev t : ℕ
  t = task_of entry.event

  abbrev old_fates : List Fate
  old_fates = fates_told (length plan.tasks) tale

  book_same : book_after o.gives plan o.book next ≡ book_after o.gives plan o.book tale
  book_same = book_grows o.gives plan o.book tale entry ∙ settles.book (book_after o.gives plan o.book tale)

  rows_same : rows_after o plan next ≡ rows_after o plan tale
  rows_same = ap rows_of book_same

  fates_are : fates_told (length plan.tasks) next ≡ set old_fates t (fate_by entry.event)
  fates_are = told_push (length plan.tasks) tale entry

  other_fate : (u : ℕ) → (t ≡ u → ⊥) → fate_at (fates_told (length plan.tasks) next) u ≡ fate_at old_fates u
  other_fate u ne = ap (λ (l : List Fate). fate_at l u) fates_are ∙ set_other old_fates t u (fate_by entry.event) ne

  own_fate : fate_at (fates_told (length plan.tasks) next) t ≡ fate_by entry.event
  own_fate = ap (λ (l : List Fate). fate_at l t) fates_are ∙ set_same old_fates t (fate_by entry.event) settles.within

  same_settled : (u : ℕ) → is_settled (fate_at (fates_told (length plan.tasks) next) u) ≡ is_settled (fate_at old_fates u)
  same_settled u = elim (cases_eq t u) [
    | inl same ↦ subst (λ (v : ℕ). is_settled (fate_at (fates_told (length plan.tasks) next) v) ≡ is_settled (fate_at old_fates v)) same (ap is_settled own_fate ∙ settles.after ∙ sym settles.before)
    | inr other ↦ ap is_settled (other_fate u other)
  ]

  settled_back : (u : ℕ) → IsSettledIn plan next u → IsSettledIn plan tale u
  settled_back u e = sym (same_settled u) ∙ e

  -- what ended is settled, so it is another task
  other_ended : (fates : List Fate) (u : ℕ) → is_settled (fate_at fates t) ≡ false → fate_at fates u ≡ fate.Ended → t ≡ u → ⊥
  other_ended fates u rests e same = false≢true (sym rests ∙ ap (λ (v : ℕ). is_settled (fate_at fates v)) same ∙ ap is_settled e)

  ended_back : (u : ℕ) → HasEnded plan next u → HasEnded plan tale u
  ended_back u e = sym (other_fate u (other_ended (fates_told (length plan.tasks) next) u (ap is_settled own_fate ∙ settles.after) e)) ∙ e

  ended_on : (u : ℕ) → HasEnded plan tale u → HasEnded plan next u
  ended_on u e = other_fate u (other_ended old_fates u settles.before e) ∙ e

  signed_back : (u : ℕ) (s : Signed) → signed_after o plan next u ≡ Some s → signed_after o plan tale u ≡ Some s
  signed_back u s e = ap (λ (r : List EquivRow). slice_get (signatures r plan.tasks) u) (sym rows_same) ∙ e

  stands_on : (image : Store) → AllStand o plan tale image → AllStand o plan next image
  stands_on image stand u task at_task settled =
      let st = stand u task at_task (settled_back u settled) in
      record {
        built = st.built;
        is_built = st.is_built;
        stored = λ s is. subst (λ (r : List EquivRow). HasOwnRow r s) (sym rows_same) (st.stored s (signed_back u s is));
        work = st.work;
        tree = st.tree;
        stays = λ kept s is. subst (λ (r : List EquivRow). IsInWork image r s) (sym rows_same) (st.stays kept s (signed_back u s is));
        shared = λ sstate ended s is. subst (λ (r : List EquivRow). HoldsClean image (object_folder (uni r (name_of s.sig))) st.built) (sym rows_same) (st.shared sstate (ended_back u ended) s (signed_back u s is));
      }

  front_at : (k : ℕ) (e : Logged) → slice_get next k ≡ Some e → (slice_get tale k ≡ Some e) ⊎ ((k ≡ length tale) × (e ≡ entry))
  front_at k e is = by tale k is
    where
      by : (xs : List Logged) (j : ℕ) → slice_get (xs ++ entry ∷ []) j ≡ Some e → (slice_get xs j ≡ Some e) ⊎ ((j ≡ length xs) × (e ≡ entry))
      by [] zero h = inr (refl, let s : Some entry ≡ Some e = h in cc)
      by [] (suc j) h = absurd (cc)
      by (x ∷ xs) zero h = inl h
      by (x ∷ xs) (suc j) h = elim (by xs j h) [ inl f ↦ inl f | inr l ↦ inr (ap suc l.0, l.1) ]

take_front : {A : Type 0} (k : ℕ) (xs : List A) (y : A) → k < length xs → take (k + 1) (xs ++ y ∷ []) ≡ take (k + 1) xs
take_front k xs y lt = take-append-le (k + 1) xs (y ∷ []) (omega arith)

entry_moment : (m n : ℕ) → min m n < n → min m n ≡ m
entry_moment m n lt = omega (arith, lt)

pub if_some_on : {A : Type 0} (x : Option A) (P Q : A → Type 0) → ((a : A) → P a → Q a) → IfSome x P → IfSome x Q
if_some_on None P Q f h = h
if_some_on (Some a) P Q f h = f a h

-- an entry at the disk's moment
abbrev pub logged_at : Seen → ℕ → Event → Logged
logged_at s seat event = record { event = event; seat = seat; moment = min (moment s.story) (2 ^ 64 - 1) }

-- the state behind one more entry, where the sink was told
abbrev pub behind : Seen → ℕ → Event → Bool → Option RunFault → List ℕ → Seen
behind s seat event failed fault written = record s { tale = s.tale ++ logged_at s seat event ∷ []; sink_failed = failed; fault = fault; written = written }

-- the line of one more entry stands behind the text
pub prints_behind : (plan : Plan) (tale : List Logged) (e : Logged) (base written : List ℕ) (failed : Bool) → Prints base written (tale_text plan.tasks tale ++ event_line plan.tasks e.event) failed → Prints base written (tale_text plan.tasks (tale ++ e ∷ [])) failed
prints_behind plan tale e base written failed prints =
    subst (λ (l : List ℕ). Prints base written l failed) (sym (flat_map-append (λ l. event_line plan.tasks l.event) tale (e ∷ []) ∙ ap (λ (l : List ℕ). tale_text plan.tasks tale ++ l) (append-nil (event_line plan.tasks e.event)))) prints

-- the text of a tale with one more entry, as views of a state
pub noted_text : {D W : Type 0} (written : W → List ℕ) (old new : RunView D W) (seat : ℕ) (event : Event) (base : List ℕ) → Marks seat event old.tale new.tale → Prints base (written new.sink) (tale_text old.plan.tasks old.tale ++ event_line old.plan.tasks event) new.sink_failed → Prints base (written new.sink) (tale_text old.plan.tasks new.tale) new.sink_failed
noted_text written old new seat event base m prints =
    subst (λ (l : List Logged). Prints base (written new.sink) (tale_text old.plan.tasks l) new.sink_failed) (sym m.is)
    (prints_behind old.plan old.tale (record { event = event; seat = seat; moment = m.moment }) base (written new.sink) new.sink_failed prints)

-- The task of an event isn't begun, or a fault is kept, and the event breaks it off, not for its bench.
abbrev pub IsSpared : Seen → ℕ → Event → Type 0
IsSpared s seat event = (IsBegun s (task_of event) → ⊥) ⊎ (IsSome s.fault × HasBroken (s.tale ++ logged_at s seat event ∷ []) (task_of event))

-- An entry that settles no task leaves what a run keeps.
pub unsettled_run : (o : Opening) (s : Seen) (seat : ℕ) (event : Event) (failed : Bool) (fault : Option RunFault) (written : List ℕ) → SettlesNone o s.plan s.tale (logged_at s seat event) → (run : IsRun o s) → IsBeside o s run event
    → IsSpared s seat event
    → (fault ≡ None → s.fault ≡ None)
    → ((course : Course) → course.plan ≡ s.plan → IsCourse o s.options (s.tale ++ logged_at s seat event ∷ []) course → MayCome course s.tale (logged_at s seat event))
    → IsReal o.gives s.plan.tasks event
    → WasSo o s.plan s.options s.tale event
    → IsRun o (behind s seat event failed fault written)
unsettled_run o s seat event failed fault written settles run beside spared faultless may real there =
    let at : ℕ = min (moment s.story) (2 ^ 64 - 1) in
    let e : Logged = logged_at s seat event in
    let later : Seen = behind s seat event failed fault written in
    let books = book_same o s.plan s.tale e settles in
    let rows = rows_same o s.plan s.tale e settles in
    record {
      may = run.may;
      rows = run.rows ∙ sym rows;
      lines = run.lines;
      grown = books ∙ run.grown;
      own = run.own;
      readable = run.readable;
      opened = run.opened;
      mends = run.mends;
      book = λ none. run.book (faultless none);
      open_are = λ none. run.open_are (faultless none);
      mending = λ none. mends_marked o s run (faultless none) (logged_at s seat event) beside;
      flights = λ none. (flown none).0;
      touched = λ none. run.touched (faultless none);
      flying = λ none u other runs begun. run.flying (faultless none) u other (sym (other_fate o s.plan s.tale e settles u (λ same. fresh none (subst (λ (n : ℕ). IsBegun s n) (sym same) begun))) ∙ runs) begun;
      durable = λ none image is. (flown none).1 image (run.durable (faultless none) image is);
      objects = λ none image is u task at_task not_yet on_ground. subst (λ (b : Book). HasObjects b o.story.held image task) (sym books) (run.objects (faultless none) image is u task at_task (λ ended. not_yet (ended_on o s.plan s.tale e settles u ended)) on_ground);
      later = run.later;
      marked = λ k x here. elim (front_at o s.plan s.tale e settles k x here) [
        | inl f ↦ run.marked k x f
        | inr l ↦ omega (arith, ap (λ (y : Logged). y.moment) l.1)
      ];
      reusable = subst (λ (b : Book). HasNoCollision b s.rows s.plan.tasks → MayReuse o.gives o.reading o.story.held b s.plan.tasks) (sym books) run.reusable;
      legal = legal_grows o s.plan s.options s.tale e run.legal may;
      were_there = there_grows o s.plan s.options s.tale e run.were_there there;
      real = λ k x here. elim (front_at o s.plan s.tale e settles k x here) [
        | inl f ↦ run.real k x f
        | inr l ↦ subst (λ (y : Logged). IsReal o.gives s.plan.tasks y.event) (sym l.1) real
      ];
      stored = λ u sg settled is. run.stored u sg (settled_back o s.plan s.tale e settles u settled) is;
      missing = λ u other runs. missing_on u other runs (cases_eq (task_of event) u);
      there = if_some_on s.known (λ (k : Known). (u : ℕ) (a : Avail) → Rattle.tale_model.specs.Need.IsIn k.need u → (HasEnded s.plan s.tale u → ⊥) → slice_get k.avail u ≡ Some a → WasThere o s u a)
          (λ (k : Known). (u : ℕ) (a : Avail) → Rattle.tale_model.specs.Need.IsIn k.need u → (HasEnded s.plan (s.tale ++ e ∷ []) u → ⊥) → slice_get k.avail u ≡ Some a → WasThere o later u a)
          (λ k h u a member not_yet is. h u a member (λ ended. not_yet (ended_on o s.plan s.tale e settles u ended)) is) run.there;
      answered = λ none u a is not_yet.
          let was = run.answered (faultless none) u a is (λ ended. not_yet (ended_on o s.plan s.tale e settles u ended)) in
          let still = other_fate o s.plan s.tale e settles u (λ same. fresh none (subst (λ (n : ℕ). IsBegun s n) (sym same) (a, is))) in
          ((λ x here. was.0 x here), elim was.1 [ inl object ↦ inl object | inr gone ↦ inr (gone.0, (gone.1.0, still ∙ gone.1.1)) ]);
      met = λ u settled not_yet.
          let m = run.met u (settled_back o s.plan s.tale e settles u settled) (λ ended. not_yet (ended_on o s.plan s.tale e settles u ended)) in
          (m.0, m.1, m.2);
      told = λ u b. told_goes_on o s later u e refl refl (fault_stays s.fault fault faultless) (λ hand was. (hand, λ x here. was x here)) (λ other same runs. ended u b same) (run.told u b);
      images = λ t image le since. elim (run.images t image le since) [ inl before ↦ inl before | inr left ↦ inr (left_behind o s.plan s.begun s.tale e image left) ];
      stands = λ image is. stands_on o s.plan s.tale e settles image (run.stands image is);
      settled = λ k x here lt image since. elim (front_at o s.plan s.tale e settles k x here) [
        | inl f ↦ subst (λ (l : List Logged). AllStand o s.plan l image) (sym (take_front k s.tale e (slice_get_within s.tale k x f))) (run.settled k x f lt image since)
        | inr l ↦
            let is_at : x.moment ≡ at = ap (λ (y : Logged). y.moment) l.1 in
            let below : at < 2 ^ 64 - 1 = subst (λ (n : ℕ). n < 2 ^ 64 - 1) is_at lt in
            let now : x.moment ≡ moment s.story = is_at ∙ entry_moment (moment s.story) (2 ^ 64 - 1) below in
            let image_now : IsImage s.story image = since-now s.story image (subst (λ (n : ℕ). IsImageSince s.story n image) now since) in
            let whole : take (k + 1) (s.tale ++ e ∷ []) ≡ s.tale ++ e ∷ [] = take_all (k + 1) (s.tale ++ e ∷ []) (omega (arith, l.0, length-append s.tale (e ∷ []))) in
            subst (λ (l : List Logged). AllStand o s.plan l image) (sym whole) (stands_on o s.plan s.tale e settles image (run.stands image image_now))
      ];
    }
  where
    fresh : fault ≡ None → IsBegun s (task_of event) → ⊥
    fresh none begun = elim spared [
      | inl not ↦ not begun
      | inr it ↦ false≢true (subst (λ (f : Option RunFault). IsSome f) (faultless none) it.0)
    ]

    flown : (none : fault ≡ None) → AreFlights o s.plan (s.tale ++ logged_at s seat event ∷ []) run.opened × ((image : Store) → IsValidWith o s.plan s.tale run.opened image → IsValidWith o s.plan (s.tale ++ logged_at s seat event ∷ []) run.opened image)
    flown none = marks_keep_flights o s.plan s.tale run.opened (logged_at s seat event) settles.book
        (λ u other flies runs same. fresh none (subst (λ (n : ℕ). IsBegun s n) same (run.touched (faultless none) u flies))) (run.flights (faultless none))

    missing_on : (u other : ℕ) → RunsAfter s.plan (s.tale ++ logged_at s seat event ∷ []) u other → (task_of event ≡ u) ⊎ (task_of event ≡ u → ⊥) → WasThere o (behind s seat event failed fault written) u Missing
    missing_on u other runs (inl same) sg is =
        let starts : fate_by event ≡ fate.Running other = sym (own_fate o s.plan s.tale (logged_at s seat event) settles) ∙ ap (fate_at (fates_told (length s.plan.tasks) (s.tale ++ logged_at s seat event ∷ []))) same ∙ runs in
        let told = there (task_of event) Missing (ap there_by (starts_by event other starts)) sg (ap (λ (r : List EquivRow). slice_get (signatures r s.plan.tasks) (task_of event)) (sym run.rows) ∙ ap (slice_get (signatures s.rows s.plan.tasks)) same ∙ is) in
        subst (λ (r : List EquivRow). IsAvailable o.story.held r s.options.setscene sg Missing) (sym run.rows) told
    missing_on u other runs (inr ne) sg is = run.missing u other (sym (other_fate o s.plan s.tale (logged_at s seat event) settles u ne) ∙ runs) sg is

    ended : (u : ℕ) → IsBegun s u → u ≡ task_of event → IsPlaced (s.tale ++ logged_at s seat event ∷ []) u ⊎ (IsSome fault × HasBroken (s.tale ++ logged_at s seat event ∷ []) u)
    ended u b same = elim spared [
      | inl not ↦ absurd (not (subst (λ (n : ℕ). IsBegun s n) same b))
      | inr it ↦ inr (fault_stays s.fault fault faultless it.0, subst (HasBroken (s.tale ++ logged_at s seat event ∷ [])) (sym same) it.1)
    ]

-- a fault that is kept stays, so where none is kept now none was
pub was_none : (old new : Option RunFault) → (IsSome old → new ≡ old) → new ≡ None → old ≡ None
was_none None new stays none = refl
was_none (Some f) new stays none = sym (stays refl) ∙ none

-- the same of views of a state
pub noted_run : {D W : Type 0} (story : D → Story) (written : W → List ℕ) (o : Opening) (old new : RunView D W) (seat : ℕ) (event : Event) → Notes seat event old new → MarksAt (story old.store.disk) seat event old.tale new.tale → (IsSome old.fault → new.fault ≡ old.fault)
    → SettlesNone o old.plan old.tale (logged_at (seen story written old) seat event) → (run : IsRun o (seen story written old)) → IsBeside o (seen story written old) run event
    → IsSpared (seen story written old) seat event
    → ((course : Course) → course.plan ≡ old.plan → IsCourse o old.options (old.tale ++ logged_at (seen story written old) seat event ∷ []) course → MayCome course old.tale (logged_at (seen story written old) seat event))
    → IsReal o.gives old.plan.tasks event
    → WasSo o old.plan old.options old.tale event
    → IsRun o (seen story written new)
noted_run story written o old new seat event n m stays settles run beside spared may real there =
    let made : Seen = behind (seen story written old) seat event new.sink_failed new.fault (written new.sink) in
    let same : made ≡ seen story written new = λ i. record {
      plan = sym n.plan i;
      options = sym n.options i;
      rows = (sym n.store i).rows;
      kept = (sym n.store i).kept;
      opened = (sym n.store i).opened;
      sink_failed = new.sink_failed;
      fault = new.fault;
      tale = sym m.is i;
      begun = sym n.begun i;
      restoring = sym n.restoring i;
      known = sym n.known i;
      story = story (sym n.store i).disk;
      written = written new.sink;
    } in
    subst (IsRun o) same (unsettled_run o (seen story written old) seat event new.sink_failed new.fault (written new.sink) settles run beside spared (was_none old.fault new.fault stays) may real there)
