-- The last turn of an open publication: its line comes behind the book, and its task is settled.
use Rattle.std.proofs.Common.{◌≡◌, ◌≢◌, ◌∙◌, sym, ap, subst, refl, ℕ, zero, suc, ◌+◌, ◌<◌, ◌-◌, ◌^◌, min, arith, ◌⊎◌, inl, inr, Bool, false, List, [], ◌∷◌, ◌++◌, length, set, take, Some, None, append_assoc, append-nil, length-append}
use Rattle.std.specs.Prelude.{if◌then◌else◌}
use Rattle.std.specs.List.{AllByRecursion, slice_get}
use Rattle.std.proofs.lemmas.Bool.{cases_eq}
use Rattle.std.proofs.lemmas.List.{take_all, take-append-le}
use Rattle.std.proofs.lemmas.Option.{slice_get_within}
use Rattle.tree_model.specs.declared.hash.Hash.{Hash}
use Rattle.outside_traits.specs.Store.{HoldsTree, Store}
use Rattle.outside_traits.specs.Story.{IsImage, IsImageSince, moment}
use Rattle.outside_traits.proofs.Images.{since-now}
use Rattle.outside_traits.proofs.Puts.{path_cases}
use Rattle.meta_model.specs.declared.event.Event.{Event}
use Rattle.meta_model.specs.declared.event.Event.TheVariants as events
use Rattle.meta_model.specs.declared.event.Logged.{Logged}
use Rattle.meta_model.specs.declared.plan.Plan.{Plan}
use Rattle.meta_model.specs.declared.plan.PlanTask.{PlanTask}
use Rattle.tale_model.specs.declared.fate.Fate.{Fate}
use Rattle.tale_model.specs.declared.fate.Fate.TheVariants as fate
use Rattle.tale_model.specs.Fates.{fate_at, fate_by, fates_told, is_settled, task_of}
use Rattle.run_core.specs.History.{IsOrderly}
use Rattle.run_core.proofs.Steps.{told_push}
use Rattle.tale_model.specs.History.{EachAfter}
use Rattle.store_model.specs.Premises.{HasNoCollision}
use Rattle.store_model.specs.Readable.{IsReadable}
use Rattle.store_model.specs.Reuse.{MayReuse}
use Rattle.store_model.proofs.Lasting.{reuse_goes_on}
use Rattle.run_queue.specs.FlightLaws.{LandingStandsTo}
use Rattle.store_model.specs.Available.{HoldsClean, IsInWork, object_folder, task_folder}
use Rattle.store_model.specs.Lines.{HasLine, HaveSameLines}
use Rattle.store_model.specs.Origins.{Book, Line, row_of, rows_of}
use Rattle.store_model.specs.Publication.{Publication}
use Rattle.store_model.specs.Rows.{row_at, uni, unihash_or}
use Rattle.store_model.specs.Signatures.{Signed, signatures}
use Rattle.store_model.specs.Spelling.{name_of, signature_bytes}
use Rattle.store_model.specs.Valid.{IsValid, IsValidBook}
use Rattle.store_model.specs.declared.signature.EquivRow.{EquivRow}
use Rattle.store_model.proofs.Ordered.{each_append}
use Rattle.store_model.proofs.Staying.{signatures_stay}
use Rattle.store_opening.proofs.SameLines.{same_entries}
use Rattle.build_store.specs.Publication.{IsPublished, publication, rows_with, unihash_for}
use Rattle.run_model.specs.Books.{book_after, book_by, line_of_ended, rows_after, signed_after}
use Rattle.run_model.specs.InFlight.{lines_in_flight}
use Rattle.run_model.specs.Opening.{Opening}
use Rattle.run_model.specs.Stands.{AllStand, HasEnded, HasOwnRow, IsSettledIn, IsStanding}
use Rattle.run_queue.specs.Flights.{AreFlights, AreOnce, Closes, Flies, FliesAs, IsFlight, IsInHand, IsUnderWay, IsValidWith, KeepOtherObjects, OpenTask, OpenTasks}
use Rattle.run_queue.specs.Joined.{IsOther}
use Rattle.run_queue.proofs.Breaking.{running_within}
use Rattle.run_queue.proofs.Enduring.{differ_at, signed_task, standing_grown}
use Rattle.run_queue.proofs.Flights.{HasSig, choice_valid, flight_of, in_hand, line_is, line_named, line_readable, names_two, runs_now, tasks_two, two_besides}
use Rattle.run_queue.proofs.Growing.{book_grows}
use Rattle.run_queue.proofs.Growth.{flight_stays, line_stays}
use Rattle.run_queue.proofs.Joining.{has_either, line_stays_valid}
use Rattle.run_queue.proofs.Notes.{set_other, set_same}
use Rattle.run_queue.proofs.Recorded.{IsPut}
use Rattle.run_queue.proofs.Staging.{has_left, has_right, no_record_yet, put}

-- ---- the same lines in another order

module _ (n f m b : Book) (line : Line) where
  to_front : HasLine (n ++ (f ++ (m ++ b))) line → HasLine (n ++ (m ++ (f ++ b))) line
  to_front has = elim (has_either n (f ++ (m ++ b)) has.0 line has.1) [
    | inl h ↦ has_left n (m ++ (f ++ b)) line h
    | inr r ↦ has_right n (m ++ (f ++ b)) line (elim (has_either f (m ++ b) r.0 line r.1) [
      | inl h ↦ has_right m (f ++ b) line (has_left f b line h)
      | inr s ↦ elim (has_either m b s.0 line s.1) [
        | inl h ↦ has_left m (f ++ b) line h
        | inr h ↦ has_right m (f ++ b) line (has_right f b line h)
      ]
    ])
  ]

pub moved_lines : (n f m b : Book) → HaveSameLines (n ++ (f ++ (m ++ b))) (n ++ (m ++ (f ++ b)))
moved_lines n f m b = record {
  whole = λ before line stands. to_front n f m b line (before, stands);
  only = λ before line stands. to_front n m f b line (before, stands);
}

-- what is valid with a book is so with another valid one of the same lines
pub same_valid : (o : Opening) (image : Store) (book again : Book) → IsValid o.gives o.reading image book → IsValidBook o.gives o.reading again → HaveSameLines book again → IsValid o.gives o.reading image again
same_valid o image book again v valid same = record {
  records = λ path. v.records path ∙ sym (same_entries o.gives o.reading book again v.lines valid same path);
  lines = valid;
  keys = λ before line stands. let has = same.only before line stands in v.keys has.0 line has.1;
}

-- ---- a task among others

-- the task is none of them, or it stands among them
split_out : (t : ℕ) (ts : List ℕ) → AllByRecursion (λ u. t ≢ u) ts ⊎ ((front : List ℕ) × (back : List ℕ) × (ts ≡ front ++ t ∷ back))
split_out t [] = inl tt
split_out t (u ∷ ts) = by (cases_eq t u) (split_out t ts)
  where
    by : (t ≡ u) ⊎ (t ≢ u) → AllByRecursion (λ v. t ≢ v) ts ⊎ ((front : List ℕ) × (back : List ℕ) × (ts ≡ front ++ t ∷ back)) → ((t ≢ u) × AllByRecursion (λ v. t ≢ v) ts) ⊎ ((front : List ℕ) × (back : List ℕ) × (u ∷ ts ≡ front ++ t ∷ back))
    by (inl same) rest = inr ([], ts, ap (λ (x : ℕ). x ∷ ts) (sym same))
    by (inr ne) (inl all) = inl (ne, all)
    by (inr ne) (inr it) = inr (u ∷ it.0, it.1, ap (λ (l : List ℕ). u ∷ l) it.2)

lines_append : (o : Opening) (plan : Plan) (book : Book) (ts us : List ℕ) → lines_in_flight o.gives plan book (ts ++ us) ≡ lines_in_flight o.gives plan book ts ++ lines_in_flight o.gives plan book us
lines_append o plan book [] us = refl
lines_append o plan book (t ∷ ts) us =
    ap (λ (b : Book). line_of_ended o.gives plan book t ++ b) (lines_append o plan book ts us)
    ∙ sym (append_assoc (line_of_ended o.gives plan book t) (lines_in_flight o.gives plan book ts) (lines_in_flight o.gives plan book us))

each_without : {A : Type 0} (P : A → Type 0) (front : List A) (x : A) (back : List A) → AllByRecursion P (front ++ x ∷ back) → AllByRecursion P (front ++ back)
each_without P [] x back all = all.1
each_without P (y ∷ front) x back all = (all.0, each_without P front x back all.1)

each_there : {A : Type 0} (P : A → Type 0) (front : List A) (x : A) (back : List A) → AllByRecursion P (front ++ x ∷ back) → P x
each_there P [] x back all = all.0
each_there P (y ∷ front) x back all = each_there P front x back all.1

once_without : (front : List ℕ) (t : ℕ) (back : List ℕ) → AreOnce (front ++ t ∷ back) → AreOnce (front ++ back) × AllByRecursion (λ u. t ≢ u) (front ++ back)
once_without [] t back once = (once.1, once.0)
once_without (u ∷ front) t back once =
    let more = once_without front t back once.1 in
    ((each_without (λ v. u ≢ v) front t back once.0, more.0), (λ same. each_there (λ v. u ≢ v) front t back once.0 (sym same), more.1))

-- ---- the last turn

module _ (o : Opening) (plan : Plan) (tale : List Logged) (opened : OpenTasks) (w : IsUnderWay o plan tale opened) (t : ℕ) (one : OpenTask) (fl : FliesAs plan opened t one)
    (later : OpenTasks) (closes : Closes (task_folder one.signed.task) opened later) (entry : Logged) (ends : entry.event ≡ events.Ended t) where
  abbrev Now : Book
  Now = book_after o.gives plan o.book tale

  abbrev Own : Book
  Own = line_of_ended o.gives plan (book_after o.gives plan o.book tale) t

  abbrev Lines : List ℕ → Book
  Lines ts = lines_in_flight o.gives plan (book_after o.gives plan o.book tale) ts

  abbrev Longer : List Logged
  Longer = tale ++ entry ∷ []

  abbrev p : Publication
  p = publication (rows_of (book_after o.gives plan o.book tale)) one.signed one.tree

  abbrev pub line : IsPut o.gives o.reading (book_after o.gives plan o.book tale) (publication (rows_of (book_after o.gives plan o.book tale)) one.signed one.tree) one.signed one.tree
  line = put o plan tale opened w t one fl false

  abbrev pub flight : IsFlight o plan (book_after o.gives plan o.book tale) t one
  flight = flight_of o plan tale opened w t one fl

  own_is : Own ≡ line.more
  own_is = line_is o plan Now w.reuse t one flight

  -- the book behind it
  pub book_longer : book_after o.gives plan o.book (tale ++ entry ∷ []) ≡ book_after o.gives plan o.book tale ++ line_of_ended o.gives plan (book_after o.gives plan o.book tale) t
  book_longer = book_grows o.gives plan o.book tale entry ∙ ap (book_by o.gives plan Now) ends

  -- ---- fates

  fates_are : fates_told (length plan.tasks) Longer ≡ set (fates_told (length plan.tasks) tale) t fate.Ended
  fates_are = told_push (length plan.tasks) tale entry ∙ ap (λ (e : Event). set (fates_told (length plan.tasks) tale) (task_of e) (fate_by e)) ends

  other_fate : (u : ℕ) → (u ≡ t → ⊥) → fate_at (fates_told (length plan.tasks) Longer) u ≡ fate_at (fates_told (length plan.tasks) tale) u
  other_fate u ne = ap (λ (l : List Fate). fate_at l u) fates_are ∙ set_other (fates_told (length plan.tasks) tale) t u fate.Ended (λ e. ne (sym e))

  within : t < length (fates_told (length plan.tasks) tale)
  within = running_within (fates_told (length plan.tasks) tale) t (in_hand o plan tale opened w t one fl).seat (runs_now o plan tale opened w t one fl)

  has_ended : HasEnded plan Longer t
  has_ended = ap (λ (l : List Fate). fate_at l t) fates_are ∙ set_same (fates_told (length plan.tasks) tale) t fate.Ended within

  settled_back : (u : ℕ) → (u ≡ t → ⊥) → IsSettledIn plan Longer u → IsSettledIn plan tale u
  settled_back u ne settled = sym (ap is_settled (other_fate u ne)) ∙ settled

  ended_back : (u : ℕ) → (u ≡ t → ⊥) → HasEnded plan Longer u → HasEnded plan tale u
  ended_back u ne ended = sym (other_fate u ne) ∙ ended

  open_before : (u : ℕ) → (HasEnded plan Longer u → ⊥) → (u ≡ t → ⊥) × (HasEnded plan tale u → ⊥)
  open_before u not_yet =
      let ne : u ≡ t → ⊥ = λ same. not_yet (subst (λ (n : ℕ). HasEnded plan Longer n) (sym same) has_ended) in
      (ne, λ ended. not_yet (other_fate u ne ∙ ended))

  -- ---- the others that are open

  -- its lines are of another task than those of another one
  own_other : (u : ℕ) (other : OpenTask) → FliesAs plan opened u other → (t ≡ u → ⊥) → AllByRecursion (IsOther other.signed.sig) Own
  own_other u other gl ne = by Own (line_named o plan Now w.reuse t one flight)
    where
      by : (xs : Book) → AllByRecursion (HasSig one.signed.sig) xs → AllByRecursion (IsOther other.signed.sig) xs
      by [] all = tt
      by (x ∷ xs) all = (
        record {
          names = λ same. names_two o plan tale opened w t u one other fl gl ne (sym (ap name_of all.0) ∙ same);
          tasks = λ pn task. tasks_two o plan tale opened w t u one other fl gl ne (sym (ap (λ g. g.pn) all.0) ∙ pn) (sym (ap (λ g. g.task) all.0) ∙ task);
        },
        by xs all.1,
      )

  -- another one flies still
  pub still_flies : (u : ℕ) → (t ≡ u → ⊥) → Flies plan opened u → Flies plan later u
  still_flies u ne (other, gl) =
      (other, (gl.0, closes.others (task_folder other.signed.task) (λ same. Rattle.run_queue.proofs.Flights.folders_differ plan w.may.sound t u one.signed.task other.signed.task fl.0 gl.0 ne (sym same)) ∙ gl.1))

  -- Each that is open is so as it was.
  pub flights_longer : AreFlights o plan (tale ++ entry ∷ []) later
  flights_longer = record {
    each = λ folder other is. kept folder other is (path_cases folder (task_folder one.signed.task));
    apart = λ folder beside a b is_a is_b ne. w.flights.apart folder beside a b (was folder a is_a (path_cases folder (task_folder one.signed.task))) (was beside b is_b (path_cases beside (task_folder one.signed.task))) ne;
  }
    where
      was : (folder : List ℕ) (other : OpenTask) → later folder ≡ Some other → (folder ≡ task_folder one.signed.task) ⊎ (folder ≢ task_folder one.signed.task) → opened folder ≡ Some other
      was folder other is (inl same) = absurd (let n : None ≡ Some other = sym closes.closed ∙ sym (ap later same) ∙ is in cc)
      was folder other is (inr ne) = sym (closes.others folder ne) ∙ is

      kept : (folder : List ℕ) (other : OpenTask) → later folder ≡ Some other → (folder ≡ task_folder one.signed.task) ⊎ (folder ≢ task_folder one.signed.task) → IsInHand o plan Longer folder other
      kept folder other is (inl same) = absurd (let n : None ≡ Some other = sym closes.closed ∙ sym (ap later same) ∙ is in cc)
      kept folder other is (inr ne) =
          let open_now : opened folder ≡ Some other = sym (closes.others folder ne) ∙ is in
          let h = w.flights.each folder other open_now in
          let gl : FliesAs plan opened h.number other = (h.flight.at, sym (ap opened h.folder_is) ∙ open_now) in
          let apart : t ≡ h.number → ⊥ = λ same. ne (h.folder_is ∙ ap task_folder (let e : Some other.signed.task ≡ Some one.signed.task = sym h.flight.at ∙ ap (slice_get plan.tasks) (sym same) ∙ fl.0 in let x : other.signed.task ≡ one.signed.task = cc in x)) in
          record {
            number = h.number;
            seat = h.seat;
            runs = other_fate h.number (λ same. apart (sym same)) ∙ h.runs;
            folder_is = h.folder_is;
            flight = subst (λ (b : Book). IsFlight o plan b h.number other) (sym book_longer) (flight_stays o plan Now Own w.reuse h.number other h.flight (own_other h.number other gl apart));
          }

  -- their lines are the same over the longer book
  lines_same : (ts : List ℕ) → AllByRecursion (Flies plan opened) ts → AllByRecursion (λ u. t ≢ u) ts → lines_in_flight o.gives plan (Now ++ Own) ts ≡ Lines ts
  lines_same [] fly ne = refl
  lines_same (u ∷ us) fly ne =
      let one_line = line_stays o plan Now Own w.reuse u fly.0.0 (flight_of o plan tale opened w u fly.0.0 fly.0.1) (own_other u fly.0.0 fly.0.1 ne.0) in
      let rest = lines_same us fly.1 ne.1 in
      λ i. one_line i ++ rest i

  fly_later : (ts : List ℕ) → AllByRecursion (Flies plan opened) ts → AllByRecursion (λ u. t ≢ u) ts → AllByRecursion (Flies plan later) ts
  fly_later [] fly ne = tt
  fly_later (u ∷ us) fly ne = (still_flies u ne.0 fly.0, fly_later us fly.1 ne.1)

  -- ---- images

  -- with the lines of others, behind the longer book
  with_others : (image : Store) (ts : List ℕ) → AllByRecursion (Flies plan opened) ts → AreOnce ts → AllByRecursion (λ u. t ≢ u) ts → IsValid o.gives o.reading image ((Now ++ Own) ++ Lines ts) → IsValidWith o plan (tale ++ entry ∷ []) later image
  with_others image ts fly once ne v = record {
    in_flight = ts;
    fly = fly_later ts fly ne;
    once = once;
    valid = subst (IsValid o.gives o.reading image) (
        ap (λ (b : Book). (Now ++ Own) ++ b) (sym (lines_same ts fly ne)) ∙ ap (λ (b : Book). b ++ lines_in_flight o.gives plan b ts) (sym book_longer)
        ) v;
  }

  -- An image in which all that the stamp tells of is there is valid with the longer book, and some lines of the others.
  pub valid_longer : (image : Store) → IsPublished (publication (rows_of (book_after o.gives plan o.book tale)) one.signed one.tree) image → IsValidWith o plan tale opened image → IsValidWith o plan (tale ++ entry ∷ []) later image
  valid_longer image published v = elim (split_out t v.in_flight) [
    | inl ne ↦ with_others image v.in_flight v.fly v.once ne (subst (λ (b : Book). IsValid o.gives o.reading image (b ++ Lines v.in_flight)) (no_own ne) v.valid)
    | inr it ↦
        let front = it.0 in
        let back = it.1 in
        let fly = subst (AllByRecursion (Flies plan opened)) it.2 v.fly in
        let once = once_without front t back (subst AreOnce it.2 v.once) in
        let fly' = each_without (Flies plan opened) front t back fly in
        let was : IsValid o.gives o.reading image (Now ++ (Lines front ++ (Own ++ Lines back))) = subst (IsValid o.gives o.reading image) (ap (λ (b : Book). Now ++ b) (ap Lines it.2 ∙ lines_append o plan Now front (t ∷ back))) v.valid in
        let again : IsValidBook o.gives o.reading (Now ++ (Own ++ (Lines front ++ Lines back))) = subst (λ (b : Book). IsValidBook o.gives o.reading (Now ++ (Own ++ b))) (lines_append o plan Now front back)
        (choice_valid o plan tale opened w (t ∷ (front ++ back)) ((one, fl), fly') (once.1, once.0)) in
        let now = same_valid o image (Now ++ (Lines front ++ (Own ++ Lines back))) (Now ++ (Own ++ (Lines front ++ Lines back))) was again (moved_lines Now (Lines front) Own (Lines back)) in
        with_others image (front ++ back) fly' once.0 once.1
        (subst (IsValid o.gives o.reading image) (sym (append_assoc Now Own (Lines front ++ Lines back)) ∙ ap (λ (b : Book). (Now ++ Own) ++ b) (sym (lines_append o plan Now front back))) now)
  ]
    where
      -- where the line isn't among those in flight the task puts none
      no_own : AllByRecursion (λ u. t ≢ u) v.in_flight → Now ≡ Now ++ Own
      no_own ne = elim line.stands [
        | inl known ↦ sym (ap (λ (b : Book). Now ++ b) (own_is ∙ known.1) ∙ append-nil Now)
        | inr new ↦ absurd (
            let none = no_record_yet o plan tale opened w t one fl false image v.in_flight v.valid (line_stays_valid o.gives o.reading Now (Lines v.in_flight) line.line w.reuse.valid new.0 (two_besides o plan tale opened w t one fl line.line line.sig v.in_flight v.fly ne)) in
            let n : None ≡ Some p.file = sym none ∙ published.stored in cc
            )
      ]

  -- ---- the task stands

  rows_are : rows_after o plan Longer ≡ rows_of (Now ++ line.more)
  rows_are = ap rows_of (book_longer ∙ ap (λ (b : Book). Now ++ b) own_is)

  same_own : (x : Signed) → signed_after o plan Longer t ≡ Some x → one.signed ≡ x
  same_own x is =
      let is' = subst (λ (r : List EquivRow). slice_get (signatures r plan.tasks) t ≡ Some x) rows_are is in
      let sig = sym (signatures_stay o.gives o.reading o.story.held Now line.more plan.tasks w.reuse t one.signed x flight.signed is' flight.needs) in
      let task = sym (signed_task (rows_after o plan Longer) plan.tasks t x one.signed.task is fl.0) in
      λ i. record { task = task i; sig = sig i }

  -- its name has a row
  pub own_row : row_at (rows_after o plan (tale ++ entry ∷ [])) (name_of one.signed.sig) ≡ Some (row_of line.line)
  own_row = ap (λ (r : List EquivRow). row_at r (name_of one.signed.sig)) rows_are ∙ line.row

  pub row_there : row_at (rows_after o plan (tale ++ entry ∷ [])) (name_of one.signed.sig) ≢ None
  row_there none = let n : None ≡ Some (row_of line.line) = sym none ∙ own_row in cc

  pub rows_longer : rows_with (rows_after o plan tale) one.signed one.tree ≡ rows_after o plan (tale ++ entry ∷ [])
  rows_longer = line.rows ∙ sym rows_are

  own_stands : (image : Store) → IsPublished p image → IsStanding o plan Longer t one.signed.task image
  own_stands image is = record {
    built = flight.clean.0;
    is_built = flight.clean.1;
    stored = λ x at_x. subst (λ (y : Signed). HasOwnRow (rows_after o plan Longer) y) (same_own x at_x) (record { row = row_of line.line; is_row = own_row; pn = line.pn; task = line.task });
    work = record { tree = one.tree; clean = flight.clean.2; holds = is.work };
    tree = flight.is_tree;
    stays = λ kept x at_x. subst (λ (y : Signed). IsInWork image (rows_after o plan Longer) y) (same_own x at_x) (record {
      kept = kept;
      row = row_of line.line;
      stored = record { is_row = own_row; sig = ap signature_bytes line.sig };
      stamp = is.stamp;
      folder = record { tree = one.tree; is_tree = flight.is_tree; holds = is.work; manifest = line.manifest };
    });
    shared = λ sstate ended x at_x. subst (λ (y : Signed). HoldsClean image (object_folder (uni (rows_after o plan Longer) (name_of y.sig))) flight.clean.0) (same_own x at_x) (record {
      tree = one.tree;
      clean = flight.clean.2;
      holds = subst (λ (h : Hash). HoldsTree (object_folder h) one.tree image) (sym (ap (unihash_or (name_of one.signed.sig)) own_row ∙ line.unihash))
          (is.shared (unihash_for (rows_of Now) one.signed one.tree) (ap (λ (b : Bool). if b then Some (unihash_for (rows_of Now) one.signed one.tree) else None) sstate));
    });
  }

  -- Each settled task stands, the task itself too.
  pub stands_longer : (image : Store) → IsPublished (publication (rows_of (book_after o.gives plan o.book tale)) one.signed one.tree) image → AllStand o plan tale image → AllStand o plan (tale ++ entry ∷ []) image
  stands_longer image published stands u other at_u settled = elim (cases_eq u t) [
    | inl same ↦
        let e : Some other ≡ Some one.signed.task = sym at_u ∙ ap (slice_get plan.tasks) same ∙ fl.0 in
        let alike : one.signed.task ≡ other = cc in
        subst (λ (x : PlanTask). IsStanding o plan Longer u x image) alike (subst (λ (n : ℕ). IsStanding o plan Longer n one.signed.task image) (sym same) (own_stands image published))
    | inr ne ↦ standing_grown o plan tale Longer Own w.reuse book_longer u other image (ended_back u ne) (stands u other at_u (settled_back u ne settled))
  ]

  -- ---- objects

  -- the objects of tasks that haven't ended, and of which nothing is open, are as they were when the run began
  pub objects_longer : (image : Store) → KeepOtherObjects o plan tale opened image → KeepOtherObjects o plan (tale ++ entry ∷ []) later image
  objects_longer image were u other at_u not_yet on_ground l has pn name q below = elim (has_either Now Own it.0 l it.1) [
    | inl known ↦ were u other at_u open_u.1 (λ flies. on_ground (still_flies u (λ same. open_u.0 (sym same)) flies)) l known pn name q below
    | inr own ↦
        let sig = Rattle.run_queue.proofs.Joining.line_has (HasSig one.signed.sig) Own l (line_named o plan Now w.reuse t one flight) own in
        let mine = Rattle.run_queue.proofs.OwnNames.has_own_name (rows_of Now) plan.tasks t one.signed flight.signed in
        absurd (differ_at plan w.may.sound u t other one.signed.task at_u fl.0 open_u.0 (sym pn ∙ ap (λ g. g.pn) sig ∙ mine.0) (sym name ∙ ap (λ g. g.task) sig ∙ mine.1))
  ]
    where
      it : HasLine (Now ++ Own) l
      it = subst (λ (b : Book). HasLine b l) book_longer has

      open_u : (u ≡ t → ⊥) × (HasEnded plan tale u → ⊥)
      open_u = open_before u not_yet

  -- ---- the run goes on

  -- the plan may reuse the longer book
  reusable_longer : HasNoCollision (Now ++ line.more) (rows_of (Now ++ line.more)) plan.tasks → MayReuse o.gives o.reading o.story.held (Now ++ line.more) plan.tasks
  reusable_longer clear = elim line.stands [
    | inl known ↦ subst (λ (b : Book). MayReuse o.gives o.reading o.story.held b plan.tasks) (sym (ap (λ (b : Book). Now ++ b) known.1 ∙ append-nil Now)) w.reuse
    | inr new ↦ reuse_goes_on o.gives o.reading o.story.held Now plan.tasks w.reuse t one.signed flight.clean.0 flight.signed flight.clean.1 flight.needs one.tree flight.clean.2 new.2 (Now ++ line.more)
        (ap (λ (b : Book). Now ++ b) new.1 ∙ ap (λ (l : Line). Now ++ l ∷ []) new.3) clear
  ]

  pub goes_on : EachAfter (IsOrderly plan.tasks) (tale ++ entry ∷ []) → HasNoCollision (book_after o.gives plan o.book (tale ++ entry ∷ [])) (rows_after o plan (tale ++ entry ∷ [])) plan.tasks → IsUnderWay o plan (tale ++ entry ∷ []) later
  goes_on orderly clear =
      let book : book_after o.gives plan o.book (tale ++ entry ∷ []) ≡ Now ++ line.more = book_longer ∙ ap (λ (b : Book). Now ++ b) own_is in
      record {
        may = w.may;
        orderly = orderly;
        lines = w.lines ++ Own;
        grown = book_longer ∙ ap (λ (b : Book). b ++ Own) w.grown ∙ append_assoc o.book w.lines Own;
        readable = subst (AllByRecursion IsReadable) (sym book_longer) (each_append IsReadable Now Own w.readable (line_readable o plan Now w.reuse t one flight));
        reuse = subst (λ (b : Book). MayReuse o.gives o.reading o.story.held b plan.tasks) (sym book)
            (reusable_longer (subst (λ (b : Book). HasNoCollision b (rows_of b) plan.tasks) book clear));
        flights = flights_longer;
      }

-- ---- since each event

pub stand_to_longer : LandingStandsTo
stand_to_longer o plan tale entry b at stands now k x here lt image since = elim (front_at tale k here) [
  | inl f ↦ subst (λ (l : List Logged). AllStand o plan l image) (sym (take-append-le (k + 1) tale (entry ∷ []) (let w = slice_get_within tale k x f in omega (arith, w)))) (stands k x f lt image since)
  | inr l ↦
      let is_at : x.moment ≡ min (moment b) (2 ^ 64 - 1) = ap (λ (y : Logged). y.moment) l.1 ∙ at in
      let this : x.moment ≡ moment b = is_at ∙ (let below : min (moment b) (2 ^ 64 - 1) < 2 ^ 64 - 1 = subst (λ (n : ℕ). n < 2 ^ 64 - 1) is_at lt in omega (arith, below)) in
      let image_now : IsImage b image = since-now b image (subst (λ (n : ℕ). IsImageSince b n image) this since) in
      let whole : take (k + 1) (tale ++ entry ∷ []) ≡ tale ++ entry ∷ [] = take_all (k + 1) (tale ++ entry ∷ []) (omega (arith, l.0, length-append tale (entry ∷ []))) in
      subst (λ (y : List Logged). AllStand o plan y image) (sym whole) (now image image_now)
]
  where
    front_at : (xs : List Logged) (j : ℕ) → slice_get (xs ++ entry ∷ []) j ≡ Some x → (slice_get xs j ≡ Some x) ⊎ ((j ≡ length xs) × (x ≡ entry))
    front_at [] zero h = inr (refl, let e : Some entry ≡ Some x = h in cc)
    front_at [] (suc j) h = absurd (cc)
    front_at (y ∷ xs) zero h = inl h
    front_at (y ∷ xs) (suc j) h = elim (front_at xs j h) [ inl f ↦ inl f | inr l ↦ inr (ap suc l.0, l.1) ]
