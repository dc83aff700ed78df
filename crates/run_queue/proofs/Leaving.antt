-- What a crash leaves of a run through a turn of an open publication, and what stands in it.
use Rattle.std.proofs.Common.{◌≡◌, ◌≢◌, ◌∙◌, sym, ap, subst, refl, ℕ, ◌+◌, ◌≤◌, ◌⊎◌, inl, inr, arith, Bool, true, false, List, [], ◌∷◌, ◌++◌, length, take, Some}
use Rattle.std.specs.Prelude.{codes, Option}
use Rattle.std.specs.List.{slice_get}
use Rattle.std.proofs.lemmas.Bool.{cases_eq, false≢true}
use Rattle.std.proofs.lemmas.List.{take_all}
use Rattle.tree_model.specs.declared.hash.Hash.{Hash}
use Rattle.tree_model.specs.Hash.{hash_text}
use Rattle.tree_model.specs.Path.{IsAtOrBelow}
use Rattle.outside_traits.specs.Passes.{EachNow, Passes}
use Rattle.outside_traits.specs.Store.{IsApart, Store}
use Rattle.outside_traits.specs.Story.{IsImage, Story, moment}
use Rattle.outside_traits.specs.Story as story_of
use Rattle.outside_traits.proofs.Images.{held-image, now-since, since-now}
use Rattle.outside_traits.proofs.Puts.{path_cases}
use Rattle.meta_model.specs.declared.event.Avail.{Avail}
use Rattle.meta_model.specs.declared.event.Logged.{Logged}
use Rattle.meta_model.specs.declared.plan.Plan.{Plan}
use Rattle.meta_model.specs.declared.plan.PlanTask.{PlanTask}
use Rattle.tale_model.specs.Fates.{fate_at, fates_told, is_settled}
use Rattle.store_model.specs.Available.{object_folder}
use Rattle.store_model.specs.Lines.{HasLine}
use Rattle.store_model.specs.Origins.{Book, Line, rows_of}
use Rattle.store_model.specs.Premises.{Differ}
use Rattle.store_model.specs.Publication.{Publication}
use Rattle.store_model.specs.Spelling.{key_name, name_of}
use Rattle.store_model.specs.Valid.{IsValidBook, IsValidLine}
use Rattle.store_model.specs.declared.signature.SigRecord.{SigRecord}
use Rattle.store_model.proofs.Digests.{same_name_text}
use Rattle.store_model.proofs.Standing.{stands_further}
use Rattle.store_opening.specs.Named.{IsName}
use Rattle.store_opening.proofs.Areas.{differ, heads_differ}
use Rattle.store_opening.proofs.Clean.{name_is_name, name_slashes}
use Rattle.build_store.specs.Laws.{IsOfTask}
use Rattle.build_store.specs.Pieces.{IsPublishing as Piece}
use Rattle.build_store.specs.Publication.{Publishes, publication}
use Rattle.build_store.proofs.Apart.{apart_by_count, apart_under, apart_within}
use Rattle.build_store.proofs.Others.{longer_valid, others_untouched, texts_apart}
use Rattle.run_model.specs.Books.{book_after}
use Rattle.run_model.specs.Opening.{Opening}
use Rattle.run_model.specs.Own.{IsAside, IsObjectOfNone, IsUnihashOver}
use Rattle.run_model.specs.Stands.{AllStand, HasStarted, IsSettledIn}
use Rattle.run_queue.specs.Flights.{AreLeft, FliesAs, IsFlight, IsUnderWay, KeepOtherObjects, MayTurn, OpenTask, OpenTasks, StandTo, put_of_turn}
use Rattle.run_queue.specs.Opening.{MayRun}
use Rattle.run_queue.specs.Seen.{IsBegunIn}
use Rattle.run_queue.specs.Stands.{IsAsBegun, IsClearOfStamps, IsLeft, IsPublishing, KeepsFolders}
use Rattle.run_queue.proofs.Aside.{aside_stays, folders_on, in_objects, not_top, object_stays}
use Rattle.run_queue.proofs.Enduring.{differ_at, front_book, keeps_object, standing_on}
use Rattle.run_queue.proofs.Flights.{flight_of, in_hand, runs_now, with_is_read}
use Rattle.run_queue.proofs.Flying.{after_all, ended_alone}
use Rattle.run_queue.proofs.FoldersAbove.{unihash_is_name}
use Rattle.run_queue.proofs.Honest.{honest_stays}
use Rattle.run_queue.proofs.Placing.{has_place}
use Rattle.run_queue.proofs.Putting.{settled_front}
use Rattle.run_queue.proofs.Recorded.{IsPut, which}
use Rattle.run_queue.proofs.Staging.{own_record, put, turn_valid}
use Rattle.run_queue.proofs.Touched.{running_started}

-- what was held as the run began is left by it
left_at_opening : (o : Opening) (plan : Plan) (begun : List (Option Avail)) (tale : List Logged) → MayRun o plan → IsLeft o plan begun tale o.story.held
left_at_opening o plan begun tale may = record {
  count = 0;
  after = ended_alone o plan [] o.story.held may.valid may.readable;
  honest = λ t task at. inl (record { stamp = refl; work = λ q below. refl });
  others = λ t task at none. record { stamp = refl; work = λ q below. refl; objects = λ line has pn name q below. refl };
  paths = λ q aside clear. refl;
  objects = λ line has none q below. refl;
  folders = record { work = λ none. none; objects = λ none. none; parts = λ part plain none. none; top = λ none. none; stamps = λ path ne none. none };
}

-- so is whatever a crash may leave now
pub left_now : (o : Opening) (plan : Plan) (begun : List (Option Avail)) (tale : List Logged) (story : Story) → MayRun o plan → moment o.story ≤ moment story → AreLeft o plan begun tale story → (image : Store) → IsImage story image → IsLeft o plan begun tale image
left_now o plan begun tale story may later left image is = elim (left (moment o.story) image (omega arith) (now-since story (moment o.story) image later is)) [
  | inl before ↦ subst (IsLeft o plan begun tale) (sym (may.durable image (since-now o.story image before))) (left_at_opening o plan begun tale may)
  | inr here ↦ here
]

-- a line's unihash is the name of some signature
named : (o : Opening) (before : Book) (x : Line) → IsValidLine o.gives o.reading before x → (sig : SigRecord) × (x.unihash ≡ name_of sig)
named o before x is = elim is.named [ inl own ↦ (x.sig, own) | inr like ↦ (like.first.sig, like.name) ]

module _ (o : Opening) (plan : Plan) (tale : List Logged) (opened : OpenTasks) (w : IsUnderWay o plan tale opened) (t : ℕ) (one : OpenTask) (fl : FliesAs plan opened t one) (writes : Bool) where
  abbrev Now : Book
  Now = book_after o.gives plan o.book tale

  abbrev p : Publication
  p = put_of_turn (rows_of (book_after o.gives plan o.book tale)) one writes

  abbrev pub line : IsPut o.gives o.reading (book_after o.gives plan o.book tale) (publication (rows_of (book_after o.gives plan o.book tale)) one.signed one.tree) one.signed one.tree
  line = put o plan tale opened w t one fl writes

  of_turn : IsOfTask (put_of_turn (rows_of (book_after o.gives plan o.book tale)) one writes) line.line
  of_turn = record { folder = line.of_task.folder; object = line.of_task.object }

  valid : IsValidBook o.gives o.reading (book_after o.gives plan o.book tale)
  valid = w.reuse.valid

  flight : IsFlight o plan (book_after o.gives plan o.book tale) t one
  flight = flight_of o plan tale opened w t one fl

  which_line : HasLine (book_after o.gives plan o.book tale) line.line ⊎ IsValidLine o.gives o.reading (book_after o.gives plan o.book tale) line.line
  which_line = which o.gives o.reading Now one.signed one.tree line

  started : HasStarted tale t
  started = running_started (length plan.tasks) tale t (in_hand o plan tale opened w t one fl).seat (runs_now o plan tale opened w t one fl)

  rests : is_settled (fate_at (fates_told (length plan.tasks) tale) t) ≡ false
  rests = ap is_settled (runs_now o plan tale opened w t one fl)

  either_or : (u : ℕ) (other : PlanTask) → slice_get plan.tasks u ≡ Some other → (other ≡ one.signed.task) ⊎ Differ other one.signed.task
  either_or u other at_u = elim (cases_eq u t) [
    | inl same ↦ inl (let e : Some other ≡ Some one.signed.task = sym at_u ∙ ap (slice_get plan.tasks) same ∙ fl.0 in cc)
    | inr ne ↦ inr (differ_at plan w.may.sound u t other one.signed.task at_u fl.0 ne)
  ]

  own_name : IsName line.line.unihash
  own_name = elim which_line [
    | inl has ↦ by has.0 (valid has.0 line.line has.1)
    | inr is ↦ by Now is
  ]
    where
      by : (before : Book) → IsValidLine o.gives o.reading before line.line → IsName line.line.unihash
      by before is = let n = named o before line.line is in subst IsName (sym n.1) (name_is_name n.0)

  own_unihash : (unihash : Hash) → unihash ≡ line.line.unihash → IsUnihashOver o.gives plan (rows_of (book_after o.gives plan o.book (take (length tale) tale))) t unihash
  own_unihash unihash same =
      subst (λ (l : List Logged). IsUnihashOver o.gives plan (rows_of (book_after o.gives plan o.book l)) t unihash) (sym (take_all (length tale) tale (omega arith)))
      (record { signed = one.signed; is_signed = flight.signed; tree = one.tree; clean = flight.clean; is = same ∙ line.unihash })

  -- ---- images

  module _ (begun : List (Option Avail)) (is_begun : IsBegunIn begun t) where
    was_not : (u : ℕ) → (IsBegunIn begun u → ⊥) → u ≡ t → ⊥
    was_not u not_begun same = not_begun (is_begun.0, ap (slice_get begun) same ∙ is_begun.1)

    as_begun : (u : ℕ) (other : PlanTask) → slice_get plan.tasks u ≡ Some other → (u ≡ t → ⊥) → (old new : Store) → Publishes p old new → IsAsBegun o.book o.story.held old other → IsAsBegun o.book o.story.held new other
    as_begun u other at_u ne old new publishes was =
        let place = has_place plan t one.signed.task w.may.sound fl.0 in
        let place' = has_place plan u other w.may.sound at_u in
        let stays = others_untouched p one.signed.task other old new place place' (differ_at plan w.may.sound u t other one.signed.task at_u fl.0 ne) refl publishes in
        record {
          stamp = stays.stamp ∙ was.stamp;
          work = λ q below. stays.work q below ∙ was.work q below;
          objects = λ l has pn name q below.
              (keeps_object o plan w.may.sound Now valid p line.line t one.signed.task fl.0 refl of_turn line.pn line.task which_line u other at_u ne l
              (has.0, stands_further Now o.book w.lines has.0 l w.grown has.1) pn name old new publishes).object q below ∙ was.objects l has pn name q below;
        }

    -- what is at a path that is no own one of tasks that are begun
    paths_stay : (old new : Store) (q : List ℕ) → KeepsFolders o.story.held old → KeepsFolders o.story.held new → Publishes p old new → IsAside o.story.held plan (IsBegunIn begun) (IsPublishing begun tale) q → IsClearOfStamps o.story.held q → new q ≡ old q
    paths_stay old new q before folders publishes is clear =
        aside_stays p one.signed.task o.story.held old new q (has_place plan t one.signed.task w.may.sound fl.0) refl publishes before folders w.may.way.objects is.temporary
        (is.folder t one.signed.task fl.0 is_begun)
        (is.above t one.signed.task fl.0 is_begun)
        (λ new_one same. let at = is.output t (is_begun, started) (inl (inr (hash_text (name_of one.signed.sig), same))) in heads_differ (differ 111 114 refl) (sym at.0 ∙ same))
        (λ written same. let at = is.output t (is_begun, started) (inr (inl (inr (hash_text (key_name one.signed.sig.key), same)))) in heads_differ (differ 111 107 refl) (sym at.0 ∙ same))
        (λ unihash some. (
          name_slashes unihash (subst IsName (sym (line.of_task.object unihash some)) own_name),
          λ below. let at = is.output t (is_begun, started) (inr (inr (in_objects unihash q below))) in not_top unihash (subst (IsAtOrBelow (object_folder unihash)) at.0 below),
        ))
        clear

    -- the object of a line that none put
    objects_stay : (old new : Store) (l : Line) (q : List ℕ) → Publishes p old new → HasLine o.book l → IsObjectOfNone o.gives plan o.book tale (IsPublishing begun tale) l → IsAtOrBelow (object_folder l.unihash) q → new q ≡ old q
    objects_stay old new l q publishes has none below = object_stays p old new l.unihash q publishes (λ own some. subst (λ (h : Hash). IsApart (object_folder h) q) (sym (line.of_task.object own some)) apart) below
      where
        here : HasLine Now l
        here = (has.0, stands_further Now o.book w.lines has.0 l w.grown has.1)

        of_put : (sig : SigRecord) × (line.line.unihash ≡ name_of sig)
        of_put = elim which_line [
          | inl known ↦ named o known.0 line.line (valid known.0 line.line known.1)
          | inr behind ↦ named o Now line.line behind
        ]

        of_line : (sig : SigRecord) × (l.unihash ≡ name_of sig)
        of_line = named o here.0 l (valid here.0 l here.1)

        same_unihash : hash_text l.unihash ≡ hash_text line.line.unihash → l.unihash ≡ line.line.unihash
        same_unihash same = of_line.1 ∙ same_name_text of_line.0 of_put.0 (ap hash_text (sym of_line.1) ∙ same ∙ ap hash_text of_put.1) ∙ sym of_put.1

        own_texts : l.sig.pn ≡ line.line.sig.pn → l.sig.task ≡ line.line.sig.task → IsApart (hash_text line.line.unihash) (hash_text l.unihash)
        own_texts a b =
            apart_by_count (hash_text line.line.unihash) (hash_text l.unihash)
            (name_slashes line.line.unihash own_name ∙ sym (name_slashes l.unihash (unihash_is_name o.gives o.reading Now here.0 l valid here.1)))
            (λ same. none t one.signed.task fl.0 (is_begun, started) (a ∙ line.pn) (b ∙ line.task) (length tale) (own_unihash l.unihash (same_unihash same)))

        other_texts : (l.sig.pn ≡ line.line.sig.pn → l.sig.task ≡ line.line.sig.task → ⊥) → IsApart (hash_text line.line.unihash) (hash_text l.unihash)
        other_texts other = elim which_line [
          | inl known ↦ texts_apart o.gives o.reading Now valid line.line l known here other
          | inr behind ↦ texts_apart o.gives o.reading (Now ++ line.line ∷ []) (longer_valid o.gives o.reading Now line.line valid behind) line.line l
              (Now, record { rest = []; is = refl }) (here.0, stands_further (Now ++ line.line ∷ []) Now (line.line ∷ []) here.0 l refl here.1) other
        ]

        texts : IsApart (hash_text line.line.unihash) (hash_text l.unihash)
        texts = by (path_cases l.sig.pn line.line.sig.pn) (path_cases l.sig.task line.line.sig.task)
          where
            by : (l.sig.pn ≡ line.line.sig.pn) ⊎ (l.sig.pn ≢ line.line.sig.pn) → (l.sig.task ≡ line.line.sig.task) ⊎ (l.sig.task ≢ line.line.sig.task) → IsApart (hash_text line.line.unihash) (hash_text l.unihash)
            by (inl a) (inl b) = own_texts a b
            by (inl a) (inr ne) = other_texts (λ x y. ne y)
            by (inr ne) b = other_texts (λ x y. ne x)

        apart : IsApart (object_folder line.line.unihash) q
        apart = apart_within (object_folder line.line.unihash) (object_folder l.unihash) q (apart_under (codes "obj") (hash_text line.line.unihash) (hash_text l.unihash) texts) below

    -- what an image is that the turn made of one that the run left
    left_put : (old new : Store) → IsLeft o plan begun tale old → MayTurn o plan tale opened one writes old → KeepsFolders o.story.held new → Publishes p old new → IsLeft o plan begun tale new
    left_put old new was v folders publishes = record {
      count = length tale;
      after = after_all o plan tale new (with_is_read o plan tale opened w new (turn_valid o plan tale opened w t one fl writes old new v publishes));
      honest = λ u other at_u. honest_stays p o.story.held old new one.signed.task other (has_place plan t one.signed.task w.may.sound fl.0) (has_place plan u other w.may.sound at_u) refl (either_or u other at_u) publishes
          (λ is_new. own_record o plan tale opened w t one fl writes old v.with_lines) (was.honest u other at_u);
      others = λ u other at_u not_begun. as_begun u other at_u (was_not u not_begun) old new publishes (was.others u other at_u not_begun);
      paths = λ q aside clear. paths_stay old new q was.folders folders publishes aside clear ∙ was.paths q aside clear;
      objects = λ l has none q below. objects_stay old new l q publishes has none below ∙ was.objects l has none q below;
      folders = folders;
    }

    -- Whatever a crash left by now is left by the run.
    pub left_after : (a b : Story) → story_of.IsSound a → moment o.story ≤ moment a → Passes a b (Piece (put_of_turn (rows_of (book_after o.gives plan o.book tale)) one writes) a.held) → EachNow a (MayTurn o plan tale opened one writes) → AreLeft o plan begun tale a → AreLeft o plan begun tale b
    left_after a b sound later pass with left from image le since = elim (pass.since from image (omega (arith, le, later)) since) [
      | inl past ↦ left from image le past
      | inr made ↦ inr (left_put made.0 image (now made.0 made.1) (with made.0 made.1)
          (folders_on p o.story.held a.held made.0 image one.signed.task (has_place plan t one.signed.task w.may.sound fl.0) refl made.2.others (now a.held (held-image a sound)).folders (now made.0 made.1).folders) made.2.own)
    ]
      where
        now : (i : Store) → IsImage a i → IsLeft o plan begun tale i
        now i is = left_now o plan begun tale a w.may later left i is

  -- ---- settled tasks

  not_settled : (k u : ℕ) → IsSettledIn plan (take k tale) u → u ≡ t → ⊥
  not_settled k u settled same =
      false≢true (sym rests ∙ subst (λ (n : ℕ). is_settled (fate_at (fates_told (length plan.tasks) tale) n) ≡ true) same (settled_front plan.tasks tale w.orderly u k settled))

  all_stay : (k : ℕ) (held old new : Store) → Piece p held old new → AllStand o plan (take k tale) held → AllStand o plan (take k tale) old → AllStand o plan (take k tale) new
  all_stay k held old new piece h st u other at_u settled =
      let f = front_book o.gives plan o.book tale k in
      standing_on o plan w.may.sound Now valid p line.line t one.signed.task fl.0 refl of_turn line.pn line.task which_line
      (take k tale) f.0 f.1 u other at_u (not_settled k u settled) held old old new piece.own piece.others
      (h u other at_u settled) (st u other at_u settled) (st u other at_u settled)

  -- Settled tasks stand in each image now.
  pub stand_now : (a b : Story) → story_of.IsSound a → Passes a b (Piece (put_of_turn (rows_of (book_after o.gives plan o.book tale)) one writes) a.held) → EachNow a (AllStand o plan tale) → EachNow b (AllStand o plan tale)
  stand_now a b sound pass stands image is =
      let whole : take (length tale) tale ≡ tale = take_all (length tale) tale (omega arith) in
      let on = λ (i : Store) (x : IsImage a i). subst (λ (l : List Logged). AllStand o plan l i) (sym whole) (stands i x) in
      let made = pass.now image is in
      subst (λ (l : List Logged). AllStand o plan l image) whole (all_stay (length tale) a.held made.0 image made.2 (on a.held (held-image a sound)) (on made.0 made.1))

  -- And those of a front in each image since the moment of its last entry.
  pub stand_since : (a b : Story) → story_of.IsSound a → Passes a b (Piece (put_of_turn (rows_of (book_after o.gives plan o.book tale)) one writes) a.held) → StandTo o plan tale a → ((k : ℕ) (entry : Logged) → slice_get tale k ≡ Some entry → entry.moment ≤ moment a) → StandTo o plan tale b
  stand_since a b sound pass stands marked k entry here lt image since = elim (pass.since entry.moment image (marked k entry here) since) [
    | inl past ↦ stands k entry here lt image past
    | inr made ↦ all_stay (k + 1) a.held made.0 image made.2 (now a.held (held-image a sound)) (now made.0 made.1)
  ]
    where
      now : (i : Store) → IsImage a i → AllStand o plan (take (k + 1) tale) i
      now i is = stands k entry here lt i (now-since a entry.moment i (marked k entry here) is)

  -- ---- objects

  pub objects_now : (a b : Story) → Passes a b (Piece (put_of_turn (rows_of (book_after o.gives plan o.book tale)) one writes) a.held) → EachNow a (KeepOtherObjects o plan tale opened) → EachNow b (KeepOtherObjects o plan tale opened)
  objects_now a b pass were image is u other at_u not_yet on_ground l has pn name q below =
      let made = pass.now image is in
      (keeps_object o plan w.may.sound Now valid p line.line t one.signed.task fl.0 refl of_turn line.pn line.task which_line u other at_u
      (λ same. on_ground (one, (subst (λ (n : ℕ). slice_get plan.tasks n ≡ Some one.signed.task) (sym same) fl.0, fl.1))) l has pn name made.0 image made.2.own).object q below
      ∙ were made.0 made.1 u other at_u not_yet on_ground l has pn name q below
