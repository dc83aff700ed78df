-- A task is restored while publications of others are open.
use Rattle.std.proofs.Common.{◌≡◌, ◌∙◌, sym, ap, subst, refl, ℕ, ◌+◌, ◌≤◌, ◌⊎◌, inl, inr, arith, true, false, List, [], length, take, Some, None}
use Rattle.std.specs.Prelude.{Option}
use Rattle.std.specs.List.{slice_get}
use Rattle.std.proofs.lemmas.Bool.{cases_eq, false≢true}
use Rattle.std.proofs.lemmas.List.{take_all}
use Rattle.tree_model.specs.Path.{inside}
use Rattle.outside_traits.specs.Passes.{EachNow, Passes}
use Rattle.outside_traits.specs.Store.{Store}
use Rattle.outside_traits.specs.Story.{IsImage, IsImageSince, Story, moment}
use Rattle.outside_traits.specs.Story as story_of
use Rattle.outside_traits.proofs.Images.{held-image, now-since}
use Rattle.meta_model.specs.declared.event.Avail.{Avail}
use Rattle.meta_model.specs.declared.event.Logged.{Logged}
use Rattle.meta_model.specs.declared.plan.Plan.{Plan}
use Rattle.meta_model.specs.declared.plan.PlanTask.{PlanTask}
use Rattle.tale_model.specs.Fates.{fate_at, fates_told, is_settled}
use Rattle.store_model.specs.Available.{task_folder}
use Rattle.store_model.specs.Origins.{Book, rows_of}
use Rattle.store_model.specs.Premises.{Differ}
use Rattle.store_model.specs.Signatures.{Signed, signatures}
use Rattle.store_model.proofs.Standing.{stands_further}
use Rattle.build_store.specs.Laws.{IsOfTask}
use Rattle.build_store.specs.Publication.{KeepsOthers, Restores, RestoresObject, restoration}
use Rattle.build_store.proofs.Others.{others_untouched}
use Rattle.run_model.specs.Books.{book_after}
use Rattle.run_model.specs.Opening.{Opening}
use Rattle.run_model.specs.Own.{IsAside}
use Rattle.run_model.specs.Stands.{AllStand}
use Rattle.run_queue.specs.FlightLaws.{RestoringLeaves}
use Rattle.run_queue.specs.Flights.{AreLeft, IsUnderWay, IsValidWith, KeepOtherObjects, OpenTasks, StandTo}
use Rattle.run_queue.specs.Seen.{IsBegunIn}
use Rattle.run_queue.specs.Stands.{IsAsBegun, IsClearOfStamps, IsLeft, IsPublishing, KeepsFolders}
use Rattle.run_queue.proofs.Aside.{aside_stays, folders_on, in_objects, object_stays}
use Rattle.run_queue.proofs.Enduring.{differ_at, front_book, keeps_object, standing_on}
use Rattle.run_queue.proofs.Flights.{with_is_read}
use Rattle.run_queue.proofs.Flying.{after_all}
use Rattle.run_queue.proofs.Honest.{honest_stays}
use Rattle.run_queue.proofs.Leaving.{left_now}
use Rattle.run_queue.proofs.Meanwhile.{still_valid}
use Rattle.run_queue.proofs.Placing.{has_place}
use Rattle.run_queue.proofs.OfRows.{HasRow, has_row}
use Rattle.run_queue.proofs.Putting.{settled_front}

module _ (o : Opening) (plan : Plan) (tale : List Logged) (opened : OpenTasks) (w : IsUnderWay o plan tale opened) (t : ℕ) (s : Signed) (at : slice_get plan.tasks t ≡ Some s.task) (is_s : slice_get (signatures (rows_of (book_after o.gives plan o.book tale)) plan.tasks) t ≡ Some s)
    (rests : is_settled (fate_at (fates_told (length plan.tasks) tale) t) ≡ false) (held : Store) where
  abbrev Now : Book
  Now = book_after o.gives plan o.book tale

  abbrev Puts : Store → Store → Type 0
  Puts old new = RestoresObject held (rows_of (book_after o.gives plan o.book tale)) s old new

  line_of : (old new : Store) (r : Puts old new) → HasRow Now s r.row
  line_of old new r = has_row o.gives o.reading o.story.held Now plan.tasks w.reuse t s is_s r.row r.object.stored.is_row

  of_task : (old new : Store) (r : Puts old new) → IsOfTask (restoration s r.row r.tree) (line_of old new r).line
  of_task old new r = let l = line_of old new r in record {
    folder = λ i. inside (sym l.pn i) (sym l.task i);
    object = λ unihash is. absurd (let n : None ≡ Some unihash = is in cc);
  }

  either_or : (u : ℕ) (other : PlanTask) → slice_get plan.tasks u ≡ Some other → (other ≡ s.task) ⊎ Differ other s.task
  either_or u other at_u = elim (cases_eq u t) [
    | inl same ↦ inl (let e : Some other ≡ Some s.task = sym at_u ∙ ap (slice_get plan.tasks) same ∙ at in cc)
    | inr ne ↦ inr (differ_at plan w.may.sound u t other s.task at_u at ne)
  ]

  -- ---- images

  module _ (begun : List (Option Avail)) (is_begun : IsBegunIn begun t) where
    was_not : (u : ℕ) → (IsBegunIn begun u → ⊥) → u ≡ t → ⊥
    was_not u not_begun same = not_begun (is_begun.0, ap (slice_get begun) same ∙ is_begun.1)

    as_begun : (old new : Store) (r : Puts old new) (u : ℕ) (other : PlanTask) → slice_get plan.tasks u ≡ Some other → (u ≡ t → ⊥) → IsAsBegun o.book o.story.held old other → IsAsBegun o.book o.story.held new other
    as_begun old new r u other at_u ne past =
        let place = has_place plan t s.task w.may.sound at in
        let place' = has_place plan u other w.may.sound at_u in
        let stays = others_untouched (restoration s r.row r.tree) s.task other old new place place' (differ_at plan w.may.sound u t other s.task at_u at ne) refl r.publishes in
        let l = line_of old new r in
        record {
          stamp = stays.stamp ∙ past.stamp;
          work = λ q below. stays.work q below ∙ past.work q below;
          objects = λ x has pn name q below.
              (keeps_object o plan w.may.sound Now w.reuse.valid (restoration s r.row r.tree) l.line t s.task at refl (of_task old new r) l.pn l.task (inl (l.before, l.stands)) u other at_u ne x
              (has.0, stands_further Now o.book w.lines has.0 x w.grown has.1) pn name old new r.publishes).object q below ∙ past.objects x has pn name q below;
        }

    paths_stay : (old new : Store) (q : List ℕ) → Puts old new → KeepsFolders o.story.held old → KeepsFolders o.story.held new → IsAside o.story.held plan (IsBegunIn begun) (IsPublishing begun tale) q → IsClearOfStamps o.story.held q → new q ≡ old q
    paths_stay old new q r before folders is clear =
        aside_stays (restoration s r.row r.tree) s.task o.story.held old new q (has_place plan t s.task w.may.sound at) refl r.publishes before folders w.may.way.objects is.temporary
        (is.folder t s.task at is_begun)
        (is.above t s.task at is_begun)
        (λ new_one. absurd (false≢true new_one))
        (λ writes. absurd (false≢true writes))
        (λ unihash some. absurd (let n : None ≡ Some unihash = some in cc))
        clear

    left_put : (old new : Store) → IsLeft o plan begun tale old → IsValidWith o plan tale opened old → KeepsFolders o.story.held new → Puts old new → IsLeft o plan begun tale new
    left_put old new was v folders r = record {
      count = length tale;
      after = after_all o plan tale new (with_is_read o plan tale opened w new (still_valid o plan tale opened (restoration s r.row r.tree) old new refl refl r.publishes v));
      honest = λ u other at_u. honest_stays (restoration s r.row r.tree) o.story.held old new s.task other (has_place plan t s.task w.may.sound at) (has_place plan u other w.may.sound at_u) refl (either_or u other at_u) r.publishes
          (λ new_one. absurd (false≢true new_one)) (was.honest u other at_u);
      others = λ u other at_u not_begun. as_begun old new r u other at_u (was_not u not_begun) (was.others u other at_u not_begun);
      paths = λ q is clear. paths_stay old new q r was.folders folders is clear ∙ was.paths q is clear;
      objects = λ l has free q below. object_stays (restoration s r.row r.tree) old new l.unihash q r.publishes (λ own some. absurd (let n : None ≡ Some own = some in cc)) below ∙ was.objects l has free q below;
      folders = folders;
    }

    pub left_beside : (a b : Story) → a.held ≡ held → story_of.IsSound a → moment o.story ≤ moment a → Passes a b (Restores held (rows_of (book_after o.gives plan o.book tale)) s) → Passes a b (KeepsOthers (task_folder s.task) None held) → EachNow a (IsValidWith o plan tale opened) → AreLeft o plan begun tale a → AreLeft o plan begun tale b
    left_beside a b is_held sound later pass aside with left from image le since = by (pass.since from image come since) (aside.since from image come since)
      where
        come : from ≤ moment a
        come = omega (arith, le, later)

        now : (i : Store) → IsImage a i → IsLeft o plan begun tale i
        now i is = left_now o plan begun tale a w.may later left i is

        held_folders : KeepsFolders o.story.held held
        held_folders = subst (KeepsFolders o.story.held) is_held (now a.held (held-image a sound)).folders

        put_or : (earlier : Store) → IsImage a earlier → Restores held (rows_of Now) s earlier image → KeepsFolders o.story.held image → IsLeft o plan begun tale image
        put_or earlier is (inl same) folders = subst (IsLeft o plan begun tale) (sym same) (now earlier is)
        put_or earlier is (inr r) folders = left_put earlier image (now earlier is) (with earlier is) folders r

        round : (kept : Store) → IsImage a kept → KeepsOthers (task_folder s.task) None held kept image → KeepsFolders o.story.held image
        round kept is k =
            folders_on (record {
              folder = task_folder s.task;
              name = Rattle.store_model.specs.Spelling.name_of s.sig;
              file = Rattle.tree_model.specs.declared.entry.Entry.TheVariants.File false [];
              is_new = false;
              tree = [];
              object = None;
              key = Rattle.store_model.specs.Spelling.name_of s.sig;
              key_file = Rattle.tree_model.specs.declared.entry.Entry.TheVariants.File false [];
              writes_key = false;
            }) o.story.held held kept image s.task (has_place plan t s.task w.may.sound at) refl k held_folders (now kept is).folders

        by : IsImageSince a from image ⊎ ((earlier : Store) × IsImage a earlier × Restores held (rows_of Now) s earlier image) → IsImageSince a from image ⊎ ((earlier : Store) × IsImage a earlier × KeepsOthers (task_folder s.task) None held earlier image) → IsImageSince o.story from image ⊎ IsLeft o plan begun tale image
        by (inl past) other = left from image le past
        by (inr made) (inl past) = left from image le past
        by (inr made) (inr kept) = inr (put_or made.0 made.1 made.2 (round kept.0 kept.1 kept.2))

  -- ---- settled tasks

  standing_put : (n : ℕ) (earlier kept image : Store) → Restores held (rows_of Now) s earlier image → KeepsOthers (task_folder s.task) None held kept image → AllStand o plan (take n tale) held → AllStand o plan (take n tale) earlier → AllStand o plan (take n tale) kept → AllStand o plan (take n tale) image
  standing_put n earlier kept image (inl same) keeps h st e = subst (λ (i : Store). AllStand o plan (take n tale) i) (sym same) st
  standing_put n earlier kept image (inr r) keeps h st e = λ u other at_u settled.
      let f = front_book o.gives plan o.book tale n in
      let l = line_of earlier image r in
      let ne : u ≡ t → ⊥ = λ same. false≢true (sym rests ∙ subst (λ (m : ℕ). is_settled (fate_at (fates_told (length plan.tasks) tale) m) ≡ true) same (settled_front plan.tasks tale w.orderly u n settled)) in
      standing_on o plan w.may.sound Now w.reuse.valid (restoration s r.row r.tree) l.line t s.task at refl (of_task earlier image r) l.pn l.task (inl (l.before, l.stands))
      (take n tale) f.0 f.1 u other at_u ne held earlier kept image r.publishes keeps
      (h u other at_u settled) (st u other at_u settled) (e u other at_u settled)

  module _ (a b : Story) (is_held : a.held ≡ held) (sound : story_of.IsSound a) (pass : Passes a b (Restores held (rows_of (book_after o.gives plan o.book tale)) s)) (aside : Passes a b (KeepsOthers (task_folder s.task) None held)) where
    held_now : (P : Store → Type 0) → EachNow a P → P held
    held_now P each = subst P is_held (each a.held (held-image a sound))

    pub stand_beside : EachNow a (AllStand o plan tale) → EachNow b (AllStand o plan tale)
    stand_beside stands image is =
        let whole : take (length tale) tale ≡ tale = take_all (length tale) tale (omega arith) in
        let on = λ (i : Store) (x : IsImage a i). subst (λ (l : List Logged). AllStand o plan l i) (sym whole) (stands i x) in
        let made = pass.now image is in
        let kept = aside.now image is in
        subst (λ (l : List Logged). AllStand o plan l image) whole
        (standing_put (length tale) made.0 kept.0 image made.2 kept.2 (held_now (AllStand o plan (take (length tale) tale)) on) (on made.0 made.1) (on kept.0 kept.1))

    pub since_beside : ((k : ℕ) (entry : Logged) → slice_get tale k ≡ Some entry → entry.moment ≤ moment a) → StandTo o plan tale a → StandTo o plan tale b
    since_beside marked stands n entry here lt image since = by (pass.since entry.moment image (marked n entry here) since) (aside.since entry.moment image (marked n entry here) since)
      where
        before : (i : Store) → IsImage a i → AllStand o plan (take (n + 1) tale) i
        before i is = stands n entry here lt i (now-since a entry.moment i (marked n entry here) is)

        by : IsImageSince a entry.moment image ⊎ ((earlier : Store) × IsImage a earlier × Restores held (rows_of Now) s earlier image) → IsImageSince a entry.moment image ⊎ ((earlier : Store) × IsImage a earlier × KeepsOthers (task_folder s.task) None held earlier image) → AllStand o plan (take (n + 1) tale) image
        by (inl past) other = stands n entry here lt image past
        by (inr made) (inl past) = stands n entry here lt image past
        by (inr made) (inr kept) = standing_put (n + 1) made.0 kept.0 image made.2 kept.2 (held_now (AllStand o plan (take (n + 1) tale)) before) (before made.0 made.1) (before kept.0 kept.1)

    pub objects_beside : EachNow a (KeepOtherObjects o plan tale opened) → EachNow b (KeepOtherObjects o plan tale opened)
    objects_beside were image is u other at_u not_yet on_ground line has pn name q below =
        let made = aside.now image is in
        made.2.objects q (in_objects line.unihash q below) (λ unihash e. absurd (let n : None ≡ Some unihash = e in cc)) ∙ were made.0 made.1 u other at_u not_yet on_ground line has pn name q below

pub restoring_leaves : RestoringLeaves
restoring_leaves o plan tale opened w t s at is_s rests begun is_begun a b sound later marked pass aside = (
  λ with left. left_beside o plan tale opened w t s at is_s rests a.held begun is_begun a b refl sound later pass aside with left,
  λ stands. stand_beside o plan tale opened w t s at is_s rests a.held a b refl sound pass aside stands,
  λ since. since_beside o plan tale opened w t s at is_s rests a.held a b refl sound pass aside marked since,
  λ were. objects_beside o plan tale opened w t s at is_s rests a.held a b refl sound pass aside were,
)
