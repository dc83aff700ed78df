-- What a run keeps while a task is restored from its object.
use Rattle.std.proofs.Common.{◌≡◌, ◌∙◌, sym, ap, subst, refl, ℕ, inl, inr, arith, false, List, length, Some, None, Ok}
use Rattle.std.specs.Prelude.{Contains, Option}
use Rattle.std.specs.List.{slice_get}
use Rattle.std.proofs.lemmas.Bool.{cases_eq}
use Rattle.std.proofs.lemmas.List.{length-map}
use Rattle.std.proofs.lemmas.Option.{slice_get_within}
use Rattle.tree_model.specs.Path.{IsAtOrBelow, IsBelow}
use Rattle.outside_traits.specs.Passes.{Passes}
use Rattle.outside_traits.specs.Store.{Store}
use Rattle.outside_traits.specs.Story.{IsImage, Story, moment}
use Rattle.outside_traits.specs.Story as story_of
use Rattle.outside_traits.proofs.Images.{held-image, now-since}
use Rattle.meta_model.specs.declared.event.Avail.{Avail}
use Rattle.meta_model.specs.declared.event.Avail.TheVariants as avail
use Rattle.meta_model.specs.declared.plan.PlanTask.{PlanTask}
use Rattle.meta_model.specs.CleanBuild.{Built, Entries, clean_build}
use Rattle.meta_model.proofs.Building.{all_tasks}
use Rattle.tale_model.specs.declared.fate.Fate.TheVariants as fate
use Rattle.run_core.specs.declared.next.Next.TheVariants as next
use Rattle.run_core.specs.Choice.{MayAnswer}
use Rattle.tale_model.specs.Fates.{fate_at, fates_told, is_settled}
use Rattle.tale_model.specs.History.{EachAfter}
use Rattle.run_core.specs.History.{IsOrderly}
use Rattle.tale_model.specs.Need.{IsIn}
use Rattle.store_model.specs.declared.signature.EquivRow.{EquivRow}
use Rattle.store_model.specs.Available.{IsInObject, object_folder, task_folder}
use Rattle.store_model.specs.Origins.{rows_of}
use Rattle.store_model.specs.Reuse.{MayReuse}
use Rattle.store_model.specs.Rows.{row_at}
use Rattle.store_model.specs.Signatures.{Signed, signatures}
use Rattle.store_model.specs.Spelling.{name_of}
use Rattle.store_opening.specs.Named.{IsName}
use Rattle.build_store.specs.Publication.{HasNoObject, IsObjectOf, KeepsOthers, Restores}
use Rattle.build_store.specs.View.{OpenViews}
use Rattle.build_store.specs.declared.kept.KeptSig.{KeptSig}
use Rattle.run_model.specs.Opening.{Opening}
use Rattle.run_queue.specs.declared.fault.RunFault.{RunFault}
use Rattle.run_queue.specs.Seen.{Known, Seen}
use Rattle.run_model.specs.Stands.{AllStand, HasEnded}
use Rattle.run_queue.proofs.Agreement.{some_known}
use Rattle.run_queue.proofs.FoldersAbove.{above_object, unihash_is_name}
use Rattle.run_queue.proofs.Passed.{left_since}
use Rattle.run_queue.proofs.ReadyJobs.{task_at}
use Rattle.outside_traits.specs.Passes.{EachNow}
use Rattle.store_model.specs.Available.{IsAvailable}
use Rattle.run_model.specs.InFlight.{RunsAfter}
use Rattle.run_queue.specs.Flights.{AreLeft, Flies, IsValidWith, KeepOtherObjects, OpenTasks, SameOpen, StandTo}
use Rattle.run_queue.specs.Keeps.{IsRun, WasThere}
use Rattle.run_queue.specs.Mends.{AreMends, both}
use Rattle.run_queue.proofs.Beside.{restoring_leaves}
use Rattle.run_queue.proofs.Concluding.{later_moment, none_kept}
use Rattle.run_queue.proofs.Meanwhile.{restoring_keeps_valid, told_by}
use Rattle.run_queue.proofs.OfRows.{HasRow, clean_by_row, has_row}
use Rattle.run_queue.proofs.Opened.{flies_runs, under_way}
use Rattle.run_queue.proofs.OwnNames.{holds_on, signed_task_at}
use Rattle.run_queue.proofs.Putting.{Begins, book_now, more_begun}
use Rattle.run_queue.proofs.Touched.{left_besides}

-- ---- a task whose object was there

-- a task that can be settled, whose output is there as an object, has one since the run began
pub was_object : (o : Opening) (s : Seen) (run : IsRun o s) (k : Known) → s.known ≡ Some k → (t : ℕ) → MayAnswer s.options s.plan.tasks k.need k.avail (fates_told (length s.plan.tasks) s.tale) (next.Settle t) → slice_get k.avail t ≡ Some avail.Object → WasThere o s t avail.Object
was_object o s run k is_known t answer object =
    some_known (λ (x : Known). (u : ℕ) (a : Avail) → IsIn x.need u → (HasEnded s.plan s.tale u → ⊥) → slice_get x.avail u ≡ Some a → WasThere o s u a) s.known k is_known run.there t avail.Object answer.0.needed
    (λ e. let n : fate.Waiting ≡ fate.Ended = sym answer.0.waits ∙ e in cc) object

module _ (o : Opening) (s : Seen) (run : IsRun o s) (sound : story_of.IsSound s.story) (none : s.fault ≡ None) (orderly : EachAfter (IsOrderly s.plan.tasks) s.tale) (may : MayReuse o.gives o.reading o.story.held (book_now o s) s.plan.tasks)
    (t : ℕ) (sg : Signed) (signed : slice_get (signatures s.rows s.plan.tasks) t ≡ Some sg) (waiting : fate_at (fates_told (length s.plan.tasks) s.tale) t ≡ fate.Waiting) (was : WasThere o s t avail.Object) where
  is_sg : slice_get (signatures (rows_of (book_now o s)) s.plan.tasks) t ≡ Some sg
  is_sg = subst (λ (r : List EquivRow). slice_get (signatures r s.plan.tasks) t ≡ Some sg) run.rows signed

  pub at : slice_get s.plan.tasks t ≡ Some sg.task
  at = signed_task_at s.rows s.plan.tasks t sg signed

  not_ended : HasEnded s.plan s.tale t → ⊥
  not_ended e = let n : fate.Waiting ≡ fate.Ended = sym waiting ∙ e in cc

  pub rests : is_settled (fate_at (fates_told (length s.plan.tasks) s.tale) t) ≡ false
  rests = ap is_settled waiting

  pub in_object : IsInObject o.story.held s.rows s.options.setscene sg
  in_object = (was sg signed).1

  pub built : (b : Built) × (slice_get (clean_build o.gives s.plan.tasks) t ≡ Some b)
  built =
      let long : length (clean_build o.gives s.plan.tasks) ≡ length s.plan.tasks = sym (length-map (clean_build o.gives s.plan.tasks) (λ b. b.task)) ∙ ap (λ (l : List PlanTask). length l) (all_tasks o.gives s.plan.tasks) in
      task_at (clean_build o.gives s.plan.tasks) t (let w = slice_get_within s.plan.tasks t sg.task at in omega (arith, w, long))

  pub line_at : (row : EquivRow) → row_at s.rows (name_of sg.sig) ≡ Some row → HasRow (book_now o s) sg row
  line_at row is = has_row o.gives o.reading o.story.held (book_now o s) s.plan.tasks may t sg is_sg row (ap (λ (r : List EquivRow). row_at r (name_of sg.sig)) (sym run.rows) ∙ is)

  -- it waits, so no publication of it is open
  waits : (seat : ℕ) → RunsAfter s.plan s.tale t seat → ⊥
  waits seat runs = let n : fate.Waiting ≡ fate.Running seat = sym waiting ∙ runs in cc

  grounded : Flies s.plan run.opened t → ⊥
  grounded flies = let r = flies_runs o s.plan s.tale run.opened run.may.sound (run.flights none) t flies in waits r.0 r.1

  -- the object in an image is as it was when the run began
  same_object : (image : Store) → IsImage s.story image → (row : EquivRow) → row_at s.rows (name_of sg.sig) ≡ Some row → (q : List ℕ) → IsAtOrBelow (object_folder row.unihash) q → image q ≡ o.story.held q
  same_object image is row at_row q below =
      let r = line_at row at_row in
      run.objects none image is t sg.task at not_ended grounded r.line (r.before, r.stands) r.pn r.task q (subst (λ (x : EquivRow). IsAtOrBelow (object_folder x.unihash) q) (sym r.is_row) below)

  same_above : (image : Store) → IsImage s.story image → (row : EquivRow) → row_at s.rows (name_of sg.sig) ≡ Some row → (q : List ℕ) → IsBelow q (object_folder row.unihash) → image q ≡ o.story.held q
  same_above image is row at_row q below =
      let r = line_at row at_row in
      let name : IsName row.unihash = subst (λ (x : EquivRow). IsName x.unihash) r.is_row (unihash_is_name o.gives o.reading (book_now o s) r.before r.line may.valid r.stands) in
      let left = left_since o s run image (now-since s.story (moment o.story) image run.later is) in
      above_object image row.unihash q (left.folders.objects run.may.way.objects) name below ∙ sym (above_object o.story.held row.unihash q run.may.way.objects name below)

  -- what the store has as the object now it had when the run began, and the other way round
  pub object_then : (image : Store) → IsImage s.story image → (row : EquivRow) (tree : Entries) → IsObjectOf image s.rows sg row tree → IsObjectOf o.story.held s.rows sg row tree
  object_then image is row tree obj = record {
    stored = obj.stored;
    is_tree = obj.is_tree;
    holds = holds_on image o.story.held (object_folder row.unihash) tree (same_object image is row obj.stored.is_row) (same_above image is row obj.stored.is_row) obj.holds;
    manifest = obj.manifest;
  }

  pub object_now : (row : EquivRow) (tree : Entries) → IsObjectOf o.story.held s.rows sg row tree → IsObjectOf s.story.held s.rows sg row tree
  object_now row tree obj =
      let is = held-image s.story sound in
      record {
        stored = obj.stored;
        is_tree = obj.is_tree;
        holds = holds_on o.story.held s.story.held (object_folder row.unihash) tree (λ q below. sym (same_object s.story.held is row obj.stored.is_row q below)) (λ q below. sym (same_above s.story.held is row obj.stored.is_row q below)) obj.holds;
        manifest = obj.manifest;
      }

  -- It is the task's clean output.
  pub object_is_clean : (row : EquivRow) (tree : Entries) → IsObjectOf o.story.held s.rows sg row tree → built.0.outcome ≡ Ok tree
  object_is_clean row tree obj =
      clean_by_row o.gives o.reading o.story.held (book_now o s) s.plan.tasks may t sg built.0 is_sg built.1 row (line_at row obj.stored.is_row) (object_folder row.unihash) tree obj.is_tree obj.holds obj.manifest

  -- So the task has an object.
  pub has_object : HasNoObject s.story.held s.rows sg → ⊥
  has_object no_object =
      let w = in_object in
      no_object w.row w.object.tree (object_now w.row w.object.tree (record { stored = w.stored; is_tree = w.object.is_tree; holds = w.object.holds; manifest = w.object.manifest }))

  -- ---- a turn of its restoring

  module _ (later : Story) (pass : Passes s.story later (Restores s.story.held s.rows sg)) (aside : Passes s.story later (KeepsOthers (task_folder sg.task) None s.story.held)) where
    valid_now : EachNow later (IsValidWith o s.plan s.tale run.opened)
    valid_now = restoring_keeps_valid o s.plan s.tale run.opened s.story.held s.rows sg s.story later pass (run.durable none)

    module _ (begun : List (Option Avail)) (begins : Begins s.begun begun t) (is_object : slice_get begun t ≡ Some (Some avail.Object)) where
      law : (EachNow s.story (IsValidWith o s.plan s.tale run.opened) → AreLeft o s.plan begun s.tale s.story → AreLeft o s.plan begun s.tale later)
          × (EachNow s.story (AllStand o s.plan s.tale) → EachNow later (AllStand o s.plan s.tale))
          × (StandTo o s.plan s.tale s.story → StandTo o s.plan s.tale later)
          × (EachNow s.story (KeepOtherObjects o s.plan s.tale run.opened) → EachNow later (KeepOtherObjects o s.plan s.tale run.opened))
      law = restoring_leaves o s.plan s.tale run.opened (under_way o s run none orderly may) t sg at is_sg rests begun (begins.there, begins.here) s.story later sound run.later run.marked
          (subst (λ (r : List EquivRow). Passes s.story later (Restores s.story.held r sg)) run.rows pass) aside

      left_was : AreLeft o s.plan begun s.tale s.story
      left_was from image le since = elim (run.images from image le since) [
        | inl before ↦ inl before
        | inr left ↦ inr (left_besides o s.plan s.begun begun s.tale image (more_begun s begun t begins) left)
      ]

      -- Whatever it answers, it leaves what a run keeps, while the task is in hand, and what is open of restorings then is known, or a fault is kept.
      pub restoring_run : (restoring : List ℕ) → ((u : ℕ) → Contains s.restoring u → Contains restoring u) → Contains restoring t → (kept : List KeptSig) (views : OpenViews) (mends : OpenTasks) (fault : Option RunFault) → (fault ≡ None → SameOpen (both run.opened mends) views)
          → (fault ≡ None → AreMends o s.plan s.rows begun s.tale restoring mends) → IsRun o (record s { story = later; kept = kept; opened = views; begun = begun; restoring = restoring; fault = fault })
      restoring_run restoring more among kept views mends fault are mending = record {
        may = run.may;
        rows = run.rows;
        lines = run.lines;
        grown = run.grown;
        own = λ l has u other at_u pn name. more_begun s begun t begins u (run.own l has u other at_u pn name);
        readable = run.readable;
        opened = run.opened;
        mends = mends;
        book = λ e. run.book none;
        open_are = are;
        flights = λ e. run.flights none;
        mending = mending;
        touched = λ e u flies. more_begun s begun t begins u (run.touched none u flies);
        flying = λ e u seat runs b. elim (cases_eq u t) [
          | inl same ↦ absurd (waits seat (subst (λ (n : ℕ). RunsAfter s.plan s.tale n seat) same runs))
          | inr ne ↦ run.flying none u seat runs (b.0, sym (begins.others u ne) ∙ b.1)
        ];
        durable = λ e. valid_now;
        objects = λ e. law.3 (run.objects none);
        later = later_moment (moment o.story) (moment s.story) (moment later) run.later pass.later;
        marked = λ n entry here. later_moment entry.moment (moment s.story) (moment later) (run.marked n entry here) pass.later;
        reusable = run.reusable;
        legal = run.legal;
        were_there = run.were_there;
        real = run.real;
        stored = run.stored;
        missing = run.missing;
        there = run.there;
        answered = λ e u a is not_yet. elim (cases_eq u t) [
          | inl same ↦
              let one : a ≡ avail.Object = (let n : Some (Some a) ≡ Some (Some avail.Object) = sym is ∙ ap (slice_get begun) same ∙ is_object in cc) in
              ((λ x here. subst (IsAvailable o.story.held s.rows s.options.setscene x) (sym one) (was x (ap (slice_get (signatures s.rows s.plan.tasks)) (sym same) ∙ here))), inl one)
          | inr ne ↦ run.answered none u a (sym (begins.others u ne) ∙ is) not_yet
        ];
        met = run.met;
        told = λ u b. elim (cases_eq u t) [
          | inl same ↦ inr (inr (inr (subst (Contains restoring) (sym same) among, λ x here. was x (ap (slice_get (signatures s.rows s.plan.tasks)) (sym same) ∙ here))))
          | inr ne ↦
              told_by o s (record s { story = later; kept = kept; opened = views; begun = begun; restoring = restoring; fault = fault }) u refl refl (λ some. absurd (none_kept s.fault none some)) (λ hand is. (more u hand, λ x here. is x here))
              (run.told u (b.0, sym (begins.others u ne) ∙ b.1))
        ];
        images = law.0 (run.durable none) left_was;
        stands = law.1 run.stands;
        settled = law.2 run.settled;
      }
