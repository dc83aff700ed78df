-- A task whose output is in its work folder is found.
use Rattle.std.proofs.Common.{◌≡◌, ◌≢◌, ◌∙◌, sym, ap, subst, refl, ℕ, ◌<◌, arith, Bool, true, List, [], ◌∷◌, ◌++◌, length, Some, None, inl, inr}
use Rattle.std.specs.Prelude.{IsSome}
use Rattle.std.specs.List.{slice_get}
use Rattle.std.proofs.lemmas.List.{length-map}
use Rattle.std.proofs.lemmas.Option.{same_Some, slice_get_within}
use Rattle.outside_traits.specs.Store.{Store}
use Rattle.outside_traits.specs.Story.{IsImage, IsSound, moment}
use Rattle.outside_traits.proofs.Images.{now-since}
use Rattle.meta_model.specs.declared.event.Avail.{Avail}
use Rattle.meta_model.specs.declared.event.Avail.TheVariants as avail
use Rattle.meta_model.specs.declared.event.Event.TheVariants as events
use Rattle.meta_model.specs.declared.event.Logged.{Logged}
use Rattle.meta_model.specs.declared.plan.PlanTask.{PlanTask}
use Rattle.meta_model.specs.CleanBuild.{Built, clean_build}
use Rattle.meta_model.proofs.Building.{all_tasks}
use Rattle.tale_model.specs.declared.fate.Fate.{Fate}
use Rattle.tale_model.specs.declared.fate.Fate.TheVariants as fate
use Rattle.run_core.specs.declared.next.Next.TheVariants as next
use Rattle.run_core.specs.Choice.{MayAnswer}
use Rattle.tale_model.specs.Fates.{IsFree, fate_at, fates_told}
use Rattle.tale_model.specs.History.{Course, EachAfter, MayCome}
use Rattle.run_core.specs.History.{IsInOrder, IsOrderly, settled_as}
use Rattle.tale_model.specs.Need.{IsIn}
use Rattle.run_core.proofs.Steps.{count_told, told_push}
use Rattle.store_model.specs.declared.signature.EquivRow.{EquivRow}
use Rattle.store_model.specs.Available.{IsAvailable, IsInWork, work_folder}
use Rattle.store_model.specs.Origins.{Book, rows_of}
use Rattle.store_model.specs.Premises.{HasNoCollision}
use Rattle.store_model.specs.Reuse.{MayReuse}
use Rattle.store_model.specs.Rows.{row_at}
use Rattle.store_model.specs.Signatures.{Signed, signatures}
use Rattle.store_model.specs.Spelling.{name_of}
use Rattle.store_model.proofs.Standing.{row_found}
use Rattle.run_model.specs.Opening.{Opening}
use Rattle.run_model.specs.Books.{rows_after, signed_after}
use Rattle.run_model.specs.Courses.{IsCourse}
use Rattle.run_queue.specs.Keeps.{IsRun, IsUpToDate, WasThere}
use Rattle.run_queue.specs.Seen.{IsBegunIn, Known, Seen}
use Rattle.run_model.specs.Stands.{HasEnded, IsStanding, HasOwnRow}
use Rattle.setscene_plan.proofs.Naming.{signed_count}
use Rattle.run_queue.proofs.Agreement.{some_known}
use Rattle.run_queue.proofs.Answered.{AgreesOn, agrees_back, no_collision, one_signature, unbegun, work_on}
use Rattle.run_queue.proofs.Claiming.{claim_may_come}
use Rattle.run_queue.proofs.Growing.{book_grows}
use Rattle.run_queue.proofs.Notes.{set_same}
use Rattle.run_queue.proofs.Passed.{left_since}
use Rattle.run_queue.proofs.ReadyJobs.{task_at}
use Rattle.run_queue.proofs.Settled.{SettlesOne}
use Rattle.run_queue.proofs.There.{tells_one}
use Rattle.run_queue.proofs.OwnNames.{CleanTree, clean_tree, has_own_name, holds_on, signed_task_at}

-- ---- a task that is found

pub found_order : (tasks : List PlanTask) (tale : List Logged) (need : List Bool) (t seat : ℕ) → length need ≡ length tasks → IsIn need t → fate_at (fates_told (length tasks) tale) t ≡ fate.Waiting → IsFree (fates_told (length tasks) tale) seat → IsInOrder tasks (fates_told (length tasks) tale) seat (events.Found t)
found_order tasks tale need t seat long member waits free =
    let w = slice_get_within need t true member in
    let c = count_told (length tasks) tale in
    record { can = (omega arith, waits); by_seat = free }

module _ (o : Opening) (s : Seen) (run : IsRun o s) (sound : IsSound s.story) (none : s.fault ≡ None) (orderly : EachAfter (IsOrderly s.plan.tasks) s.tale) (k : Known) (is_known : s.known ≡ Some k) (now : IsUpToDate s.plan s.rows k) (t seat : ℕ)
    (free : IsFree (fates_told (length s.plan.tasks) s.tale) seat) (answer : MayAnswer s.options s.plan.tasks k.need k.avail (fates_told (length s.plan.tasks) s.tale) (next.Settle t)) (work : slice_get k.avail t ≡ Some avail.Work) where
  within : t < length s.plan.tasks
  within = let w = slice_get_within k.need t true answer.0.needed in let l = now.need.long in omega arith

  signed : (sg : Signed) × (slice_get (signatures s.rows s.plan.tasks) t ≡ Some sg)
  signed = task_at (signatures s.rows s.plan.tasks) t (let c = signed_count s.rows s.plan.tasks in let w = within in omega arith)

  task : slice_get s.plan.tasks t ≡ Some signed.0.task
  task = signed_task_at s.rows s.plan.tasks t signed.0 signed.1

  not_ended : HasEnded s.plan s.tale t → ⊥
  not_ended e = let n : fate.Waiting ≡ fate.Ended = sym answer.0.waits ∙ e in cc

  was : WasThere o s t avail.Work
  was = some_known (λ (x : Known). (u : ℕ) (a : Avail) → IsIn x.need u → (HasEnded s.plan s.tale u → ⊥) → slice_get x.avail u ≡ Some a → WasThere o s u a) s.known k is_known run.there t avail.Work answer.0.needed not_ended work

  held : IsInWork o.story.held s.rows signed.0
  held = was signed.0 signed.1

  fresh : IsBegunIn s.begun t → ⊥
  fresh b =
      let a = run.answered none t b.0 b.1 not_ended in
      elim a.1 [
        | inl same ↦ (subst (λ (x : Avail). IsAvailable o.story.held s.rows s.options.setscene signed.0 x) same (a.0 signed.0 signed.1)).0 held
        | inr gone ↦ (subst (λ (x : Avail). IsAvailable o.story.held s.rows s.options.setscene signed.0 x) gone.0 (a.0 signed.0 signed.1)).0 held
      ]

  rows_are : s.rows ≡ rows_of (o.book ++ run.lines)
  rows_are = run.rows ∙ ap rows_of run.grown

  may_reuse : MayReuse o.gives o.reading o.story.held (o.book ++ run.lines) s.plan.tasks
  may_reuse = subst (λ (b : Book). MayReuse o.gives o.reading o.story.held b s.plan.tasks) run.grown (run.reusable
      (subst (λ (b : Book). HasNoCollision b s.rows s.plan.tasks) (sym run.grown) (subst (λ (r : List EquivRow). HasNoCollision (o.book ++ run.lines) r s.plan.tasks) (sym rows_are) (no_collision o s run sound k.names k.need k.avail none now))))

  built : (b : Built) × (slice_get (clean_build o.gives s.plan.tasks) t ≡ Some b)
  built =
      let long : length (clean_build o.gives s.plan.tasks) ≡ length s.plan.tasks = sym (length-map (clean_build o.gives s.plan.tasks) (λ b. b.task)) ∙ ap (λ (l : List PlanTask). length l) (all_tasks o.gives s.plan.tasks) in
      task_at (clean_build o.gives s.plan.tasks) t (let w = within in omega arith)

  clean : CleanTree o.story.held (work_folder signed.0.task) built.0
  clean = clean_tree o.gives o.reading o.story.held (o.book ++ run.lines) s.plan.tasks may_reuse t signed.0 built.0 (ap (λ (r : List EquivRow). slice_get (signatures r s.plan.tasks) t) (sym rows_are) ∙ signed.1) built.1
      (subst (λ (r : List EquivRow). IsInWork o.story.held r signed.0) rows_are held)

  -- what is held in an image is what was held when the run began, as far as the task's availability asks
  agrees : (image : Store) → IsImage s.story image → AgreesOn o.story.held image s.rows signed.0
  agrees image is =
      let own = has_own_name s.rows s.plan.tasks t signed.0 signed.1 in
      let left = left_since o s run image (now-since s.story (moment o.story) image run.later is) in
      agrees_back image o.story.held s.rows signed.0 (unbegun o s run sound image left t signed.0 none task fresh own.0 own.1 (one_signature o s run sound k.names k.need k.avail none now t signed.0 signed.1))

  module _ (moment_of : ℕ) where
    abbrev entry : Logged
    entry = record { event = events.Found t; seat = seat; moment = moment_of }

    in_count : t < length (fates_told (length s.plan.tasks) s.tale)
    in_count = let w = within in let c = count_told (length s.plan.tasks) s.tale in omega arith

    rows_next : rows_after o s.plan (s.tale ++ entry ∷ []) ≡ s.rows
    rows_next = ap rows_of (book_grows o.gives s.plan o.book s.tale entry) ∙ sym run.rows

    one_signed : (x : Signed) → signed_after o s.plan (s.tale ++ entry ∷ []) t ≡ Some x → signed.0 ≡ x
    one_signed x is = same_Some signed.0 x (sym signed.1 ∙ ap (λ (r : List EquivRow). slice_get (signatures r s.plan.tasks) t) (sym rows_next) ∙ is)

    is_found : fate_at (fates_told (length s.plan.tasks) (s.tale ++ entry ∷ [])) t ≡ fate.Found
    is_found = ap (λ (l : List Fate). fate_at l t) (told_push (length s.plan.tasks) s.tale entry) ∙ set_same (fates_told (length s.plan.tasks) s.tale) t fate.Found in_count

    -- its row is of its PN and task
    own_row : HasOwnRow s.rows signed.0
    own_row =
        let own = has_own_name s.rows s.plan.tasks t signed.0 signed.1 in
        let f = row_found (o.book ++ run.lines) (name_of signed.0.sig) held.row (ap (λ (r : List EquivRow). row_at r (name_of signed.0.sig)) (sym rows_are) ∙ held.stored.is_row) in
        let sig : f.1.sig ≡ signed.0.sig = one_signature o s run sound k.names k.need k.avail none now t signed.0 signed.1 f.0 f.1 f.2 f.4 in
        record {
          row = held.row;
          is_row = held.stored.is_row;
          pn = ap (λ (r : EquivRow). r.pn) (sym f.3) ∙ ap (λ g. g.pn) sig ∙ own.0;
          task = ap (λ (r : EquivRow). r.task) (sym f.3) ∙ ap (λ g. g.task) sig ∙ own.1;
        }

    has_row : row_at s.rows (name_of signed.0.sig) ≢ None
    has_row e = let n : Some held.row ≡ None = sym held.stored.is_row ∙ e in cc

    standing : (image : Store) → IsImage s.story image → IsStanding o s.plan (s.tale ++ entry ∷ []) t signed.0.task image
    standing image is = record {
      built = built.0;
      is_built = built.1;
      stored = λ x at. subst (λ (r : List EquivRow). HasOwnRow r x) (sym rows_next) (subst (λ (y : Signed). HasOwnRow s.rows y) (one_signed x at) own_row);
      work = record { tree = clean.clean.tree; clean = clean.clean.clean; holds = holds_on o.story.held image (work_folder signed.0.task) clean.clean.tree (agrees image is).work (λ q below. held.folder.holds.outside.above q below ∙ sym ((agrees image is).above held.row held.stored.is_row (subst IsSome (sym held.stamp) refl) held.folder q below)) clean.clean.holds };
      tree = clean.tree;
      stays = λ kept x at. subst (λ (r : List EquivRow). IsInWork image r x) (sym rows_next) (subst (λ (y : Signed). IsInWork image s.rows y) (one_signed x at) (work_on o.story.held image s.rows signed.0 (agrees image is) held));
      shared = λ sstate ended x at. absurd (let n : fate.Found ≡ fate.Ended = sym is_found ∙ ended in cc);
    }

    pub found_settles : SettlesOne o s entry
    found_settles = record {
      within = in_count;
      before = answer.0.waits;
      after = λ e. (let n : fate.Found ≡ fate.Ended = e in cc);
      rests = λ other e. (let n : fate.Found ≡ fate.Running other = e in cc);
      book = λ b. refl;
      stored = λ x at. subst (λ (y : Signed). row_at s.rows (name_of y.sig) ≢ None) (same_Some signed.0 x (sym signed.1 ∙ at)) has_row;
      so = tells_one o s (events.Found t) t avail.Work run.rows was refl;
      met = (avail.Work, was, λ e. (let n : avail.Work ≡ avail.Missing = e in cc));
      stands = λ image is own at. subst (λ (x : PlanTask). IsStanding o s.plan (s.tale ++ entry ∷ []) t x image) (same_Some signed.0.task own (sym task ∙ at)) (standing image is);
    }

    pub may_found : (course : Course) → course.plan ≡ s.plan → IsCourse o s.options (s.tale ++ entry ∷ []) course → MayCome course s.tale entry
    may_found = claim_may_come o s k (next.Settle t) entry run orderly is_known now free answer (ap (settled_as t) work)
