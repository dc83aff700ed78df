-- What a run leaves, by what its last state kept.
use Rattle.std.proofs.Common.{◌≡◌, ◌∙◌, sym, ap, subst, refl, ℕ, ◌+◌, ◌<◌, zero, suc, arith, Bool, true, false, List, [], ◌∷◌, ◌++◌, length, take, append-nil, append_assoc, replicate, Some, None, Ok, Err, inl, inr}
use Rattle.std.specs.Prelude.{◌⊎◌, ◌≢◌, Contains, Option, Result}
use Rattle.std.specs.List.{AllByRecursion, slice_get}
use Rattle.std.proofs.lemmas.Bool.{false≢true}
use Rattle.std.proofs.lemmas.Option.{slice_get_within}
use Rattle.outside_traits.specs.Passes.{EachNow, Passes}
use Rattle.outside_traits.specs.Store.{IsTreelike, Store}
use Rattle.outside_traits.specs.Story.{IsFresh, IsImage, IsImageSince, LeftSince, Story}
use Rattle.outside_traits.specs.declared.call.Call.{Call}
use Rattle.meta_model.specs.declared.event.Event.{Event}
use Rattle.meta_model.specs.declared.event.Event.TheVariants as events
use Rattle.meta_model.specs.declared.event.Logged.{Logged}
use Rattle.meta_model.specs.declared.event.Status.{Status}
use Rattle.meta_model.specs.declared.plan.Options.{Options}
use Rattle.meta_model.specs.declared.plan.Plan.{Plan}
use Rattle.meta_model.specs.declared.plan.PlanTask.{PlanTask}
use Rattle.meta_model.specs.CleanBuild.{Built, Entries, Gives, Lack, clean_build, fails}
use Rattle.plan_model.specs.Sound.{AreWanted, IsSound}
use Rattle.tale_model.specs.declared.fate.Fate.{Fate}
use Rattle.tale_model.specs.declared.fate.Fate.TheVariants as fate
use Rattle.tale_model.specs.Fates.{HoldsFailure, fate_at, fate_by, fates_told, task_of}
use Rattle.store_model.specs.Origins.{Book, Reading}
use Rattle.store_model.specs.Valid.{IsValid}
use Rattle.store_model.specs.declared.signature.EquivRow.{EquivRow}
use Rattle.store_opening.specs.Opening.{Clears}
use Rattle.store_model.specs.Opened.{IsOpened}
use Rattle.store_model.specs.Lines.{HaveSameLines}
use Rattle.store_opening.specs.Reopened.{IsBookAgain}
use Rattle.store_model.specs.Readable.{IsReadable}
use Rattle.store_opening.proofs.Reopened.{cleared_is_valid, opened_holds_no_more}
use Rattle.store_opening.proofs.Reused.{no_collision, reuse_again}
use Rattle.store_opening.proofs.SameLines.{other_lines}
use Rattle.store_opening.proofs.Opened.{has_way}
use Rattle.run_model.specs.Report.{has_failure, is_failure}
use Rattle.run_model.specs.Books.{book_after}
use Rattle.run_model.specs.InFlight.{book_with, lines_in_flight}
use Rattle.run_model.specs.Opening.{Opening}
use Rattle.run_queue.specs.Opening.{MayRun}
use Rattle.run_model.specs.Outcome.{IsAtEnd}
use Rattle.run_queue.proofs.AtEnd.{exact_at_end}
use Rattle.run_queue.proofs.Enduring.{front_book}
use Rattle.run_queue.proofs.Failing.{failed_is_real}
use Rattle.run_queue.proofs.Wanted.{all_have_outputs}
use Rattle.run_model.specs.Build.{AllClean, FailsClean, HasTargets, IsCrash, failed_in}
use Rattle.build_resume.specs.Build.{IsEntry}
use Rattle.build_resume.specs.Outcome.{KeptTo}
use Rattle.build_resume.proofs.Failed.{failed_entry}
use Rattle.meta_model.specs.declared.event.Why.{Why}
use Rattle.meta_model.specs.declared.event.Why.TheVariants as why
use Rattle.tale_model.specs.History as said
use Rattle.run_queue.specs.Courses.{IsReal}
use Rattle.run_model.specs.Courses.{clean_says, said_of}
use Rattle.run_queue.proofs.ReadyJobs.{built_task, task_at}
use Rattle.outside_traits.proofs.Images.{held-image, now-since}
use Rattle.outside_traits.specs.Story.{IsSound as IsStorySound}
use Rattle.meta_model.proofs.Building.{all_tasks}
use Rattle.std.proofs.lemmas.List.{length-map}

-- ---- failures in a tale, and on the board

or_right : (a b : Bool) → b ≡ true → Rattle.std.specs.Prelude.◌||◌ a b ≡ true
or_right true b e = refl
or_right false b e = e

or_left : (a b : Bool) → a ≡ true → Rattle.std.specs.Prelude.◌||◌ a b ≡ true
or_left true b e = refl
or_left false b e = absurd (false≢true e)

failure_by : (event : Event) → fate_by event ≡ fate.Failed → is_failure event ≡ true
failure_by (events.Found t) e = absurd (let n : fate.Found ≡ fate.Failed = e in cc)
failure_by (events.Restored t) e = absurd (let n : fate.Restored ≡ fate.Failed = e in cc)
failure_by (events.Started t seat) e = absurd (let n : fate.Running seat ≡ fate.Failed = e in cc)
failure_by (events.Ended t) e = absurd (let n : fate.Ended ≡ fate.Failed = e in cc)
failure_by (events.Failed t w) e = refl
failure_by (events.Broke t c) e = absurd (let n : fate.Waiting ≡ fate.Failed = e in cc)

-- a task that has failed behind one more event had failed, or the event says so
failed_before : (fates : List Fate) (t u : ℕ) (f : Fate) → fate_at (Rattle.std.proofs.Common.set fates u f) t ≡ fate.Failed → (fate_at fates t ≡ fate.Failed) ⊎ (f ≡ fate.Failed)
failed_before [] t u f e = inl e
failed_before (x ∷ xs) zero zero f e = inr e
failed_before (x ∷ xs) (suc t) zero f e = inl e
failed_before (x ∷ xs) zero (suc u) f e = inl e
failed_before (x ∷ xs) (suc t) (suc u) f e = failed_before xs t u f e

folded_failed : (tale : List Logged) (fates : List Fate) (t : ℕ) → fate_at (Rattle.std.specs.Prelude.fold Rattle.tale_model.specs.Fates.fates_by fates (Rattle.std.specs.Prelude.map (λ (e : Logged). e.event) tale)) t ≡ fate.Failed → (fate_at fates t ≡ fate.Failed) ⊎ (has_failure tale ≡ true)
folded_failed [] fates t e = inl e
folded_failed (x ∷ tale) fates t e = elim (folded_failed tale (Rattle.tale_model.specs.Fates.fates_by fates x.event) t e) [
  | inl now ↦ elim (failed_before fates t (task_of x.event) (fate_by x.event) now) [
    | inl was ↦ inl was
    | inr said ↦ inr (or_left (is_failure x.event) (has_failure tale) (failure_by x.event said))
  ]
  | inr later ↦ inr (or_right (is_failure x.event) (has_failure tale) later)
]

pub none_failed : (count t : ℕ) → fate_at (replicate count fate.Waiting) t ≡ fate.Failed → ⊥
none_failed zero t e = let n : fate.Waiting ≡ fate.Failed = e in absurd (cc)
none_failed (suc count) zero e = let n : fate.Waiting ≡ fate.Failed = e in absurd (cc)
none_failed (suc count) (suc t) e = none_failed count t e

-- a task that has failed on the board did so in the tale
pub failure_told : (count : ℕ) (tale : List Logged) → HoldsFailure (fates_told count tale) → has_failure tale ≡ true
failure_told count tale h = elim (folded_failed tale (replicate count fate.Waiting) h.0 h.1) [
  | inl first ↦ absurd (none_failed count h.0 first)
  | inr told ↦ told
]

-- where a task failed in a tale, one is listed
pub some_failed : (tale : List Logged) → has_failure tale ≡ true → (t : ℕ) × Contains (failed_in tale) t
some_failed [] is = absurd (false≢true is)
some_failed (e ∷ tale) is = by e.event is (some_failed tale)
  where
    by : (x : Event) → Rattle.std.specs.Prelude.◌||◌ (is_failure x) (has_failure tale) ≡ true → (has_failure tale ≡ true → (t : ℕ) × Contains (failed_in tale) t) → (t : ℕ) × Contains (Rattle.run_model.specs.Build.failed_by x (failed_in tale)) t
    by (events.Found u) h rest = rest h
    by (events.Restored u) h rest = rest h
    by (events.Started u s) h rest = rest h
    by (events.Ended u) h rest = rest h
    by (events.Failed u w) h rest = (u, (zero, omega arith, refl))
    by (events.Broke u c) h rest = rest h

-- each task has what is built of it
pub built_at : (gives : Gives) (tasks : List PlanTask) (k : ℕ) → k < length tasks → (built : Built) × (slice_get (clean_build gives tasks) k ≡ Some built)
built_at gives tasks k lt =
    let long : length (clean_build gives tasks) ≡ length tasks = sym (length-map (clean_build gives tasks) (λ (b : Built). b.task)) ∙ ap length (all_tasks gives tasks) in
    task_at (clean_build gives tasks) k (omega (arith, lt, long))

-- ---- over the state in which a run ended

module _ (o : Opening) (plan : Plan) (options : Options) (tale : List Logged) (s : Status) (story : Story) (k : KeptTo o plan options tale s story) where
  pub kept_exact : IsAtEnd plan options tale → has_failure tale ≡ false → EachNow story (HasTargets o.gives plan)
  kept_exact at_end none image is t task built target at built_at =
      let there : IsAtEnd k.last.plan k.last.options k.last.tale =
      subst (λ (p : Plan). IsAtEnd p k.last.options k.last.tale) (sym k.plan_is) (subst (λ (x : Options). IsAtEnd plan x k.last.tale) (sym k.options_are) (subst (λ (l : List Logged). IsAtEnd plan options l) (sym k.tale_is) at_end)) in
      let calm : HoldsFailure (fates_told (length k.last.plan.tasks) k.last.tale) → ⊥ = λ h. false≢true (sym none ∙ ap has_failure (sym k.tale_is) ∙ failure_told (length k.last.plan.tasks) k.last.tale h) in
      exact_at_end o k.last k.run there calm image (subst (λ (x : Story). IsImage x image) (sym k.story_is) is) t task built
      (subst (λ (p : Plan). Contains p.targets t) (sym k.plan_is) target) (subst (λ (p : Plan). slice_get p.tasks t ≡ Some task) (sym k.plan_is) at) (subst (λ (p : Plan). slice_get (clean_build o.gives p.tasks) t ≡ Some built) (sym k.plan_is) built_at)

  -- a task that failed fails by itself in the clean build
  pub kept_real : (t : ℕ) → Contains (failed_in tale) t → FailsClean o.gives plan t
  kept_real t has built is =
      let e = failed_entry tale t has in
      (e.2, failed_is_real o k.last k.run e.0 e.1 t e.2 (subst (λ (l : List Logged). slice_get l e.0 ≡ Some e.1) (sym k.tale_is) e.3) e.4 built (subst (λ (p : Plan). slice_get (clean_build o.gives p.tasks) t ≡ Some built) (sym k.plan_is) is))

  -- a task that failed is one of the plan
  pub failed_within : (t : ℕ) → Contains (failed_in tale) t → (task : PlanTask) × (slice_get plan.tasks t ≡ Some task)
  failed_within t has =
      let e = failed_entry tale t has in
      let real = subst (IsReal o.gives k.last.plan.tasks) e.4 (k.run.real e.0 e.1 (subst (λ (l : List Logged). slice_get l e.0 ≡ Some e.1) (sym k.tale_is) e.3)) in
      subst (λ (p : Plan). (task : PlanTask) × (slice_get p.tasks t ≡ Some task)) k.plan_is (by e.2 (slice_get k.last.plan.tasks t) refl real)
    where
      by : (cause : Why) (x : Option PlanTask) → slice_get k.last.plan.tasks t ≡ x → (clean_says o.gives k.last.plan.tasks t ≡ said.fails cause) ⊎ ((clean_says o.gives k.last.plan.tasks t ≡ said.layout_too_large) × (cause ≡ why.TooLarge)) → (task : PlanTask) × (slice_get k.last.plan.tasks t ≡ Some task)
      by cause (Some task) at real = (task, at)
      by cause None at (inl e) = absurd (let n : said.gives ≡ said.fails cause = sym (ap (said_of o.gives k.last.plan.tasks) at) ∙ e in cc)
      by cause None at (inr e) = absurd (let n : said.gives ≡ said.layout_too_large = sym (ap (said_of o.gives k.last.plan.tasks) at) ∙ e.0 in cc)

  -- where all is clean none fails
  pub kept_clean : AllClean o.gives plan → has_failure tale ≡ true → ⊥
  kept_clean clean failed =
      let t = some_failed tale failed in
      let task = failed_within t.0 t.1 in
      let b = built_at o.gives plan.tasks t.0 (slice_get_within plan.tasks t.0 task.0 task.1) in
      let f = kept_real t.0 t.1 b.0 b.1 in
      let c = clean t.0 b.0 b.1 in
      ok_err c.0 (fails f.0) (sym c.1 ∙ f.1)
    where
      ok_err : (x : Entries) (y : Lack) → ◌≡◌ {A = Result Entries Lack} (Ok x) (Err y) → ⊥
      ok_err x y e = cc

  -- under Ok every wanted task has a clean output
  pub kept_all : IsStorySound story → IsSound plan → AreWanted plan → IsAtEnd plan options tale → has_failure tale ≡ false → AllClean o.gives plan
  kept_all lawful sound wanted at_end none t built is =
      all_have_outputs o.gives plan sound wanted (λ u target b at_b.
      let task = built_task o.gives plan.tasks u b at_b in
      let holds = kept_exact at_end none story.held (held-image story lawful) u b.task b target task at_b in
      (holds.tree, holds.clean)) t built is

  -- whatever a crash left is valid
  pub kept_crash : (gives : Gives) (reading : Reading) (book : Book) → o.gives ≡ gives → o.reading ≡ reading → HaveSameLines book o.book → ((image : Store) → IsImageSince o.story 0 image → IsCrash gives reading book image) → (image : Store) → IsImageSince story 0 image → IsCrash gives reading book image
  kept_crash gives reading book gives_is reading_is same before image since =
      elim (k.run.images 0 image (omega arith) (subst (λ (x : Story). IsImageSince x 0 image) (sym k.story_is) since)) [
        | inl early ↦ before image early
        | inr left ↦
            let f = front_book o.gives k.last.plan o.book (take left.count k.last.tale) 0 in
            let after = left.after.after in
            let fl : Book = lines_in_flight o.gives k.last.plan (book_after o.gives k.last.plan o.book (take left.count k.last.tale)) after.in_flight in
            let same_book : book_with o k.last.plan (take left.count k.last.tale) after.in_flight ≡ o.book ++ (f.0 ++ fl) = ap (λ (b : Book). b ++ fl) f.1 ∙ append_assoc o.book f.0 fl in
            record {
              again = o.book;
              same = same;
              lines = f.0 ++ fl;
              valid = subst (λ (r : Reading). IsValid gives r image (o.book ++ (f.0 ++ fl))) reading_is (subst (λ (x : Gives). IsValid x o.reading image (o.book ++ (f.0 ++ fl))) gives_is (subst (IsValid o.gives o.reading image) same_book after.valid));
              readable = subst (AllByRecursion IsReadable) same_book left.after.readable;
            }
      ]

-- ---- opening

pub fresh_image : (story : Story) (image : Store) → IsFresh story → IsImageSince story 0 image → image ≡ story.held
fresh_image story image fresh since = (subst (λ (calls : List Call). LeftSince story.held calls 0 image) fresh since).1

-- whatever a crash left while the store was opened is valid with the same book
pub opened_crash : (gives : Gives) (reading : Reading) (book : Book) (plan : Plan) (before after : Story) (image : Store) → IsFresh before → IsEntry gives reading book before.held plan → Passes before after (Clears before.held) → IsImageSince after 0 image → IsCrash gives reading book image
opened_crash gives reading book plan before after image fresh entry p since = record {
  again = book;
  same = record { whole = λ behind line stands. (behind, stands); only = λ behind line stands. (behind, stands) };
  lines = [];
  valid = subst (IsValid gives reading image) (sym (append-nil book)) valid;
  readable = subst (AllByRecursion IsReadable) (sym (append-nil book)) entry.readable;
}
  where
    valid : IsValid gives reading image book
    valid = elim (p.since 0 image (omega arith) since) [
      | inl early ↦ subst (λ (i : Store). IsValid gives reading i book) (sym (fresh_image before image fresh early)) entry.valid
      | inr e ↦ cleared_is_valid before.held e.0 image e.2 gives reading book entry.valid entry.readable book
          (subst (λ (i : Store). IsValid gives reading i book) (sym (fresh_image before e.0 fresh (now-since before 0 e.0 (omega arith) e.1))) entry.valid)
    ]

-- the opening of a run over a store that was opened
abbrev pub opening_of : (gives : Gives) (reading : Reading) (book : Book) (before after : Store) (rows : List EquivRow) → Story → IsBookAgain gives reading book after rows → Opening
opening_of gives reading book before after rows story again = record { gives = gives; reading = reading; story = story; book = again.again }

pub opened_may_run : (gives : Gives) (reading : Reading) (book : Book) (plan : Plan) (before : Store) (story : Story) (rows : List EquivRow) (again : IsBookAgain gives reading book story.held rows) → IsEntry gives reading book before plan → IsOpened before story.held rows → EachNow story (λ image. image ≡ story.held) → IsTreelike story.held
    → MayRun (opening_of gives reading book before story.held rows story again) plan
opened_may_run gives reading book plan before story rows again entry opened durable treelike = record {
  sound = entry.sound;
  valid = again.valid;
  may = λ none.
      reuse_again gives reading before story.held book again.again plan.tasks
      (entry.may (no_collision gives reading again.again book plan.tasks again.valid.lines entry.valid.lines (other_lines book again.again again.same) none))
      again.same again.valid.lines (opened_holds_no_more before story.held rows opened);
  durable = durable;
  way = (has_way before story.held rows opened).0;
  swept = (has_way before story.held rows opened).1;
  treelike = treelike;
  readable = again.readable;
  spellings = entry.spellings;
}
