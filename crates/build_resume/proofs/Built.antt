-- What a run leaves of a disk on which it began, over a book.
use Rattle.std.proofs.Common.{◌≡◌, ◌∙◌, sym, subst, refl, ℕ, ◌+◌, ◌-◌, ◌^◌, ◌<◌, false, List, [], take, slice_get, Some, None, arith, inl, inr}
use Rattle.std.specs.Prelude.{◌≢◌, ◌⊎◌, Contains}
use Rattle.std.proofs.lemmas.List.Elements.{All-cons, All-nil}
use Rattle.outside_traits.specs.Passes.{EachNow, Passes}
use Rattle.outside_traits.specs.Store.{IsTreelike, Store}
use Rattle.outside_traits.specs.Story.{IsFresh, IsImageSince, IsSound as IsStorySound, Story}
use Rattle.meta_model.specs.declared.event.Logged.{Logged}
use Rattle.meta_model.specs.declared.event.Status.{Status}
use Rattle.meta_model.specs.declared.event.Status.TheVariants as status
use Rattle.meta_model.specs.declared.plan.Options.{Options}
use Rattle.meta_model.specs.declared.plan.Plan.{Plan}
use Rattle.meta_model.specs.CleanBuild.{Gives}
use Rattle.plan_model.specs.Sound.{AreWanted}
use Rattle.store_model.specs.Origins.{Book, Reading}
use Rattle.store_model.specs.Valid.{IsValid}
use Rattle.store_model.specs.declared.signature.EquivRow.{EquivRow}
use Rattle.store_opening.specs.Opening.{Clears}
use Rattle.store_model.specs.Opened.{HasNoLitter, IsOpened}
use Rattle.store_opening.specs.Reopened.{IsBookAgain}
use Rattle.store_opening.proofs.Reopened.{cleared_is_valid, opened_is_valid}
use Rattle.run_model.specs.Books.{book_after}
use Rattle.run_model.specs.Courses.{IsLegalTale}
use Rattle.run_queue.specs.Keeps.{IsOpening}
use Rattle.run_queue.specs.Opening.{MayRun}
use Rattle.run_model.specs.Opening.{Opening}
use Rattle.run_model.specs.Stands.{AllStand, HasBroken, HasFinished, HasStarted, WereThere}
use Rattle.run_model.specs.Runs.{Runs}
use Rattle.run_model.specs.Seats.{BreaksLast}
use Rattle.run_model.specs.Benches.{AtSeats}
use Rattle.run_model.specs.Build.{AllClean, FailsClean, HasRun, HasTargets, IsCrash, IsEachFailureTold, IsLeftByOpening, IsLeftByRun, LeavesOthers, RanStarted, failed_in, is_unsteady}
use Rattle.build_resume.specs.Build.{IsEntry, Leaves}
use Rattle.run_model.specs.Outcome.{EndsAs}
use Rattle.run_queue.specs.Flights.{IsValidWith}
use Rattle.run_queue.proofs.Boarding.{ends_with_nothing}
use Rattle.run_queue.proofs.Flying.{left_by_run}
use Rattle.build_resume.specs.Outcome.{KeptTo}
use Rattle.build_resume.proofs.Alone.{kept_others, opened_alone, opening_clears}
use Rattle.build_resume.proofs.Closed.{closed_started}
use Rattle.build_resume.proofs.Told.{all_told}
use Rattle.build_resume.proofs.Outcomes.{kept_all, kept_clean, kept_crash, kept_exact, kept_real, opened_crash, opened_may_run, opening_of}

-- A store was opened on a disk that was fresh: what is held is what opening leaves, none of it above another, and durable; and at each moment nothing went that it
-- leaves alone.
pub record WasOpened (before after : Story) (rows : List EquivRow) : Type 0 where
  pub fresh : IsFresh before
  pub opened : IsOpened before.held after.held rows
  pub durable : EachNow after (λ image. image ≡ after.held)
  pub treelike : IsTreelike after.held
  pub clears : Passes before after (Clears before.held)

module _ (gives : Gives) (reading : Reading) (book : Book) (plan : Plan) (options : Options) (before after : Story) (rows : List EquivRow) (was : WasOpened before after rows) (entry : IsEntry gives reading book before.held plan) where
  abbrev again : IsBookAgain gives reading book after.held rows
  again = opened_is_valid before.held after.held rows was.opened gives reading book entry.valid entry.readable

  abbrev pub opening : Opening
  opening = opening_of gives reading book before.held after.held rows after again

  pub may_run : MayRun opening plan
  may_run = opened_may_run gives reading book plan before.held after rows again entry was.opened was.durable was.treelike

  pub is_opening : IsOpening opening after rows
  is_opening = record { story_is = refl; rows_are = again.rows_are }

  module _ (tale : List Logged) (s : Status) (story : Story) (k : KeptTo opening plan options tale s story) (ends : EndsAs plan options tale s) where
    pub built_exact : s ≡ status.Ok → EachNow story (HasTargets gives plan)
    built_exact ok = kept_exact opening plan options tale s story k (ends.ok ok).0 (ends.ok ok).1

    pub built_crashes : (image : Store) → IsImageSince story 0 image → IsCrash gives reading book image
    built_crashes = kept_crash opening plan options tale s story k gives reading book refl refl again.same (λ image since. opened_crash gives reading book plan before after image was.fresh entry was.clears since)

    pub built_complete : IsStorySound story → AreWanted plan → (s ≡ status.Ok → AllClean gives plan) × (AllClean gives plan → s ≢ status.TaskFailed)
    built_complete lawful wanted = (
      λ ok. kept_all opening plan options tale s story k lawful entry.sound wanted (ends.ok ok).0 (ends.ok ok).1,
      λ clean failed. kept_clean opening plan options tale s story k clean (ends.failed failed),
    )

    -- what the last state kept is kept of the plan, the options, the tale and the story
    as_kept : (P : Plan → Options → List Logged → Story → Type 0) → P k.last.plan k.last.options k.last.tale k.last.story → P plan options tale story
    as_kept P is =
        subst (P plan options tale) k.story_is (subst (λ (l : List Logged). P plan options l k.last.story) k.tale_is (subst (λ (x : Options). P plan x k.last.tale k.last.story) k.options_are (subst (λ (p : Plan). P p k.last.options k.last.tale k.last.story) k.plan_is is)))

    -- a crash while the store was opened left the book of entry, in the opening's order, and what opening leaves alone
    left_by_opening : (image : Store) → IsImageSince opening.story 0 image → IsLeftByOpening opening before.held image
    left_by_opening image since =
        let early = opening_clears before after image was.fresh was.clears since in
        record {
          valid = cleared_is_valid before.held after.held image (record { left = λ q left. early.left q left ∙ sym (was.opened.left q left) }) gives reading book entry.valid entry.readable again.again again.valid;
          left = early.left;
        }

    -- a crash since the run began left what the opening did, or what the run leaves
    crash_by_run : (image : Store) → IsImageSince k.last.story 0 image → IsImageSince opening.story 0 image ⊎ IsLeftByRun opening k.last.plan k.last.tale image
    crash_by_run image since = elim (k.run.images 0 image (omega arith) since) [
      | inl early ↦ inl early
      | inr left ↦ inr (left_by_run opening k.last.plan k.last.begun k.last.tale image left)
    ]

    -- where no fault was kept nothing is open any more, since no task runs
    at_end : k.last.fault ≡ None → (image : Store) → IsValidWith opening k.last.plan k.last.tale k.run.opened image → IsValid gives reading image (book_after gives k.last.plan opening.book k.last.tale)
    at_end kept = (ends_with_nothing opening k.last.plan k.last.tale k.run.opened (k.run.flights kept) k.none).0

    pub built_legal : HasRun gives reading book before.held plan options tale s story
    built_legal = record {
      opening = opening;
      same_gives = refl;
      same_reading = refl;
      same_lines = again.same;
      opened = subst (λ (r : List EquivRow). IsOpened before.held after.held r) again.rows_are was.opened;
      legal = as_kept (λ p x l st. IsLegalTale opening p x l) k.run.legal;
      there = as_kept (λ p x l st. WereThere opening p x l) k.run.were_there;
      started = as_kept (λ p x l st. (t : ℕ) → HasFinished l t ⊎ HasBroken l t → HasStarted l t) (closed_started k.last.plan.tasks k.last.tale k.orderly);
      recorded = λ is. as_kept (λ p x l st. EachNow st (λ image. IsValid gives reading image (book_after gives p opening.book l)))
          (λ image now. at_end (k.faultless is) image (k.run.durable (k.faultless is) image now));
      swept = λ is. as_kept (λ p x l st. HasNoLitter st.held) (k.swept (k.faultless is));
      early = left_by_opening;
      images = as_kept (λ p x l st. (image : Store) → IsImageSince st 0 image → IsImageSince opening.story 0 image ⊎ IsLeftByRun opening p l image) crash_by_run;
      stands = as_kept (λ p x l st. EachNow st (AllStand opening p l)) k.run.stands;
      since = as_kept
          (λ p x l st. (n : ℕ) (entry : Logged) → slice_get l n ≡ Some entry → entry.moment < 2 ^ 64 - 1 → (image : Store) → IsImageSince st entry.moment image → AllStand opening p (take (n + 1) l) image) k.run.settled;
    }

    pub built_others : BreaksLast tale → LeavesOthers gives book before.held plan options tale s story
    built_others left = kept_others opening book before.held rows was.opened again.same plan options tale s story k (subst BreaksLast (sym k.tale_is) left) (λ image since. opening_clears before after image was.fresh was.clears since)

    pub built_real : (t : ℕ) → Contains (failed_in tale) t → FailsClean gives plan t
    built_real = kept_real opening plan options tale s story k

    -- all together
    pub built_leaves : IsStorySound story → BreaksLast tale → is_unsteady s ≡ false → (runs now : List Runs) → AtSeats (RanStarted gives plan tale) runs now → Leaves gives reading book before.held plan options tale s story runs now
    built_leaves lawful left steady runs now ran = record {
      keeps = record {
        exact = built_exact;
        crashes = built_crashes;
        legal = All-cons (λ x. (x ≡ []) ⊎ HasRun gives reading book before.held plan options x s story) tale [] (inr built_legal) (All-nil _);
        real = All-cons (λ x. (t : ℕ) → Contains (failed_in x) t → FailsClean gives plan t) tale [] (built_real) (All-nil _);
        all_told = λ wanted failed going. All-cons (IsEachFailureTold gives plan) tale [] (all_told opening plan options tale s story k lawful entry.sound wanted (ends.went_on failed going)) (All-nil _);
        others = All-cons (λ x. LeavesOthers gives book before.held plan options x s story) tale [] (built_others left) (All-nil _);
        steady = steady;
        ran = ran;
      };
      complete = built_complete lawful;
    }

-- The plan and the options of a run are those that it was begun with.
pub as_begun : (o : Opening) (p plan : Plan) (x options : Options) (tale : List Logged) (story : Story) (s : Status) → p ≡ plan → x ≡ options → KeptTo o p x tale s story → EndsAs p x tale s → KeptTo o plan options tale s story × EndsAs plan options tale s
as_begun o p plan x options tale story s plan_is options_are kept ends = (
  subst (λ (y : Options). KeptTo o plan y tale s story) options_are (subst (λ (q : Plan). KeptTo o q x tale s story) plan_is kept),
  subst (λ (y : Options). EndsAs plan y tale s) options_are (subst (λ (q : Plan). EndsAs q x tale s) plan_is ends),
)

-- What a run leaves that didn't begin, over a store that was opened, or wasn't.
pub unbegun_leaves : (gives : Gives) (reading : Reading) (book : Book) (plan : Plan) (options : Options) (before after story : Story) (tale : List Logged) (s : Status) (runs now : List Runs) → IsFresh before → IsEntry gives reading book before.held plan → Passes before after (Clears before.held) → story ≡ after
    → tale ≡ [] → s ≢ status.Ok → s ≢ status.TaskFailed → is_unsteady s ≡ false → AtSeats (RanStarted gives plan tale) runs now → Leaves gives reading book before.held plan options tale s story runs now
unbegun_leaves gives reading book plan options before after story tale s runs now fresh entry clears same none ok failed steady ran = record {
  keeps = record {
    exact = λ e. absurd (ok e);
    crashes = λ image since. opened_crash gives reading book plan before after image fresh entry clears (subst (λ (x : Story). IsImageSince x 0 image) same since);
    legal = All-cons (λ x. (x ≡ []) ⊎ HasRun gives reading book before.held plan options x s story) tale [] (inl none) (All-nil _);
    real = All-cons (λ x. (t : ℕ) → Contains (failed_in x) t → FailsClean gives plan t) tale [] (λ t has. absurd (none_fails t (subst (λ (l : List Logged). Contains (failed_in l) t) none has))) (All-nil _);
    all_told = λ wanted e going. absurd (failed e);
    others = All-cons (λ x. LeavesOthers gives book before.held plan options x s story) tale [] (subst (λ (x : Story). LeavesOthers gives book before.held plan options tale s x) (sym same) (opened_alone gives book before after plan options tale s fresh clears)) (All-nil _);
    steady = steady;
    ran = ran;
  };
  complete = λ wanted. (λ e. absurd (ok e), λ clean e. absurd (failed e));
}
  where
    none_fails : (t : ℕ) → Contains (failed_in []) t → ⊥
    none_fails t has = let lt = has.1 in omega (arith, lt)
