-- Calls of the store that change nothing leave what a run keeps over its opening.
use Rattle.std.proofs.Common.{◌≡◌, sym, subst, refl, ℕ, ◌≤◌, arith, List, [], None, inl, inr}
use Rattle.std.specs.Prelude.{Option}
use Rattle.outside_traits.specs.Passes.{Passes, Same}
use Rattle.outside_traits.specs.Store.{Store}
use Rattle.outside_traits.specs.Story.{IsImage, IsImageSince, Story, moment}
use Rattle.outside_traits.proofs.Images.{now-since, since-now}
use Rattle.run_model.specs.Opening.{Opening}
use Rattle.run_queue.specs.Keeps.{IsRun}
use Rattle.run_queue.specs.declared.fault.RunFault.{RunFault}
use Rattle.build_store.specs.View.{SameBooks, View}
use Rattle.run_queue.specs.Seen.{RunView, Seen, seen}
use Rattle.run_queue.specs.Stands.{IsLeft}
use Rattle.run_queue.proofs.Flying.{ended_alone}
use Rattle.run_queue.proofs.Meanwhile.{fault_stays, told_by}

-- an image of now was one before
pub same_now : (old new : Story) (image : Store) → Passes old new Same → IsImage new image → IsImage old image
same_now old new image p is = let e = p.now image is in subst (λ (i : Store). IsImage old i) (sym e.2) e.1

-- an image since a moment that had come was one since then before
pub same_since : (old new : Story) (t : ℕ) (image : Store) → Passes old new Same → t ≤ moment old → IsImageSince new t image → IsImageSince old t image
same_since old new t image p le since = elim (p.since t image le since) [
  | inl s ↦ s
  | inr e ↦ now-since old t image le (subst (λ (i : Store). IsImage old i) (sym e.2) e.1)
]

pub passed_run : (o : Opening) (s : Seen) (story : Story) (fault : Option RunFault) → Passes s.story story Same → (fault ≡ None → s.fault ≡ None) → IsRun o s → IsRun o (record s { story = story; fault = fault })
passed_run o s story fault p faultless run = record {
  may = run.may;
  rows = run.rows;
  lines = run.lines;
  grown = run.grown;
  own = run.own;
  readable = run.readable;
  opened = run.opened;
  mends = run.mends;
  book = λ none. run.book (faultless none);
  open_are = λ none. run.open_are (faultless none);
  mending = λ none. run.mending (faultless none);
  flights = λ none. run.flights (faultless none);
  touched = λ none. run.touched (faultless none);
  flying = λ none. run.flying (faultless none);
  durable = λ none image is. run.durable (faultless none) image (same_now s.story story image p is);
  objects = λ none image is. run.objects (faultless none) image (same_now s.story story image p is);
  later = let a = run.later in let b = p.later in omega arith;
  marked = λ k entry at. let a = run.marked k entry at in let b = p.later in omega arith;
  reusable = run.reusable;
  legal = run.legal;
  were_there = run.were_there;
  real = run.real;
  stored = run.stored;
  missing = run.missing;
  there = run.there;
  answered = λ none. run.answered (faultless none);
  met = run.met;
  told = λ u b. told_by o s (record s { story = story; fault = fault }) u refl refl (fault_stays s.fault fault faultless) (λ hand was. (hand, λ x here. was x here)) (run.told u b);
  images = λ t image le since. run.images t image le (same_since s.story story t image p (let a = run.later in omega (arith, a, le)) since);
  stands = λ image is. run.stands image (same_now s.story story image p is);
  settled = λ k entry at lt image since. run.settled k entry at lt image (same_since s.story story entry.moment image p (run.marked k entry at) since);
}

-- the same of views of a state
pub passed_view : {D W : Type 0} (story : D → Story) (written : W → List ℕ) (o : Opening) (old : RunView D W) (store : View D) (fault : Option RunFault) → SameBooks old.store store → Passes (story old.store.disk) (story store.disk) Same → (fault ≡ None → old.fault ≡ None)
    → IsRun o (seen story written old) → IsRun o (seen story written (record old { store = store; fault = fault }))
passed_view story written o old store fault books p faultless run =
    let s : Seen = seen story written old in
    let passed : Seen = record s { story = story store.disk; fault = fault } in
    let same : passed ≡ seen story written (record old { store = store; fault = fault }) = λ i. record {
      plan = old.plan;
      options = old.options;
      rows = sym books.rows i;
      kept = sym books.kept i;
      opened = sym books.opened i;
      sink_failed = old.sink_failed;
      fault = fault;
      tale = old.tale;
      begun = old.begun;
      restoring = old.restoring;
      known = old.known;
      story = story store.disk;
      written = written old.sink;
    } in
    subst (IsRun o) same (passed_run o s (story store.disk) fault p faultless run)

-- Whatever a crash left since the run began is valid with what had ended and lines of tasks that ran, has no stamp that lies, and has the tasks
-- that weren't begun as they were.
pub left_since : (o : Opening) (s : Seen) (run : IsRun o s) (image : Store) → IsImageSince s.story (moment o.story) image → IsLeft o s.plan s.begun s.tale image
left_since o s run image since = elim (run.images (moment o.story) image (omega arith) since) [
  | inl before ↦ subst (λ (i : Store). IsLeft o s.plan s.begun s.tale i) (sym (run.may.durable image (since-now o.story image before))) at_opening
  | inr left ↦ left
]
  where
    at_opening : IsLeft o s.plan s.begun s.tale o.story.held
    at_opening = record {
      count = 0;
      after = ended_alone o s.plan [] o.story.held run.may.valid run.may.readable;
      honest = λ t task at. inl (record { stamp = refl; work = λ q below. refl });
      others = λ t task at none. record { stamp = refl; work = λ q below. refl; objects = λ line has pn name q below. refl };
      paths = λ q aside clear. refl;
      objects = λ line has none q below. refl;
      folders = record { work = λ none. none; objects = λ none. none; parts = λ part plain none. none; top = λ none. none; stamps = λ path ne none. none };
    }
