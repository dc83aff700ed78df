-- How a run begins.
use Rattle.std.proofs.Common.{◌≡◌, ◌∙◌, sym, ap, subst, refl, ℕ, ◌≤◌, zero, suc, arith, true, false, List, [], ◌∷◌, ◌++◌, length, replicate, None, Some, inl, inr, append-nil}
use Rattle.std.specs.Prelude.{Contains, Option}
use Rattle.std.specs.List.{AllByRecursion}
use Rattle.std.specs.List.{slice_get}
use Rattle.outside_traits.specs.Store.{Store}
use Rattle.outside_traits.specs.declared.call.Call.{Call}
use Rattle.outside_traits.specs.Story.{Story, LeftSince, before}
use Rattle.meta_model.specs.declared.event.Avail.{Avail}
use Rattle.meta_model.specs.declared.event.Logged.{Logged}
use Rattle.meta_model.specs.declared.plan.Options.{Options}
use Rattle.meta_model.specs.declared.plan.Plan.{Plan}
use Rattle.tale_model.specs.Fates.{fate_at, fates_told, is_running, is_settled}
use Rattle.tale_model.specs.declared.fate.Fate.TheVariants.{Waiting}
use Rattle.store_model.specs.Valid.{IsValid, StandsIn}
use Rattle.store_model.specs.Readable.{IsReadable}
use Rattle.store_model.specs.Origins.{Book, Line, rows_of}
use Rattle.run_queue.specs.Keeps.{HasRoom, IsOpening, IsRun, IsState}
use Rattle.run_queue.specs.Seen.{RunView, Seen}
use Rattle.run_core.proofs.Marking.{fresh_count}
use Rattle.plan_model.specs.Sound.{IsSound}
use Rattle.store_model.specs.declared.signature.EquivRow.{EquivRow}
use Rattle.build_store.specs.View.{NothingOpen, OpenViews, View}
use Rattle.build_store.specs.declared.kept.KeptSig.{KeptSig}
use Rattle.run_queue.specs.Laws.{BeginIsRun}
use Rattle.run_model.specs.Opening.{Opening}
use Rattle.run_queue.specs.Opening.{MayRun}
use Rattle.run_model.specs.Stands.{IsSettledIn}
use Rattle.std.proofs.lemmas.Option.{none-some}
use Rattle.run_queue.specs.Flights.{nothing_open}
use Rattle.run_queue.proofs.Opened.{nothing_is_empty}
use Rattle.run_queue.proofs.Touched.{none_runs}

not_later : (held : Store) (calls : List Call) (t : ℕ) (image : Store) → LeftSince held calls t image → t ≤ length calls
not_later held [] t image (le, e) = le
not_later held (c ∷ calls) t image (inl x) = x.0
not_later held (c ∷ calls) t image (inr x) = let le = not_later (before c held) calls t image x in omega (arith, le)

all_wait : (count t : ℕ) → fate_at (replicate count Waiting) t ≡ Waiting
all_wait zero t = refl
all_wait (suc count) zero = refl
all_wait (suc count) (suc t) = all_wait count t

none_settled : (plan : Plan) (t : ℕ) → IsSettledIn plan [] t → ⊥
none_settled plan t settled = let no : false ≡ true = sym (ap is_settled (all_wait (length plan.tasks) t)) ∙ settled in cc

none_begun : (count t : ℕ) (a : Avail) → slice_get (replicate count None) t ≡ Some (Some a) → ⊥
none_begun zero t a e = absurd (cc)
none_begun (suc count) zero a e = absurd (cc)
none_begun (suc count) (suc t) a e = none_begun count t a e

begins_valid : (o : Opening) (plan : Plan) → MayRun o plan → IsValid o.gives o.reading o.story.held (o.book ++ [])
begins_valid o plan may = subst (λ (b : Book). IsValid o.gives o.reading o.story.held b) (sym (append-nil o.book)) may.valid

no_line : (before : Book) (line : Line) → StandsIn [] before line → ⊥
no_line [] line stands = let e : [] ≡ line ∷ stands.rest = stands.is in cc
no_line (x ∷ before) line stands = let e : [] ≡ x ∷ (before ++ line ∷ stands.rest) = stands.is in cc

pub begin_is_run : BeginIsRun
begin_is_run o plan options written may = record {
  may = may;
  rows = refl;
  lines = [];
  grown = sym (append-nil o.book);
  own = λ line has t task at pn name. absurd (no_line has.0 line has.1);
  readable = subst (AllByRecursion IsReadable) (sym (append-nil o.book)) may.readable;
  opened = nothing_open;
  mends = nothing_open;
  book = λ none. (begins_valid o plan may).lines;
  open_are = λ none folder. refl;
  mending = λ none. record { each = λ folder one is. absurd (none-some one is); rest = λ t hand. ap is_running (all_wait (length plan.tasks) t) };
  flights = λ none. record {
    each = λ folder one is. absurd (none-some one is);
    apart = λ folder beside one other is_one is_other ne. absurd (none-some one is_one);
  };
  touched = λ none t flies. absurd (none-some flies.0 flies.1.1);
  flying = λ none t seat runs. absurd (none_runs (length plan.tasks) t seat runs);
  objects = λ none image is t task at not_yet on_ground line has pn name q below. ap (λ (h : Store). h q) (may.durable image is);
  durable = λ none image is. record { in_flight = []; fly = tt; once = tt; valid = subst (λ (h : Store). IsValid o.gives o.reading h (o.book ++ [])) (sym (may.durable image is)) (begins_valid o plan may) };
  later = omega arith;
  marked = λ k entry at. absurd (cc);
  reusable = may.may;
  legal = λ course same is k entry at. absurd (cc);
  were_there = λ k t there entry at. absurd (cc);
  real = λ k entry at. absurd (cc);
  stored = λ t sg settled. absurd (none_settled plan t settled);
  missing = λ t seat runs. absurd (none_runs (length plan.tasks) t seat runs);
  there = tt;
  answered = λ none t a at. absurd (none_begun (length plan.tasks) t a at);
  met = λ t settled. absurd (none_settled plan t settled);
  told = λ t b. absurd (none_begun (length plan.tasks) t b.0 b.1);
  images = λ t image le since. inl since;
  stands = λ image is t task at settled. absurd (none_settled plan t settled);
  settled = λ k entry at. absurd (cc);
}

abbrev pub begins_as : Plan → Options → List (Option Avail) → List ℕ → List EquivRow → List KeptSig → OpenViews → List Logged → Story → List ℕ → Seen
begins_as plan options begun restoring rows kept opened tale story written = record {
  plan = plan;
  options = options;
  rows = rows;
  kept = kept;
  opened = opened;
  sink_failed = false;
  fault = None;
  tale = tale;
  begun = begun;
  restoring = restoring;
  known = None;
  story = story;
  written = written;
}

pub begins_run : (o : Opening) (plan : Plan) (options : Options) (begun : List (Option Avail)) (restoring : List ℕ) (rows : List EquivRow) (kept : List KeptSig) (opened : OpenViews) (tale : List Logged) (story : Story) (written : List ℕ) → IsOpening o story rows → begun ≡ replicate (length plan.tasks) None → restoring ≡ [] → kept ≡ [] → NothingOpen opened → tale ≡ [] → MayRun o plan → IsRun o
    (begins_as plan options begun restoring rows kept opened tale story written)
begins_run o plan options begun restoring rows kept opened tale story written opening none_begun none_restored none_kept nothing no_tale may =
    let a = begin_is_run o plan options written may in
    let b = subst (λ (n : List (Option Avail)). IsRun o (begins_as plan options n [] (rows_of o.book) [] [] [] o.story written)) (sym none_begun) a in
    let h = subst (λ (l : List ℕ). IsRun o (begins_as plan options begun l (rows_of o.book) [] [] [] o.story written)) (sym none_restored) b in
    let c = subst (λ (r : List EquivRow). IsRun o (begins_as plan options begun restoring r [] [] [] o.story written)) (sym opening.rows_are) h in
    let d = subst (λ (k : List KeptSig). IsRun o (begins_as plan options begun restoring rows k [] [] o.story written)) (sym none_kept) c in
    let f = subst (λ (v : OpenViews). IsRun o (begins_as plan options begun restoring rows kept v [] o.story written)) (sym (nothing_is_empty opened nothing)) d in
    let e = subst (λ (t : List Logged). IsRun o (begins_as plan options begun restoring rows kept opened t o.story written)) (sym no_tale) f in
    subst (λ (s : Story). IsRun o (begins_as plan options begun restoring rows kept opened tale s written)) opening.story_is e

abbrev pub begins_view : {D W : Type 0} → Plan → Options → View D → W → List (Option Avail) → List ℕ → List Logged → RunView D W
begins_view plan options store sink begun restoring tale = record {
  plan = plan;
  options = options;
  store = store;
  sink = sink;
  sink_failed = false;
  fault = None;
  tale = tale;
  begun = begun;
  restoring = restoring;
  ends_wait = false;
  known = None;
}

pub begins_state : {D W : Type 0} (count : ℕ) (plan : Plan) (options : Options) (store : View D) (sink : W) (begun : List (Option Avail)) (restoring : List ℕ) (tale : List Logged) → tale ≡ [] → restoring ≡ [] → IsSound plan → count ≡ 0 → store.faultless ≡ true → length begun ≡ length plan.tasks → IsState count (begins_view plan options store sink begun restoring tale)
begins_state count plan options store sink begun restoring tale no_tale none_restored sound unharmed clean long =
    subst (λ (l : List Logged). IsState count (begins_view plan options store sink begun restoring l)) (sym no_tale) (record {
      sound = sound;
      long = long;
      few = subst (λ (l : List ℕ). length l ≤ plan.threads) (sym none_restored) (omega arith);
      among = λ t hand. (let h = subst (λ (l : List ℕ). Contains l t) none_restored hand in let lt = h.1 in omega (arith, lt));
      orderly = λ k entry at. absurd (cc);
      current = tt;
      unharmed = λ none. unharmed;
      clean = λ none. clean;
      heard = λ none. refl;
      unbroken = λ none. refl;
      cause = tt;
    })

pub begins_room : (capacity count : ℕ) (tale : List Logged) → tale ≡ [] → HasRoom capacity (length tale) (fates_told count tale)
begins_room capacity count tale no_tale =
    subst (λ (l : List Logged). HasRoom capacity (length l) (fates_told count l)) (sym no_tale) (let none = fresh_count count in omega (arith, none))
