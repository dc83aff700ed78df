-- A step of one of those that are open.
use Rattle.std.proofs.Common.{◌≡◌, ◌≢◌, ◌∙◌, sym, ap, subst, refl, ℕ, ◌+◌, ◌<◌, List, [], ◌∷◌, ◌++◌, length, get_or, set, take, drop, Some, None, arith, add-one, length-append}
use Rattle.std.specs.List.{AllByRecursion}
use Rattle.outside_traits.specs.Passes.{EachNow, IsBrief, Passes}
use Rattle.outside_traits.specs.Story.{IsSound, Story}
use Rattle.meta_model.specs.CleanBuild.{Entries}
use Rattle.store_model.specs.declared.signature.EquivRow.{EquivRow}
use Rattle.store_model.specs.Available.{task_folder}
use Rattle.outside_traits.specs.Store.{slashes}
use Rattle.store_model.specs.Publication.{Publication}
use Rattle.store_model.specs.Readable.{IsRow}
use Rattle.store_model.specs.Signatures.{Signed}
use Rattle.store_model.specs.Spelling.{signature_bytes}
use Rattle.sig_gen.specs.Sound.{Spells}
use Rattle.build_store.specs.declared.pieces.OpenPublication.{OpenPublication}
use Rattle.build_store.specs.declared.pieces.Reached.{Reached}
use Rattle.build_store.specs.Halves.{IsOn}
use Rattle.build_store.specs.Calls.{HasFreeStamp}
use Rattle.build_store.specs.Keys.{KnowsKeyOf}
use Rattle.build_store.specs.OpenOnes.{KeepsEntries, Sweeps, at_next, progress_of}
use Rattle.build_store.specs.OpenTasks.{IsOpenOf}
use Rattle.build_store.specs.declared.step.Step.{Step}
use Rattle.build_store.specs.declared.step.Step.TheVariants as step
use Rattle.build_store.specs.Openings.{ClosesOne, GoesOn, IsGoing, IsOpen, LandsOn, StepsTo, open_view}
use Rattle.build_store.specs.Pieces.{IsPublishing}
use Rattle.build_store.specs.Publication.{IsPublished, publication, rows_with}
use Rattle.build_store.specs.Standing.{AreOn, AreOpen, IsBeside, IsFor, IsOpenTask, IsOther, IsTidy, KnowsOpen, StandsAt, Stands}
use Rattle.build_store.specs.View.{IsSignatureOf, OpenView, OpenViews, View, open_in, opened_at}
use Rattle.build_store.proofs.Beside.{all_free_of, others_stand, own_of, publication_same}
use Rattle.build_store.proofs.Closing.{stand_behind, tasks_behind}
use Rattle.build_store.proofs.KnownSteps.{known_at, known_gone}
use Rattle.build_store.proofs.Opened.{view_is}
use Rattle.build_store.proofs.Several.{beside_of, beside_with, beside_without, drop_middle, each_of, each_with, each_without, others_of, take_middle, view_middle, view_next, view_none, view_without}
use Rattle.build_store.proofs.Tidy.{tidy_done, tidy_next}

-- ---- what stands at a place

get_middle : {A : Type 0} (before : List A) (x : A) (after : List A) (d : A) → get_or (before ++ x ∷ after) (length before) d ≡ x
get_middle [] x after d = refl
get_middle (y ∷ ys) x after d = get_middle ys x after d

set_middle : {A : Type 0} (before : List A) (x : A) (after : List A) (y : A) → set (before ++ x ∷ after) (length before) y ≡ before ++ y ∷ after
set_middle [] x after y = refl
set_middle (z ∷ zs) x after y = ap (λ l. z ∷ l) (set_middle zs x after y)

module _ {A : Type 0} (xs before : List A) (x : A) (after : List A) (place : ℕ) (is : xs ≡ before ++ x ∷ after) (at : length before ≡ place) where
  pub got_there : (y : A) → y ≡ get_or xs place y → y ≡ x
  got_there y got = got ∙ (λ i. get_or (is i) (sym at i) y) ∙ get_middle before x after y

  pub set_there : (y : A) → set xs place y ≡ before ++ y ∷ after
  set_there y = (λ i. set (is i) (sym at i) y) ∙ set_middle before x after y

  pub place_within : place < length xs
  place_within =
      let e : length xs ≡ length before + length (x ∷ after) = ap length is ∙ length-append before (x ∷ after) in
      omega (arith, e, at)

  pub left_without : (ys : List A) → ys ≡ take place xs ++ drop (place + 1) xs → ys ≡ before ++ after
  left_without ys e = e ∙ (λ i. take (sym at i) (is i) ++ drop (sym at i + 1) (is i)) ∙ (λ i. take_middle before x after i ++ dropped i)
    where
      dropped : drop (length before + 1) (before ++ x ∷ after) ≡ after
      dropped = ap (λ n. drop n (before ++ x ∷ after)) (add-one (length before)) ∙ drop_middle before x after

-- ---- the step

module _ (rows : List EquivRow) (s : Signed) (spells : Spells (signature_bytes s.sig) s.sig) (named : IsSignatureOf s.task s.sig) (before : List OpenPublication) (one : OpenPublication) (after : List OpenPublication) (meant : IsFor s one)
    (stand : AreOpen rows (before ++ one ∷ after)) (all : AllByRecursion IsRow rows) where
  at_own : IsOpenTask rows one
  at_own = each_of (IsOpenTask rows) before one after stand.tasks

  pub of_own : IsOpenOf rows s one.tree one
  of_own = own_of rows one s at_own.signed meant spells at_own.of

  pub beside : AllByRecursion (IsBeside one) (before ++ after)
  beside = beside_of before one after stand.beside

  two : slashes (task_folder s.task) ≡ 1
  two = subst (λ (l : List ℕ). slashes l ≡ 1) of_own.folder of_own.fit.parts

  pub on_own : (a : Story) → AreOn rows a (before ++ one ∷ after) → IsOn (publication rows s one.tree) (progress_of one) a
  on_own a on =
      let stands = each_of (Stands rows a) before one after on in
      subst (λ (p : Publication). IsOn p (progress_of one) a) (publication_same rows one s stands.task.signed meant spells stands.task.of) stands.on

  pub others_on : (a b : Story) → IsSound a → Passes a b (IsPublishing (publication rows s one.tree) a.held) → AreOn rows a (before ++ one ∷ after) → AreOn rows b (before ++ after)
  others_on a b sound run on = others_stand rows s one.tree all two a b sound run (before ++ after) (all_free_of rows one s of_own (before ++ after) beside) (each_without (Stands rows a) before one after on)

  -- more is left
  pub stand_next : (next : Reached) → IsOpenOf rows s one.tree (at_next one next) → AreOpen rows (before ++ at_next one next ∷ after)
  stand_next next of = record {
    tasks = each_with (IsOpenTask rows) before (at_next one next) after (record { signed = s; of = of; named = named }) (each_without (IsOpenTask rows) before one after stand.tasks);
    beside = beside_with before (at_next one next) after beside (beside_without before one after stand.beside);
  }

  pub on_next : (next : Reached) → IsOpenOf rows s one.tree (at_next one next) → (b : Story) → IsOn (publication rows s one.tree) (progress_of (at_next one next)) b → AreOn rows b (before ++ after) → AreOn rows b (before ++ at_next one next ∷ after)
  on_next next of b on others = each_with (Stands rows b) before (at_next one next) after (record { task = record { signed = s; of = of; named = named }; on = on }) others

  -- it is open no more
  pub stand_gone : AreOpen rows (before ++ after)
  stand_gone = record { tasks = each_without (IsOpenTask rows) before one after stand.tasks; beside = beside_without before one after stand.beside }

  pub stand_done : AreOpen (rows_with rows s one.tree) (before ++ after)
  stand_done = record { tasks = tasks_behind rows one s of_own named (before ++ after) beside (each_without (IsOpenTask rows) before one after stand.tasks); beside = beside_without before one after stand.beside }

  pub on_done : (b : Story) → AreOn rows b (before ++ after) → AreOn (rows_with rows s one.tree) b (before ++ after)
  on_done b on = stand_behind rows one s of_own named b (before ++ after) beside on

  -- what contracts see
  pub is_open : AllByRecursion (IsOther (task_folder s.task)) before → IsOpen (open_in (before ++ one ∷ after)) s one.tree
  is_open first = view_middle (task_folder s.task) before one after first meant.folder ∙ ap (λ v. Some v) (view_is rows s one.tree before one of_own)

  pub one_tree : AllByRecursion (IsOther (task_folder s.task)) before → (tree : Entries) → IsOpen (open_in (before ++ one ∷ after)) s tree → one.tree ≡ tree
  one_tree first tree at = let both : Some (open_view s one.tree) ≡ Some (open_view s tree) = sym (is_open first) ∙ at in let same : open_view s one.tree ≡ open_view s tree = cc in ap (λ (v : OpenView). v.tree) same

  pub others_left : (f : List ℕ) → f ≢ task_folder s.task → opened_at (open_in (before ++ after)) f ≡ opened_at (open_in (before ++ one ∷ after)) f
  others_left f ne = view_without f before one after (λ e. ne (sym e ∙ meant.folder))

  pub closes : ClosesOne (task_folder s.task) (open_in (before ++ one ∷ after)) (open_in (before ++ after))
  closes = record { closed = view_none (task_folder s.task) (before ++ after) (others_of (task_folder s.task) one (before ++ after) meant.folder beside); others = others_left }

-- ---- the one at the place

-- what is read there, with what stands before and behind it
pub record Here (s : Signed) (xs : List OpenPublication) (place : ℕ) (one : OpenPublication) : Type 0 where
  pub before : List OpenPublication
  pub after : List OpenPublication
  pub is : xs ≡ before ++ one ∷ after
  pub place_is : length before ≡ place
  pub first : AllByRecursion (IsOther (task_folder s.task)) before
  pub meant : IsFor s one

pub here : (s : Signed) (xs : List OpenPublication) (place : ℕ) → StandsAt s xs place → (x : OpenPublication) → x ≡ get_or xs place x → Here s xs place x
here s xs place w x got =
    let same : x ≡ w.one = got_there xs w.before w.one w.after place w.is w.place_is x got in
    record {
      before = w.before;
      after = w.after;
      is = w.is ∙ ap (λ o. w.before ++ o ∷ w.after) (sym same);
      place_is = w.place_is;
      first = w.first;
      meant = subst (IsFor s) (sym same) w.for_task;
    }

pub within_by : (s : Signed) (xs : List OpenPublication) (place : ℕ) → StandsAt s xs place → place < length xs
within_by s xs place w = place_within xs w.before w.one w.after place w.is w.place_is

module _ (rows : List EquivRow) (s : Signed) (spells : Spells (signature_bytes s.sig) s.sig) (named : IsSignatureOf s.task s.sig) (xs : List OpenPublication) (place : ℕ) (one : OpenPublication) (h : Here s xs place one) (stand : AreOpen rows xs) (all : AllByRecursion IsRow rows) where
  stand_here : AreOpen rows (h.before ++ one ∷ h.after)
  stand_here = subst (AreOpen rows) h.is stand

  pub here_of : IsOpenOf rows s one.tree one
  here_of = of_own rows s spells named h.before one h.after h.meant stand_here all

  pub here_on : (a : Story) → AreOn rows a xs → IsOn (publication rows s one.tree) (progress_of one) a
  here_on a on = on_own rows s spells named h.before one h.after h.meant stand_here all a (subst (AreOn rows a) h.is on)

  pub here_open : IsOpen (open_in xs) s one.tree
  here_open = subst (λ (l : List OpenPublication). IsOpen (open_in l) s one.tree) (sym h.is) (is_open rows s spells named h.before one h.after h.meant stand_here all h.first)

  pub here_tree : (tree : Entries) → IsOpen (open_in xs) s tree → one.tree ≡ tree
  here_tree tree at = one_tree rows s spells named h.before one h.after h.meant stand_here all h.first tree (subst (λ (l : List OpenPublication). IsOpen (open_in l) s tree) h.is at)

  pub here_run : (a b : Story) → Passes a b (IsPublishing (publication rows s one.tree) a.held) → (tree : Entries) → IsOpen (open_in xs) s tree → Passes a b (IsPublishing (publication rows s tree) a.held)
  here_run a b run tree at = subst (λ (t : Entries). Passes a b (IsPublishing (publication rows s t) a.held)) (here_tree tree at) run

  pub here_entries : (a b : Story) → Passes a b (KeepsEntries (publication rows s one.tree) a.held) → (tree : Entries) → IsOpen (open_in xs) s tree → Passes a b (KeepsEntries (publication rows s tree) a.held)
  here_entries a b run tree at = subst (λ (t : Entries). Passes a b (KeepsEntries (publication rows s t) a.held)) (here_tree tree at) run

  others_here : (a b : Story) → IsSound a → Passes a b (IsPublishing (publication rows s one.tree) a.held) → AreOn rows a xs → AreOn rows b (h.before ++ h.after)
  others_here a b sound run on = others_on rows s spells named h.before one h.after h.meant stand_here all a b sound run (subst (AreOn rows a) h.is on)

  -- it leads on
  module _ (next : Reached) (ys : List OpenPublication) (are : ys ≡ h.before ++ at_next one next ∷ h.after) where
    pub next_view : open_in ys ≡ open_in xs
    next_view = ap open_in are ∙ view_next h.before one next h.after ∙ ap open_in (sym h.is)

    pub next_stand : IsOpenOf rows s one.tree (at_next one next) → AreOpen rows ys
    next_stand of = subst (AreOpen rows) (sym are) (stand_next rows s spells named h.before one h.after h.meant stand_here all next of)

    pub next_on : IsOpenOf rows s one.tree (at_next one next) → (a b : Story) → IsSound a → Passes a b (IsPublishing (publication rows s one.tree) a.held) → AreOn rows a xs → IsOn (publication rows s one.tree) (progress_of (at_next one next)) b → AreOn rows b ys
    next_on of a b sound run on own = subst (AreOn rows b) (sym are) (on_next rows s spells named h.before one h.after h.meant stand_here all next of b own (others_here a b sound run on))

    pub next_tidy : (a b : Story) → Passes a b (IsPublishing (publication rows s one.tree) a.held) → Sweeps one one.reached (Some next) a.held b.held → IsTidy xs a → IsTidy ys b
    next_tidy a b run sweeps was = subst (λ (l : List OpenPublication). IsTidy l b) (sym are) (tidy_next h.before one h.after (publication rows s one.tree) a b here_of.fit.parts (sym h.meant.folder) run (subst (λ (l : List OpenPublication). IsTidy l a) h.is was) next sweeps)

  -- it is open no more
  module _ (ys : List OpenPublication) (are : ys ≡ h.before ++ h.after) where
    pub gone_stand : AreOpen rows ys
    gone_stand = subst (AreOpen rows) (sym are) (stand_gone rows s spells named h.before one h.after h.meant stand_here all)

    pub gone_on : (a b : Story) → IsSound a → Passes a b (IsPublishing (publication rows s one.tree) a.held) → AreOn rows a xs → AreOn rows b ys
    gone_on a b sound run on = subst (AreOn rows b) (sym are) (others_here a b sound run on)

    pub gone_others : (f : List ℕ) → f ≢ task_folder s.task → opened_at (open_in ys) f ≡ opened_at (open_in xs) f
    gone_others f ne = ap (λ l. opened_at (open_in l) f) are ∙ others_left rows s spells named h.before one h.after h.meant stand_here all f ne ∙ ap (λ l. opened_at (open_in l) f) (sym h.is)

    pub gone_closes : ClosesOne (task_folder s.task) (open_in xs) (open_in ys)
    gone_closes = record { closed = ap (λ l. opened_at (open_in l) (task_folder s.task)) are ∙ (closes rows s spells named h.before one h.after h.meant stand_here all).closed; others = gone_others }

    pub done_stand : AreOpen (rows_with rows s one.tree) ys
    done_stand = subst (AreOpen (rows_with rows s one.tree)) (sym are) (stand_done rows s spells named h.before one h.after h.meant stand_here all)

    pub done_on : (a b : Story) → IsSound a → Passes a b (IsPublishing (publication rows s one.tree) a.held) → AreOn rows a xs → AreOn (rows_with rows s one.tree) b ys
    done_on a b sound run on = subst (AreOn (rows_with rows s one.tree) b) (sym are) (on_done rows s spells named h.before one h.after h.meant stand_here all b (others_here a b sound run on))

    pub done_tidy : (a b : Story) → IsSound b → Passes a b (IsPublishing (publication rows s one.tree) a.held) → Sweeps one one.reached None a.held b.held → EachNow b (IsPublished (publication rows s one.tree)) → IsTidy xs a → IsTidy ys b
    done_tidy a b sound run sweeps published was = subst (λ (l : List OpenPublication). IsTidy l b) (sym are) (tidy_done h.before one h.after (publication rows s one.tree) a b here_of.fit.parts (sym h.meant.folder) run (subst (λ (l : List OpenPublication). IsTidy l a) h.is was) sound sweeps published)

-- ---- what it came to

module _ {D : Type 0} (old new : View D) (s : Signed) where
  pub going : (came : Step) → IsGoing came → GoesOn old new s → StepsTo old new s came
  going step.NotOpen is goes = absurd is
  going step.More is goes = goes
  going step.Wait is goes = goes
  going (step.Done unihash) is goes = absurd is

pub nothing_landed : (story : Story) (rows : List EquivRow) (opened : OpenViews) (s : Signed) (came : Step) → IsGoing came → LandsOn story rows opened s came
nothing_landed story rows opened s step.NotOpen is = tt
nothing_landed story rows opened s step.More is = tt
nothing_landed story rows opened s step.Wait is = tt
nothing_landed story rows opened s (step.Done unihash) is = absurd is

-- the bound on its calls, where nothing is held below the task's stamp
pub here_brief : (s : Signed) (xs : List OpenPublication) (place : ℕ) → StandsAt s xs place → (x : OpenPublication) → x ≡ get_or xs place x → (a b : Story) → (HasFreeStamp x.folder a.held → IsBrief 128 a b) → HasFreeStamp (task_folder s.task) a.held → IsBrief 128 a b
here_brief s xs place w x got a b brief free = brief (subst (λ (f : List ℕ). HasFreeStamp f a.held) (sym (here s xs place w x got).meant.folder) free)

-- the keys that are known, of it and of those that are left
pub gone_known : (s : Signed) (xs : List OpenPublication) (place : ℕ) → StandsAt s xs place → (x : OpenPublication) → x ≡ get_or xs place x → (ys : List OpenPublication) → ys ≡ take place xs ++ drop (place + 1) xs → (keys : List (List ℕ)) → KnowsOpen keys xs → KnowsKeyOf keys (signature_bytes s.sig) × KnowsOpen keys ys
gone_known s xs place w x got ys by keys opened =
    let h = here s xs place w x got in
    let all = subst (KnowsOpen keys) h.is opened in
    (subst (KnowsKeyOf keys) h.meant.sig (known_at keys h.before x h.after all), subst (KnowsOpen keys) (sym (left_without xs h.before x h.after place h.is h.place_is ys by)) (known_gone keys h.before x h.after all))
