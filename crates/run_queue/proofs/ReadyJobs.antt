-- The job of a ready task over what is read back is the clean build's.
use Rattle.std.proofs.Common.{◌≡◌, ◌∙◌, sym, ap, subst, refl, ℕ, ◌<◌, zero, suc, arith, Bool, true, false, List, [], ◌∷◌, ◌++◌, length, map, None, Some, Ok, Err, inl, inr}
use Rattle.std.specs.Prelude.{All, Option, Result, if◌then◌else◌}
use Rattle.std.specs.List.{AllByRecursion, filter_map, slice_get}
use Rattle.std.specs.Option.{option_map}
use Rattle.std.proofs.lemmas.Bool.{false≢true}
use Rattle.std.proofs.lemmas.List.Elements.{All-contains, recursion_from_All}
use Rattle.std.proofs.lemmas.Option.{slice_get-map, slice_get_within}
use Rattle.tree_model.proofs.LawLemmas.{same_trees}
use Rattle.meta_model.specs.declared.event.Avail.{Avail}
use Rattle.meta_model.specs.declared.event.Avail.TheVariants.{Missing}
use Rattle.meta_model.specs.declared.event.Event.{Event}
use Rattle.meta_model.specs.declared.event.Event.TheVariants as events
use Rattle.meta_model.specs.declared.event.Why.{Why}
use Rattle.meta_model.specs.declared.event.Why.TheVariants as why
use Rattle.meta_model.specs.declared.plan.PlanTask.{PlanTask}
use Rattle.meta_model.specs.CleanBuild.{Built, Entries, Gives, Lack, built_over, by_itself, clean_build, clean_output, given, has_long_part, is_beyond, is_beyond_layout, limited, output_of, outputs_of, task_output}
use Rattle.meta_model.specs.Layout as laid
use Rattle.meta_model.proofs.Building.{all_tasks}
use Rattle.plan_model.specs.Sound.{IsSound}
use Rattle.tale_model.specs.declared.fate.Fate.TheVariants as fate
use Rattle.tale_model.specs.Choice.{IsReady}
use Rattle.run_core.specs.Choice.{MayAnswer}
use Rattle.tale_model.specs.Fates.{IsFree, fate_at, fate_by, fates_told, is_settled, task_of}
use Rattle.tale_model.specs.History.{Clean, Course, EachAfter, MayCome, layout_too_large}
use Rattle.run_core.specs.History.{IsInOrder, IsOrderly, started_as}
use Rattle.tale_model.specs.Need.{IsIn, IsNeed, deps_in}
use Rattle.run_core.specs.declared.next.Next.TheVariants as next
use Rattle.run_core.proofs.Steps.{count_told}
use Rattle.meta_model.specs.declared.event.Logged.{Logged}
use Rattle.meta_model.specs.declared.plan.Plan.{Plan}
use Rattle.store_model.specs.Origins.{Book}
use Rattle.store_model.specs.Available.{work_folder}
use Rattle.build_store.specs.Finding.{IsOutput}
use Rattle.task_worker.specs.declared.given.Job.{Job}
use Rattle.run_model.specs.Layouts.{layout_over}
use Rattle.task_worker.specs.Jobs.{job_output}
use Rattle.run_model.specs.CleanOutputs.{AreClean, Has}
use Rattle.task_worker.specs.OneTask.{job_of}
use Rattle.task_worker.proofs.Building.{at_place}
use Rattle.run_model.specs.Opening.{Opening}
use Rattle.run_queue.specs.Outputs.{AreRead, IsJobOf, IsRead, IsTooLarge, LacksOne}
use Rattle.run_queue.specs.Outputs.IsTooLarge.{laid as too_laid, output as too_output}
use Rattle.run_model.specs.Books.{book_by}
use Rattle.run_model.specs.Courses.{IsCourse, clean_says, said}
use Rattle.run_queue.specs.Keeps.{IsRun, IsUpToDate, WasThere}
use Rattle.run_queue.specs.Seen.{IsBegun, Known, Seen}
use Rattle.store_model.specs.Available.{IsAvailable}
use Rattle.setscene_plan.proofs.Naming.{signed_at}
use Rattle.run_model.specs.Stands.{AllStand, HasEnded}
use Rattle.run_queue.specs.Turns.{IsCleanJob}
use Rattle.run_queue.proofs.Agreement.{some_known}
use Rattle.run_queue.proofs.Claiming.{claim_may_come}
use Rattle.run_queue.proofs.Jobs.{job_is_said}
use Rattle.run_queue.proofs.There.{WasSo, tells_one}
use Rattle.run_queue.proofs.Unsettled.{SettlesNone}

-- ---- clean outputs are within the limits

limited_small : (x tree : Entries) → limited (Ok x) ≡ Ok tree → is_beyond tree ≡ false
limited_small x tree is = by (is_beyond x) refl is
  where
    by : (b : Bool) → is_beyond x ≡ b → (if b then Err why.TooLarge else Ok x) ≡ Ok tree → is_beyond tree ≡ false
    by true e f = absurd (cc)
    by false e f = let same : x ≡ tree = cc in ap is_beyond (sym same) ∙ e

output_small : (sstate : Bool) (places : List (List ℕ × List ℕ)) (x : Result Entries Why) (tree : Entries) → output_of sstate places x ≡ Ok tree → is_beyond tree ≡ false
output_small sstate places (Err cause) tree is = absurd (cc)
output_small sstate places (Ok x) tree is = by (has_long_part sstate places x) is
  where
    by : (long : Bool) → (if long then Err why.TooLarge else limited (Ok (given sstate places x))) ≡ Ok tree → is_beyond tree ≡ false
    by true e = absurd (cc)
    by false e = limited_small (given sstate places x) tree e

task_small : (gives : Gives) (task : PlanTask) (layout tree : Entries) → task_output gives task.script task.sstate task.places layout ≡ Ok tree → is_beyond tree ≡ false
task_small gives task layout tree is = by (is_beyond_layout layout) is
  where
    by : (b : Bool) → (if b then Err why.TooLarge else output_of task.sstate task.places (clean_output gives task.script layout)) ≡ Ok tree → is_beyond tree ≡ false
    by true e = absurd (cc)
    by false e = output_small task.sstate task.places (clean_output gives task.script layout) tree e

itself_small : (x : Result Entries Why) (tree : Entries) → by_itself x ≡ Ok tree → x ≡ Ok tree
itself_small (Ok y) tree is = let same : y ≡ tree = cc in ap Ok same
itself_small (Err cause) tree is = absurd (cc)

over_small : (gives : Gives) (task : PlanTask) (needed : Result (List laid.Needed) Lack) (tree : Entries) → built_over gives task needed ≡ Ok tree → is_beyond tree ≡ false
over_small gives task (Err lack) tree is = absurd (cc)
over_small gives task (Ok needed) tree is = task_small gives task (laid.layout task.id.pn task.files needed) tree (itself_small (task_output gives task.script task.sstate task.places (laid.layout task.id.pn task.files needed)) tree is)

-- the task of what is built at a place, and that something is built at each
pub built_task : (gives : Gives) (tasks : List PlanTask) (k : ℕ) (built : Built) → slice_get (clean_build gives tasks) k ≡ Some built → slice_get tasks k ≡ Some built.task
built_task gives tasks k built is =
    ap (λ (l : List PlanTask). slice_get l k) (sym (all_tasks gives tasks)) ∙ slice_get-map (λ (b : Built). b.task) (clean_build gives tasks) k ∙ ap (option_map (λ (b : Built). b.task)) is

some_same : {X : Type 0} {x y : X} → ◌≡◌ {A = Option X} (Some x) (Some y) → x ≡ y
some_same e = cc

module _ (o : Opening) (s : Seen) (sound : IsSound s.plan) (n : ℕ) (task : PlanTask) (at : slice_get s.plan.tasks n ≡ Some task)
    (stands : AllStand o s.plan s.tale s.story.held) (settled : All (λ d. is_settled (fate_at (fates_told (length s.plan.tasks) s.tale) d) ≡ true) task.deps) where
  clean_small : (d : ℕ) (dep : PlanTask) (built : Built) (tree : Entries) → slice_get s.plan.tasks d ≡ Some dep → slice_get (clean_build o.gives s.plan.tasks) d ≡ Some built → built.outcome ≡ Ok tree → is_beyond tree ≡ false
  clean_small d dep built tree at_d is clean =
      let placed = at_place o.gives [] s.plan.tasks d d dep at_d (omega arith) (recursion_from_All (λ x. x < d) dep.deps (sound.tasks d dep at_d).below) in
      let same = some_same (sym is ∙ placed) in
      over_small o.gives dep (outputs_of (filter_map (slice_get (clean_build o.gives s.plan.tasks)) dep.deps)) tree (sym (ap (λ (b : Built). b.outcome) same) ∙ clean)

  -- what is read of a needed task's folder is its clean output
  found_is_clean : (d : ℕ) (tree : Entries) → d < length s.plan.tasks → is_settled (fate_at (fates_told (length s.plan.tasks) s.tale) d) ≡ true → ((t : PlanTask) → slice_get s.plan.tasks d ≡ Some t → IsOutput (work_folder t) s.story.held (Some tree)) → Has o.gives s.plan.tasks d (Ok tree)
  found_is_clean d tree lt done found =
      let t = place_of s.plan.tasks d lt in
      let st = stands d t.0 t.1 done in
      let u = (found t.0 t.1).0 in
      let same : tree ≡ st.work.tree = same_trees tree st.work.tree u.is_tree st.tree (λ q. sym (u.entries q) ∙ st.work.holds.entries q) in
      (st.built, st.is_built, st.work.clean ∙ ap Ok (sym same))
    where
      place_of : {X : Type 0} (xs : List X) (k : ℕ) → k < length xs → (x : X) × (slice_get xs k ≡ Some x)
      place_of [] k lt = absurd (omega arith)
      place_of (x ∷ xs) zero lt = (x, refl)
      place_of (x ∷ xs) (suc k) lt = place_of xs k (omega arith)

  fits : n < length s.plan.tasks
  fits = slice_get_within s.plan.tasks n task at

  all_clean : (deps : List ℕ) (outputs : List (ℕ × Entries)) → map (λ x. x.0) outputs ≡ deps → AllByRecursion (λ d. d < n) deps → AllByRecursion (λ d. is_settled (fate_at (fates_told (length s.plan.tasks) s.tale) d) ≡ true) deps
      → AllByRecursion (IsRead s.plan.tasks s.story.held) outputs → AreClean o.gives s.plan.tasks outputs
  all_clean deps [] numbers below done found = tt
  all_clean [] (x ∷ outputs) numbers below done found = absurd (cc)
  all_clean (d ∷ deps) (x ∷ outputs) numbers below done found =
      let first : x.0 ≡ d = cc in
      let rest : map (λ p. p.0) outputs ≡ deps = cc in
      let lt : d < n = below.0 in
      (found_is_clean x.0 x.1 (omega (arith, first, lt, fits)) (subst (λ (m : ℕ). is_settled (fate_at (fates_told (length s.plan.tasks) s.tale) m) ≡ true) (sym first) done.0) found.0, all_clean deps outputs rest below.1 done.1 found.1)

  pub are_clean : (outputs : List (ℕ × Entries)) → AreRead s.plan.tasks task.deps s.story.held outputs → AreClean o.gives s.plan.tasks outputs
  are_clean outputs read =
      all_clean task.deps outputs read.numbers_are (recursion_from_All (λ d. d < n) task.deps (sound.tasks n task at).below)
      (recursion_from_All (λ d. is_settled (fate_at (fates_told (length s.plan.tasks) s.tale) d) ≡ true) task.deps settled) read.each

  -- the job is a clean one
  pub job_is_clean : (job : Job) → job.task ≡ n → IsJobOf s.plan.tasks task s.story.held job → IsCleanJob o s job
  job_is_clean job same j = record {
    task = task;
    is_task = ap (slice_get s.plan.tasks) same ∙ at;
    outputs = j.outputs;
    numbers = j.read.numbers_are;
    clean = are_clean j.outputs j.read;
    script = j.is_script;
    layout = j.is_laid;
    placing = j.is_placing;
    within = j.within;
  }

  never_lacks : LacksOne s.plan.tasks task.deps s.story.held → ⊥
  never_lacks lack =
      let done = All-contains (λ d. is_settled (fate_at (fates_told (length s.plan.tasks) s.tale) d) ≡ true) task.deps lack.number settled lack.among in
      let st = stands lack.number lack.task lack.at done in
      let u = lack.lacks.1 in
      let same : lack.lacks.0 ≡ st.work.tree = same_trees lack.lacks.0 st.work.tree u.is_tree st.tree (λ q. sym (u.entries q) ∙ st.work.holds.entries q) in
      false≢true (sym (clean_small lack.number lack.task st.built st.work.tree lack.at st.is_built st.work.clean) ∙ ap is_beyond (sym same) ∙ lack.lacks.2)

  -- a layout that is too large is so over the clean outputs
  pub too_large_over : IsTooLarge s.plan.tasks task s.story.held → (outputs : List (ℕ × Entries)) × (map (λ x. x.0) outputs ≡ task.deps) × AreClean o.gives s.plan.tasks outputs × (is_beyond_layout (layout_over s.plan.tasks task outputs) ≡ true)
  too_large_over (too_output lack) = absurd (never_lacks lack)
  too_large_over (too_laid outputs read beyond) = (outputs, read.numbers_are, are_clean outputs read, beyond)

-- ---- how a ready task is marked

module _ (plan : Plan) (k : Known) (tale : List Logged) (t seat : ℕ) (need : IsNeed plan k.avail k.need) (ready : IsReady plan.tasks k.need k.avail (fates_told (length plan.tasks) tale) t) where
  pub ready_lt : t < length plan.tasks
  ready_lt = subst (λ n. t < n) need.long (slice_get_within k.need t true ready.needed)

  pub ready_within : t < length (fates_told (length plan.tasks) tale)
  ready_within = subst (λ n. t < n) (sym (count_told (length plan.tasks) tale)) ready_lt

  pub started_order : IsFree (fates_told (length plan.tasks) tale) seat → IsInOrder plan.tasks (fates_told (length plan.tasks) tale) seat (events.Started t seat)
  started_order free = record { can = (ready_within, ready.waits, free); by_seat = (refl, ready.settled) }

  pub too_large_order : IsFree (fates_told (length plan.tasks) tale) seat → IsInOrder plan.tasks (fates_told (length plan.tasks) tale) seat (events.Failed t why.TooLarge)
  too_large_order free = record { can = (ready_within, ap is_settled ready.waits, λ e. let n : fate.Waiting ≡ fate.Failed = sym ready.waits ∙ e in cc); by_seat = inr (ready.waits, free) }

-- what a task does that doesn't fail by its layout
started_said : (seat t : ℕ) (x : Result Entries Why) (clean : Clean) → clean ≡ said x → started_as seat t clean ≡ events.Started t seat
started_said seat t (Ok tree) clean is = ap (started_as seat t) is
started_said seat t (Err cause) clean is = ap (started_as seat t) is

module _ (o : Opening) (s : Seen) (k : Known) (t seat : ℕ) (task : PlanTask) (at : slice_get s.plan.tasks t ≡ Some task) (run : IsRun o s) (orderly : EachAfter (IsOrderly s.plan.tasks) s.tale) (known : s.known ≡ Some k) (now : IsUpToDate s.plan s.rows k)
    (free : IsFree (fates_told (length s.plan.tasks) s.tale) seat) (answer : MayAnswer s.options s.plan.tasks k.need k.avail (fates_told (length s.plan.tasks) s.tale) (next.Start t)) where
  -- the task's dependencies are settled
  pub below_settled : All (λ d. is_settled (fate_at (fates_told (length s.plan.tasks) s.tale) d) ≡ true) task.deps
  below_settled = subst (λ (x : Option PlanTask). All (λ d. is_settled (fate_at (fates_told (length s.plan.tasks) s.tale) d) ≡ true) (deps_in x)) at answer.0.settled

  settles_none : (event : Event) (moment : ℕ) → task_of event ≡ t → is_settled (fate_by event) ≡ false → ((b : Book) → book_by o.gives s.plan b event ≡ b) → SettlesNone o s.plan s.tale (record { event = event; seat = seat; moment = moment })
  settles_none event moment same after book = record {
    within = subst (λ n. n < length (fates_told (length s.plan.tasks) s.tale)) (sym same) (ready_within s.plan k s.tale t seat now.need answer.0);
    before = ap (λ n. is_settled (fate_at (fates_told (length s.plan.tasks) s.tale) n)) same ∙ ap is_settled answer.0.waits;
    after = after;
    book = book;
  }

  pub settles_started : (moment : ℕ) → SettlesNone o s.plan s.tale (record { event = events.Started t seat; seat = seat; moment = moment })
  settles_started moment = settles_none (events.Started t seat) moment refl refl (λ b. refl)

  -- it was missing when the run began
  not_ended : HasEnded s.plan s.tale t → ⊥
  not_ended ended = let n : fate.Waiting ≡ fate.Ended = sym answer.0.waits ∙ ended in cc

  was_missing : WasThere o s t Missing
  was_missing = some_known (λ (x : Known). (u : ℕ) (a : Avail) → IsIn x.need u → (HasEnded s.plan s.tale u → ⊥) → slice_get x.avail u ≡ Some a → WasThere o s u a) s.known k known run.there t Missing answer.0.needed not_ended answer.0.missing

  pub told_missing : WasSo o s.plan s.options s.tale (events.Started t seat)
  told_missing = tells_one o s (events.Started t seat) t Missing run.rows was_missing refl

  -- so it isn't begun
  pub not_begun : s.fault ≡ None → IsBegun s t → ⊥
  not_begun none begun =
      let lt : t < length s.plan.tasks = ready_lt s.plan k s.tale t seat now.need answer.0 in
      let x = signed_at s.rows s.plan.tasks t lt in
      let was = run.answered none t begun.0 begun.1 not_ended in
      elim was.1 [
        | inl object ↦ (was_missing x.0 x.1).1 (subst (IsAvailable o.story.held s.rows s.options.setscene x.0) object (was.0 x.0 x.1)).1
        | inr gone ↦ (let n : fate.Waiting ≡ fate.Running gone.1.0 = sym answer.0.waits ∙ gone.1.1 in cc)
      ]

  pub settles_large : (moment : ℕ) → SettlesNone o s.plan s.tale (record { event = events.Failed t why.TooLarge; seat = seat; moment = moment })
  settles_large moment = settles_none (events.Failed t why.TooLarge) moment refl refl (λ b. refl)

  -- a task whose layout is within the limits may be started in each course
  pub may_start : (moment : ℕ) (job : Job) → job.task ≡ t → IsCleanJob o s job → (course : Course) → course.plan ≡ s.plan → IsCourse o s.options (s.tale ++ record { event = events.Started t seat; seat = seat; moment = moment } ∷ []) course
      → MayCome course s.tale (record { event = events.Started t seat; seat = seat; moment = moment })
  may_start moment job same j =
      let fits : is_beyond_layout (layout_over s.plan.tasks j.task j.outputs) ≡ false = ap is_beyond_layout (sym j.layout) ∙ j.within in
      let says = (job_is_said o.gives s.plan.tasks job.task j.task j.outputs j.is_task j.numbers j.clean).0 fits in
      claim_may_come o s k (next.Start t) (record { event = events.Started t seat; seat = seat; moment = moment }) run orderly known now free answer
      (ap Some (started_said seat t (job_output o.gives (job_of job.task j.task (layout_over s.plan.tasks j.task j.outputs))) (clean_says o.gives s.plan.tasks t) (ap (clean_says o.gives s.plan.tasks) (sym same) ∙ says)))

  -- one whose layout isn't may be marked so, and fails so in the clean build
  pub large_says : (outputs : List (ℕ × Entries)) → map (λ x. x.0) outputs ≡ task.deps → AreClean o.gives s.plan.tasks outputs → is_beyond_layout (layout_over s.plan.tasks task outputs) ≡ true → clean_says o.gives s.plan.tasks t ≡ layout_too_large
  large_says outputs numbers clean beyond = (job_is_said o.gives s.plan.tasks t task outputs at numbers clean).1 beyond

  pub may_large : (moment : ℕ) → clean_says o.gives s.plan.tasks t ≡ layout_too_large → (course : Course) → course.plan ≡ s.plan → IsCourse o s.options (s.tale ++ record { event = events.Failed t why.TooLarge; seat = seat; moment = moment } ∷ []) course
      → MayCome course s.tale (record { event = events.Failed t why.TooLarge; seat = seat; moment = moment })
  may_large moment says =
      claim_may_come o s k (next.Start t) (record { event = events.Failed t why.TooLarge; seat = seat; moment = moment }) run orderly known now free answer (ap (λ c. Some (started_as seat t c)) says)

-- the task of a number
pub task_at : {X : Type 0} (tasks : List X) (t : ℕ) → t < length tasks → (task : X) × (slice_get tasks t ≡ Some task)
task_at [] t lt = absurd (omega arith)
task_at (x ∷ xs) zero lt = (x, refl)
task_at (x ∷ xs) (suc t) lt = task_at xs t (omega arith)
