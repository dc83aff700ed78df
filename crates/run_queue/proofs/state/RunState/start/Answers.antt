use Rattle.std.proofs.Common.{◌≡◌, ◌∙◌, ◌++◌, sym, ap, subst, refl, ℕ, Some, None, inl, inr}
use Rattle.std.specs.Option.{option_map}
use Rattle.std.specs.Prelude.{IfSome, Option, IsSome}
use Rattle.std.specs.List.{slice_get}
use Rattle.outside_traits.proofs.Images.{held-image}
use Rattle.meta_model.specs.declared.event.Event.TheVariants as events
use Rattle.meta_model.specs.declared.event.Why.TheVariants as why
use Rattle.meta_model.specs.declared.plan.PlanTask.{PlanTask}
use Rattle.run_core.specs.declared.next.Next.TheVariants as next
use Rattle.tale_model.specs.Fates.{IsFree}
use Rattle.run_core.specs.History.{IsInOrder}
use Rattle.run_model.specs.Report.{event_line, tale_text}
use Rattle.task_worker.specs.declared.given.Job.{Job}
use Rattle.task_worker.proofs.Building.{sound_is_runnable}
use Rattle.run_queue.specs.Keeps.{IsRun, IsUpToDate, Prints}
use Rattle.run_queue.specs.Outputs.{Finds}
use Rattle.run_queue.specs.Seen.{RunView, Seen, known_in, seen}
use Rattle.run_queue.specs.Turns.{Begins, IsCleanJob, Marks, MarksAt, MayDo, Notes, fates_of}
use Rattle.run_queue.proofs.Agreement.{some_known}
use Rattle.run_queue.proofs.Mends.{beside_unheld}
use Rattle.run_queue.proofs.Passed.{passed_view}
use Rattle.run_queue.proofs.ReadyJobs.{below_settled, job_is_clean, large_says, may_large, not_begun, may_start, ready_lt, settles_large, settles_started, started_order, task_at, told_missing, too_large_order, too_large_over}
use Rattle.run_queue.proofs.There.{tells_none}
use Rattle.run_queue.proofs.Unsettled.{noted_run, noted_text}
use Rattle.run_queue.proofs.state.RunState.start.Goals as goal

pub job_of-requires-clause-runnable : goal.job_of-requires-clause-runnable
job_of-requires-clause-runnable g c = sound_is_runnable c.self.inside.plan c.self.invariant.3.sound

pub note_waiting-requires-clause-order : goal.note_waiting-requires-clause-order
note_waiting-requires-clause-order g c =
    let V : Type 0 = RunView g.row.D.Denot g.row.W.Denot in
    let answer = subst (λ (v : V). MayDo v (next.Start c.args.task)) (sym c.self.view_is) c.requires.answer in
    let free = subst (λ (v : V). IsFree (fates_of v) c.args.number) (sym c.self.view_is) c.requires.free in
    let now = some_known (IsUpToDate c.self.inside.plan c.self.inside.store.rows) _ answer.known answer.is_known c.self.invariant.3.current in
    started_order c.self.inside.plan answer.known c.self.inside.tale.items c.args.task c.args.number now.need answer.may.0 free

pub note_waiting-requires-in-Ok-None-clause-order : goal.note_waiting-requires-in-Ok-None-clause-order
note_waiting-requires-in-Ok-None-clause-order g c =
    let V : Type 0 = RunView g.row.D.Denot g.row.W.Denot in
    let answer = subst (λ (v : V). MayDo v (next.Start c.args.task)) (sym c.self.view_is) c.requires.answer in
    let free = subst (λ (v : V). IsFree (fates_of v) c.args.number) (sym c.self.view_is) c.requires.free in
    let now = some_known (IsUpToDate c.self.inside.plan c.self.inside.store.rows) _ answer.known answer.is_known c.self.invariant.3.current in
    subst (λ (v : V). IsInOrder v.plan.tasks (fates_of v) c.args.number (events.Failed c.args.task why.TooLarge)) (sym c.failure_waits.ensures.same)
    (too_large_order c.self.inside.plan answer.known c.self.inside.tale.items c.args.task c.args.number now.need answer.may.0 free)

pub returns-in_err-note_waiting-in-Ok-Some-clause-run : goal.returns-in_err-note_waiting-in-Ok-Some-clause-run
returns-in_err-note_waiting-in-Ok-Some-clause-run g c tells o run =
    let V : Type 0 = RunView g.row.D.Denot g.row.W.Denot in
    let old : V = record {
      plan = c.self.inside.plan;
      options = c.self.inside.options;
      store = c.self.inside.store;
      sink = c.self.inside.sink;
      sink_failed = c.self.inside.sink_failed;
      fault = c.self.inside.fault;
      tale = c.self.inside.tale.items;
      begun = c.self.inside.begun.items;
      restoring = c.self.inside.restoring.items;
      ends_wait = c.self.inside.ends_wait;
      known = option_map known_in c.self.inside.replan;
    } in
    let run' = subst (λ (v : V). IsRun o (seen g.D.Disk.story g.W.Sink.written v)) (sym c.self.view_is) run in
    subst (λ (v : V). IsRun o (seen g.D.Disk.story g.W.Sink.written v)) (sym c.in_err-note_waiting-in-Ok-Some.ensures.wanting)
    (passed_view g.D.Disk.story g.W.Sink.written o old c.job_of.new.store c.self.inside.fault c.in-Ok-Some.ensures.books (c.in-Ok-Some.ensures.images tells) (λ e. e) run')

pub returns-in_err-note_waiting-in-Ok-None-clause-run : goal.returns-in_err-note_waiting-in-Ok-None-clause-run
returns-in_err-note_waiting-in-Ok-None-clause-run g c tells o run =
    let V : Type 0 = RunView g.row.D.Denot g.row.W.Denot in
    let old : V = record {
      plan = c.self.inside.plan;
      options = c.self.inside.options;
      store = c.self.inside.store;
      sink = c.self.inside.sink;
      sink_failed = c.self.inside.sink_failed;
      fault = c.self.inside.fault;
      tale = c.self.inside.tale.items;
      begun = c.self.inside.begun.items;
      restoring = c.self.inside.restoring.items;
      ends_wait = c.self.inside.ends_wait;
      known = option_map known_in c.self.inside.replan;
    } in
    let run' = subst (λ (v : V). IsRun o (seen g.D.Disk.story g.W.Sink.written v)) (sym c.self.view_is) run in
    subst (λ (v : V). IsRun o (seen g.D.Disk.story g.W.Sink.written v)) (sym c.in_err-note_waiting-in-Ok-None.ensures.wanting)
    (c.failure_waits.ensures.run tells o
    (passed_view g.D.Disk.story g.W.Sink.written o old c.job_of.new.store c.self.inside.fault c.in-Ok-None.ensures.books (c.in-Ok-None.ensures.images tells) (λ e. e) run'))

pub returns-in-Err-Memory-clause-run : goal.returns-in-Err-Memory-clause-run
returns-in-Err-Memory-clause-run g c tells o run =
    let V : Type 0 = RunView g.row.D.Denot g.row.W.Denot in
    let old : V = record {
      plan = c.self.inside.plan;
      options = c.self.inside.options;
      store = c.self.inside.store;
      sink = c.self.inside.sink;
      sink_failed = c.self.inside.sink_failed;
      fault = c.self.inside.fault;
      tale = c.self.inside.tale.items;
      begun = c.self.inside.begun.items;
      restoring = c.self.inside.restoring.items;
      ends_wait = c.self.inside.ends_wait;
      known = option_map known_in c.self.inside.replan;
    } in
    let run' = subst (λ (v : V). IsRun o (seen g.D.Disk.story g.W.Sink.written v)) (sym c.self.view_is) run in
    passed_view g.D.Disk.story g.W.Sink.written o old c.job_of.new.store c.self.inside.fault c.in-Err-Memory.ensures.books (c.in-Err-Memory.ensures.images tells) (λ e. e) run'

pub returns-in_ok-note_waiting-in-Ok-Some-clause-claims : goal.returns-in_ok-note_waiting-in-Ok-Some-clause-claims
returns-in_ok-note_waiting-in-Ok-Some-clause-claims g c =
    let V : Type 0 = RunView g.row.D.Denot g.row.W.Denot in
    let answer = subst (λ (v : V). MayDo v (next.Start c.args.task)) (sym c.self.view_is) c.requires.answer in
    let now = some_known (IsUpToDate c.self.inside.plan c.self.inside.store.rows) _ answer.known answer.is_known c.self.invariant.3.current in
    let task = task_at c.self.inside.plan.tasks c.args.task (ready_lt c.self.inside.plan answer.known c.self.inside.tale.items c.args.task c.args.number now.need answer.may.0) in
    let script = subst (λ (f : Option Job). IfSome f (λ job. (job.task ≡ c.args.task) × ((t : PlanTask) → slice_get c.self.inside.plan.tasks c.args.task ≡ Some t → job.script ≡ t.script))) c.in-Ok-Some.field-0-is c.in-Ok-Some.ensures.script in
    let marks = c.in_ok-note_waiting-in-Ok-Some.ensures.notes.marks in
    subst (λ (v : V). Begins c.args.number v.plan.tasks v.tale c.note_waiting.new.self.tale c.in-Ok-Some.job) c.self.view_is
    (record {
      task = task.0;
      is_task = ap (slice_get c.self.inside.plan.tasks) script.0 ∙ task.1;
      script = script.1 task.0 task.1;
      marks = subst (λ (t : ℕ). Rattle.run_queue.specs.Turns.Marks c.args.number (events.Started t c.args.number) c.self.inside.tale.items c.note_waiting.new.self.tale) (sym script.0) marks;
    })

pub returns-in_ok-note_waiting-in-Ok-Some-clause-clean : goal.returns-in_ok-note_waiting-in-Ok-Some-clause-clean
returns-in_ok-note_waiting-in-Ok-Some-clause-clean g c tells o run =
    let V : Type 0 = RunView g.row.D.Denot g.row.W.Denot in
    let old : V = record {
      plan = c.self.inside.plan;
      options = c.self.inside.options;
      store = c.self.inside.store;
      sink = c.self.inside.sink;
      sink_failed = c.self.inside.sink_failed;
      fault = c.self.inside.fault;
      tale = c.self.inside.tale.items;
      begun = c.self.inside.begun.items;
      restoring = c.self.inside.restoring.items;
      ends_wait = c.self.inside.ends_wait;
      known = option_map known_in c.self.inside.replan;
    } in
    let run' = subst (λ (v : V). IsRun o (seen g.D.Disk.story g.W.Sink.written v)) (sym c.self.view_is) run in
    let answer = subst (λ (v : V). MayDo v (next.Start c.args.task)) (sym c.self.view_is) c.requires.answer in
    let free = subst (λ (v : V). IsFree (fates_of v) c.args.number) (sym c.self.view_is) c.requires.free in
    let now = some_known (IsUpToDate c.self.inside.plan c.self.inside.store.rows) _ answer.known answer.is_known c.self.invariant.3.current in
    let task = task_at c.self.inside.plan.tasks c.args.task (ready_lt c.self.inside.plan answer.known c.self.inside.tale.items c.args.task c.args.number now.need answer.may.0) in
    let script = subst (λ (f : Option Job). IfSome f (λ job. (job.task ≡ c.args.task) × ((t : PlanTask) → slice_get c.self.inside.plan.tasks c.args.task ≡ Some t → job.script ≡ t.script))) c.in-Ok-Some.field-0-is c.in-Ok-Some.ensures.script in
    let found = subst (λ (f : Option Job). Finds c.self.inside.plan.tasks task.0 (g.D.Disk.story c.self.inside.store.disk).held f) c.in-Ok-Some.field-0-is (c.in-Ok-Some.ensures.found tells task.0 task.1) in
    let settled = below_settled o (seen g.D.Disk.story g.W.Sink.written old) answer.known c.args.task c.args.number task.0 task.1 run' c.self.invariant.3.orderly answer.is_known now free (answer.may.0, answer.may.1) in
    subst (λ (v : V). IsCleanJob o (seen g.D.Disk.story g.W.Sink.written v) c.in-Ok-Some.job) c.self.view_is
    (job_is_clean o (seen g.D.Disk.story g.W.Sink.written old) c.self.invariant.3.sound c.args.task task.0 task.1 (run'.stands (g.D.Disk.story c.self.inside.store.disk).held (held-image (g.D.Disk.story c.self.inside.store.disk) (g.met.D.Disk.sound c.self.inside.store.disk tells))) settled c.in-Ok-Some.job script.0 found)

pub returns-in_ok-note_waiting-in-Ok-Some-clause-run : goal.returns-in_ok-note_waiting-in-Ok-Some-clause-run
returns-in_ok-note_waiting-in-Ok-Some-clause-run g c tells o run =
    let V : Type 0 = RunView g.row.D.Denot g.row.W.Denot in
    let old : V = record {
      plan = c.self.inside.plan;
      options = c.self.inside.options;
      store = c.self.inside.store;
      sink = c.self.inside.sink;
      sink_failed = c.self.inside.sink_failed;
      fault = c.self.inside.fault;
      tale = c.self.inside.tale.items;
      begun = c.self.inside.begun.items;
      restoring = c.self.inside.restoring.items;
      ends_wait = c.self.inside.ends_wait;
      known = option_map known_in c.self.inside.replan;
    } in
    let run' = subst (λ (v : V). IsRun o (seen g.D.Disk.story g.W.Sink.written v)) (sym c.self.view_is) run in
    let answer = subst (λ (v : V). MayDo v (next.Start c.args.task)) (sym c.self.view_is) c.requires.answer in
    let free = subst (λ (v : V). IsFree (fates_of v) c.args.number) (sym c.self.view_is) c.requires.free in
    let now = some_known (IsUpToDate c.self.inside.plan c.self.inside.store.rows) _ answer.known answer.is_known c.self.invariant.3.current in
    let task = task_at c.self.inside.plan.tasks c.args.task (ready_lt c.self.inside.plan answer.known c.self.inside.tale.items c.args.task c.args.number now.need answer.may.0) in
    let script = subst (λ (f : Option Job). IfSome f (λ job. (job.task ≡ c.args.task) × ((t : PlanTask) → slice_get c.self.inside.plan.tasks c.args.task ≡ Some t → job.script ≡ t.script))) c.in-Ok-Some.field-0-is c.in-Ok-Some.ensures.script in
    let found = subst (λ (f : Option Job). Finds c.self.inside.plan.tasks task.0 (g.D.Disk.story c.self.inside.store.disk).held f) c.in-Ok-Some.field-0-is (c.in-Ok-Some.ensures.found tells task.0 task.1) in
    let s : Seen = seen g.D.Disk.story g.W.Sink.written old in
    let settled = below_settled o s answer.known c.args.task c.args.number task.0 task.1 run' c.self.invariant.3.orderly answer.is_known now free (answer.may.0, answer.may.1) in
    let clean = job_is_clean o s c.self.invariant.3.sound c.args.task task.0 task.1 (run'.stands (g.D.Disk.story c.self.inside.store.disk).held (held-image (g.D.Disk.story c.self.inside.store.disk) (g.met.D.Disk.sound c.self.inside.store.disk tells))) settled c.in-Ok-Some.job script.0 found in
    let passed = passed_view g.D.Disk.story g.W.Sink.written o old c.job_of.new.store c.self.inside.fault c.in-Ok-Some.ensures.books (c.in-Ok-Some.ensures.images tells) (λ e. e) run' in
    let n = c.in_ok-note_waiting-in-Ok-Some.ensures in
    noted_run g.D.Disk.story g.W.Sink.written o (record old { store = c.job_of.new.store; fault = c.self.inside.fault }) c.note_waiting.new.self c.args.number (events.Started c.args.task c.args.number) n.notes (n.moment tells) n.fault
    (settles_started o s answer.known c.args.task c.args.number task.0 task.1 run' c.self.invariant.3.orderly answer.is_known now free (answer.may.0, answer.may.1) _)
    passed (beside_unheld o (seen g.D.Disk.story g.W.Sink.written (record old { store = c.job_of.new.store; fault = c.self.inside.fault })) passed (events.Started c.args.task c.args.number) answer.may.2)
    (inl (not_begun o s answer.known c.args.task c.args.number task.0 task.1 run' c.self.invariant.3.orderly answer.is_known now free (answer.may.0, answer.may.1) (ap (λ (v : V). v.fault) c.self.view_is ∙ c.requires.faultless)))
    (may_start o s answer.known c.args.task c.args.number task.0 task.1 run' c.self.invariant.3.orderly answer.is_known now free (answer.may.0, answer.may.1) _ c.in-Ok-Some.job script.0 clean)
    tt
    (told_missing o s answer.known c.args.task c.args.number task.0 task.1 run' c.self.invariant.3.orderly answer.is_known now free (answer.may.0, answer.may.1))

pub returns-in_ok-note_waiting-in-Ok-None-clause-run : goal.returns-in_ok-note_waiting-in-Ok-None-clause-run
returns-in_ok-note_waiting-in-Ok-None-clause-run g c tells o run =
    let V : Type 0 = RunView g.row.D.Denot g.row.W.Denot in
    let old : V = record {
      plan = c.self.inside.plan;
      options = c.self.inside.options;
      store = c.self.inside.store;
      sink = c.self.inside.sink;
      sink_failed = c.self.inside.sink_failed;
      fault = c.self.inside.fault;
      tale = c.self.inside.tale.items;
      begun = c.self.inside.begun.items;
      restoring = c.self.inside.restoring.items;
      ends_wait = c.self.inside.ends_wait;
      known = option_map known_in c.self.inside.replan;
    } in
    let run' = subst (λ (v : V). IsRun o (seen g.D.Disk.story g.W.Sink.written v)) (sym c.self.view_is) run in
    let answer = subst (λ (v : V). MayDo v (next.Start c.args.task)) (sym c.self.view_is) c.requires.answer in
    let free = subst (λ (v : V). IsFree (fates_of v) c.args.number) (sym c.self.view_is) c.requires.free in
    let now = some_known (IsUpToDate c.self.inside.plan c.self.inside.store.rows) _ answer.known answer.is_known c.self.invariant.3.current in
    let task = task_at c.self.inside.plan.tasks c.args.task (ready_lt c.self.inside.plan answer.known c.self.inside.tale.items c.args.task c.args.number now.need answer.may.0) in
    let found = subst (λ (f : Option Job). Finds c.self.inside.plan.tasks task.0 (g.D.Disk.story c.self.inside.store.disk).held f) c.in-Ok-None.field-0-is (c.in-Ok-None.ensures.found tells task.0 task.1) in
    let s : Seen = seen g.D.Disk.story g.W.Sink.written old in
    let settled = below_settled o s answer.known c.args.task c.args.number task.0 task.1 run' c.self.invariant.3.orderly answer.is_known now free (answer.may.0, answer.may.1) in
    let large = too_large_over o s c.self.invariant.3.sound c.args.task task.0 task.1 (run'.stands (g.D.Disk.story c.self.inside.store.disk).held (held-image (g.D.Disk.story c.self.inside.store.disk) (g.met.D.Disk.sound c.self.inside.store.disk tells))) settled found in
    let says = large_says o s answer.known c.args.task c.args.number task.0 task.1 run' c.self.invariant.3.orderly answer.is_known now free (answer.may.0, answer.may.1) large.0 large.1 large.2 large.3 in
    let passed = passed_view g.D.Disk.story g.W.Sink.written o old c.job_of.new.store c.self.inside.fault c.in-Ok-None.ensures.books (c.in-Ok-None.ensures.images tells) (λ e. e) run' in
    let n = c.in_ok-note_waiting-in-Ok-None.ensures in
    let event = events.Failed c.args.task why.TooLarge in
    let same = c.failure_waits.ensures.same in
    let new = c.note_waiting-in-Ok-None.new.self in
    let mid : V = record old { store = c.job_of.new.store; fault = c.self.inside.fault; ends_wait = c.failure_waits.new.self.ends_wait } in
    noted_run g.D.Disk.story g.W.Sink.written o mid new c.args.number event (subst (λ (x : V). Notes c.args.number event x new) same n.notes)
    (subst (λ (x : V). MarksAt (g.D.Disk.story x.store.disk) c.args.number event x.tale new.tale) same (n.moment tells)) (subst (λ (x : V). IsSome x.fault → new.fault ≡ x.fault) same n.fault)
    (settles_large o s answer.known c.args.task c.args.number task.0 task.1 run' c.self.invariant.3.orderly answer.is_known now free (answer.may.0, answer.may.1) _)
    passed (beside_unheld o (seen g.D.Disk.story g.W.Sink.written mid) passed event answer.may.2)
    (inl (not_begun o s answer.known c.args.task c.args.number task.0 task.1 run' c.self.invariant.3.orderly answer.is_known now free (answer.may.0, answer.may.1) (ap (λ (v : V). v.fault) c.self.view_is ∙ c.requires.faultless)))
    (may_large o s answer.known c.args.task c.args.number task.0 task.1 run' c.self.invariant.3.orderly answer.is_known now free (answer.may.0, answer.may.1) _ says)
    (inr (says, refl))
    (tells_none o s.plan s.options s.tale (events.Failed c.args.task why.TooLarge) refl)

pub returns-in-Err-clause-claims : goal.returns-in-Err-clause-claims
returns-in-Err-clause-claims g c =
    let faultless : c.self.inside.fault ≡ None = ap (λ v. v.fault) c.self.view_is ∙ c.requires.faultless in
    (ap (λ v. v.tale) c.self.view_is, inr (subst (λ f. IsSome f) (sym (c.keep.ensures.first faultless)) refl))

pub returns-in-Err-clause-run : goal.returns-in-Err-clause-run
returns-in-Err-clause-run g c tells o run =
    let V : Type 0 = RunView g.row.D.Denot g.row.W.Denot in
    let old : V = record {
      plan = c.self.inside.plan;
      options = c.self.inside.options;
      store = c.self.inside.store;
      sink = c.self.inside.sink;
      sink_failed = c.self.inside.sink_failed;
      fault = c.self.inside.fault;
      tale = c.self.inside.tale.items;
      begun = c.self.inside.begun.items;
      restoring = c.self.inside.restoring.items;
      ends_wait = c.self.inside.ends_wait;
      known = option_map known_in c.self.inside.replan;
    } in
    let run' = subst (λ (v : V). IsRun o (seen g.D.Disk.story g.W.Sink.written v)) (sym c.self.view_is) run in
    let faultless : c.self.inside.fault ≡ None = ap (λ v. v.fault) c.self.view_is ∙ c.requires.faultless in
    passed_view g.D.Disk.story g.W.Sink.written o old c.job_of.new.store c.keep.new.kept c.in-Err.ensures.books (c.in-Err.ensures.images tells) (λ e. faultless) run'

pub returns-in_ok-note_waiting-in-Ok-Some-clause-text : goal.returns-in_ok-note_waiting-in-Ok-Some-clause-text
returns-in_ok-note_waiting-in-Ok-Some-clause-text g c tells base prints =
    let V : Type 0 = RunView g.row.D.Denot g.row.W.Denot in
    let n = c.in_ok-note_waiting-in-Ok-Some.ensures in
    let event = events.Started c.args.task c.args.number in
    let new = c.note_waiting.new.self in
    let marks = subst (λ (v : V). Marks c.args.number event v.tale new.tale) c.self.view_is n.notes.marks in
    let text = subst (λ (v : V). Prints base (g.W.Sink.written v.sink) (tale_text v.plan.tasks v.tale) v.sink_failed → Prints base (g.W.Sink.written new.sink) (tale_text v.plan.tasks v.tale ++ event_line v.plan.tasks event) new.sink_failed) c.self.view_is
    (n.text tells base (tale_text c.self.inside.plan.tasks c.self.inside.tale.items)) in
    noted_text g.W.Sink.written c.args.self.now new c.args.number event base marks (text prints)

-- ---- the failure waits

pub returns-then-failure_waits-clause-claims : goal.returns-then-failure_waits-clause-claims
returns-then-failure_waits-clause-claims g c =
    let V : Type 0 = RunView g.row.D.Denot g.row.W.Denot in
    let waits = c.failure_waits.ensures.waits c.if-failure_waits.true in
    (ap (λ (v : V). v.tale) c.failure_waits.ensures.same ∙ ap (λ (v : V). v.tale) c.self.view_is, inr waits.0, inr (inr waits.1))

pub returns-then-failure_waits-clause-clean : goal.returns-then-failure_waits-clause-clean
returns-then-failure_waits-clause-clean g c tells o run empty =
    let V : Type 0 = RunView g.row.D.Denot g.row.W.Denot in
    absurd ((c.failure_waits.ensures.waits c.if-failure_waits.true).0 (ap (λ (v : V). v.restoring) c.failure_waits.ensures.same ∙ ap (λ (v : V). v.restoring) c.self.view_is ∙ empty))

pub returns-then-failure_waits-clause-run : goal.returns-then-failure_waits-clause-run
returns-then-failure_waits-clause-run g c tells o run =
    let V : Type 0 = RunView g.row.D.Denot g.row.W.Denot in
    let old : V = record {
      plan = c.self.inside.plan;
      options = c.self.inside.options;
      store = c.self.inside.store;
      sink = c.self.inside.sink;
      sink_failed = c.self.inside.sink_failed;
      fault = c.self.inside.fault;
      tale = c.self.inside.tale.items;
      begun = c.self.inside.begun.items;
      restoring = c.self.inside.restoring.items;
      ends_wait = c.self.inside.ends_wait;
      known = option_map known_in c.self.inside.replan;
    } in
    let run' = subst (λ (v : V). IsRun o (seen g.D.Disk.story g.W.Sink.written v)) (sym c.self.view_is) run in
    c.failure_waits.ensures.run tells o (passed_view g.D.Disk.story g.W.Sink.written o old c.job_of.new.store c.self.inside.fault c.in-Ok-None.ensures.books (c.in-Ok-None.ensures.images tells) (λ e. e) run')
