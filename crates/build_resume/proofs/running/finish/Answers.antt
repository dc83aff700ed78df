use Rattle.std.proofs.Common.{◌≡◌, ◌∙◌, sym, ap, subst, ℕ, List, Some, true, inl, inr, arith}
use Rattle.std.specs.Prelude.{◌⊎◌, ◌≤◌, Bool, IfSome}
use Rattle.outside_traits.specs.Fault.{Counts, Rose}
use Rattle.meta_model.specs.declared.event.Logged.{Logged}
use Rattle.meta_model.specs.declared.plan.Plan.{Plan}
use Rattle.run_model.specs.Report.{has_failure, tale_text}
use Rattle.store_model.specs.Opened.{HasNoLitter}
use Rattle.store_model.specs.Readable.{HoldsRecords}
use Rattle.run_queue.specs.Causes.{IsCause}
use Rattle.run_queue.specs.Keeps.{IsFront, IsSteady, Prints}
use Rattle.run_model.specs.Build.{DiffersOver}
use Rattle.run_model.specs.Ends.{is_faultless}
use Rattle.build_resume.proofs.Begun.{EndsSo, ends_by, kept_to, none_kept, ran_on, went_on}
use Rattle.build_resume.proofs.Reports.{reports_as, rose_from, rose_on}
use Rattle.build_resume.proofs.Printing.{grew, said_last}
use Rattle.build_resume.proofs.Statuses.{ended_cause, ended_differs, ended_steady}
use Rattle.build_resume.specs.Benches.{SomeBreak}
use Rattle.run_workers.specs.Runs.{by_bench}
use Rattle.run_workers.specs.declared.worker.Halt.TheVariants as halts
use Rattle.build_resume.proofs.running.finish.Goals as goal

pub returns-clause-ends : goal.returns-clause-ends
returns-clause-ends g c =
    let parts = c.into_parts-parts.ensures in
    let sink : Type 0 = (c.into_parts-parts.result.sink_failed ≡ true) ⊎ Rose (g.W.Sink.faults c.into_parts-parts.result.sink) (g.W.Sink.faults c.conclude.result.sink) in
    let by = c.halt_of_run-halt.result in
    let told : EndsSo sink c.drive-halt.new.state.fault by (has_failure c.drive-halt.new.state.tale) c.conclude.result.status =
    subst (λ f. EndsSo sink f by (has_failure c.drive-halt.new.state.tale) c.conclude.result.status) parts.fault
    (subst (λ (l : List Logged). EndsSo sink c.into_parts-parts.result.fault by (has_failure l) c.conclude.result.status) parts.tale c.conclude.ensures.status) in
    ends_by sink c.args.state c.drive-halt.new.state c.drive-halt.result by c.as_slice.result.now c.conclude.result.tale.items c.conclude.result.status c.halt_of_run-halt.ensures.is (c.as_slice.ensures.value ∙ sym c.conclude.ensures.tale) c.drive-halt.ensures.same (c.conclude.ensures.tale ∙ parts.tale) c.drive-halt.ensures.halted c.kept.ensures.unbroken told

pub returns-clause-went : goal.returns-clause-went
returns-clause-went g c =
    went_on c.drive-halt.result c.args.state.tale c.drive-halt.new.state.tale c.conclude.result.tale.items (g.B.Bench.faults c.args.last.now) (g.B.Bench.faults c.drive-halt.new.bench) (c.conclude.ensures.tale ∙ c.into_parts-parts.ensures.tale) c.drive-halt.ensures.grows c.drive-halt.ensures.broken c.drive-halt.ensures.cause

pub returns-clause-text : goal.returns-clause-text
returns-clause-text g c heard base before first counts =
    let parts = c.into_parts-parts.ensures in
    let last = c.drive-halt.new.state in
    let after : Prints base (g.W.Sink.written last.sink) (tale_text c.args.state.plan.tasks last.tale) last.sink_failed = c.drive-halt.ensures.text heard base first in
    let counted : Counts before (g.W.Sink.faults last.sink) last.sink_failed = c.drive-halt.ensures.sink before counts in
    let plan : c.into_parts-parts.result.plan ≡ c.args.state.plan = parts.plan ∙ c.drive-halt.ensures.same.plan in
    let prints : Prints base (g.W.Sink.written c.into_parts-parts.result.sink) (tale_text c.into_parts-parts.result.plan.tasks c.into_parts-parts.result.tale.items) c.into_parts-parts.result.sink_failed =
    subst (λ (p : Plan). Prints base (g.W.Sink.written c.into_parts-parts.result.sink) (tale_text p.tasks c.into_parts-parts.result.tale.items) c.into_parts-parts.result.sink_failed) (sym plan)
    (subst (λ x. Prints base (g.W.Sink.written x) (tale_text c.args.state.plan.tasks c.into_parts-parts.result.tale.items) c.into_parts-parts.result.sink_failed) (sym parts.sink)
    (subst (λ (l : List Logged). Prints base (g.W.Sink.written last.sink) (tale_text c.args.state.plan.tasks l) c.into_parts-parts.result.sink_failed) (sym parts.tale)
    (subst (λ (b : Bool). Prints base (g.W.Sink.written last.sink) (tale_text c.args.state.plan.tasks last.tale) b) (sym parts.sink_failed) after))) in
    let risen : Counts before (g.W.Sink.faults c.into_parts-parts.result.sink) c.into_parts-parts.result.sink_failed =
    subst (λ x. Counts before (g.W.Sink.faults x) c.into_parts-parts.result.sink_failed) (sym parts.sink)
    (subst (λ (b : Bool). Counts before (g.W.Sink.faults last.sink) b) (sym parts.sink_failed) counted) in
    reports_as c.args.state.plan c.into_parts-parts.result.plan c.conclude.result.tale.items c.into_parts-parts.result.tale.items base (g.W.Sink.written c.conclude.result.sink) c.conclude.result.status plan (sym c.conclude.ensures.tale)
    (c.conclude.ensures.text heard base before prints risen)

pub returns-clause-run : goal.returns-clause-run
returns-clause-run g c tells told o gives run =
    let parts = c.into_parts-parts.ensures in
    let last = c.drive-halt.new.state in
    let did = c.drive-halt.ensures.run tells told o gives run in
    let sink : Type 0 = (c.into_parts-parts.result.sink_failed ≡ true) ⊎ Rose (g.W.Sink.faults c.into_parts-parts.result.sink) (g.W.Sink.faults c.conclude.result.sink) in
    let faultless = λ (e : is_faultless c.conclude.result.status ≡ true). sym parts.fault ∙ none_kept sink c.into_parts-parts.result.fault c.halt_of_run-halt.result (has_failure c.into_parts-parts.result.tale.items) c.conclude.result.status c.conclude.ensures.status e in (
      kept_to g.D.Disk.story g.W.Sink.written o c.args.state last c.conclude.result.disk c.conclude.result.tale.items c.conclude.result.status c.drive-halt.ensures.same (c.conclude.ensures.disk ∙ parts.disk) (c.conclude.ensures.tale ∙ parts.tale) faultless c.kept.ensures.orderly c.drive-halt.ensures.none c.drive-halt.ensures.hands c.kept.ensures.few (λ kept nothing. subst (λ x. HasNoLitter
          (g.D.Disk.story x).held) parts.disk (parts.swept tells kept nothing)) did.0,
      ran_on (g.B.Bench.gives c.args.last.now) c.args.state.plan c.drive-halt.result c.args.state.tale c.conclude.result.tale.items last.tale (g.B.Bench.place c.args.last.now).runs (g.B.Bench.place c.drive-halt.new.bench).runs (c.conclude.ensures.tale ∙ parts.tale) did.1,
    )

pub returns-clause-printed : goal.returns-clause-printed
returns-clause-printed g c heard told from base before said =
    let parts = c.into_parts-parts.ensures in
    let state = c.args.state in
    let last = c.drive-halt.new.state in
    let did = c.drive-halt.ensures.printed heard told from base before said in
    let grown = grew (g.W.Sink.written last.sink) (g.W.Sink.written c.conclude.result.sink) (subst (λ x. (front : List ℕ) → IsFront front (g.W.Sink.written x) → IsFront front (g.W.Sink.written c.conclude.result.sink)) parts.sink (c.conclude.ensures.stays heard)) in
    said_last state.plan c.drive-halt.result last.fault from last.tale c.conclude.result.tale.items before (g.B.Bench.place c.drive-halt.new.bench).runs base (g.W.Sink.written last.sink) (g.W.Sink.written c.conclude.result.sink) (c.conclude.ensures.tale ∙ parts.tale) did grown

pub returns-clause-steady : goal.returns-clause-steady
returns-clause-steady g c tells told o gives run held =
    let parts = c.into_parts-parts.ensures in
    let sink : Type 0 = (c.into_parts-parts.result.sink_failed ≡ true) ⊎ Rose (g.W.Sink.faults c.into_parts-parts.result.sink) (g.W.Sink.faults c.conclude.result.sink) in
    let fault = subst (λ f. IsSteady f) (sym parts.fault) (c.drive-halt.ensures.steady tells told o gives run held) in
    ended_steady sink c.into_parts-parts.result.fault c.halt_of_run-halt.result (has_failure c.into_parts-parts.result.tale.items) c.conclude.result.status c.conclude.ensures.status fault

pub returns-clause-lawful : goal.returns-clause-lawful
returns-clause-lawful g c tells = g.met.D.Disk.sound c.conclude.result.disk tells

pub returns-clause-cause : goal.returns-clause-cause
returns-clause-cause g c before counts =
    let parts = c.into_parts-parts.ensures in
    let last = c.drive-halt.new.state in
    let sinks : Type 0 = (c.into_parts-parts.result.sink_failed ≡ true) ⊎ Rose (g.W.Sink.faults c.into_parts-parts.result.sink) (g.W.Sink.faults c.conclude.result.sink) in
    let counted : Counts before (g.W.Sink.faults last.sink) last.sink_failed = c.drive-halt.ensures.sink before counts in
    let risen : Counts before (g.W.Sink.faults c.into_parts-parts.result.sink) c.into_parts-parts.result.sink_failed =
    subst (λ x. Counts before (g.W.Sink.faults x) c.into_parts-parts.result.sink_failed) (sym parts.sink) (subst (λ (b : Bool). Counts before (g.W.Sink.faults last.sink) b) (sym parts.sink_failed) counted) in
    let write : c.into_parts-parts.result.sink_failed ≡ true → Rose before (g.W.Sink.faults c.conclude.result.sink) = λ e. rose_on before (g.W.Sink.faults c.into_parts-parts.result.sink) (g.W.Sink.faults c.conclude.result.sink) (subst (Counts before (g.W.Sink.faults c.into_parts-parts.result.sink)) e risen).rose c.conclude.ensures.later in
    let rows = last.store.rows in
    let cause = subst (λ x. IfSome c.into_parts-parts.result.fault (IsCause (g.D.Disk.faults x) last.plan rows c.into_parts-parts.result.sink_failed)) (sym c.conclude.ensures.disk)
    (subst (λ x. IfSome c.into_parts-parts.result.fault (IsCause (g.D.Disk.faults x) last.plan rows c.into_parts-parts.result.sink_failed)) (sym parts.disk)
    (subst (λ (b : Bool). IfSome c.into_parts-parts.result.fault (IsCause (g.D.Disk.faults last.store.disk) last.plan rows b)) (sym parts.sink_failed)
    (subst (λ f. IfSome f (IsCause (g.D.Disk.faults last.store.disk) last.plan rows last.sink_failed)) (sym parts.fault) c.kept.ensures.cause))) in
    let broke : c.halt_of_run-halt.result ≡ halts.Bench → Rose (g.B.Bench.faults c.args.last.now) (g.B.Bench.faults c.drive-halt.new.bench) ⊎ SomeBreak c.conclude.result.tale.items = λ e. elim (c.halt_of_run-halt.ensures.bench e) [
      | inl alone ↦ inl (subst (Counts (g.B.Bench.faults c.args.last.now) (g.B.Bench.faults c.drive-halt.new.bench)) (ap (λ h. by_bench (Some h)) alone) c.drive-halt.ensures.cause).rose
      | inr some ↦ inr (subst (λ (l : List Logged). SomeBreak l) (c.as_slice.ensures.value ∙ sym c.conclude.ensures.tale) some)
    ] in
    ended_cause (g.D.Disk.faults c.conclude.result.disk) last.plan rows c.into_parts-parts.result.sink_failed (has_failure c.into_parts-parts.result.tale.items) (Rose (g.B.Bench.faults c.args.last.now) (g.B.Bench.faults c.drive-halt.new.bench) ⊎ SomeBreak c.conclude.result.tale.items) (Rose before (g.W.Sink.faults c.conclude.result.sink)) sinks
    c.into_parts-parts.result.fault c.halt_of_run-halt.result c.conclude.result.status cause write (λ e. elim e [
      | inl failed ↦ write failed
      | inr rose ↦ rose_from before (g.W.Sink.faults c.into_parts-parts.result.sink) (g.W.Sink.faults c.conclude.result.sink) risen.later rose
    ]) broke c.conclude.ensures.status

pub returns-clause-differs : goal.returns-clause-differs
returns-clause-differs g c =
    let parts = c.into_parts-parts.ensures in
    let last = c.drive-halt.new.state in
    let rows = last.store.rows in
    let status = c.conclude.result.status in
    let sinks : Type 0 = (c.into_parts-parts.result.sink_failed ≡ true) ⊎ Rose (g.W.Sink.faults c.into_parts-parts.result.sink) (g.W.Sink.faults c.conclude.result.sink) in
    let cause = subst (λ f. IfSome f (IsCause (g.D.Disk.faults last.store.disk) last.plan rows last.sink_failed)) (sym parts.fault) c.kept.ensures.cause in
    record {
      rows = rows;
      kept = λ tells. subst (λ x. HoldsRecords (g.D.Disk.story x) rows) (sym c.conclude.ensures.disk) (parts.records tells);
      differs = subst (λ (p : Plan). DiffersOver p rows status) c.drive-halt.ensures.same.plan
          (ended_differs (g.D.Disk.faults last.store.disk) last.plan rows last.sink_failed (has_failure c.into_parts-parts.result.tale.items) sinks c.into_parts-parts.result.fault c.halt_of_run-halt.result status cause c.conclude.ensures.status);
    }

pub returns-clause-alike : goal.returns-clause-alike
returns-clause-alike g c = (c.drive-halt.ensures.gives, c.drive-halt.ensures.cause.later)

pub returns-clause-later : goal.returns-clause-later
returns-clause-later g c before counts =
    let parts = c.into_parts-parts.ensures in
    let last = c.drive-halt.new.state in
    let risen : before ≤ g.W.Sink.faults last.sink = (c.drive-halt.ensures.sink before counts).later in
    let from : before ≤ g.W.Sink.faults c.into_parts-parts.result.sink = subst (λ x. before ≤ g.W.Sink.faults x) (sym parts.sink) risen in
    let on : g.W.Sink.faults c.into_parts-parts.result.sink ≤ g.W.Sink.faults c.conclude.result.sink = c.conclude.ensures.later in
    omega (arith, from, on)
