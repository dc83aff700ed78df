use Rattle.std.proofs.Common.{Bool, ◌++◌, ◌≡◌, sym, subst, ℕ, ◌<◌, List, length, inl, inr, false}
use Rattle.std.specs.Prelude.{IsSome, Option}
use Rattle.meta_model.specs.declared.event.Cut.{Cut}
use Rattle.meta_model.specs.declared.event.Event.TheVariants as events
use Rattle.meta_model.specs.declared.event.Logged.{Logged}
use Rattle.meta_model.specs.declared.plan.Plan.{Plan}
use Rattle.run_model.specs.Causes.{is_fault_break}
use Rattle.run_model.specs.Report.{event_line, tale_text}
use Rattle.tale_model.specs.declared.fate.Fate.TheVariants.{Running}
use Rattle.tale_model.specs.Fates.{fate_at, fates_told}
use Rattle.run_core.proofs.Steps.{count_told}
use Rattle.run_queue.specs.declared.fault.RunFault.{RunFault}
use Rattle.run_queue.specs.Keeps.{Prints}
use Rattle.run_queue.specs.Turns.{Marks}
use Rattle.run_queue.proofs.Breaking.{running_within}
use Rattle.run_queue.proofs.Causing.{cut_unbroken}
use Rattle.run_queue.proofs.Concluding.{none_kept}
use Rattle.run_queue.proofs.Turning.{broken_seen, cut_seen, spared_either}
use Rattle.run_queue.proofs.Unsettled.{noted_text}
use Rattle.run_queue.proofs.state.RunState.broke.Goals as goal

pub cut_of-cut-requires : goal.cut_of-cut-requires
cut_of-cut-requires g c =
    let v = c.args.self.now in
    record { task = subst (λ (n : ℕ). c.args.job.task < n) (count_told (length v.plan.tasks) v.tale) (running_within (fates_told (length v.plan.tasks) v.tale) c.args.job.task c.args.number c.requires.runs) }

pub note-requires-clause-unbroken : goal.note-requires-clause-unbroken
note-requires-clause-unbroken g c none = elim c.cut_of-cut.ensures.cut [
  | inl same ↦
      subst (λ (x : Cut). is_fault_break (events.Broke c.args.job.task x) ≡ false) (sym same.0)
      (cut_unbroken c.args.job.task c.args.cut c.cut_of-cut.new.self.fault (λ e. let some = c.requires.fault e in subst (λ (f : Option RunFault). IsSome f) (sym (c.cut_of-cut.ensures.fault some)) some) none)
  | inr it ↦ absurd (none_kept c.cut_of-cut.new.self.fault none it.1)
]

pub returns-clause-marks : goal.returns-clause-marks
returns-clause-marks g c = record {
  broke = c.cut_of-cut.result;
  marks = subst (λ (l : List Logged). Marks c.args.number (events.Broke c.args.job.task c.cut_of-cut.result) l c.note.new.self.tale) c.cut_of-cut.ensures.same.tale c.note.ensures.notes.marks;
  as_asked = elim c.cut_of-cut.ensures.cut [
    | inl same ↦ inl same.0
    | inr it ↦ inr (it.0, subst (λ (f : Option RunFault). IsSome f) (sym (c.note.ensures.fault it.1)) it.1)
  ];
  only_then = elim c.cut_of-cut.ensures.cut [ inl same ↦ inl same.0 | inr it ↦ inr it.2 ];
}

pub returns-clause-run : goal.returns-clause-run
returns-clause-run g c tells o run =
    let v = c.args.self.now in
    let mid = c.cut_of-cut.new.self in
    let same = c.cut_of-cut.ensures.same in
    let lt = subst (λ (n : ℕ). c.args.job.task < n) (count_told (length v.plan.tasks) v.tale) (running_within (fates_told (length v.plan.tasks) v.tale) c.args.job.task c.args.number c.requires.runs) in
    let runs : fate_at (fates_told (length mid.plan.tasks) mid.tale) c.args.job.task ≡ Running c.args.number =
    subst (λ (p : Plan). fate_at (fates_told (length p.tasks) mid.tale) c.args.job.task ≡ Running c.args.number) (sym same.plan)
    (subst (λ (l : List Logged). fate_at (fates_told (length v.plan.tasks) l) c.args.job.task ≡ Running c.args.number) (sym same.tale) c.requires.runs) in
    broken_seen g.D.Disk.story g.W.Sink.written o mid c.note.new.self c.args.job.task c.args.number c.cut_of-cut.result c.note.ensures.notes (c.note.ensures.moment tells) c.note.ensures.fault runs
    (spared_either g.D.Disk.story g.W.Sink.written o v mid c.args.job.task c.args.number c.args.cut c.cut_of-cut.result same c.cut_of-cut.ensures.cut run c.requires.runs lt)
    (cut_seen g.D.Disk.story g.W.Sink.written o v mid same c.cut_of-cut.ensures.fault run)

pub returns-clause-text : goal.returns-clause-text
returns-clause-text g c says base prints =
    let v = c.args.self.now in
    let mid = c.cut_of-cut.new.self in
    let new = c.note.new.self in
    let same = c.cut_of-cut.ensures.same in
    let event = events.Broke c.args.job.task c.cut_of-cut.result in
    let marks = subst (λ (l : List Logged). Marks c.args.number event l new.tale) same.tale c.note.ensures.notes.marks in
    let text = c.note.ensures.text says base (tale_text v.plan.tasks v.tale)
    (subst (λ (w : g.row.W.Denot). Prints base (g.W.Sink.written w) (tale_text v.plan.tasks v.tale) mid.sink_failed) (sym same.sink)
    (subst (λ (b : Bool). Prints base (g.W.Sink.written v.sink) (tale_text v.plan.tasks v.tale) b) (sym same.sink_failed) prints)) in
    noted_text g.W.Sink.written v new c.args.number event base marks
    (subst (λ (p : Plan). Prints base (g.W.Sink.written new.sink) (tale_text v.plan.tasks v.tale ++ event_line p.tasks event) new.sink_failed) same.plan text)
