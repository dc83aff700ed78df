use Rattle.std.proofs.Common.{◌≡◌, ◌∙◌, sym, ap, subst, refl, ℕ, ◌<◌, length}
use Rattle.std.specs.Prelude.{IsSome}
use Rattle.meta_model.specs.declared.event.Event.TheVariants as events
use Rattle.tale_model.specs.Fates.{fates_told}
use Rattle.run_core.proofs.Steps.{count_told}
use Rattle.store_model.specs.Available.{task_folder}
use Rattle.build_store.specs.View.{opened_at}
use Rattle.run_queue.specs.Seen.{RunView, seen}
use Rattle.run_queue.specs.Turns.{MarksAt, Notes}
use Rattle.run_queue.proofs.Breaking.{running_within}
use Rattle.run_queue.proofs.Openable.{none_there}
use Rattle.run_queue.proofs.Turning.{failed_seen, spared_now}
use Rattle.run_queue.proofs.state.RunState.failed.Goals as goal

pub has_open-requires : goal.has_open-requires
has_open-requires g c =
    let v = c.args.self.now in
    record { task = subst (λ (n : ℕ). c.args.job.now.task < n) (count_told (length v.plan.tasks) v.tale) (running_within (fates_told (length v.plan.tasks) v.tale) c.args.job.now.task c.args.number c.requires.runs) }

pub returns-then-failure_waits-clause-fails : goal.returns-then-failure_waits-clause-fails
returns-then-failure_waits-clause-fails g c =
    let V : Type 0 = RunView g.row.D.Denot g.row.W.Denot in
    let same = c.failure_waits.ensures.same in
    record { tale = ap (λ (v : V). v.tale) same; sound = c.requires.faultless; fault = ap (λ (v : V). v.fault) same ∙ c.requires.faultless }

pub returns-then-failure_waits-clause-run : goal.returns-then-failure_waits-clause-run
returns-then-failure_waits-clause-run g c tells o run given fails is_given clean = c.failure_waits.ensures.run tells o run

pub returns-clause-run : goal.returns-clause-run
returns-clause-run g c tells o run given fails is_given clean =
    let V : Type 0 = RunView g.row.D.Denot g.row.W.Denot in
    let v = c.args.self.now in
    let mid : V = record v { ends_wait = c.failure_waits.new.self.ends_wait } in
    let t = c.args.job.now.task in
    let event = events.Failed t c.args.why in
    let same = c.failure_waits.ensures.same in
    let new = c.note.new.self in
    let lt = subst (λ (n : ℕ). t < n) (count_told (length v.plan.tasks) v.tale) (running_within (fates_told (length v.plan.tasks) v.tale) t c.args.number c.requires.runs) in
    failed_seen g.D.Disk.story g.W.Sink.written o mid new c.args.job.now given c.args.why c.args.number fails.outcome fails.closed clean is_given
    (subst (λ (x : V). Notes c.args.number event x new) same c.note.ensures.notes) (subst (λ (x : V). MarksAt (g.D.Disk.story x.store.disk) c.args.number event x.tale new.tale) same (c.note.ensures.moment tells))
    (subst (λ (x : V). IsSome x.fault → new.fault ≡ x.fault) same c.note.ensures.fault) c.requires.runs
    (spared_now o (seen g.D.Disk.story g.W.Sink.written mid) c.args.number c.args.number t event refl run c.requires.faultless c.requires.runs lt
    (λ own at. none_there (opened_at v.store.opened (task_folder own)) (sym (c.has_open.ensures own at) ∙ c.if-has_open.false)))
    run
