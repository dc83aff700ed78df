use Rattle.std.proofs.Common.{◌≡◌, ◌≤◌, ◌∙◌, sym, ap, subst, refl, [], append-nil, length, List, map}
use Rattle.outside_traits.specs.Fault.{Rose}
use Rattle.meta_model.specs.declared.event.Status.TheVariants as status
use Rattle.meta_model.specs.declared.plan.Options.{Options}
use Rattle.meta_model.specs.declared.plan.Plan.{Plan}
use Rattle.run_queue.specs.Keeps.{IsFront}
use Rattle.run_model.specs.Runs.{Runs}
use Rattle.run_model.specs.Benches.{AtSeats, BreaksByFault, SomeRose, broken_at, started_by}
use Rattle.run_model.specs.Build.{AllClean, DiffersOver, MayEndSo, RanJust, RanPrinted, RanStarted, TellsDifference, is_unsteady}
use Rattle.build_resume.specs.Build.{WritesReport}
use Rattle.build_resume.specs.Ends.{EndsBy}
use Rattle.run_model.specs.Outcome.{EndsAs}
use Rattle.run_model.specs.Seated.{IsSeated}
use Rattle.build_resume.proofs.Begun.{just_nothing, ran_nothing, unbegun_ends}
use Rattle.build_resume.proofs.Benches.{broke_nothing, seats_same, some_mapped}
use Rattle.build_resume.proofs.Built.{WasOpened, as_begun, built_complete, built_leaves, is_opening, may_run, opening, unbegun_leaves}
use Rattle.build_resume.proofs.Printing.{grew, said_nothing}
use Rattle.build_resume.proofs.Reports.{reports_as}
use Rattle.build_resume.proofs.Statuses.{ended_exactly, memory_ends, nothing_differs, refused_bench, refused_differs, refused_ends, refused_never, refused_steady}
use Rattle.build_resume.proofs.Working.{none_benches, none_seated}
use Rattle.build_resume.proofs.running.build.Goals as goal

pub returns-in-Ok-begin-clause-leaves : goal.returns-in-Ok-begin-clause-leaves
returns-in-Ok-begin-clause-leaves g c tells told gives all reading book entry =
    let before = g.D.Disk.story c.args.disk in
    let after = g.D.Disk.story c.in-Ok.store.disk in
    let was : WasOpened before after c.in-Ok.store.rows = record { fresh = c.requires.fresh tells; opened = c.in-Ok.ensures.opened tells; durable = c.in-Ok.ensures.durable tells; treelike = (((g.met.D.Disk g.world.𝓛 g.world.𝓜 g.world.𝓡 ((λ s x. x), (λ x. x), (λ x. x), λ x. x)).sound c.in-Ok.store.disk tells).content 0).treelike; clears = c.in-Ok.ensures.images tells } in
    let o = opening gives reading book c.args.plan c.args.options before after c.in-Ok.store.rows was entry in
    let begun = c.in-Ok-begin.ensures.begun in
    let run = c.in-Ok-begin.ensures.run tells o (is_opening gives reading book c.args.plan c.args.options before after c.in-Ok.store.rows was entry) (may_run gives reading book c.args.plan c.args.options before after c.in-Ok.store.rows was entry) in
    let did = c.run_begun.ensures.run tells told gives all o refl run in
    let as_told = as_begun o c.in-Ok-begin.state.plan c.args.plan c.in-Ok-begin.state.options c.args.options c.run_begun.result.tale.items (g.D.Disk.story c.run_begun.result.disk) c.run_begun.result.status begun.plan_is begun.options_are did.0 c.run_begun.ensures.ends in
    let runs : List Runs = map (λ b. (g.B.Bench.place b).runs) c.args.benches.items in
    let now : List Runs = map (λ b. (g.B.Bench.place b).runs) c.run_begun.result.benches.items in
    built_leaves gives reading book c.args.plan c.args.options before after c.in-Ok.store.rows was entry c.run_begun.result.tale.items c.run_begun.result.status (g.D.Disk.story c.run_begun.result.disk) as_told.0 as_told.1 (c.run_begun.ensures.lawful tells) c.run_begun.ensures.seated.left
    (c.run_begun.ensures.steady tells told gives all o refl run) runs now
    (subst (λ (p : Plan). AtSeats (RanStarted gives p c.run_begun.result.tale.items) runs now) begun.plan_is did.1)

pub returns-in-Ok-begin-clause-exactly : goal.returns-in-Ok-begin-clause-exactly
returns-in-Ok-begin-clause-exactly g c tells told gives all reading book entry wanted disk bench sink memory alone =
    let before = g.D.Disk.story c.args.disk in
    let after = g.D.Disk.story c.in-Ok.store.disk in
    let was : WasOpened before after c.in-Ok.store.rows = record { fresh = c.requires.fresh tells; opened = c.in-Ok.ensures.opened tells; durable = c.in-Ok.ensures.durable tells; treelike = (((g.met.D.Disk g.world.𝓛 g.world.𝓜 g.world.𝓡 ((λ s x. x), (λ x. x), (λ x. x), λ x. x)).sound c.in-Ok.store.disk tells).content 0).treelike; clears = c.in-Ok.ensures.images tells } in
    let o = opening gives reading book c.args.plan c.args.options before after c.in-Ok.store.rows was entry in
    let begun = c.in-Ok-begin.ensures.begun in
    let run = c.in-Ok-begin.ensures.run tells o (is_opening gives reading book c.args.plan c.args.options before after c.in-Ok.store.rows was entry) (may_run gives reading book c.args.plan c.args.options before after c.in-Ok.store.rows was entry) in
    let did = c.run_begun.ensures.run tells told gives all o refl run in
    let as_told = as_begun o c.in-Ok-begin.state.plan c.args.plan c.in-Ok-begin.state.options c.args.options c.run_begun.result.tale.items (g.D.Disk.story c.run_begun.result.disk) c.run_begun.result.status begun.plan_is begun.options_are did.0 c.run_begun.ensures.ends in
    let some : Type 0 = SomeRose (map g.B.Bench.faults c.args.benches.items) (map g.B.Bench.faults c.run_begun.result.benches.items) in
    let cause : MayEndSo (g.D.Disk.faults c.run_begun.result.disk) some (Rose (g.W.Sink.faults c.args.sink) (g.W.Sink.faults c.run_begun.result.sink)) c.run_begun.result.status =
    subst (λ x. MayEndSo (g.D.Disk.faults c.run_begun.result.disk) some (Rose (g.W.Sink.faults x) (g.W.Sink.faults c.run_begun.result.sink)) c.run_begun.result.status) begun.sink_is c.run_begun.ensures.cause in
    ended_exactly (g.D.Disk.faults c.run_begun.result.disk) some (Rose (g.W.Sink.faults c.args.sink) (g.W.Sink.faults c.run_begun.result.sink)) (AllClean gives c.args.plan) c.run_begun.result.status cause
    (c.run_begun.ensures.steady tells told gives all o refl run)
    (built_complete gives reading book c.args.plan c.args.options before after c.in-Ok.store.rows was entry c.run_begun.result.tale.items c.run_begun.result.status (g.D.Disk.story c.run_begun.result.disk) as_told.0 as_told.1 (c.run_begun.ensures.lawful tells) wanted)
    disk bench sink memory alone

pub returns-in-Ok-begin-clause-told : goal.returns-in-Ok-begin-clause-told
returns-in-Ok-begin-clause-told g c =
    let begun = c.in-Ok-begin.ensures.begun in
    subst (λ (p : Plan). EndsAs p c.args.options c.run_begun.result.tale.items c.run_begun.result.status) begun.plan_is
    (subst (λ (x : Options). EndsAs c.in-Ok-begin.state.plan x c.run_begun.result.tale.items c.run_begun.result.status) begun.options_are c.run_begun.ensures.ends)

pub returns-in-Ok-begin-clause-seated : goal.returns-in-Ok-begin-clause-seated
returns-in-Ok-begin-clause-seated g c = subst (λ (p : Plan). IsSeated p c.run_begun.result.tale.items) c.in-Ok-begin.ensures.begun.plan_is c.run_begun.ensures.seated

pub returns-in-Ok-begin-clause-text : goal.returns-in-Ok-begin-clause-text
returns-in-Ok-begin-clause-text g c heard =
    let begun = c.in-Ok-begin.ensures.begun in
    subst (λ (p : Plan). WritesReport (Rose (g.W.Sink.faults c.args.sink) (g.W.Sink.faults c.run_begun.result.sink)) (g.W.Sink.written c.args.sink) (g.W.Sink.written c.run_begun.result.sink) p c.run_begun.result.tale.items c.run_begun.result.status) begun.plan_is
    (subst (λ x. WritesReport (Rose (g.W.Sink.faults x) (g.W.Sink.faults c.run_begun.result.sink)) (g.W.Sink.written x) (g.W.Sink.written c.run_begun.result.sink) c.in-Ok-begin.state.plan c.run_begun.result.tale.items c.run_begun.result.status) begun.sink_is (c.run_begun.ensures.text heard))

pub returns-in-Ok-begin-clause-ends : goal.returns-in-Ok-begin-clause-ends
returns-in-Ok-begin-clause-ends g c =
    subst (λ x. MayEndSo (g.D.Disk.faults c.run_begun.result.disk) (SomeRose (map g.B.Bench.faults c.args.benches.items) (map g.B.Bench.faults c.run_begun.result.benches.items)) (Rose (g.W.Sink.faults x) (g.W.Sink.faults c.run_begun.result.sink)) c.run_begun.result.status) c.in-Ok-begin.ensures.begun.sink_is c.run_begun.ensures.cause

pub returns-in-Ok-begin-clause-printed : goal.returns-in-Ok-begin-clause-printed
returns-in-Ok-begin-clause-printed g c heard told =
    let begun = c.in-Ok-begin.ensures.begun in
    let runs : List Runs = map (λ b. (g.B.Bench.place b).runs) c.args.benches.items in
    let now : List Runs = map (λ b. (g.B.Bench.place b).runs) c.run_begun.result.benches.items in
    subst (λ (p : Plan). RanPrinted p c.run_begun.result.tale.items runs now (g.W.Sink.written c.args.sink) (g.W.Sink.written c.run_begun.result.sink)) begun.plan_is
    (subst (λ x. RanPrinted c.in-Ok-begin.state.plan c.run_begun.result.tale.items runs now (g.W.Sink.written x) (g.W.Sink.written c.run_begun.result.sink)) begun.sink_is (c.run_begun.ensures.printed heard told))

pub returns-in-Err-begin-clause-leaves : goal.returns-in-Err-begin-clause-leaves
returns-in-Err-begin-clause-leaves g c tells told gives all reading book entry =
    let runs : List Runs = map (λ b. (g.B.Bench.place b).runs) c.args.benches.items in
    let now : List Runs = map (λ b. (g.B.Bench.place b).runs) c.unbegun.result.benches.items in
    let tale = c.unbegun.result.tale.items in
    let status_is = c.unbegun.ensures.status ∙ c.end_wanting-status.ensures.ends in
    let ends = memory_ends c.unbegun.result.status status_is in
    let disk = ap g.D.Disk.story (c.unbegun.ensures.disk ∙ sym (ap (λ p. p.disk) c.in-Err-begin.field-0-is) ∙ c.in-Err-begin.ensures.refused.0) in
    let ran = seats_same (RanStarted gives c.args.plan tale) runs now (some_mapped (λ b. (g.B.Bench.place b).runs) c.args.benches.items c.requires.bench) (ap (map (λ b. (g.B.Bench.place b).runs)) c.unbegun.ensures.benches) (ran_nothing gives c.args.plan tale c.unbegun.ensures.tale) in
    unbegun_leaves gives reading book c.args.plan c.args.options (g.D.Disk.story c.args.disk) (g.D.Disk.story c.in-Ok.store.disk) (g.D.Disk.story c.unbegun.result.disk) tale c.unbegun.result.status runs now (c.requires.fresh tells) entry (c.in-Ok.ensures.images tells)
    disk c.unbegun.ensures.tale ends.0 ends.1 (ap is_unsteady status_is) ran

pub returns-in-Err-begin-clause-told : goal.returns-in-Err-begin-clause-told
returns-in-Err-begin-clause-told g c =
    let status_is = c.unbegun.ensures.status ∙ c.end_wanting-status.ensures.ends in
    let ends = memory_ends c.unbegun.result.status status_is in
    unbegun_ends c.args.plan c.args.options c.unbegun.result.tale.items c.unbegun.result.status c.unbegun.ensures.tale ends.0 ends.1 (λ e. let n : status.OutOfMemory ≡ status.BenchFault = sym status_is ∙ e in cc)

pub returns-in-Err-begin-clause-seated : goal.returns-in-Err-begin-clause-seated
returns-in-Err-begin-clause-seated g c = none_seated c.args.plan c.unbegun.result.tale.items c.unbegun.ensures.tale

pub returns-in-Err-begin-clause-benches : goal.returns-in-Err-begin-clause-benches
returns-in-Err-begin-clause-benches g c = none_benches (length c.args.benches.items) c.unbegun.result.tale.items c.unbegun.ensures.tale

pub returns-in-Err-begin-clause-broke : goal.returns-in-Err-begin-clause-broke
returns-in-Err-begin-clause-broke g c =
    seats_same (BreaksByFault c.unbegun.result.tale.items) (map g.B.Bench.faults c.args.benches.items) (map g.B.Bench.faults c.unbegun.result.benches.items) (some_mapped g.B.Bench.faults c.args.benches.items c.requires.bench) (ap (map g.B.Bench.faults) c.unbegun.ensures.benches) (broke_nothing c.unbegun.result.tale.items c.unbegun.ensures.tale)

pub returns-in-Err-begin-clause-exactly : goal.returns-in-Err-begin-clause-exactly
returns-in-Err-begin-clause-exactly g c tells told gives all reading book entry wanted disk bench sink memory alone = absurd (memory (c.unbegun.ensures.status ∙ c.end_wanting-status.ensures.ends))

pub returns-in-Err-begin-clause-printed : goal.returns-in-Err-begin-clause-printed
returns-in-Err-begin-clause-printed g c heard told =
    let sink = sym (ap (λ p. p.sink) c.in-Err-begin.field-0-is) ∙ c.in-Err-begin.ensures.refused.1 in
    let grown = subst (λ x. IsFront (g.W.Sink.written x) (g.W.Sink.written c.end_wanting-status.new.sink)) sink (grew _ (g.W.Sink.written c.end_wanting-status.new.sink) (c.end_wanting-status.ensures.stays heard)) in
    let runs : List Runs = map (λ b. (g.B.Bench.place b).runs) c.args.benches.items in
    let now : List Runs = map (λ b. (g.B.Bench.place b).runs) c.unbegun.result.benches.items in
    let tale = c.unbegun.result.tale.items in
    said_nothing c.args.plan tale runs now (g.W.Sink.written c.args.sink) (g.W.Sink.written c.unbegun.result.sink) c.unbegun.ensures.tale
    (seats_same (λ s. RanJust c.args.plan (broken_at s tale) (started_by s tale)) runs now (some_mapped (λ b. (g.B.Bench.place b).runs) c.args.benches.items c.requires.bench) (ap (map (λ b. (g.B.Bench.place b).runs)) c.unbegun.ensures.benches) (just_nothing c.args.plan tale c.unbegun.ensures.tale))
    (subst (λ x. IsFront (g.W.Sink.written c.args.sink) (g.W.Sink.written x)) (sym c.unbegun.ensures.sink) grown)

pub returns-in-Err-clause-leaves : goal.returns-in-Err-clause-leaves
returns-in-Err-clause-leaves g c tells told gives all reading book entry =
    let runs : List Runs = map (λ b. (g.B.Bench.place b).runs) c.args.benches.items in
    let now : List Runs = map (λ b. (g.B.Bench.place b).runs) c.unbegun-in-Err.result.benches.items in
    let tale = c.unbegun-in-Err.result.tale.items in
    let sink : Type 0 = Rose (g.W.Sink.faults c.args.sink) (g.W.Sink.faults c.tell_end-status.new.sink) in
    let by = subst (λ x. EndsBy sink x c.tell_end-status.result) c.status_of_store.ensures c.tell_end-status.ensures.ends in
    let ends = refused_ends sink c.in-Err.field-0.fault c.tell_end-status.result by c.in-Err.ensures.fault in
    let same = sym c.unbegun-in-Err.ensures.status in
    let disk = ap g.D.Disk.story (c.unbegun-in-Err.ensures.disk ∙ sym (ap (λ p. p.disk) c.in-Err.field-0-is)) in
    let steady = ap is_unsteady c.unbegun-in-Err.ensures.status ∙ refused_steady sink c.in-Err.field-0.fault c.tell_end-status.result by c.in-Err.ensures.fault in
    let ran = seats_same (RanStarted gives c.args.plan tale) runs now (some_mapped (λ b. (g.B.Bench.place b).runs) c.args.benches.items c.requires.bench) (ap (map (λ b. (g.B.Bench.place b).runs)) c.unbegun-in-Err.ensures.benches) (ran_nothing gives c.args.plan tale c.unbegun-in-Err.ensures.tale) in
    unbegun_leaves gives reading book c.args.plan c.args.options (g.D.Disk.story c.args.disk) (g.D.Disk.story c.in-Err.field-0.disk) (g.D.Disk.story c.unbegun-in-Err.result.disk) tale c.unbegun-in-Err.result.status runs now (c.requires.fresh tells) entry (c.in-Err.ensures.images tells)
    disk c.unbegun-in-Err.ensures.tale (λ e. ends.0 (same ∙ e)) (λ e. ends.1 (same ∙ e)) steady ran

pub returns-in-Err-clause-seated : goal.returns-in-Err-clause-seated
returns-in-Err-clause-seated g c = none_seated c.args.plan c.unbegun-in-Err.result.tale.items c.unbegun-in-Err.ensures.tale

pub returns-in-Err-clause-benches : goal.returns-in-Err-clause-benches
returns-in-Err-clause-benches g c = none_benches (length c.args.benches.items) c.unbegun-in-Err.result.tale.items c.unbegun-in-Err.ensures.tale

pub returns-in-Err-clause-told : goal.returns-in-Err-clause-told
returns-in-Err-clause-told g c =
    let sink : Type 0 = Rose (g.W.Sink.faults c.args.sink) (g.W.Sink.faults c.tell_end-status.new.sink) in
    let by = subst (λ x. EndsBy sink x c.tell_end-status.result) c.status_of_store.ensures c.tell_end-status.ensures.ends in
    let ends = refused_ends sink c.in-Err.field-0.fault c.tell_end-status.result by c.in-Err.ensures.fault in
    let same = sym c.unbegun-in-Err.ensures.status in
    unbegun_ends c.args.plan c.args.options c.unbegun-in-Err.result.tale.items c.unbegun-in-Err.result.status c.unbegun-in-Err.ensures.tale (λ e. ends.0 (same ∙ e)) (λ e. ends.1 (same ∙ e)) (λ e. refused_bench sink c.in-Err.field-0.fault c.tell_end-status.result by (same ∙ e))

pub returns-in-Err-clause-broke : goal.returns-in-Err-clause-broke
returns-in-Err-clause-broke g c =
    seats_same (BreaksByFault c.unbegun-in-Err.result.tale.items) (map g.B.Bench.faults c.args.benches.items) (map g.B.Bench.faults c.unbegun-in-Err.result.benches.items) (some_mapped g.B.Bench.faults c.args.benches.items c.requires.bench) (ap (map g.B.Bench.faults) c.unbegun-in-Err.ensures.benches) (broke_nothing c.unbegun-in-Err.result.tale.items c.unbegun-in-Err.ensures.tale)

pub returns-in-Err-clause-text : goal.returns-in-Err-clause-text
returns-in-Err-clause-text g c heard =
    let told = c.tell_end-status.ensures.text heard (g.W.Sink.written c.args.sink) (sym (append-nil (g.W.Sink.written c.args.sink))) in
    reports_as c.args.plan c.args.plan c.unbegun-in-Err.result.tale.items [] (g.W.Sink.written c.args.sink) (g.W.Sink.written c.unbegun-in-Err.result.sink) c.unbegun-in-Err.result.status refl (sym c.unbegun-in-Err.ensures.tale)
    (subst (λ st. WritesReport (Rose (g.W.Sink.faults c.args.sink) (g.W.Sink.faults c.unbegun-in-Err.result.sink)) (g.W.Sink.written c.args.sink) (g.W.Sink.written c.unbegun-in-Err.result.sink) c.args.plan [] st) (sym c.unbegun-in-Err.ensures.status)
    (subst (λ x. WritesReport (Rose (g.W.Sink.faults c.args.sink) (g.W.Sink.faults x)) (g.W.Sink.written c.args.sink) (g.W.Sink.written x) c.args.plan [] c.tell_end-status.result) (sym c.unbegun-in-Err.ensures.sink) told))

pub returns-in-Err-clause-exactly : goal.returns-in-Err-clause-exactly
returns-in-Err-clause-exactly g c tells told gives all reading book entry wanted disk bench sink memory alone =
    absurd (refused_never (Rose (g.W.Sink.faults c.args.sink) (g.W.Sink.faults c.tell_end-status.new.sink)) c.in-Err.field-0.fault (g.D.Disk.faults c.args.disk) (g.D.Disk.faults c.in-Err.field-0.disk) c.tell_end-status.result
    c.in-Err.ensures.fault c.in-Err.ensures.cause
    (subst (λ x. EndsBy (Rose (g.W.Sink.faults c.args.sink) (g.W.Sink.faults c.tell_end-status.new.sink)) x c.tell_end-status.result) c.status_of_store.ensures c.tell_end-status.ensures.ends)
    (ap g.D.Disk.faults (ap (λ p. p.disk) c.in-Err.field-0-is ∙ sym c.unbegun-in-Err.ensures.disk) ∙ disk) (λ rose. sink (subst (λ x. Rose (g.W.Sink.faults c.args.sink) (g.W.Sink.faults x)) (sym c.unbegun-in-Err.ensures.sink) rose)) (λ e. memory (c.unbegun-in-Err.ensures.status ∙ e)))

pub returns-in-Err-clause-printed : goal.returns-in-Err-clause-printed
returns-in-Err-clause-printed g c heard told =
    let grown = grew (g.W.Sink.written c.args.sink) (g.W.Sink.written c.tell_end-status.new.sink) (c.tell_end-status.ensures.stays heard) in
    let runs : List Runs = map (λ b. (g.B.Bench.place b).runs) c.args.benches.items in
    let now : List Runs = map (λ b. (g.B.Bench.place b).runs) c.unbegun-in-Err.result.benches.items in
    let tale = c.unbegun-in-Err.result.tale.items in
    said_nothing c.args.plan tale runs now (g.W.Sink.written c.args.sink) (g.W.Sink.written c.unbegun-in-Err.result.sink) c.unbegun-in-Err.ensures.tale
    (seats_same (λ s. RanJust c.args.plan (broken_at s tale) (started_by s tale)) runs now (some_mapped (λ b. (g.B.Bench.place b).runs) c.args.benches.items c.requires.bench) (ap (map (λ b. (g.B.Bench.place b).runs)) c.unbegun-in-Err.ensures.benches) (just_nothing c.args.plan tale c.unbegun-in-Err.ensures.tale))
    (subst (λ x. IsFront (g.W.Sink.written c.args.sink) (g.W.Sink.written x)) (sym c.unbegun-in-Err.ensures.sink) grown)

pub returns-in-Ok-begin-clause-differs : goal.returns-in-Ok-begin-clause-differs
returns-in-Ok-begin-clause-differs g c =
    subst (λ (p : Plan). TellsDifference g.D.Disk.tells p (g.D.Disk.story c.run_begun.result.disk) c.run_begun.result.status) c.in-Ok-begin.ensures.begun.plan_is c.run_begun.ensures.differs

pub returns-in-Err-begin-clause-differs : goal.returns-in-Err-begin-clause-differs
returns-in-Err-begin-clause-differs g c =
    nothing_differs g.D.Disk.tells c.args.plan (g.D.Disk.story c.unbegun.result.disk) c.unbegun.result.status
    (subst (DiffersOver c.args.plan []) (sym (c.unbegun.ensures.status ∙ c.end_wanting-status.ensures.ends)) tt)

pub returns-in-Err-clause-differs : goal.returns-in-Err-clause-differs
returns-in-Err-clause-differs g c =
    let sink : Type 0 = Rose (g.W.Sink.faults c.args.sink) (g.W.Sink.faults c.tell_end-status.new.sink) in
    nothing_differs g.D.Disk.tells c.args.plan (g.D.Disk.story c.unbegun-in-Err.result.disk) c.unbegun-in-Err.result.status
    (subst (DiffersOver c.args.plan []) (sym c.unbegun-in-Err.ensures.status)
    (refused_differs sink c.args.plan c.in-Err.field-0.fault c.tell_end-status.result (subst (λ x. EndsBy sink x c.tell_end-status.result) c.status_of_store.ensures c.tell_end-status.ensures.ends) c.in-Err.ensures.fault))

-- ---- what stays of the benches and the sink

pub returns-in-Ok-begin-clause-later : goal.returns-in-Ok-begin-clause-later
returns-in-Ok-begin-clause-later g c = subst (λ x. g.W.Sink.faults x ≤ g.W.Sink.faults c.run_begun.result.sink) c.in-Ok-begin.ensures.begun.sink_is c.run_begun.ensures.later
