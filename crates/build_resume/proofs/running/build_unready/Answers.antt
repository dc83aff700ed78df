use Rattle.std.proofs.Common.{◌≡◌, ◌≤◌, ◌<◌, ◌∙◌, ℕ, true, false, inl, inr, sym, ap, subst, refl, [], append-nil, length, List, map}
use Rattle.outside_traits.specs.Fault.{Rose}
use Rattle.outside_traits.specs.declared.fault.DiskFault.{DiskFault}
use Rattle.outside_traits.specs.declared.fault.DiskFault.TheVariants as disk
use Rattle.meta_model.specs.declared.event.Status.{Status}
use Rattle.build_store.specs.declared.fault.StoreFault.{StoreFault}
use Rattle.build_store.specs.declared.fault.StoreFault.TheVariants as fault
use Rattle.build_store.specs.Faults.{IsOutside, is_disk_fault, of_disk}
use Rattle.meta_model.specs.declared.event.Status.TheVariants as status
use Rattle.meta_model.specs.declared.plan.Options.{Options}
use Rattle.meta_model.specs.declared.plan.Plan.{Plan}
use Rattle.run_queue.specs.Keeps.{IsFront}
use Rattle.run_model.specs.Runs.{Runs}
use Rattle.run_model.specs.Benches.{AtSeats, BreaksByFault, SomeRose, broken_at, started_by}
use Rattle.run_model.specs.Build.{AllClean, DiffersOver, MayEndSo, RanJust, RanPrinted, RanStarted, TellsDifference, is_unsteady}
use Rattle.build_resume.specs.Build.{WritesReport}
use Rattle.build_resume.specs.Ends.{EndsBy, status_of}
use Rattle.run_model.specs.Outcome.{EndsAs}
use Rattle.run_model.specs.Seated.{IsSeated}
use Rattle.build_resume.proofs.Begun.{just_nothing, ran_nothing, unbegun_ends}
use Rattle.build_resume.proofs.Benches.{broke_nothing, seats_same, some_mapped}
use Rattle.build_resume.proofs.Built.{WasOpened, as_begun, built_complete, built_leaves, is_opening, may_run, opening, unbegun_leaves}
use Rattle.build_resume.proofs.Printing.{grew, said_nothing}
use Rattle.build_resume.proofs.Reports.{reports_as}
use Rattle.build_resume.proofs.Statuses.{ended_exactly, memory_ends, nothing_differs, refused_bench, refused_differs, refused_ends, refused_never, refused_steady}
use Rattle.build_resume.proofs.Working.{none_benches, none_seated}
use Rattle.build_resume.proofs.running.build_unready.Goals as goal

-- a fault of the disk is one of outside
outside : (f : StoreFault) (d : DiskFault) → f ≡ of_disk d → IsOutside f
outside f disk.Failed e = subst IsOutside (sym e) tt
outside f disk.Memory e = subst IsOutside (sym e) tt

outside_cause : (sink : Type 0) (f : StoreFault) (s : Status) (now : ℕ) (bench : Type 0) → EndsBy sink (status_of f) s → IsOutside f → (is_disk_fault f ≡ true → 0 < now) → MayEndSo now bench sink s
outside_cause sink fault.Disk s now bench (inl is) out some = subst (MayEndSo now bench sink) (sym is) (some refl)
outside_cause sink fault.Memory s now bench (inl is) out some = subst (MayEndSo now bench sink) (sym is) tt
outside_cause sink (fault.Collision name held given) s now bench by out some = absurd out
outside_cause sink (fault.Unsteady pn task held given) s now bench by out some = absurd out
outside_cause sink f s now bench (inr (inl is)) out some = subst (MayEndSo now bench sink) (sym is) tt
outside_cause sink f s now bench (inr (inr is)) out some = subst (MayEndSo now bench sink) (sym is.0) is.2

pub returns-clause-seated : goal.returns-clause-seated
returns-clause-seated g c = none_seated c.args.plan c.unbegun.result.tale.items c.unbegun.ensures.tale

pub returns-clause-benches : goal.returns-clause-benches
returns-clause-benches g c = none_benches (length c.args.benches.items) c.unbegun.result.tale.items c.unbegun.ensures.tale

pub returns-clause-told : goal.returns-clause-told
returns-clause-told g c options =
    let sink : Type 0 = Rose (g.W.Sink.faults c.args.sink) (g.W.Sink.faults c.tell_end-status.new.sink) in
    let f = c.store_fault.result in
    let by = subst (λ x. EndsBy sink x c.tell_end-status.result) c.status_of_store.ensures c.tell_end-status.ensures.ends in
    let ends = refused_ends sink f c.tell_end-status.result by (outside f c.args.fault c.store_fault.ensures) in
    let same = sym c.unbegun.ensures.status in
    unbegun_ends c.args.plan options c.unbegun.result.tale.items c.unbegun.result.status c.unbegun.ensures.tale (λ e. ends.0 (same ∙ e)) (λ e. ends.1 (same ∙ e)) (λ e. refused_bench sink f c.tell_end-status.result by (same ∙ e))

pub returns-clause-none : goal.returns-clause-none
returns-clause-none g c =
    let sink : Type 0 = Rose (g.W.Sink.faults c.args.sink) (g.W.Sink.faults c.tell_end-status.new.sink) in
    let f = c.store_fault.result in
    let by = subst (λ x. EndsBy sink x c.tell_end-status.result) c.status_of_store.ensures c.tell_end-status.ensures.ends in
    let ends = refused_ends sink f c.tell_end-status.result by (outside f c.args.fault c.store_fault.ensures) in
    let same = sym c.unbegun.ensures.status in
    (λ e. ends.0 (same ∙ e), λ e. ends.1 (same ∙ e))

pub returns-clause-broke : goal.returns-clause-broke
returns-clause-broke g c =
    seats_same (BreaksByFault c.unbegun.result.tale.items) (map g.B.Bench.faults c.args.benches.items) (map g.B.Bench.faults c.unbegun.result.benches.items) (some_mapped g.B.Bench.faults c.args.benches.items c.requires.bench) (ap (map g.B.Bench.faults) c.unbegun.ensures.benches) (broke_nothing c.unbegun.result.tale.items c.unbegun.ensures.tale)

pub returns-clause-text : goal.returns-clause-text
returns-clause-text g c heard =
    let told = c.tell_end-status.ensures.text heard (g.W.Sink.written c.args.sink) (sym (append-nil (g.W.Sink.written c.args.sink))) in
    reports_as c.args.plan c.args.plan c.unbegun.result.tale.items [] (g.W.Sink.written c.args.sink) (g.W.Sink.written c.unbegun.result.sink) c.unbegun.result.status refl (sym c.unbegun.ensures.tale)
    (subst (λ st. WritesReport (Rose (g.W.Sink.faults c.args.sink) (g.W.Sink.faults c.unbegun.result.sink)) (g.W.Sink.written c.args.sink) (g.W.Sink.written c.unbegun.result.sink) c.args.plan [] st) (sym c.unbegun.ensures.status)
    (subst (λ x. WritesReport (Rose (g.W.Sink.faults c.args.sink) (g.W.Sink.faults x)) (g.W.Sink.written c.args.sink) (g.W.Sink.written x) c.args.plan [] c.tell_end-status.result) (sym c.unbegun.ensures.sink) told))

pub returns-clause-printed : goal.returns-clause-printed
returns-clause-printed g c heard told =
    let grown = grew (g.W.Sink.written c.args.sink) (g.W.Sink.written c.tell_end-status.new.sink) (c.tell_end-status.ensures.stays heard) in
    let runs : List Runs = map (λ b. (g.B.Bench.place b).runs) c.args.benches.items in
    let now : List Runs = map (λ b. (g.B.Bench.place b).runs) c.unbegun.result.benches.items in
    let tale = c.unbegun.result.tale.items in
    said_nothing c.args.plan tale runs now (g.W.Sink.written c.args.sink) (g.W.Sink.written c.unbegun.result.sink) c.unbegun.ensures.tale
    (seats_same (λ s. RanJust c.args.plan (broken_at s tale) (started_by s tale)) runs now (some_mapped (λ b. (g.B.Bench.place b).runs) c.args.benches.items c.requires.bench) (ap (map (λ b. (g.B.Bench.place b).runs)) c.unbegun.ensures.benches) (just_nothing c.args.plan tale c.unbegun.ensures.tale))
    (subst (λ x. IsFront (g.W.Sink.written c.args.sink) (g.W.Sink.written x)) (sym c.unbegun.ensures.sink) grown)

pub returns-clause-ends : goal.returns-clause-ends
returns-clause-ends g c now some =
    let bench : Type 0 = SomeRose (map g.B.Bench.faults c.args.benches.items) (map g.B.Bench.faults c.unbegun.result.benches.items) in
    let sink : Type 0 = Rose (g.W.Sink.faults c.args.sink) (g.W.Sink.faults c.tell_end-status.new.sink) in
    let f = c.store_fault.result in
    let by = subst (λ x. EndsBy sink x c.tell_end-status.result) c.status_of_store.ensures c.tell_end-status.ensures.ends in
    let cause : MayEndSo now bench sink c.tell_end-status.result = outside_cause sink f c.tell_end-status.result now bench by (outside f c.args.fault c.store_fault.ensures) (λ e. some (ap is_disk_fault (sym c.store_fault.ensures) ∙ e)) in
    subst (λ st. MayEndSo now bench (Rose (g.W.Sink.faults c.args.sink) (g.W.Sink.faults c.unbegun.result.sink)) st) (sym c.unbegun.ensures.status)
    (subst (λ x. MayEndSo now bench (Rose (g.W.Sink.faults c.args.sink) (g.W.Sink.faults x)) c.tell_end-status.result) (sym c.unbegun.ensures.sink) cause)

pub returns-clause-differs : goal.returns-clause-differs
returns-clause-differs g c story =
    let sink : Type 0 = Rose (g.W.Sink.faults c.args.sink) (g.W.Sink.faults c.tell_end-status.new.sink) in
    let f = c.store_fault.result in
    let by = subst (λ x. EndsBy sink x c.tell_end-status.result) c.status_of_store.ensures c.tell_end-status.ensures.ends in
    nothing_differs g.D.Disk.tells c.args.plan story c.unbegun.result.status (subst (DiffersOver c.args.plan []) (sym c.unbegun.ensures.status) (refused_differs sink c.args.plan f c.tell_end-status.result by (outside f c.args.fault c.store_fault.ensures)))

memory_only : (sink : Type 0) (f : StoreFault) (s : Status) → EndsBy sink (status_of f) s → IsOutside f → is_disk_fault f ≡ false → s ≡ status.OutOfMemory
memory_only sink fault.Disk s by out e = absurd cc
memory_only sink fault.Memory s (inl is) out e = is
memory_only sink fault.Memory s (inr (inl is)) out e = is
memory_only sink fault.Memory s (inr (inr is)) out e = absurd (let h : false ≡ true = is.1 in cc)
memory_only sink (fault.Collision name held given) s by out e = absurd out
memory_only sink (fault.Unsteady pn task held given) s by out e = absurd out

disk_only : (sink : Type 0) (f : StoreFault) (s : Status) → EndsBy sink (status_of f) s → IsOutside f → s ≡ status.DiskFault → is_disk_fault f ≡ true
disk_only sink fault.Disk s by out e = refl
disk_only sink fault.Memory s (inl is) out e = absurd (let h : status.OutOfMemory ≡ status.DiskFault = sym is ∙ e in cc)
disk_only sink fault.Memory s (inr (inl is)) out e = absurd (let h : status.OutOfMemory ≡ status.DiskFault = sym is ∙ e in cc)
disk_only sink fault.Memory s (inr (inr is)) out e = absurd (let h : status.WriteFault ≡ status.DiskFault = sym is.0 ∙ e in cc)
disk_only sink (fault.Collision name held given) s by out e = absurd out
disk_only sink (fault.Unsteady pn task held given) s by out e = absurd out

pub returns-clause-memory : goal.returns-clause-memory
returns-clause-memory g c none =
    let sink : Type 0 = Rose (g.W.Sink.faults c.args.sink) (g.W.Sink.faults c.tell_end-status.new.sink) in
    let f = c.store_fault.result in
    let by = subst (λ x. EndsBy sink x c.tell_end-status.result) c.status_of_store.ensures c.tell_end-status.ensures.ends in
    c.unbegun.ensures.status ∙ memory_only sink f c.tell_end-status.result by (outside f c.args.fault c.store_fault.ensures) (ap is_disk_fault c.store_fault.ensures ∙ none)

pub returns-clause-failed : goal.returns-clause-failed
returns-clause-failed g c e =
    let sink : Type 0 = Rose (g.W.Sink.faults c.args.sink) (g.W.Sink.faults c.tell_end-status.new.sink) in
    let f = c.store_fault.result in
    let by = subst (λ x. EndsBy sink x c.tell_end-status.result) c.status_of_store.ensures c.tell_end-status.ensures.ends in
    ap is_disk_fault (sym c.store_fault.ensures) ∙ disk_only sink f c.tell_end-status.result by (outside f c.args.fault c.store_fault.ensures) (sym c.unbegun.ensures.status ∙ e)
