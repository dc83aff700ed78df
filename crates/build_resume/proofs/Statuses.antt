-- Which statuses come.
use Rattle.std.proofs.Common.{◌≡◌, ◌∙◌, append_assoc, sym, ap, subst, refl, ℕ, arith, Bool, true, false, List, [], ◌++◌, Some, None, Ok, Err, inl, inr}
use Rattle.std.specs.Prelude.{◌≢◌, ◌↔◌, Option, IfSome, OnErr, OnOk, Result, if◌then◌else◌}
use Rattle.std.proofs.lemmas.Bool.{false≢true}
use Rattle.outside_traits.specs.Fault.{Counts, Rose, sink_failed}
use Rattle.outside_traits.specs.Story.{Story}
use Rattle.outside_traits.specs.declared.fault.SinkFault.{SinkFault}
use Rattle.meta_model.specs.declared.event.Logged.{Logged}
use Rattle.meta_model.specs.declared.event.Status.{Status}
use Rattle.meta_model.specs.declared.event.Status.TheVariants as status
use Rattle.meta_model.specs.declared.plan.Plan.{Plan}
use Rattle.run_model.specs.Report.{last_line, tale_text}
use Rattle.run_model.specs.Written.{WritesFront}
use Rattle.bb_report.proofs.Chains.{front_then}
use Rattle.store_model.specs.declared.signature.EquivRow.{EquivRow}
use Rattle.build_store.specs.Faults.{IsOutside, is_disk_fault}
use Rattle.build_store.specs.declared.fault.StoreFault.{StoreFault}
use Rattle.build_store.specs.declared.fault.StoreFault.TheVariants as fault
use Rattle.run_queue.specs.declared.fault.RunFault.{RunFault}
use Rattle.run_queue.specs.declared.fault.RunFault.TheVariants as kept
use Rattle.run_queue.specs.Causes.{IsCause, IsStoreCause}
use Rattle.run_queue.specs.Keeps.{IsFront, IsSteady, IsSteadyAnswer}
use Rattle.run_queue.proofs.Printed.{front_all, front_some}
use Rattle.run_model.specs.Build.{DiffersOver, MayEndSo, TellsDifference, is_unsteady}
use Rattle.build_resume.specs.Build.{WritesReport, is_collision}
use Rattle.build_resume.specs.Ends.{EndsBy, status_at, status_by, status_of}
use Rattle.run_model.specs.Ends.{is_plain}
use Rattle.run_workers.specs.declared.worker.Halt.{Halt}
use Rattle.run_workers.specs.declared.worker.Halt.TheVariants as halt

-- ---- the last line

-- what was written stays in front, whatever the sink answered
pub wrote : {T : Type 0} (r : Result T SinkFault) (tells : Type 0) (old new text : List ℕ) → OnOk r (tells → new ≡ old ++ text) → OnErr r (tells → WritesFront old new text) → tells → (front : List ℕ) → IsFront front old → IsFront front new
wrote (Ok x) tells old new text ok err told front is = front_all front old new text (ok told) is
wrote (Err e) tells old new text ok err told front is = front_some front old new text (err told) is

-- the last line of a run that wanted memory
pub wrote_want : {T : Type 0} (r : Result T SinkFault) (tells : Type 0) (old new : List ℕ) (before now : ℕ) (plan : Plan) (tale : List Logged) (base : List ℕ) → OnOk r (tells → new ≡ old ++ last_line plan tale status.OutOfMemory) → OnErr r (tells → WritesFront old new (last_line plan tale status.OutOfMemory)) → Counts before now (sink_failed r) → tells
    → old ≡ base ++ tale_text plan.tasks tale → WritesReport (Rose before now) base new plan tale status.OutOfMemory
wrote_want (Ok x) tells old new before now plan tale base ok err counts told is =
    inl (ok told ∙ ap (λ (l : List ℕ). l ++ last_line plan tale status.OutOfMemory) is ∙ append_assoc base (tale_text plan.tasks tale) (last_line plan tale status.OutOfMemory))
wrote_want (Err e) tells old new before now plan tale base ok err counts told is =
    inr (counts.rose, refl, (status.OutOfMemory, front_then base old new (tale_text plan.tasks tale) (last_line plan tale status.OutOfMemory) is (err told)))

-- a status whose line couldn't be written
pub ends_unwritten : (sink : Type 0) (cause s : Status) → (is_plain cause ≡ true → s ≡ status.WriteFault) → (is_plain cause ≡ false → s ≡ cause) → sink → EndsBy sink cause s
ends_unwritten sink cause s plain other failed = by (is_plain cause) refl
  where
    by : (b : Bool) → is_plain cause ≡ b → EndsBy sink cause s
    by true is = inr (inr (plain is, is, failed))
    by false is = inl (other is)

-- such a status is neither Ok nor TaskFailed
pub unwritten_apart : (cause s : Status) → (is_plain cause ≡ true → s ≡ status.WriteFault) → (is_plain cause ≡ false → s ≡ cause) → is_plain s ≡ false
unwritten_apart cause s plain other = by (is_plain cause) refl
  where
    by : (b : Bool) → is_plain cause ≡ b → is_plain s ≡ false
    by true is = ap is_plain (plain is)
    by false is = ap is_plain (other is) ∙ is

-- ---- no Unsteady

by_fault : (f : StoreFault) → IsSteadyAnswer f → is_unsteady (status_of f) ≡ false
by_fault fault.Disk is = refl
by_fault (fault.Collision name held given) is = refl
by_fault (fault.Unsteady pn task held given) is = absurd is
by_fault fault.Memory is = refl

at_halt : (h : Halt) (failed : Bool) → is_unsteady (status_at h failed) ≡ false
at_halt halt.Finished true = refl
at_halt halt.Finished false = refl
at_halt halt.Stopped true = refl
at_halt halt.Stopped false = refl
at_halt halt.Memory failed = refl
at_halt halt.Bench failed = refl

by_steady : (f : Option RunFault) (h : Halt) (failed : Bool) → IsSteady f → is_unsteady (status_by f h failed) ≡ false
by_steady (Some (kept.Store f)) h failed is = by_fault f is
by_steady (Some kept.Write) h failed is = refl
by_steady None h failed is = at_halt h failed

ends_steady : (sink : Type 0) (cause s : Status) → EndsBy sink cause s → is_unsteady cause ≡ false → is_unsteady s ≡ false
ends_steady sink cause s (inl is) steady = ap is_unsteady is ∙ steady
ends_steady sink cause s (inr (inl is)) steady = ap is_unsteady is
ends_steady sink cause s (inr (inr is)) steady = ap is_unsteady is.0

-- a run that keeps no such fault doesn't end by one
pub ended_steady : (sink : Type 0) (f : Option RunFault) (h : Halt) (failed : Bool) (s : Status) → EndsBy sink (status_by f h failed) s → IsSteady f → is_unsteady s ≡ false
ended_steady sink f h failed s by is = ends_steady sink (status_by f h failed) s by (by_steady f h failed is)

outside_answer : (f : StoreFault) → IsOutside f → IsSteadyAnswer f
outside_answer fault.Disk is = tt
outside_answer (fault.Collision name held given) is = absurd is
outside_answer (fault.Unsteady pn task held given) is = absurd is
outside_answer fault.Memory is = tt

-- nor does one whose store couldn't be opened
pub refused_steady : (sink : Type 0) (f : StoreFault) (s : Status) → EndsBy sink (status_of f) s → IsOutside f → is_unsteady s ≡ false
refused_steady sink f s by is = ends_steady sink (status_of f) s by (by_fault f (outside_answer f is))

-- where no device failed it wanted memory
pub refused_never : (sink : Type 0) (f : StoreFault) (before now : ℕ) (s : Status) → IsOutside f → Counts before now (is_disk_fault f) → EndsBy sink (status_of f) s → now ≡ 0 → (sink → ⊥) → s ≢ status.OutOfMemory → ⊥
refused_never sink fault.Disk before now s out counts (inl is) none sink_none memory = let rose = counts.rose in omega (arith, rose, none)
refused_never sink fault.Disk before now s out counts (inr (inl is)) none sink_none memory = memory is
refused_never sink fault.Disk before now s out counts (inr (inr is)) none sink_none memory = sink_none is.2
refused_never sink fault.Memory before now s out counts (inl is) none sink_none memory = memory is
refused_never sink fault.Memory before now s out counts (inr (inl is)) none sink_none memory = memory is
refused_never sink fault.Memory before now s out counts (inr (inr is)) none sink_none memory = sink_none is.2
refused_never sink (fault.Collision name held given) before now s out counts by none sink_none memory = absurd out
refused_never sink (fault.Unsteady pn task held given) before now s out counts by none sink_none memory = absurd out

-- each cause that a run may end by is one that it met
pub ended_cause : (disk : ℕ) (plan : Plan) (rows : List EquivRow) (failed fails : Bool) (bench sink sinks : Type 0) (f : Option RunFault) (h : Halt) (s : Status) → IfSome f (IsCause disk plan rows failed) → (failed ≡ true → sink) → (sinks → sink) → (h ≡ halt.Bench → bench) → EndsBy sinks (status_by f h fails) s → MayEndSo disk bench sink s
ended_cause disk plan rows failed fails bench sink sinks f h s cause write more_write broke (inl is) = subst (MayEndSo disk bench sink) (sym is) (by f h cause broke)
  where
    calm : (b : Bool) → MayEndSo disk bench sink (if b then status.TaskFailed else status.Ok)
    calm true = tt
    calm false = tt

    stored : (x : StoreFault) → IsStoreCause disk plan rows x → MayEndSo disk bench sink (status_of x)
    stored fault.Disk c = c
    stored (fault.Collision name held given) c = (c.differ, c.held_name, c.given_name)
    stored (fault.Unsteady pn task held given) c = c.differ
    stored fault.Memory c = tt

    by : (x : Option RunFault) (y : Halt) → IfSome x (IsCause disk plan rows failed) → (y ≡ halt.Bench → bench) → MayEndSo disk bench sink (status_by x y fails)
    by (Some (kept.Store x)) y c b = stored x c
    by (Some kept.Write) y c b = write c
    by None halt.Finished c b = calm fails
    by None halt.Stopped c b = calm fails
    by None halt.Memory c b = tt
    by None halt.Bench c b = b refl
ended_cause disk plan rows failed fails bench sink sinks f h s cause write more_write broke (inr (inl is)) = subst (MayEndSo disk bench sink) (sym is) tt
ended_cause disk plan rows failed fails bench sink sinks f h s cause write more_write broke (inr (inr is)) = subst (MayEndSo disk bench sink) (sym is.0) (more_write is.2)

-- ---- two that differ

-- what a fault that is kept says of two that differ its status says
pub ended_differs : (disk : ℕ) (plan : Plan) (rows : List EquivRow) (failed fails : Bool) (sinks : Type 0) (f : Option RunFault) (h : Halt) (s : Status) → IfSome f (IsCause disk plan rows failed) → EndsBy sinks (status_by f h fails) s → DiffersOver plan rows s
ended_differs disk plan rows failed fails sinks f h s cause (inl is) = subst (DiffersOver plan rows) (sym is) (by f h cause)
  where
    calm : (b : Bool) → DiffersOver plan rows (if b then status.TaskFailed else status.Ok)
    calm true = tt
    calm false = tt

    stored : (x : StoreFault) → IsStoreCause disk plan rows x → DiffersOver plan rows (status_of x)
    stored fault.Disk c = tt
    stored (fault.Collision name held given) c = c
    stored (fault.Unsteady pn task held given) c = c
    stored fault.Memory c = tt

    by : (x : Option RunFault) (y : Halt) → IfSome x (IsCause disk plan rows failed) → DiffersOver plan rows (status_by x y fails)
    by (Some (kept.Store x)) y c = stored x c
    by (Some kept.Write) y c = tt
    by None halt.Finished c = calm fails
    by None halt.Stopped c = calm fails
    by None halt.Memory c = tt
    by None halt.Bench c = tt
ended_differs disk plan rows failed fails sinks f h s cause (inr (inl is)) = subst (DiffersOver plan rows) (sym is) tt
ended_differs disk plan rows failed fails sinks f h s cause (inr (inr is)) = subst (DiffersOver plan rows) (sym is.0) tt

-- of a status that says nothing of two that differ no rows are told
pub nothing_differs : (tells : Type 0) (plan : Plan) (story : Story) (s : Status) → DiffersOver plan [] s → TellsDifference tells plan story s
nothing_differs tells plan story s is = record { rows = []; kept = λ t image left. tt; differs = is }

outside_differs : (plan : Plan) (f : StoreFault) → IsOutside f → DiffersOver plan [] (status_of f)
outside_differs plan fault.Disk is = tt
outside_differs plan (fault.Collision name held given) is = absurd is
outside_differs plan (fault.Unsteady pn task held given) is = absurd is
outside_differs plan fault.Memory is = tt

-- such is one of a run whose store couldn't be opened
pub refused_differs : (sink : Type 0) (plan : Plan) (f : StoreFault) (s : Status) → EndsBy sink (status_of f) s → IsOutside f → DiffersOver plan [] s
refused_differs sink plan f s (inl is) out = subst (DiffersOver plan []) (sym is) (outside_differs plan f out)
refused_differs sink plan f s (inr (inl is)) out = subst (DiffersOver plan []) (sym is) tt
refused_differs sink plan f s (inr (inr is)) out = subst (DiffersOver plan []) (sym is.0) tt

-- ---- exactly

-- where nothing failed outside the status is Ok or TaskFailed
pub ended_exactly : (disk : ℕ) (bench sink clean : Type 0) (s : Status) → MayEndSo disk bench sink s → is_unsteady s ≡ false → (s ≡ status.Ok → clean) × (clean → s ≢ status.TaskFailed) → disk ≡ 0 → (bench → ⊥) → (sink → ⊥) → s ≢ status.OutOfMemory → is_collision s ≡ false → (s ≡ status.Ok) ↔ clean
ended_exactly disk bench sink clean status.Ok may steady both disk_none bench_none sink_none memory alone = (both.0, λ c. refl)
ended_exactly disk bench sink clean status.TaskFailed may steady both disk_none bench_none sink_none memory alone = (both.0, λ c. absurd (both.1 c refl))
ended_exactly disk bench sink clean status.Usage may steady both disk_none bench_none sink_none memory alone = absurd may
ended_exactly disk bench sink clean (status.Metadata file line kind detail) may steady both disk_none bench_none sink_none memory alone = absurd may
ended_exactly disk bench sink clean status.DiskFault may steady both disk_none bench_none sink_none memory alone = absurd (omega (arith, may, disk_none))
ended_exactly disk bench sink clean status.BenchFault may steady both disk_none bench_none sink_none memory alone = absurd (bench_none may)
ended_exactly disk bench sink clean status.ReadFault may steady both disk_none bench_none sink_none memory alone = absurd may
ended_exactly disk bench sink clean status.WriteFault may steady both disk_none bench_none sink_none memory alone = absurd (sink_none may)
ended_exactly disk bench sink clean (status.Collision name held given) may steady both disk_none bench_none sink_none memory alone = absurd (false≢true (sym alone))
ended_exactly disk bench sink clean (status.Unsteady pn task held given) may steady both disk_none bench_none sink_none memory alone = absurd (false≢true (sym steady))
ended_exactly disk bench sink clean (status.Limit kind) may steady both disk_none bench_none sink_none memory alone = absurd may
ended_exactly disk bench sink clean status.OutOfMemory may steady both disk_none bench_none sink_none memory alone = absurd (memory refl)
ended_exactly disk bench sink clean status.MirrorFault may steady both disk_none bench_none sink_none memory alone = absurd may

-- what is a cause of less is one of more
pub wider_cause : (disk : ℕ) (bench more_bench sink more_sink : Type 0) (s : Status) → (bench → more_bench) → (sink → more_sink) → MayEndSo disk bench sink s → MayEndSo disk more_bench more_sink s
wider_cause disk bench more_bench sink more_sink status.Ok b k cause = cause
wider_cause disk bench more_bench sink more_sink status.TaskFailed b k cause = cause
wider_cause disk bench more_bench sink more_sink status.Usage b k cause = absurd cause
wider_cause disk bench more_bench sink more_sink (status.Metadata file line kind detail) b k cause = absurd cause
wider_cause disk bench more_bench sink more_sink status.DiskFault b k cause = cause
wider_cause disk bench more_bench sink more_sink status.BenchFault b k cause = b cause
wider_cause disk bench more_bench sink more_sink status.ReadFault b k cause = absurd cause
wider_cause disk bench more_bench sink more_sink status.WriteFault b k cause = k cause
wider_cause disk bench more_bench sink more_sink (status.Collision name held given) b k cause = cause
wider_cause disk bench more_bench sink more_sink (status.Unsteady pn task held given) b k cause = cause
wider_cause disk bench more_bench sink more_sink (status.Limit kind) b k cause = absurd cause
wider_cause disk bench more_bench sink more_sink status.OutOfMemory b k cause = cause
wider_cause disk bench more_bench sink more_sink status.MirrorFault b k cause = absurd cause

-- a run that its store refused ended by no bench that failed
pub refused_bench : (sink : Type 0) (f : StoreFault) (s : Status) → EndsBy sink (status_of f) s → s ≢ status.BenchFault
refused_bench sink fault.Disk s (inl is) e = let n : status.DiskFault ≡ status.BenchFault = sym is ∙ e in cc
refused_bench sink (fault.Collision name held given) s (inl is) e = let n : status.Collision name held given ≡ status.BenchFault = sym is ∙ e in cc
refused_bench sink (fault.Unsteady pn task held given) s (inl is) e = let n : status.Unsteady pn task held given ≡ status.BenchFault = sym is ∙ e in cc
refused_bench sink fault.Memory s (inl is) e = let n : status.OutOfMemory ≡ status.BenchFault = sym is ∙ e in cc
refused_bench sink f s (inr (inl is)) e = let n : status.OutOfMemory ≡ status.BenchFault = sym is ∙ e in cc
refused_bench sink f s (inr (inr is)) e = let n : status.WriteFault ≡ status.BenchFault = sym is.0 ∙ e in cc

-- a run that didn't begin ends neither well nor since a task failed
pub refused_ends : (sink : Type 0) (f : StoreFault) (s : Status) → EndsBy sink (status_of f) s → IsOutside f → (s ≢ status.Ok) × (s ≢ status.TaskFailed)
refused_ends sink f s by out = (λ ok. at f out by ok, λ failed. fails f out by failed)
  where
    at : (x : StoreFault) → IsOutside x → EndsBy sink (status_of x) s → s ≡ status.Ok → ⊥
    at fault.Disk o (inl is) ok = let n : status.DiskFault ≡ status.Ok = sym is ∙ ok in cc
    at fault.Memory o (inl is) ok = let n : status.OutOfMemory ≡ status.Ok = sym is ∙ ok in cc
    at x o (inr (inl is)) ok = let n : status.OutOfMemory ≡ status.Ok = sym is ∙ ok in cc
    at x o (inr (inr is)) ok = let n : status.WriteFault ≡ status.Ok = sym is.0 ∙ ok in cc
    at (fault.Collision name held given) o (inl is) ok = absurd o
    at (fault.Unsteady pn task held given) o (inl is) ok = absurd o

    fails : (x : StoreFault) → IsOutside x → EndsBy sink (status_of x) s → s ≡ status.TaskFailed → ⊥
    fails fault.Disk o (inl is) ok = let n : status.DiskFault ≡ status.TaskFailed = sym is ∙ ok in cc
    fails fault.Memory o (inl is) ok = let n : status.OutOfMemory ≡ status.TaskFailed = sym is ∙ ok in cc
    fails x o (inr (inl is)) ok = let n : status.OutOfMemory ≡ status.TaskFailed = sym is ∙ ok in cc
    fails x o (inr (inr is)) ok = let n : status.WriteFault ≡ status.TaskFailed = sym is.0 ∙ ok in cc
    fails (fault.Collision name held given) o (inl is) ok = absurd o
    fails (fault.Unsteady pn task held given) o (inl is) ok = absurd o

-- nor does one that wanted memory
pub memory_ends : (s : Status) → s ≡ status.OutOfMemory → (s ≢ status.Ok) × (s ≢ status.TaskFailed)
memory_ends s is = (
  λ ok. let n : status.OutOfMemory ≡ status.Ok = sym is ∙ ok in cc,
  λ failed. let n : status.OutOfMemory ≡ status.TaskFailed = sym is ∙ failed in cc,
)
