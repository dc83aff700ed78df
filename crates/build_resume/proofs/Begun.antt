-- What a run that has begun leaves.
use Rattle.std.proofs.Common.{append-nil, ◌≡◌, ◌≢◌, ◌∙◌, sym, ap, subst, refl, arith, ℕ, ◌≤◌, List, [], length, Bool, true, false, Some, None, inl, inr}
use Rattle.std.specs.Prelude.{◌⊎◌, Contains, Option, IsSome, is_some}
use Rattle.run_queue.specs.Flights.{OpenTask}
use Rattle.std.proofs.lemmas.Bool.{false≢true}
use Rattle.std.proofs.lemmas.List.{append_cancel_left}
use Rattle.outside_traits.specs.Story.{Story}
use Rattle.meta_model.specs.declared.event.Logged.{Logged}
use Rattle.meta_model.specs.declared.event.Status.{Status}
use Rattle.meta_model.specs.declared.event.Status.TheVariants as status
use Rattle.meta_model.specs.declared.plan.Options.{Options}
use Rattle.meta_model.specs.declared.plan.Plan.{Plan}
use Rattle.meta_model.specs.CleanBuild.{Gives}
use Rattle.store_model.specs.Opened.{HasNoLitter}
use Rattle.build_store.specs.View.{NothingOpen}
use Rattle.build_store.specs.declared.fault.StoreFault.{StoreFault}
use Rattle.build_store.specs.declared.fault.StoreFault.TheVariants as fault
use Rattle.tale_model.specs.Fates.{NoneRuns}
use Rattle.tale_model.specs.History.{EachAfter}
use Rattle.run_core.specs.History.{IsOrderly}
use Rattle.run_model.specs.Report.{has_failure}
use Rattle.run_queue.specs.declared.fault.RunFault.{RunFault}
use Rattle.run_queue.specs.declared.fault.RunFault.TheVariants as kept
use Rattle.run_model.specs.Causes.{fault_broke}
use Rattle.run_queue.specs.Keeps.{IsRun}
use Rattle.run_queue.proofs.Boarding.{ends_with_nothing}
use Rattle.run_model.specs.Opening.{Opening}
use Rattle.run_queue.specs.Seen.{RunView, seen}
use Rattle.run_model.specs.Outcome.{IsAtEnd, EndsAs}
use Rattle.run_queue.specs.Turns.{SameRun, fates_of}
use Rattle.outside_traits.specs.Fault.{Counts}
use Rattle.run_model.specs.Runs.{RanScripts, RanThese, Runs}
use Rattle.run_workers.specs.Runs.{by_bench}
use Rattle.run_model.specs.Benches.{broken_at, started_by}
use Rattle.run_model.specs.Build.{RanJust, RanStarted}
use Rattle.build_resume.specs.Drive.{Broken, Drove, Grows, IsHalted, RanOn, WentOn}
use Rattle.run_workers.specs.Worked.{Breaks}
use Rattle.build_resume.specs.Ends.{EndsBy, halt_by, status_by, status_of}
use Rattle.run_model.specs.Ends.{bench_broke, is_faultless, is_of_fault, is_plain, memory_broke}
use Rattle.build_resume.specs.Outcome.{KeptTo}
use Rattle.run_workers.specs.declared.worker.Halt.{Halt}
use Rattle.run_workers.specs.declared.worker.Halt.TheVariants as halt
use Rattle.build_resume.proofs.Outcomes.{failure_told}

-- ---- the status

-- what is told to the end: the status comes from the fault, the halt and the tale, or memory or the sink failed at the end
abbrev pub EndsSo : Type 0 → Option RunFault → Halt → Bool → Status → Type 0
EndsSo sink f h failed s = EndsBy sink (status_by f h failed) s

store_not_ok : (f : StoreFault) → status_of f ≡ status.Ok → ⊥
store_not_ok fault.Disk e = let n : status.DiskFault ≡ status.Ok = e in cc
store_not_ok (fault.Collision name held given) e = let n : status.Collision name held given ≡ status.Ok = e in cc
store_not_ok (fault.Unsteady pn task held given) e = let n : status.Unsteady pn task held given ≡ status.Ok = e in cc
store_not_ok fault.Memory e = let n : status.OutOfMemory ≡ status.Ok = e in cc

store_not_failed : (f : StoreFault) → status_of f ≡ status.TaskFailed → ⊥
store_not_failed fault.Disk e = let n : status.DiskFault ≡ status.TaskFailed = e in cc
store_not_failed (fault.Collision name held given) e = let n : status.Collision name held given ≡ status.TaskFailed = e in cc
store_not_failed (fault.Unsteady pn task held given) e = let n : status.Unsteady pn task held given ≡ status.TaskFailed = e in cc
store_not_failed fault.Memory e = let n : status.OutOfMemory ≡ status.TaskFailed = e in cc

-- Ok comes where no fault was kept, no task failed, and the run halted since nothing was left, or nothing may begin
ok_by : (f : Option RunFault) (h : Halt) (failed : Bool) → status_by f h failed ≡ status.Ok → (f ≡ None) × (failed ≡ false) × ((h ≡ halt.Finished) ⊎ (h ≡ halt.Stopped))
ok_by (Some (kept.Store f)) h failed e = absurd (store_not_ok f e)
ok_by (Some kept.Write) h failed e = absurd (let n : status.WriteFault ≡ status.Ok = e in cc)
ok_by None halt.Finished true e = absurd (let n : status.TaskFailed ≡ status.Ok = e in cc)
ok_by None halt.Finished false e = (refl, refl, inl refl)
ok_by None halt.Stopped true e = absurd (let n : status.TaskFailed ≡ status.Ok = e in cc)
ok_by None halt.Stopped false e = (refl, refl, inr refl)
ok_by None halt.Memory failed e = absurd (let n : status.OutOfMemory ≡ status.Ok = e in cc)
ok_by None halt.Bench failed e = absurd (let n : status.BenchFault ≡ status.Ok = e in cc)

-- a run ends since a task failed where it met no fault, and nothing was left, or nothing may begin
failed_cause : (f : Option RunFault) (h : Halt) (failed : Bool) → status_by f h failed ≡ status.TaskFailed → (f ≡ None) × ((h ≡ halt.Finished) ⊎ (h ≡ halt.Stopped))
failed_cause (Some (kept.Store f)) h failed e = absurd (store_not_failed f e)
failed_cause (Some kept.Write) h failed e = absurd (let n : status.WriteFault ≡ status.TaskFailed = e in cc)
failed_cause None halt.Finished failed e = (refl, inl refl)
failed_cause None halt.Stopped failed e = (refl, inr refl)
failed_cause None halt.Memory failed e = absurd (let n : status.OutOfMemory ≡ status.TaskFailed = e in cc)
failed_cause None halt.Bench failed e = absurd (let n : status.BenchFault ≡ status.TaskFailed = e in cc)

failed_by_status : (f : Option RunFault) (h : Halt) (failed : Bool) → status_by f h failed ≡ status.TaskFailed → failed ≡ true
failed_by_status (Some (kept.Store f)) h failed e = absurd (store_not_failed f e)
failed_by_status (Some kept.Write) h failed e = absurd (let n : status.WriteFault ≡ status.TaskFailed = e in cc)
failed_by_status None halt.Finished true e = refl
failed_by_status None halt.Finished false e = absurd (let n : status.Ok ≡ status.TaskFailed = e in cc)
failed_by_status None halt.Stopped true e = refl
failed_by_status None halt.Stopped false e = absurd (let n : status.Ok ≡ status.TaskFailed = e in cc)
failed_by_status None halt.Memory failed e = absurd (let n : status.OutOfMemory ≡ status.TaskFailed = e in cc)
failed_by_status None halt.Bench failed e = absurd (let n : status.BenchFault ≡ status.TaskFailed = e in cc)

told_ok : (sink : Type 0) (f : Option RunFault) (h : Halt) (failed : Bool) (s : Status) → EndsSo sink f h failed s → s ≡ status.Ok → status_by f h failed ≡ status.Ok
told_ok sink f h failed s (inl is) e = sym is ∙ e
told_ok sink f h failed s (inr (inl is)) e = absurd (let n : status.OutOfMemory ≡ status.Ok = sym is ∙ e in cc)
told_ok sink f h failed s (inr (inr is)) e = absurd (let n : status.WriteFault ≡ status.Ok = sym is.0 ∙ e in cc)

told_failed : (sink : Type 0) (f : Option RunFault) (h : Halt) (failed : Bool) (s : Status) → EndsSo sink f h failed s → s ≡ status.TaskFailed → status_by f h failed ≡ status.TaskFailed
told_failed sink f h failed s (inl is) e = sym is ∙ e
told_failed sink f h failed s (inr (inl is)) e = absurd (let n : status.OutOfMemory ≡ status.TaskFailed = sym is ∙ e in cc)
told_failed sink f h failed s (inr (inr is)) e = absurd (let n : status.WriteFault ≡ status.TaskFailed = sym is.0 ∙ e in cc)

store_not_plain : (f : StoreFault) → is_plain (status_of f) ≡ true → ⊥
store_not_plain fault.Disk e = false≢true e
store_not_plain (fault.Collision name held given) e = false≢true e
store_not_plain (fault.Unsteady pn task held given) e = false≢true e
store_not_plain fault.Memory e = false≢true e

-- nothing failed outside only where the run halted since nothing was left, or nothing may begin
plain_by : (f : Option RunFault) (h : Halt) (failed : Bool) → is_plain (status_by f h failed) ≡ true → (h ≡ halt.Finished) ⊎ (h ≡ halt.Stopped)
plain_by (Some (kept.Store f)) h failed e = absurd (store_not_plain f e)
plain_by (Some kept.Write) h failed e = absurd (false≢true e)
plain_by None halt.Finished failed e = inl refl
plain_by None halt.Stopped failed e = inr refl
plain_by None halt.Memory failed e = absurd (false≢true e)
plain_by None halt.Bench failed e = absurd (false≢true e)

told_plain : (sink : Type 0) (f : Option RunFault) (h : Halt) (failed : Bool) (s : Status) → EndsSo sink f h failed s → is_plain s ≡ true → is_plain (status_by f h failed) ≡ true
told_plain sink f h failed s (inl is) e = ap is_plain (sym is) ∙ e
told_plain sink f h failed s (inr (inl is)) e = absurd (false≢true (ap is_plain (sym is) ∙ e))
told_plain sink f h failed s (inr (inr is)) e = is.1

-- no task broke off, by why the run halted
abbrev pub Unbroken : Halt → List Logged → Type 0
Unbroken h tale = (h ≡ halt.Finished) ⊎ (h ≡ halt.Stopped) → (bench_broke tale ≡ false) × (memory_broke tale ≡ false)

store_of_fault : (f : StoreFault) → is_of_fault (status_of f) ≡ true
store_of_fault fault.Disk = refl
store_of_fault (fault.Collision name held given) = refl
store_of_fault (fault.Unsteady pn task held given) = refl
store_of_fault fault.Memory = refl

-- a run that keeps a fault ends by one
of_fault : (sink : Type 0) (f : Option RunFault) (h : Halt) (failed : Bool) (s : Status) → EndsSo sink f h failed s → (f ≡ None → ⊥) → is_of_fault s ≡ true
of_fault sink None h failed s told some = absurd (some refl)
of_fault sink (Some (kept.Store f)) h failed s (inl is) some = ap is_of_fault is ∙ store_of_fault f
of_fault sink (Some kept.Write) h failed s (inl is) some = ap is_of_fault is
of_fault sink (Some f) h failed s (inr (inl is)) some = ap is_of_fault is
of_fault sink (Some f) h failed s (inr (inr is)) some = ap is_of_fault is.0

-- a run whose bench failed ends by that, or by a fault that was kept
bench_of : (sink : Type 0) (f : Option RunFault) (failed : Bool) (s : Status) → EndsSo sink f halt.Bench failed s → (is_of_fault s ≡ true) ⊎ (s ≡ status.BenchFault)
bench_of sink None failed s (inl is) = inr is
bench_of sink None failed s (inr (inl is)) = inl (ap is_of_fault is)
bench_of sink None failed s (inr (inr is)) = inl (ap is_of_fault is.0)
bench_of sink (Some f) failed s told = inl (of_fault sink (Some f) halt.Bench failed s told (λ none. let n : Some f ≡ None = none in cc))

-- and one to which memory was wanting by a fault
memory_of : (sink : Type 0) (f : Option RunFault) (failed : Bool) (s : Status) → EndsSo sink f halt.Memory failed s → is_of_fault s ≡ true
memory_of sink None failed s (inl is) = ap is_of_fault is
memory_of sink None failed s (inr (inl is)) = ap is_of_fault is
memory_of sink None failed s (inr (inr is)) = ap is_of_fault is.0
memory_of sink (Some f) failed s told = of_fault sink (Some f) halt.Memory failed s told (λ none. let n : Some f ≡ None = none in cc)

-- a run ends by a bench that failed only where it halted by that
halted_bench : (sink : Type 0) (f : Option RunFault) (h : Halt) (failed : Bool) (s : Status) → EndsSo sink f h failed s → s ≡ status.BenchFault → h ≡ halt.Bench
halted_bench sink (Some f) h failed s told e = absurd (false≢true (sym (ap is_of_fault e) ∙ of_fault sink (Some f) h failed s told (λ none. let n : Some f ≡ None = none in cc)))
halted_bench sink None h failed s (inr (inl is)) e = absurd (let n : status.OutOfMemory ≡ status.BenchFault = sym is ∙ e in cc)
halted_bench sink None h failed s (inr (inr is)) e = absurd (let n : status.WriteFault ≡ status.BenchFault = sym is.0 ∙ e in cc)
halted_bench sink None halt.Finished true s (inl is) e = absurd (let n : status.TaskFailed ≡ status.BenchFault = sym is ∙ e in cc)
halted_bench sink None halt.Finished false s (inl is) e = absurd (let n : status.Ok ≡ status.BenchFault = sym is ∙ e in cc)
halted_bench sink None halt.Stopped true s (inl is) e = absurd (let n : status.TaskFailed ≡ status.BenchFault = sym is ∙ e in cc)
halted_bench sink None halt.Stopped false s (inl is) e = absurd (let n : status.Ok ≡ status.BenchFault = sym is ∙ e in cc)
halted_bench sink None halt.Memory failed s (inl is) e = absurd (let n : status.OutOfMemory ≡ status.BenchFault = sym is ∙ e in cc)
halted_bench sink None halt.Bench failed s (inl is) e = refl

-- and only where it kept no fault
bench_faultless : (sink : Type 0) (f : Option RunFault) (h : Halt) (failed : Bool) (s : Status) → EndsSo sink f h failed s → s ≡ status.BenchFault → f ≡ None
bench_faultless sink None h failed s told e = refl
bench_faultless sink (Some f) h failed s told e = absurd (false≢true (sym (ap is_of_fault e) ∙ of_fault sink (Some f) h failed s told (λ none. let n : Some f ≡ None = none in cc)))

-- why a run halted, by what broke a task in its tale
pub record HaltsFor (h : Halt) (tale : List Logged) : Type 0 where
  pub bench : bench_broke tale ≡ true → h ≡ halt.Bench
  pub memory : memory_broke tale ≡ true → bench_broke tale ≡ false → h ≡ halt.Memory

-- how a run ended by its last state
pub ends_as : {D W : Type 0} (sink : Type 0) (old last : RunView D W) (h : Halt) (tale : List Logged) (s : Status) → SameRun old last → tale ≡ last.tale → IsHalted last h → Unbroken h tale → HaltsFor h tale → (last.fault ≡ None → fault_broke last.tale ≡ false) → EndsSo sink last.fault h (has_failure last.tale) s → EndsAs old.plan old.options tale s
ends_as sink old last h tale s same tale_is halted unbroken by calm told = record {
  ok = λ e.
      let by = ok_by last.fault h (has_failure last.tale) (told_ok sink last.fault h (has_failure last.tale) s told e) in
      (subst (λ (l : List Logged). IsAtEnd old.plan old.options l) (sym tale_is) (finished by.0 by.1 by.2), ap has_failure tale_is ∙ by.1);
  failed = λ e. ap has_failure tale_is ∙ failed_by_status last.fault h (has_failure last.tale) (told_failed sink last.fault h (has_failure last.tale) s told e);
  went_on = λ e going.
      let by = failed_cause last.fault h (has_failure last.tale) (told_failed sink last.fault h (has_failure last.tale) s told e) in
      subst (λ (l : List Logged). IsAtEnd old.plan old.options l) (sym tale_is) (went_on by.0 by.1 (ap (λ (x : Options). x.keep_going) same.options ∙ going));
  unbroken = λ e. unbroken (plain_by last.fault h (has_failure last.tale) (told_plain sink last.fault h (has_failure last.tale) s told e));
  by_fault = λ e. of_fault sink last.fault h (has_failure last.tale) s told (λ none. false≢true (sym (calm none) ∙ ap fault_broke (sym tale_is) ∙ e));
  by_bench = λ e. bench_of sink last.fault (has_failure last.tale) s (subst (λ x. EndsSo sink last.fault x (has_failure last.tale) s) (by.bench e) told);
  by_memory = λ e none. memory_of sink last.fault (has_failure last.tale) s (subst (λ x. EndsSo sink last.fault x (has_failure last.tale) s) (by.memory e none) told);
  bench = λ e. ap bench_broke tale_is ∙ elim (subst (IsHalted last) (halted_bench sink last.fault h (has_failure last.tale) s told e) halted) [
    | inl broke ↦ broke
    | inr fault ↦ absurd (some_none last.fault (bench_faultless sink last.fault h (has_failure last.tale) s told e) fault)
  ];
}
  where
    at_end : IsHalted last halt.Finished → IsAtEnd old.plan old.options last.tale
    at_end is = subst (λ (p : Plan). IsAtEnd p old.options last.tale) same.plan (subst (λ (x : Options). IsAtEnd last.plan x last.tale) same.options is)

    some_none : (f : Option RunFault) → f ≡ None → IsSome f → ⊥
    some_none None e is = false≢true is
    some_none (Some f) e is = let n : Some f ≡ None = e in cc

    went_on : last.fault ≡ None → (h ≡ halt.Finished) ⊎ (h ≡ halt.Stopped) → last.options.keep_going ≡ true → IsAtEnd old.plan old.options last.tale
    went_on none (inl is) going = at_end (subst (IsHalted last) is halted)
    went_on none (inr is) going = elim (subst (IsHalted last) is halted) [
      | inl failed ↦ absurd (false≢true (sym failed.1 ∙ going))
      | inr fault ↦ absurd (some_none last.fault none fault)
    ]

    finished : last.fault ≡ None → has_failure last.tale ≡ false → (h ≡ halt.Finished) ⊎ (h ≡ halt.Stopped) → IsAtEnd old.plan old.options last.tale
    finished none calm (inl is) = at_end (subst (IsHalted last) is halted)
    finished none calm (inr is) = elim (subst (IsHalted last) is halted) [
      | inl failed ↦ absurd (false≢true (sym calm ∙ failure_told (Rattle.std.specs.Prelude.length last.plan.tasks) last.tale failed.0))
      | inr fault ↦ absurd (some_none last.fault none fault)
    ]

-- how a call ended that began no run
pub unbegun_ends : (plan : Plan) (options : Options) (tale : List Logged) (s : Status) → tale ≡ [] → s ≢ status.Ok → s ≢ status.TaskFailed → s ≢ status.BenchFault → EndsAs plan options tale s
unbegun_ends plan options tale s none ok failed bench = record {
  ok = λ e. absurd (ok e);
  failed = λ e. absurd (failed e);
  went_on = λ e. absurd (failed e);
  unbroken = λ e. (ap bench_broke none, ap memory_broke none);
  by_fault = λ e. absurd (false≢true (sym (ap fault_broke none) ∙ e));
  by_bench = λ e. absurd (false≢true (sym (ap bench_broke none) ∙ e));
  by_memory = λ e calm. absurd (false≢true (sym (ap memory_broke none) ∙ e));
  bench = λ e. absurd (bench e);
}

-- what broke a task in a tale comes before why the calling thread halted
halted_by : {D W : Type 0} (last : RunView D W) (h : Halt) (bench memory : Bool) → (bench ≡ true → bench_broke last.tale ≡ true) → IsHalted last h → IsHalted last (halt_by h bench memory)
halted_by last h true memory broke halted = inl (broke refl)
halted_by last h false true broke halted = tt
halted_by last h false false broke halted = halted

-- a bench comes first, and then memory
bench_by : (h : Halt) (bench memory : Bool) → bench ≡ true → halt_by h bench memory ≡ halt.Bench
bench_by h true memory e = refl
bench_by h false memory e = absurd (false≢true e)

memory_by : (h : Halt) (bench memory : Bool) → memory ≡ true → bench ≡ false → halt_by h bench memory ≡ halt.Memory
memory_by h true memory e none = absurd (false≢true (sym none))
memory_by h false true e none = refl
memory_by h false false e none = absurd (false≢true e)

-- where a run halted with nothing left, or since nothing may begin, nothing broke a task
calm_by : (h : Halt) (bench memory : Bool) → (halt_by h bench memory ≡ halt.Finished) ⊎ (halt_by h bench memory ≡ halt.Stopped) → (bench ≡ false) × (memory ≡ false)
calm_by h true memory (inl e) = absurd (let n : halt.Bench ≡ halt.Finished = e in cc)
calm_by h true memory (inr e) = absurd (let n : halt.Bench ≡ halt.Stopped = e in cc)
calm_by h false true (inl e) = absurd (let n : halt.Memory ≡ halt.Finished = e in cc)
calm_by h false true (inr e) = absurd (let n : halt.Memory ≡ halt.Stopped = e in cc)
calm_by h false false e = (refl, refl)

-- the same, where what broke tasks is read off the tale
unbroken_by : (h by : Halt) (read tale : List Logged) → by ≡ halt_by h (bench_broke read) (memory_broke read) → read ≡ tale → Unbroken by tale
unbroken_by h by read tale is same e =
    let calm = calm_by h (bench_broke read) (memory_broke read) (subst (λ x. (x ≡ halt.Finished) ⊎ (x ≡ halt.Stopped)) is e) in
    (ap bench_broke (sym same) ∙ calm.0, ap memory_broke (sym same) ∙ calm.1)

-- how a run ended whose halt is read off the tale
pub ends_by : {D W : Type 0} (sink : Type 0) (old last : RunView D W) (h by : Halt) (read tale : List Logged) (s : Status) → by ≡ halt_by h (bench_broke read) (memory_broke read) → read ≡ tale → SameRun old last → tale ≡ last.tale → IsHalted last h → (last.fault ≡ None → fault_broke last.tale ≡ false) → EndsSo sink last.fault by (has_failure last.tale) s → EndsAs old.plan old.options tale s
ends_by sink old last h by read tale s is same_tale same tale_is halted calm told =
    ends_as sink old last by tale s same tale_is (subst (IsHalted last) (sym is) (halted_by last h (bench_broke read) (memory_broke read) (λ e. ap bench_broke (sym tale_is) ∙ ap bench_broke (sym same_tale) ∙ e) halted)) (unbroken_by h by read tale is same_tale) (record {
      bench = λ e. is ∙ bench_by h (bench_broke read) (memory_broke read) (ap bench_broke same_tale ∙ e);
      memory = λ e none. is ∙ memory_by h (bench_broke read) (memory_broke read) (ap memory_broke same_tale ∙ e) (ap bench_broke same_tale ∙ none);
    }) calm told

-- ---- what was kept

faulty_store : (f : StoreFault) → is_faultless (status_of f) ≡ false
faulty_store fault.Disk = refl
faulty_store (fault.Collision name held given) = refl
faulty_store (fault.Unsteady pn task held given) = refl
faulty_store fault.Memory = refl

-- some statuses come only where no fault was kept
pub none_kept : (sink : Type 0) (f : Option RunFault) (h : Halt) (failed : Bool) (s : Status) → EndsSo sink f h failed s → is_faultless s ≡ true → f ≡ None
none_kept sink None h failed s told e = refl
none_kept sink (Some (kept.Store f)) h failed s (inl is) e = absurd (false≢true (sym (ap is_faultless is ∙ faulty_store f) ∙ e))
none_kept sink (Some kept.Write) h failed s (inl is) e = absurd (false≢true (sym (ap is_faultless is) ∙ e))
none_kept sink (Some f) h failed s (inr (inl is)) e = absurd (false≢true (sym (ap is_faultless is) ∙ e))
none_kept sink (Some f) h failed s (inr (inr is)) e = absurd (false≢true (sym (ap is_faultless is.0) ∙ e))

pub kept_to : {D W : Type 0} (story : D → Story) (written : W → List ℕ) (o : Opening) (old last : RunView D W) (disk : D) (tale : List Logged) (s : Status)
    → SameRun old last → disk ≡ last.store.disk → tale ≡ last.tale → (is_faultless s ≡ true → last.fault ≡ None) → EachAfter (IsOrderly last.plan.tasks) last.tale → NoneRuns (fates_of last) → (last.restoring ≡ []) ⊎ IsSome last.fault → length last.restoring ≤ last.plan.threads → (last.fault ≡ None
    → NothingOpen last.store.opened → HasNoLitter (story last.store.disk).held) → IsRun o (seen story written last) → KeptTo o old.plan old.options tale s (story disk)
kept_to story written o old last disk tale s same disk_is tale_is faultless orderly none hands few sweeps run = record {
  last = seen story written last;
  run = run;
  orderly = orderly;
  none = none;
  hands = hands;
  few = few;
  plan_is = same.plan;
  options_are = same.options;
  tale_is = sym tale_is;
  story_is = ap story (sym disk_is);
  faultless = faultless;
  swept = λ kept. sweeps kept ((ends_with_nothing o last.plan last.tale run.opened (run.flights kept) none).1 run.mends last.store.opened (λ folder. none_mended kept folder (run.mends folder) refl) (run.open_are kept));
}
  where
    -- a restoring would be of a task in hand
    none_mended : last.fault ≡ None → (folder : List ℕ) (x : Option OpenTask) → run.mends folder ≡ x → run.mends folder ≡ None
    none_mended kept folder None is = is
    none_mended kept folder (Some one) is = elim hands [
      | inl empty ↦ absurd (let c = subst (λ (l : List ℕ). Contains l ((run.mending kept).each folder one is).number) empty ((run.mending kept).each folder one is).among in let lt = c.1 in omega (arith, lt))
      | inr some ↦ absurd (false≢true (sym (ap is_some kept) ∙ some))
    ]

-- what the bench ran for the tale that went on
pub ran_on : (gives : Gives) (plan : Plan) (h : Halt) (old tale new : List Logged) (before now : Runs) → tale ≡ new → Drove gives plan (Some h) old new before now → RanOn gives plan old tale before now
ran_on gives plan h old tale new before now tale_is d = record { more = d.more; is = tale_is ∙ d.tale; ran = record { runs = d.runs; ran = d.ran; these = d.these } }

-- where no turn was taken
pub ran_nothing : (gives : Gives) (plan : Plan) (tale : List Logged) → tale ≡ [] → (seat : ℕ) (runs : Runs) → RanStarted gives plan tale seat runs runs
ran_nothing gives plan tale none seat runs = record {
  runs = [];
  ran = sym (append-nil runs);
  these = subst (λ (l : List Logged). RanThese gives plan (broken_at seat l) (started_by seat l) []) (sym none) tt;
}

pub just_nothing : (plan : Plan) (tale : List Logged) → tale ≡ [] → (seat : ℕ) (runs : Runs) → RanJust plan (broken_at seat tale) (started_by seat tale) runs runs
just_nothing plan tale none seat runs = record {
  runs = [];
  ran = sym (append-nil runs);
  these = subst (λ (l : List Logged). RanScripts plan (broken_at seat l) (started_by seat l) []) (sym none) tt;
}

-- a tale that went on to the run's end
pub went_on : (h : Halt) (old new tale : List Logged) (before now : ℕ) → tale ≡ new → Grows (Some h) old new → Broken (Unit {0}) old new → Counts before now (by_bench (Some h)) → WentOn old tale before now
went_on h old new tale before now tale_is grows broken counts = record {
  more = grows.more;
  is = tale_is ∙ grows.is;
  alone = grows.alone;
  breaks = λ b. (subst (Counts before now) (grows.breaks b) counts).rose;
  left = subst (Breaks (Unit {0}) (Unit {0})) (append_cancel_left old broken.more grows.more (sym broken.is ∙ grows.is)) broken.breaks;
}

-- what is told of a run by a later state is told of it by its first one
pub ends_still : {D W : Type 0} (old mid : RunView D W) (tale : List Logged) (s : Status) → SameRun old mid → EndsAs mid.plan mid.options tale s → EndsAs old.plan old.options tale s
ends_still old mid tale s same e = subst (λ (p : Plan). EndsAs p old.options tale s) same.plan (subst (λ (x : Options). EndsAs mid.plan x tale s) same.options e)

pub kept_still : {D W : Type 0} (o : Opening) (old mid : RunView D W) (tale : List Logged) (s : Status) (story : Story) → SameRun old mid → KeptTo o mid.plan mid.options tale s story → KeptTo o old.plan old.options tale s story
kept_still o old mid tale s story same k = subst (λ (p : Plan). KeptTo o p old.options tale s story) same.plan (subst (λ (x : Options). KeptTo o mid.plan x tale s story) same.options k)
