-- Why a run goes on, or halts.
use Rattle.std.proofs.Common.{◌≡◌, ◌∙◌, sym, ap, subst, refl, ℕ, Bool, true, false, List, [], ◌∷◌, ◌<◌, Some, None, Ok, inl, inr}
use Rattle.std.specs.Prelude.{◌⊎◌, IfSome, IsSome, MatchOption, Option, Result, ◌||◌}
use Rattle.std.specs.List.{list_any}
use Rattle.std.proofs.lemmas.Bool.{false≢true}
use Rattle.std.proofs.lemmas.List.Folds.{list_any-append}
use Rattle.outside_traits.specs.Story.{Story}
use Rattle.meta_model.specs.declared.event.Cut.{Cut}
use Rattle.meta_model.specs.declared.event.Cut.TheVariants as cut
use Rattle.meta_model.specs.declared.event.Event.TheVariants as events
use Rattle.meta_model.specs.declared.event.Logged.{Logged}
use Rattle.meta_model.specs.declared.plan.Plan.{Plan}
use Rattle.run_model.specs.Ends.{bench_broke}
use Rattle.run_model.specs.Seats.{is_bench_break}
use Rattle.task_worker.specs.declared.given.Job.{Job}
use Rattle.tree_model.specs.declared.text.Mem.{Mem}
use Rattle.run_queue.specs.declared.fault.RunFault.{RunFault}
use Rattle.run_queue.specs.declared.state.Claim.{Claim}
use Rattle.run_queue.specs.declared.state.Claim.TheVariants as claim
use Rattle.run_model.specs.Opening.{Opening}
use Rattle.run_queue.specs.Seen.{RunView, seen}
use Rattle.run_queue.specs.Turns.{BreaksOff, IsCleanJob, Marks}
use Rattle.build_resume.specs.Drive.{IsHalted, left_over}
use Rattle.run_workers.specs.declared.worker.Halt.{Halt}

-- a job is handed out only where no fault is kept
pub none_before : (fault : Option RunFault) (job : Job) → (IsSome fault → ◌≡◌ {A = Result Claim Mem} (Ok (claim.Run job)) (Ok claim.Stopped)) → fault ≡ None
none_before None job stops = refl
none_before (Some f) job stops = absurd (let n : ◌≡◌ {A = Result Claim Mem} (Ok (claim.Run job)) (Ok claim.Stopped) = stops refl in cc)

-- nor is a task settled then
pub none_settled : (fault : Option RunFault) (t : ℕ) → (IsSome fault → ◌≡◌ {A = Result Claim Mem} (Ok (claim.Settled t)) (Ok claim.Stopped)) → fault ≡ None
none_settled None t stops = refl
none_settled (Some f) t stops = absurd (let n : ◌≡◌ {A = Result Claim Mem} (Ok (claim.Settled t)) (Ok claim.Stopped) = stops refl in cc)

-- an answer by which the run goes on, or halts
pub goes_or_halts : {D W : Type 0} (old new : RunView D W) (halt : Option Halt) → (halt ≡ None → left_over new < left_over old) → IfSome halt (IsHalted new) → MatchOption halt (left_over new < left_over old) (IsHalted new)
goes_or_halts old new None less halted = less refl
goes_or_halts old new (Some h) less halted = halted

-- a clean job stays one, since it speaks of the plan alone
pub clean_still : {D W : Type 0} (story : D → Story) (written : W → List ℕ) (o : Opening) (old new : RunView D W) (job : Job) → new.plan ≡ old.plan → IsCleanJob o (seen story written old) job → IsCleanJob o (seen story written new) job
clean_still story written o old new job same j = record {
  task = j.task;
  is_task = subst (λ (p : Plan). Rattle.std.specs.List.slice_get p.tasks job.task ≡ Some j.task) (sym same) j.is_task;
  outputs = j.outputs;
  numbers = j.numbers;
  clean = subst (λ (p : Plan). Rattle.run_model.specs.CleanOutputs.AreClean o.gives p.tasks j.outputs) (sym same) j.clean;
  script = j.script;
  layout = subst (λ (p : Plan). job.layout ≡ Rattle.run_model.specs.Layouts.layout_over p.tasks j.task j.outputs) (sym same) j.layout;
  placing = j.placing;
  within = j.within;
}

-- where the last entry says that a bench failed, a task broke off by that
pub bench_marked : (seat t : ℕ) (old new : List Logged) → Marks seat (events.Broke t cut.Bench) old new → bench_broke new ≡ true
bench_marked seat t old new m =
    ap bench_broke m.is ∙ list_any-append (λ l. is_bench_break l.event) old (record { event = events.Broke t cut.Bench; seat = seat; moment = m.moment } ∷ []) ∙ last (list_any (λ l. is_bench_break l.event) old)
  where
    last : (b : Bool) → (b || (true || false)) ≡ true
    last true = refl
    last false = refl

-- so it did where a task broke off since its bench failed, or a fault is kept
pub bench_halts : {D W : Type 0} (seat t : ℕ) (old new : RunView D W) → BreaksOff seat t cut.Bench old new → (bench_broke new.tale ≡ true) ⊎ IsSome new.fault
bench_halts seat t old new b = elim b.as_asked [
  | inl same ↦ inl (bench_marked seat t old.tale new.tale (subst (λ (c : Cut). Marks seat (events.Broke t c) old.tale new.tale) same b.marks))
  | inr other ↦ inr other.1
]

-- no fault is kept where one is
pub unkept : (fault : Option RunFault) → fault ≡ None → IsSome fault → ⊥
unkept None none some = false≢true some
unkept (Some f) none some = let n : Some f ≡ None = none in cc
