-- Why a worker does no more.
use Rattle.std.specs.Prelude.{◌≡◌, ◌⊎◌, ◌++◌, ℕ, Bool, true, false, List, length, Option, Some, None, IsSome, Result, Ok, Err}
use Rattle.std.specs.List.{slice_get}
use Rattle.outside_traits.specs.Fault.{Counts, Rose}
use Rattle.meta_model.specs.declared.event.Logged.{Logged}
use Rattle.tale_model.specs.Fates.{HoldsFailure, fates_told}
use Rattle.run_model.specs.Outcome.{IsAtEnd}
use Rattle.tree_model.specs.declared.text.Mem.{Mem}
use Rattle.run_queue.specs.Keeps.{IsState}
use Rattle.run_queue.specs.Seen.{RunView, Seen}
use Rattle.run_queue.specs.declared.state.Claim.{Claim}
use Rattle.run_queue.specs.declared.state.Claim.TheVariants as claim
use Rattle.run_workers.specs.declared.shared.Claimed.{Claimed}
use Rattle.run_workers.specs.declared.worker.Halt.{Halt}
use Rattle.run_workers.specs.declared.worker.Halt.TheVariants as halts

module _ {D W : Type 0} (disk_faults : D → ℕ) (sink_faults : W → ℕ) (first : Seen) (count : ℕ) where
  -- A state of the run that began so, with this tale, kept a fault. It is one that a run may come to: the fault has its cause, and the sink's count
  -- of faults, which was `count`, rose where the sink failed.
  pub record WasFaulty (tale : List Logged) : Type 0 where
    pub then : RunView D W
    pub plan : then.plan ≡ first.plan
    pub tale_is : then.tale ≡ tale
    pub kept : IsState (disk_faults then.store.disk) then
    pub sink : (before : ℕ) → Counts before count first.sink_failed → Counts before (sink_faults then.sink) then.sink_failed
    pub faulty : IsSome then.fault

-- whether a worker halts since memory was wanting
abbrev pub by_memory : Halt → Bool
by_memory halts.Finished = false
by_memory halts.Stopped = false
by_memory halts.Memory = true
by_memory halts.Bench = false

-- nothing new may begin, by the tale: a task failed without `keep_going`
abbrev pub IsStopped : Seen → List Logged → Type 0
IsStopped first tale = HoldsFailure (fates_told (length first.plan.tasks) tale) × (first.options.keep_going ≡ false)

module _ (first : Seen) where
  -- What a claim's answer says of the run when this was its tale: with Finished nothing is left to do; with Stopped nothing new may begin, or a
  -- fault is kept.
  abbrev pub SaysWhy : List Logged → Type 0 → Claim → Type 0
  SaysWhy tale faulty (claim.Run job) = Unit {0}
  SaysWhy tale faulty (claim.Settled t) = Unit {0}
  SaysWhy tale faulty (claim.Restore t) = Unit {0}
  SaysWhy tale faulty claim.Wait = Unit {0}
  SaysWhy tale faulty claim.Finished = IsAtEnd first.plan first.options tale
  SaysWhy tale faulty claim.Stopped = IsStopped first tale ⊎ faulty

  -- and where not all had been printed, a fault is kept
  abbrev pub ClaimSays : List Logged → Type 0 → Result Claimed Mem → Type 0
  ClaimSays tale faulty (Ok claimed) = SaysWhy tale faulty claimed.claim × (claimed.printed ≡ false → faulty)
  ClaimSays tale faulty (Err e) = Unit {0}

  module _ (faulty : List Logged → Type 0) where
    -- Why a worker halts, by the tale of the run as it was told so. That memory was wanting has no cause outside; that its bench failed, its own.
    abbrev pub HaltsBy : Halt → List Logged → Type 0
    HaltsBy halts.Finished tale = IsAtEnd first.plan first.options tale
    HaltsBy halts.Stopped tale = IsStopped first tale ⊎ faulty tale
    HaltsBy halts.Memory tale = Unit {0}
    HaltsBy halts.Bench tale = Unit {0}

    -- a worker halts by some front of this tale, if it does
    abbrev pub HaltsIn : Option Halt → List Logged → Type 0
    HaltsIn None tale = Unit {0}
    HaltsIn (Some halt) tale = (front back : List Logged) × (tale ≡ front ++ back) × HaltsBy halt front

    -- *A worker ends only for a cause*: by some front of the tale nothing was left to do, or nothing new could begin, or a fault was kept; or its
    -- bench failed; or memory was wanting to it, and then that is told.
    pub record Ended (wanting : Bool) (failed : Type 0) (tale : List Logged) : Type 0 where
      pub halt : Halt
      pub why : HaltsIn (Some halt) tale
      pub memory : by_memory halt ≡ true → wanting ≡ true
      pub bench : halt ≡ halts.Bench → failed

    -- each of these benches had a worker, which came to an end
    abbrev pub AllEnded : {B : Type 0} → (B → ℕ) → Bool → List Logged → List B → List B → Type 0
    AllEnded faults wanting tale olds news = (k : ℕ) (old new : _) → slice_get olds k ≡ Some old → slice_get news k ≡ Some new → Ended wanting (Rose (faults old) (faults new)) tale
