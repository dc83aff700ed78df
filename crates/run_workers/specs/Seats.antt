-- What a seat knows of a run, by its own record, and how a turn changes it.
use Rattle.std.specs.Prelude.{◌≡◌, ◌≢◌, ◌⊎◌, ℕ, IsSome, List, [], ◌∷◌, ◌++◌, Bool, true, false, Option, Some, None, Result, Ok, Err, All}
use Rattle.std.specs.List.{list_all}
use Rattle.meta_model.specs.declared.event.Cut.{Cut}
use Rattle.meta_model.specs.declared.event.Cut.TheVariants as cut
use Rattle.meta_model.specs.declared.event.Event.{Event}
use Rattle.meta_model.specs.declared.event.Event.TheVariants as events
use Rattle.meta_model.specs.declared.event.Why.TheVariants as why
use Rattle.meta_model.specs.declared.plan.Plan.{Plan}
use Rattle.tree_model.specs.declared.text.Mem.{Mem}
use Rattle.run_core.specs.History.{last_of}
use Rattle.run_queue.specs.declared.closing.Ending.{Ending}
use Rattle.run_queue.specs.declared.closing.Ending.TheVariants as ending
use Rattle.run_queue.specs.declared.fault.RunFault.{RunFault}
use Rattle.run_queue.specs.declared.restoring.Mending.{Mending}
use Rattle.run_queue.specs.declared.restoring.Mending.TheVariants as mending
use Rattle.run_queue.specs.declared.state.Claim.{Claim}
use Rattle.run_queue.specs.declared.state.Claim.TheVariants as claim
use Rattle.run_model.specs.Opening.{Opening}
use Rattle.run_queue.specs.Seen.{Seen}
use Rattle.run_queue.specs.Turns.{IsCleanJob, closed_by}
use Rattle.task_worker.specs.declared.given.Given.{Given}
use Rattle.turn_lock.specs.declared.rule.Record.{Record}
use Rattle.turn_lock.specs.declared.rule.View.{View}
use Rattle.turn_lock.specs.Views.{Begins}
use Rattle.run_workers.specs.declared.shared.Claimed.{Claimed}
use Rattle.run_workers.specs.declared.shared.Closing.{Closing}
use Rattle.run_workers.specs.declared.shared.Closing.TheVariants as closing
use Rattle.run_workers.specs.declared.shared.Told.{Told}
use Rattle.run_model.specs.Runs.{IsScriptOf}
use Rattle.run_workers.specs.Since.{SharedView}
use Rattle.run_workers.specs.Told.{logged_in, told}

-- by these entries of its own the seat of a number has no job in hand: the last of them isn't a start
abbrev pub HoldsNone : ℕ → List Told → Type 0
HoldsNone n mine = (t : ℕ) → last_of n (logged_in mine) ≡ Some (events.Started t n) → ⊥

-- it has the job of this task in hand
abbrev pub Holds : ℕ → ℕ → List Told → Type 0
Holds t n mine = last_of n (logged_in mine) ≡ Some (events.Started t n)

-- one of these entries hadn't been printed behind the turn that marked it
abbrev pub HasUnprinted : List Told → Type 0
HasUnprinted mine = list_all (λ e. e.printed) mine ≡ false

-- no record has a job in hand
abbrev pub NoneHold : List (Record Told) → Type 0
NoneHold records = All (λ (r : Record Told). HoldsNone r.number r.entries) records

module _ {N : Type 0} where
  -- One turn of a seat, in which it added these entries: the tale went out with all that the seat had seen.
  pub record Turned (v w : View N Told) (added : List Told) : Type 0 where
    pub name : w.name ≡ v.name
    pub number : w.number ≡ v.number
    pub spare : w.spare ≡ v.spare
    pub others : w.others ≡ v.others
    pub mine : w.own ≡ v.own ++ added
    pub out : List Told
    pub begins : Begins out v.seen
    pub seen : w.seen ≡ out ++ added

  -- the same seat, which may have seen more and added entries
  pub record IsSameSeat (v w : View N Told) : Type 0 where
    pub name : w.name ≡ v.name
    pub number : w.number ≡ v.number
    pub spare : w.spare ≡ v.spare
    pub others : w.others ≡ v.others

-- the tale of a shared state
abbrev pub tale_of : {D W : Type 0} → SharedView D W → List Told
tale_of s = told s.state.tale s.printed

-- an addition to a tale, under one number
pub record Adds (n : ℕ) (old new added : List Told) : Type 0 where
  pub is : new ≡ old ++ added
  pub by : All (λ e. e.logged.seat ≡ n) added

-- the entry of an event, as a seat marks it
pub record Entry (n : ℕ) (printed : Bool) (event : Event) (added : List Told) : Type 0 where
  pub moment : ℕ
  pub is : added ≡ record { logged = record { event = event; seat = n; moment = moment }; printed = printed } ∷ []

-- what a claim of a seat adds, by its answer
abbrev pub AddsBy : ℕ → Bool → Claim → List Told → Type 0
AddsBy n printed (claim.Run job) added = Entry n printed (events.Started job.task n) added
AddsBy n printed (claim.Settled t) added = Entry n printed (events.Found t) added ⊎ (Entry n printed (events.Restored t) added ⊎ Entry n printed (events.Failed t why.TooLarge) added)
AddsBy n printed (claim.Restore t) added = added ≡ []
AddsBy n printed claim.Wait added = added ≡ []
AddsBy n printed claim.Finished added = added ≡ []
AddsBy n printed claim.Stopped added = added ≡ []

abbrev pub ClaimAdds : ℕ → Result Claimed Mem → List Told → Type 0
ClaimAdds n (Ok claimed) added = AddsBy n claimed.printed claimed.claim added
ClaimAdds n (Err e) added = added ≡ []

-- What a turn of a job that is done adds: nothing, where more is left. Where the answer is that no fault is kept it was closed as it was given.
abbrev pub EndAdds : ℕ → ℕ → Option Given → Result Closing Mem → List Told → Type 0
EndAdds n t g (Ok closing.More) added = added ≡ []
EndAdds n t g (Ok closing.Wait) added = added ≡ []
EndAdds n t g (Ok closing.Closed) added = (printed : Bool) × Entry n printed (closed_by t g) added
EndAdds n t g (Ok closing.Stopped) added = (printed : Bool) × (Entry n printed (closed_by t g) added ⊎ Entry n printed (events.Broke t cut.Fault) added)
EndAdds n t g (Err e) added = (printed : Bool) × Entry n printed (events.Broke t cut.Memory) added

-- What a turn on a task that is being restored adds: nothing, or, where it is so no more, that it was restored.
abbrev pub MendAdds : ℕ → ℕ → Mending → List Told → Type 0
MendAdds n t mending.More added = added ≡ []
MendAdds n t mending.Wait added = added ≡ []
MendAdds n t mending.Closed added = (added ≡ []) ⊎ ((printed : Bool) × Entry n printed (events.Restored t) added)
MendAdds n t mending.Stopped added = added ≡ []

-- how a turn of a job that is done is answered, where a fault is kept or not
abbrev pub closing_as : Result Ending Mem → Bool → Result Closing Mem
closing_as (Ok ending.More) faulty = Ok closing.More
closing_as (Ok ending.Wait) faulty = Ok closing.Wait
closing_as (Ok ending.Closed) true = Ok closing.Stopped
closing_as (Ok ending.Closed) false = Ok closing.Closed
closing_as (Err e) faulty = Err e

-- What breaking a job off adds: that it broke off so, or by another cut than its bench's.
pub record BreakAdds (n t : ℕ) (asked : Cut) (added : List Told) : Type 0 where
  pub printed : Bool
  pub broke : Cut
  pub entry : Entry n printed (events.Broke t broke) added
  pub as_asked : (broke ≡ asked) ⊎ (broke ≢ cut.Bench)

-- the job that a claim hands out has the script of its task
abbrev pub IsScripted : Plan → Claim → Type 0
IsScripted plan (claim.Run job) = IsScriptOf plan job.task job.script
IsScripted plan (claim.Settled t) = Unit {0}
IsScripted plan (claim.Restore t) = Unit {0}
IsScripted plan claim.Wait = Unit {0}
IsScripted plan claim.Finished = Unit {0}
IsScripted plan claim.Stopped = Unit {0}

abbrev pub HandsScript : Plan → Result Claimed Mem → Type 0
HandsScript plan (Ok claimed) = IsScripted plan claimed.claim
HandsScript plan (Err e) = Unit {0}

-- and is the clean build's
abbrev pub IsCleanClaim : Opening → Seen → Claim → Type 0
IsCleanClaim o s (claim.Run job) = IsCleanJob o s job
IsCleanClaim o s (claim.Settled t) = Unit {0}
IsCleanClaim o s (claim.Restore t) = Unit {0}
IsCleanClaim o s claim.Wait = Unit {0}
IsCleanClaim o s claim.Finished = Unit {0}
IsCleanClaim o s claim.Stopped = Unit {0}

abbrev pub HandsClean : Opening → Seen → Result Claimed Mem → Type 0
HandsClean o s (Ok claimed) = IsCleanClaim o s claimed.claim
HandsClean o s (Err e) = Unit {0}

-- How much of a tale with so many events had been printed behind a turn: all of it, where no fault is kept, or what had been before.
pub record HeardOn (fault : Option RunFault) (events : ℕ) (printed : ℕ) (whole : Bool) (now : ℕ) (still : Bool) : Type 0 where
  pub goes_on : still ≡ true → (fault ≡ None) × (whole ≡ true) × (now ≡ events)
  pub rests : still ≡ false → now ≡ printed
  pub stops : still ≡ false → (whole ≡ false) ⊎ IsSome fault
