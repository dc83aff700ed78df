-- What contracts see of the state of a run.
use Rattle.std.specs.Prelude.{◌≡◌, ℕ, Bool, List, Option, Some}
use Rattle.std.specs.List.{slice_get}
use Rattle.outside_traits.specs.Story.{Story}
use Rattle.meta_model.specs.declared.event.Avail.{Avail}
use Rattle.meta_model.specs.declared.event.Logged.{Logged}
use Rattle.meta_model.specs.declared.plan.Options.{Options}
use Rattle.meta_model.specs.declared.plan.Plan.{Plan}
use Rattle.store_model.specs.declared.signature.EquivRow.{EquivRow}
use Rattle.tree_model.specs.declared.hash.Hash.{Hash}
use Rattle.setscene_plan.specs.declared.replan.Replan.{Replan}
use Rattle.setscene_plan.specs.Replans.{avail_in, names_in, need_in}
use Rattle.setscene_plan.specs.View.{Says}
use Rattle.build_store.specs.declared.kept.KeptSig.{KeptSig}
use Rattle.build_store.specs.View.{OpenViews, View}
use Rattle.run_queue.specs.declared.fault.RunFault.{RunFault}

-- What is known of a plan's tasks: the name of each, whether it is needed, and of each needed one how its output is there.
pub record Known : Type 0 where
  pub names : List Hash
  pub need : List Bool
  pub avail : List Avail

abbrev pub known_in : Replan → Known
known_in r = record { names = names_in r; need = need_in r; avail = avail_in r }

-- nothing is asked of what the answers of outputs mean
abbrev pub no_meaning : Says
no_meaning t sig there = Unit {0}

-- The plan and the options; the store, and the sink, and whether that has failed; the first fault that was met; the tale; of each
-- task whose publishing or restoring was begun what the store had answered of its output; the tasks that are being restored, and where a fault is
-- kept those that were; whether an end waits for them; and what is known of the plan's tasks, where it is kept.
pub record RunView (D W : Type 0) : Type 0 where
  pub plan : Plan
  pub options : Options
  pub store : View D
  pub sink : W
  pub sink_failed : Bool
  pub fault : Option RunFault
  pub tale : List Logged
  pub begun : List (Option Avail)
  pub restoring : List ℕ
  pub ends_wait : Bool
  pub known : Option Known

-- The same as plain values, with what the disk and the sink tell.
pub record Seen : Type 0 where
  pub plan : Plan
  pub options : Options
  pub rows : List EquivRow
  pub kept : List KeptSig
  pub opened : OpenViews
  pub sink_failed : Bool
  pub fault : Option RunFault
  pub tale : List Logged
  pub begun : List (Option Avail)
  pub restoring : List ℕ
  pub known : Option Known
  pub story : Story
  pub written : List ℕ

abbrev pub seen : {D W : Type 0} → (D → Story) → (W → List ℕ) → RunView D W → Seen
seen story written s = record {
  plan = s.plan;
  options = s.options;
  rows = s.store.rows;
  kept = s.store.kept;
  opened = s.store.opened;
  sink_failed = s.sink_failed;
  fault = s.fault;
  tale = s.tale;
  begun = s.begun;
  restoring = s.restoring;
  known = s.known;
  story = story s.store.disk;
  written = written s.sink;
}

-- the task's publishing or restoring was begun, as such a list tells
abbrev pub IsBegunIn : List (Option Avail) → ℕ → Type 0
IsBegunIn begun t = (a : Avail) × (slice_get begun t ≡ Some (Some a))

abbrev pub IsBegun : Seen → ℕ → Type 0
IsBegun s t = IsBegunIn s.begun t
