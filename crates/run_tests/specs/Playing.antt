-- A run of one seat, and what it knows.
use Rattle.std.specs.Prelude.{◌≡◌, ℕ, ◌<◌, ◌≤◌, ◌⊎◌, List, All, length, Contains}
use Rattle.meta_model.specs.declared.plan.Plan.{Plan}
use Rattle.tale_model.specs.declared.fate.Fate.{Fate}
use Rattle.tale_model.specs.declared.fate.Fate.TheVariants.{Waiting}
use Rattle.run_core.specs.Candidates.{Covers}
use Rattle.tale_model.specs.Fates.{fate_at, NoneRuns}
use Rattle.run_core.specs.Need.{AreOrdered}
use Rattle.setscene_plan.specs.declared.replan.Replan.{Replan}
use Rattle.setscene_plan.specs.Asked.{SameAt}
use Rattle.setscene_plan.specs.Replans.{IsCurrent, avail_in, need_in, told_in}
use Rattle.setscene_plan.specs.View.{View}
use Rattle.run_tests.specs.Index.{no_objects}
use Rattle.run_tests.specs.declared.playing.Play.{Play}

-- a plan that a run may have
pub record IsSound (plan : Plan) : Type 0 where
  pub few : length plan.tasks ≤ 65536
  pub ordered : AreOrdered plan.tasks
  pub targets : All (λ t. t < length plan.tasks) plan.targets

-- Between two steps: what is kept is up to date, each task that can go on is listed, and none runs.
pub record Stands (view : View) (play : Play) : Type 0 where
  pub sound : IsSound view.plan
  pub current : IsCurrent no_objects view play.replan
  pub long : length play.board ≡ length view.plan.tasks
  pub covers : Covers view.plan.tasks (need_in play.replan) (avail_in play.replan) play.board play.front
  pub rests : NoneRuns play.board

-- a task of the board that waits
pub record CanBegin (board : List Fate) (task : ℕ) : Type 0 where
  pub within : task < length board
  pub waits : fate_at board task ≡ Waiting

-- what changed whether a task is needed, or its output there, is told
abbrev pub TellsChanges : Replan → Replan → Type 0
TellsChanges old new = (t : ℕ) → Contains (told_in new) t ⊎ SameAt (need_in old) (need_in new) (avail_in old) (avail_in new) t
