-- What a run leaves, over an opening.
use Rattle.std.specs.Prelude.{◌≡◌, ◌⊎◌, ◌≤◌, true, List, [], IsSome, None, length}
use Rattle.outside_traits.specs.Story.{Story}
use Rattle.meta_model.specs.declared.event.Logged.{Logged}
use Rattle.meta_model.specs.declared.event.Status.{Status}
use Rattle.meta_model.specs.declared.plan.Options.{Options}
use Rattle.meta_model.specs.declared.plan.Plan.{Plan}
use Rattle.tale_model.specs.Fates.{NoneRuns, fates_told}
use Rattle.tale_model.specs.History.{EachAfter}
use Rattle.run_core.specs.History.{IsOrderly}
use Rattle.store_model.specs.Opened.{HasNoLitter}
use Rattle.run_model.specs.Ends.{is_faultless}
use Rattle.run_model.specs.Opening.{Opening}
use Rattle.run_queue.specs.Keeps.{IsRun}
use Rattle.run_queue.specs.Seen.{Seen}

-- the state in which a run ended kept all over the opening, its tale is orderly, and no task runs; it kept no fault where the status tells of none, and
-- where it kept none no task is being restored, and nothing is held under `tmp/`
pub record KeptTo (o : Opening) (plan : Plan) (options : Options) (tale : List Logged) (s : Status) (story : Story) : Type 0 where
  pub last : Seen
  pub run : IsRun o last
  pub orderly : EachAfter (IsOrderly last.plan.tasks) last.tale
  pub none : NoneRuns (fates_told (length last.plan.tasks) last.tale)
  pub hands : (last.restoring ≡ []) ⊎ IsSome last.fault
  pub few : length last.restoring ≤ last.plan.threads
  pub plan_is : last.plan ≡ plan
  pub options_are : last.options ≡ options
  pub tale_is : last.tale ≡ tale
  pub story_is : last.story ≡ story
  pub faultless : is_faultless s ≡ true → last.fault ≡ None
  pub swept : last.fault ≡ None → HasNoLitter last.story.held
