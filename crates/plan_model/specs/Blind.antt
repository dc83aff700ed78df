-- Plans of which nothing was left out: their keys alone decide what their tasks give.
use Rattle.std.specs.Prelude.{◌≡◌, ℕ, false, [], All, Ok}
use Rattle.std.specs.Result.{result_ok}
use Rattle.meta_model.specs.declared.facts.Graph.{Graph}
use Rattle.meta_model.specs.declared.plan.Plan.{Plan}
use Rattle.meta_model.specs.CleanBuild.{Gives}
use Rattle.load_model.specs.Facts.{RecipeSet}
use Rattle.task_model.specs.Scripts.{script_of, places_of, is_sstate_of, with_lines}
use Rattle.store_model.specs.Origins.{Reading}
use Rattle.store_model.specs.Premises.{IsBlind, HasNoClash}
use Rattle.store_model.specs.Reuse.{MayReuse}
use Rattle.outside_traits.specs.Store.{Store}
use Rattle.plan_model.specs.Inputs.{Files}
use Rattle.plan_model.specs.Plans.{plan_of, forced}
use Rattle.plan_model.specs.Sound.{IsSound}

-- The reading by a key's own lines: the script, the pairs of folders and the shared state that they tell of a task.
abbrev pub key_reading : Reading
key_reading = record {
  script_of = λ lines task. result_ok (script_of (with_lines lines false) task);
  places_of = λ lines task. result_ok (places_of (with_lines lines false) task);
  sstate_of = λ lines task. is_sstate_of (with_lines lines false) task;
}

-- No task of the plan has a name or a text left out of its key: it is one for which a dry run prints no `excluded`.
abbrev pub IsWhole : Plan → Type 0
IsWhole plan = All (λ task. task.key.excluded ≡ false) plan.tasks

-- The plan of a graph is blind, by the reading of its keys, where no task has anything left out: nothing but its key, its files and
-- the outputs of what it needs decides what a task gives, whatever scripts give.
abbrev pub WholeIsBlind : Type 0
WholeIsBlind = (gives : Gives) (files : Files) (set : RecipeSet) (graph : Graph) (threads : ℕ) (plan : Plan) → plan_of files set graph threads ≡ Ok plan → IsWhole plan → All (IsBlind gives key_reading) plan.tasks

-- It stays so, and whole, where the targets' tasks are forced.
abbrev pub ForcedIsBlind : Type 0
ForcedIsBlind = (gives : Gives) (reading : Reading) (plan : Plan) → All (IsBlind gives reading) plan.tasks → All (IsBlind gives reading) (forced plan).tasks

abbrev pub ForcedIsWhole : Type 0
ForcedIsWhole = (plan : Plan) → IsWhole (forced plan) → IsWhole plan

-- A sound and blind plan may reuse an empty book over an empty disk, where no two contents of its clean build have one digest.
abbrev pub FirstMayReuse : Type 0
FirstMayReuse = (gives : Gives) (reading : Reading) (held : Store) (plan : Plan) → IsSound plan → All (IsBlind gives reading) plan.tasks → HasNoClash gives reading held [] plan.tasks → MayReuse gives reading held [] plan.tasks
