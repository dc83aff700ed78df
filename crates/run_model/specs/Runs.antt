-- What benches run.
use Rattle.std.specs.Prelude.{◌≡◌, ℕ, List, [], ◌∷◌, fold, map, Option, Some, None}
use Rattle.std.specs.List.{slice_get}
use Rattle.meta_model.specs.declared.event.Event.{Event}
use Rattle.meta_model.specs.declared.event.Event.TheVariants as events
use Rattle.meta_model.specs.declared.event.Logged.{Logged}
use Rattle.meta_model.specs.declared.plan.Plan.{Plan}
use Rattle.meta_model.specs.declared.plan.PlanTask.{PlanTask}
use Rattle.meta_model.specs.CleanBuild.{Entries, Gives}
use Rattle.run_model.specs.Layouts.{layout_over}
use Rattle.run_model.specs.CleanOutputs.{AreClean}

-- the runs of a bench, each a script and the tree that was laid for it
abbrev pub Runs : Type 0
Runs = List (List ℕ × Entries)

-- the tasks that were started, in order
abbrev pub started_in : List Logged → List ℕ
started_in [] = []
started_in (entry ∷ tale) = of entry.event (started_in tale)
  where
    of : Event → List ℕ → List ℕ
    of (events.Started t seat) more = t ∷ more
    of _ more = more

-- the task of an event, if it is that the task broke off
abbrev pub broken_by : Event → Option ℕ
broken_by (events.Broke t cut) = Some t
broken_by _ = None

-- the task that broke off by the last of these entries, if that says so
abbrev pub broken_off : List Logged → Option ℕ
broken_off tale = fold (λ before entry. broken_by entry.event) None tale

-- A run of the bench is a task's script over the layout of the clean outputs of what it needs.
pub record IsRunOf (gives : Gives) (plan : Plan) (t : ℕ) (run : List ℕ × Entries) : Type 0 where
  pub task : PlanTask
  pub is_task : slice_get plan.tasks t ≡ Some task
  pub outputs : List (ℕ × Entries)
  pub numbers : map (λ x. x.0) outputs ≡ task.deps
  pub clean : AreClean gives plan.tasks outputs
  pub is : run ≡ (task.script, layout_over plan.tasks task outputs)

-- The bench ran these tasks, one after the other. Only the last one may have no run, and only where it is the one that broke off.
abbrev pub RanThese : Gives → Plan → Option ℕ → List ℕ → Runs → Type 0
RanThese gives plan broke [] [] = Unit {0}
RanThese gives plan broke [] (run ∷ runs) = ⊥
RanThese gives plan broke (t ∷ ts) [] = (ts ≡ []) × (broke ≡ Some t)
RanThese gives plan broke (t ∷ ts) (run ∷ runs) = IsRunOf gives plan t run × RanThese gives plan broke ts runs

-- the script of the task of a number
pub record IsScriptOf (plan : Plan) (t : ℕ) (script : List ℕ) : Type 0 where
  pub task : PlanTask
  pub is_task : slice_get plan.tasks t ≡ Some task
  pub is : script ≡ task.script

-- The bench ran the scripts of these tasks, one after the other. Only the last one may have no run, and only where it is the one that broke
-- off.
abbrev pub RanScripts : Plan → Option ℕ → List ℕ → Runs → Type 0
RanScripts plan broke [] [] = Unit {0}
RanScripts plan broke [] (run ∷ runs) = ⊥
RanScripts plan broke (t ∷ ts) [] = (ts ≡ []) × (broke ≡ Some t)
RanScripts plan broke (t ∷ ts) (run ∷ runs) = IsScriptOf plan t run.0 × RanScripts plan broke ts runs
