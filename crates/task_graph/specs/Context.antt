-- What is known of all facts before tasks are gone through.
use Rattle.std.specs.Prelude.{◌≡◌, ℕ, true, List, Option, Some, Result, Ok}
use Rattle.std.specs.List.{filter_map, flat_map}
use Rattle.std.specs.Option.{option_and_then}
use Rattle.std.specs.Result.{result_ok}
use Rattle.meta_model.specs.declared.facts.FactSet.{FactSet}
use Rattle.meta_model.specs.declared.facts.RecipeFacts.{RecipeFacts}
use Rattle.meta_model.specs.Text.{is_in}
use Rattle.meta_model.specs.Providers.{provider, runtime_provider}
use Rattle.meta_model.specs.Needs.{Task, build_names, run_names}
use Rattle.meta_model.specs.GraphRefusal.{GraphRefusal, word_task}
use Rattle.task_graph.specs.declared.context.Context.{Context}
use Rattle.task_graph.specs.declared.table.TaskTable.{TaskTable}
use Rattle.task_graph.specs.Faults.{IsUnprovided}
use Rattle.task_graph.specs.Index.{IsIndex}
use Rattle.task_graph.specs.Table.{IsTable, number_of_task}
use Rattle.task_graph.specs.Needed.{AreNeeded}
use Rattle.task_graph.specs.Below.{AreNumbersWithin}

-- what is looked up is that of the facts
pub record IsContext (facts : FactSet) (context : Context) : Type 0 where
  pub index : IsIndex facts context.index
  pub table : IsTable facts context.table
  pub needed : AreNeeded facts context.needed.items
  pub numbers : AreNumbersWithin context.needed.items

-- the number is that of the task that is meant
abbrev pub IsNumberOf : TaskTable → Result Task GraphRefusal → ℕ → Type 0
IsNumberOf table meant u = (b : Task) × (meant ≡ Ok b) × (number_of_task table b ≡ Some u)

-- the number of the task that a word of `[depends]` stands for
abbrev pub number_of_word : FactSet → TaskTable → List ℕ × List ℕ → Option ℕ
number_of_word facts table word = option_and_then (number_of_task table) (result_ok (word_task facts word))

-- the numbers of the tasks of some names that recipes have
abbrev pub numbers_of_tasks : TaskTable → List ℕ → List (List ℕ) → List ℕ
numbers_of_tasks table recipes names = flat_map (λ name. filter_map (λ r. number_of_task table (r, name)) recipes) names

-- a name that a recipe needs to be built has no provider
abbrev pub LacksToBuild : FactSet → RecipeFacts → GraphRefusal → Type 0
LacksToBuild facts recipe refusal = (name : List ℕ) × (is_in name (build_names facts recipe) ≡ true) × IsUnprovided name (provider facts name) refusal

-- ... at run time
abbrev pub LacksToRun : FactSet → RecipeFacts → GraphRefusal → Type 0
LacksToRun facts recipe refusal = (name : List ℕ) × (is_in name (run_names recipe) ≡ true) × IsUnprovided name (runtime_provider facts name) refusal
