-- What is made of tasks before the plan is made of them.
use Rattle.std.specs.Prelude.{◌≡◌, ℕ, List, [], Option, Some, Ok, All, slice_get, slice_index_or}
use Rattle.std.specs.BTreeMap.{BTreeMap, get}
use Rattle.std.specs.Ordering.{nat_cmp}
use Rattle.meta_model.specs.declared.entry.EntryLine.{EntryLine}
use Rattle.meta_model.specs.declared.facts.Node.{Node}
use Rattle.load_model.specs.Facts.{RecipeSet}
use Rattle.task_model.specs.Keys.{key}
use Rattle.plan_model.specs.Plans.{file_at}
use Rattle.task_plan.specs.declared.parts.Made.{Made}
use Rattle.task_plan.specs.Steps.{shell_of}

-- what is made of a task is what it has over the entries of its recipe
pub record IsMade (file : List ℕ) (store : List EntryLine) (task : List ℕ) (made : Made) : Type 0 where
  pub key_is : key store task ≡ Ok made.key
  pub shell_is : shell_of file store task ≡ Ok made.shell

-- ... of a node
abbrev pub IsMadeOf : RecipeSet → Node → Made → Type 0
IsMadeOf set node made = IsMade (file_at set.facts node.recipe) (slice_index_or set.stores node.recipe []) node.id.task made

-- ... of the node with this number
pub record IsMadeAt (set : RecipeSet) (nodes : List Node) (n : ℕ) (made : Made) : Type 0 where
  pub node : Node
  pub at : slice_get nodes n ≡ Some node
  pub is : IsMadeOf set node made

-- what stands under each number is made of the node with that number
abbrev pub AreAhead : RecipeSet → List Node → (ℕ → Option Made) → Type 0
AreAhead set nodes ahead = (n : ℕ) (made : Made) → ahead n ≡ Some made → IsMadeAt set nodes n made
