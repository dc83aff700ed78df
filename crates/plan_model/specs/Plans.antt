-- The plan of a graph: for each task what decides whether it has to run again, what its script is given, the script, and what its
-- output is made of.
use Rattle.std.specs.Prelude.{ℕ, zero, suc, ◌+◌, ◌<◌, All, nat_le, Bool, ◌||◌, List, [], ◌∷◌, length, slice_get, slice_index_or, nat_eq, unwrap_or, Result, Ok, Err, codes, if◌then◌else◌}
use Rattle.std.specs.List.{flat_map, list_any}
use Rattle.std.specs.Option.{option_map_or}
use Rattle.meta_model.specs.declared.entry.EntryLine.{EntryLine}
use Rattle.meta_model.specs.declared.facts.FactSet.{FactSet}
use Rattle.meta_model.specs.declared.facts.Node.{Node}
use Rattle.meta_model.specs.declared.facts.Graph.{Graph}
use Rattle.meta_model.specs.declared.value.Key.{Key}
use Rattle.meta_model.specs.declared.plan.Plan.{Plan}
use Rattle.meta_model.specs.declared.plan.PlanTask.{PlanTask}
use Rattle.meta_model.specs.Refusal.{Refusal}
use Rattle.meta_model.specs.Text.{is_in}
use Rattle.meta_model.specs.Active.{expand}
use Rattle.meta_model.specs.Base.{flag}
use Rattle.load_model.specs.LoadRefusal.{◌>>=◌, refused_as}
use Rattle.load_model.specs.Facts.{RecipeSet, flag_words}
use Rattle.task_model.specs.Leads.{value_words}
use Rattle.task_model.specs.Keys.{key}
use Rattle.task_model.specs.Scripts.{script, places, is_on}
use Rattle.store_model.specs.Spelling.{key_line_bytes}
use Rattle.plan_model.specs.PlanRefusal.{PlanRefusal, no_value, plan_bytes, told_at}
use Rattle.plan_model.specs.Inputs.{Files, Inputs, input_words, inputs_of}

-- the most bytes of the keys' lines, as records have them, and the scripts of a plan together (own rule)
abbrev pub most_of_texts : ℕ
most_of_texts = 268_435_456

abbrev pub texts_of : Key → List ℕ → ℕ
texts_of key script = length (flat_map key_line_bytes key.lines) + length script

-- the bytes of a plan so far: of keys and scripts, and of input files
pub record Sums : Type 0 where
  pub texts : ℕ
  pub inputs : ℕ

abbrev pub no_sums : Sums
no_sums = record { texts = 0; inputs = 0 }

-- the input files that `[file-checksums]` of a task names, behind the bytes of other tasks' files
abbrev pub task_inputs : Files → List ℕ → List EntryLine → List ℕ → ℕ → Result Inputs PlanRefusal
task_inputs files file store task bytes = do
  words ← refused_as (no_value file) (flag_words store task (codes "file-checksums"))
  inputs_of files file (record { tree = []; bytes = bytes }) (input_words words)

-- A flag counts where its expanded text is neither empty nor `0` (own rule).
abbrev pub counts : List EntryLine → List ℕ → List ℕ → Result Bool Refusal
counts store name f = expand store (unwrap_or (flag store name f) []) >>= λ text. Ok (is_on text)

-- whether the task is one of the shared state
abbrev pub is_shared : List EntryLine → List ℕ → Result Bool Refusal
is_shared store task = value_words store (codes "SSTATETASKS") >>= λ tasks. Ok (is_in task tasks)

-- what is worked out for a task, beside what the graph has of it
pub record Parts : Type 0 where
  pub key : Key
  pub inputs : Inputs
  pub script : List ℕ
  pub places : List (List ℕ × List ℕ)
  pub nostamp : Bool
  pub sstate : Bool

-- The parts of a task, over the entries of its recipe, whose file is told where it is refused. Of several refusals the first in
-- this order is given: the key, the input files, the script, the places, `[nostamp]` (own rule). SSTATETASKS can't be refused where
-- the key isn't.
abbrev pub parts_of : Files → List ℕ → List EntryLine → List ℕ → ℕ → Result Parts PlanRefusal
parts_of files file store task bytes = do
  made ← refused_as (no_value file) (key store task)
  inputs ← task_inputs files file store task bytes
  text ← refused_as (told_at file) (script store task)
  pairs ← refused_as (told_at file) (places store task)
  nostamp ← refused_as (no_value file) (counts store task (codes "nostamp"))
  shared ← refused_as (no_value file) (is_shared store task)
  Ok (record { key = made; inputs = inputs; script = text; places = pairs; nostamp = nostamp; sstate = shared })

-- a task of the plan, and the sums with it
pub record Planned : Type 0 where
  pub task : PlanTask
  pub sums : Sums

abbrev pub with_parts : Node → Parts → PlanTask
with_parts node parts = record {
  id = node.id;
  deps = node.deps;
  depth = node.depth;
  key = parts.key;
  files = parts.inputs.tree;
  script = parts.script;
  nostamp = parts.nostamp;
  sstate = parts.sstate;
  places = parts.places;
}

-- the task, unless the plan is beyond the limit of texts with it; that is asked last (own rule)
abbrev pub planned_with : Node → Sums → Parts → Result Planned PlanRefusal
planned_with node sums parts =
    let texts = sums.texts + texts_of parts.key parts.script in
    if nat_le texts most_of_texts then Ok (record { task = with_parts node parts; sums = record { texts = texts; inputs = parts.inputs.bytes } }) else Err plan_bytes

abbrev pub planned : Files → List ℕ → List EntryLine → Node → Sums → Result Planned PlanRefusal
planned files file store node sums = parts_of files file store node.id.task sums.inputs >>= planned_with node sums

-- the file of a recipe, by its number
abbrev pub file_at : FactSet → ℕ → List ℕ
file_at facts n = option_map_or (λ recipe. recipe.file) (slice_get facts.recipes n) []

-- the task of a node
abbrev pub planned_node : Files → RecipeSet → Node → Sums → Result Planned PlanRefusal
planned_node files set node sums = planned files (file_at set.facts node.recipe) (slice_index_or set.stores node.recipe []) node sums

abbrev pub tasks_planned : Files → RecipeSet → Sums → List Node → Result (List PlanTask) PlanRefusal
tasks_planned files set sums [] = Ok []
tasks_planned files set sums (node ∷ nodes) = do
  first ← planned_node files set node sums
  others ← tasks_planned files set first.sums nodes
  Ok (first.task ∷ others)

-- The plan of a graph of these recipes, with this number of threads. Of several refusals that of the earliest task in the order of
-- the plan is given (own rule).
abbrev pub plan_of : Files → RecipeSet → Graph → ℕ → Result Plan PlanRefusal
plan_of files set graph threads = tasks_planned files set no_sums graph.nodes >>= λ tasks. Ok (record { threads = threads; targets = graph.targets; tasks = tasks })

-- With the option `-f` the tasks of the targets run in this run, as those with `[nostamp]` do (BitBake User Manual, "The bitbake
-- Command", option `-f`; that nothing else follows from it is an own rule).
abbrev pub forced_from : ℕ → List ℕ → List PlanTask → List PlanTask
forced_from n targets [] = []
forced_from n targets (task ∷ tasks) = record task { nostamp = task.nostamp || list_any (nat_eq n) targets } ∷ forced_from (suc n) targets tasks

abbrev pub forced : Plan → Plan
forced plan = record plan { tasks = forced_from zero plan.targets plan.tasks }

abbrev pub forced_plan_of : Files → RecipeSet → Graph → ℕ → Result Plan PlanRefusal
forced_plan_of files set graph threads = plan_of files set graph threads >>= λ plan. Ok (forced plan)

-- The nodes of a graph are of recipes of these facts.
abbrev pub IsOver : FactSet → Graph → Type 0
IsOver facts graph = All (λ node. node.recipe < length facts.recipes) graph.nodes
