-- The plan, one step after another.
use Rattle.std.specs.Prelude.{ℕ, Bool, List, Option, Some, None, Result, Ok, codes}
use Rattle.meta_model.specs.declared.entry.EntryLine.{EntryLine}
use Rattle.meta_model.specs.declared.value.Key.{Key}
use Rattle.meta_model.specs.declared.facts.Node.{Node}
use Rattle.meta_model.specs.declared.plan.PlanTask.{PlanTask}
use Rattle.load_model.specs.LoadRefusal.{◌>>=◌, refused_as}
use Rattle.load_model.specs.Facts.{RecipeSet, flag_words}
use Rattle.task_model.specs.Keys.{key}
use Rattle.task_model.specs.Scripts.{script, places, is_sstate_of}
use Rattle.plan_model.specs.PlanRefusal.{PlanRefusal, no_value, told_at}
use Rattle.plan_model.specs.Inputs.{Files, Inputs, input_word, one_more}
use Rattle.plan_model.specs.Plans.{counts, Parts, Sums, tasks_planned, forced_from}
use Rattle.task_plan.specs.declared.fault.PlanFault.{PlanFault}
use Rattle.task_plan.specs.declared.shell.Shell.{Shell}
use Rattle.task_plan.specs.Faults.{IsPlanFault}

-- what a word of `[file-checksums]` adds
abbrev pub one_named : Files → List ℕ → Inputs → Option (List ℕ) → Result Inputs PlanRefusal
one_named files file inputs None = Ok inputs
one_named files file inputs (Some word) = one_more files file inputs word

abbrev pub word_taken : Files → List ℕ → Inputs → List ℕ → Result Inputs PlanRefusal
word_taken files file inputs word = one_named files file inputs (input_word word)

-- the words of `[file-checksums]`
abbrev pub checksum_words : List ℕ → List EntryLine → List ℕ → Result (List (List ℕ)) PlanRefusal
checksum_words file store task = refused_as (no_value file) (flag_words store task (codes "file-checksums"))

-- the key, and why there is none
abbrev pub key_told : List ℕ → List EntryLine → List ℕ → Result Key PlanRefusal
key_told file store task = refused_as (no_value file) (key store task)

-- the fault of each key of a store
pub record IsFaultOfKeys (fault : PlanFault) (file : List ℕ) (store : List EntryLine) : Type 0 where
  pub told : (task : List ℕ) → IsPlanFault fault (key_told file store task)

abbrev pub script_told : List ℕ → List EntryLine → List ℕ → Result (List ℕ) PlanRefusal
script_told file store task = refused_as (told_at file) (script store task)

abbrev pub places_told : List ℕ → List EntryLine → List ℕ → Result (List (List ℕ × List ℕ)) PlanRefusal
places_told file store task = refused_as (told_at file) (places store task)

abbrev pub nostamp_told : List ℕ → List EntryLine → List ℕ → Result Bool PlanRefusal
nostamp_told file store task = refused_as (no_value file) (counts store task (codes "nostamp"))

-- what is made of a task's store for its shell and its output
abbrev pub shell_of : List ℕ → List EntryLine → List ℕ → Result Shell PlanRefusal
shell_of file store task = do
  text ← script_told file store task
  pairs ← places_told file store task
  nostamp ← nostamp_told file store task
  Ok (record { script = text; places = pairs; nostamp = nostamp })

abbrev pub parts_with : List ℕ → Key → Inputs → Shell → Parts
parts_with task key inputs shell = record { key = key; inputs = inputs; script = shell.script; places = shell.places; nostamp = shell.nostamp; sstate = is_sstate_of key task }

-- the tasks of nodes from a number on, of which those with these numbers are forced
abbrev pub forced_tasks : Files → RecipeSet → Sums → ℕ → List ℕ → List Node → Result (List PlanTask) PlanRefusal
forced_tasks files set sums n forced nodes = tasks_planned files set sums nodes >>= λ tasks. Ok (forced_from n forced tasks)
