-- What the values of this crate stand for.
use Rattle.std.specs.Prelude.{◌≡◌, ◌+◌, ◌-◌, ◌^◌, min, ℕ, List, [], Option, Some, slice_index_or}
use Rattle.meta_model.specs.declared.entry.EntryLine.{EntryLine}
use Rattle.plan_model.specs.Inputs.{Inputs as Files}
use Rattle.plan_model.specs.Plans.{Parts as Whole, Sums as Counted}
use Rattle.task_plan.specs.declared.inputs.Inputs.{Inputs}
use Rattle.task_plan.specs.declared.parts.Parts.{Parts}
use Rattle.task_plan.specs.declared.planned.Sums.{Sums}

abbrev pub inputs_meant : Inputs → Files
inputs_meant inputs = record { tree = inputs.tree; bytes = inputs.bytes }

abbrev pub parts_meant : Parts → Whole
parts_meant parts = record {
  key = parts.key;
  inputs = inputs_meant parts.inputs;
  script = parts.shell.script;
  places = parts.shell.places;
  nostamp = parts.shell.nostamp;
  sstate = parts.sstate;
}

abbrev pub sums_meant : Sums → Counted
sums_meant sums = record { texts = sums.texts; inputs = sums.inputs }

-- so many more, or the greatest number that is counted
abbrev pub IsMore : ℕ → ℕ → ℕ → Type 0
IsMore old n new = new ≡ min (old + n) (2 ^ 64 - 1)

-- what is kept of a recipe, by its number, is of its entries
abbrev pub AreKept : List (List EntryLine) → (ℕ → Option (List EntryLine)) → Type 0
AreKept stores kept = (n : ℕ) (keys : List EntryLine) → kept n ≡ Some keys → keys ≡ slice_index_or stores n []
