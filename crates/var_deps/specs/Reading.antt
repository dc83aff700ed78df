-- What is read of a name, one thing after another.
use Rattle.std.specs.Prelude.{ℕ, Bool, ◌||◌, ◌&&◌, List, [], ◌∷◌, ◌++◌, Option, Some, None, is_some, Result, Ok, codes, if◌then◌else◌}
use Rattle.meta_model.specs.declared.entry.EntryLine.{EntryLine}
use Rattle.meta_model.specs.declared.value.Resolved.{Resolved}
use Rattle.meta_model.specs.Refusal.{Refusal, ◌>>=◌}
use Rattle.meta_model.specs.Expansion.{Find}
use Rattle.meta_model.specs.Forms.{asked_by}
use Rattle.meta_model.specs.Base.{flag, names}
use Rattle.meta_model.specs.References.{looked_up}
use Rattle.task_model.specs.Views.{is_function}
use Rattle.task_model.specs.Leads.{View, Led, flag_words, by_value, by_flags, without}
use Rattle.task_model.specs.Keys.{Told, line_value, asked_value, own_value}
use Rattle.var_deps.specs.Seen.{seen_with}

-- the view of a task
abbrev pub view_by : List EntryLine → Option (List ℕ) → List (List ℕ) → Bool → List ℕ → View
view_by store own ignored sstate task = record { task = task; find = seen_with store own; flag = flag store; names = names store; ignored = ignored; sstate = sstate }

-- the name, where it is a function
abbrev pub function_named : Find → List ℕ → Result (List (List ℕ)) Refusal
function_named find name = do
  found ← find.at name
  Ok (if is_function found then name ∷ [] else [])

-- what the text of a flag looks up
abbrev pub flag_looked_up : Find → Option (List ℕ) → Result (List (List ℕ)) Refusal
flag_looked_up find None = Ok []
flag_looked_up find (Some text) = looked_up find text

-- what a name leads to before names are left out, where this is found of it
abbrev pub all_led : View → Bool → List ℕ → Option Resolved → Result (List (List ℕ)) Refusal
all_led view own name found = do
  value ← by_value view name found
  flags ← by_flags view own
  deps ← flag_words view name (codes "vardeps")
  Ok (value ++ (flags ++ deps))

-- what a name leads to, where this is found of it
abbrev pub led_behind : View → Bool → List ℕ → Option Resolved → Result Led Refusal
led_behind view own name found = do
  all ← all_led view own name found
  excluded ← flag_words view name (codes "vardepsexclude")
  Ok (without (view.ignored ++ excluded) all)

-- the value of a line as it is told: that of a form tells which of its words stand in the value of its name
abbrev pub told_value : View → List ℕ → Option Resolved → Result (Option Resolved) Refusal
told_value view name found = line_value view name found >>= asked_value view (asked_by name)

-- the line of a name, where this is found of it and it leads to these
abbrev pub line_behind : View → Bool → List ℕ → Option Resolved → Led → Result Told Refusal
line_behind view own name found led = do
  value ← line_value view name found
  told ← asked_value view (asked_by name) value
  Ok (record {
    line = record { name = name; value = own_value view own told };
    left_out = led.left_out || (is_some found && is_some (view.flag name (codes "vardepvalue")));
  })
