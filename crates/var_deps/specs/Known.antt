-- What is known of a name.
use Rattle.std.specs.Prelude.{◌≡◌, ℕ, Bool, true, List, Option, is_some, option_map, option_to_list, Result, Ok}
use Rattle.meta_model.specs.Refusal.{Refusal, ◌>>=◌}
use Rattle.var_expand.specs.Faults.{IsFaultOf}
use Rattle.datastore.specs.Faults.{refusal_of}
use Rattle.task_model.specs.Leads.{View, Led}
use Rattle.task_model.specs.Keys.{Told, names_led}
use Rattle.var_deps.specs.declared.line.Line.{Line}
use Rattle.var_deps.specs.declared.line.Line.TheVariants.{Told as told, Refused}
use Rattle.var_deps.specs.declared.line.Known.{Known}
use Rattle.var_deps.specs.Reading.{led_behind, line_behind}

-- a flag with its text, where it has one
abbrev pub told_at : List ℕ → Option (List ℕ) → List (List ℕ × List ℕ)
told_at f text = option_to_list (option_map (λ t. (f, t)) text)

-- this is the line that was meant, or why there is none
abbrev pub IsLine : Line → List ℕ → Result Told Refusal → Type 0
IsLine (told value left_out) name meant = meant ≡ Ok (record { line = record { name = name; value = value }; left_out = left_out })
IsLine (Refused fault) name meant = (is_some (refusal_of fault) ≡ true) × IsFaultOf fault meant

-- what a name leads to, as it is read once
abbrev pub read_led : View → Bool → List ℕ → Result Led Refusal
read_led view own name = view.find.at name >>= led_behind view own name

-- the line of a name, as it is read once
abbrev pub read_line : View → Bool → List ℕ → Result Told Refusal
read_line view own name = do
  found ← view.find.at name
  led ← led_behind view own name found
  line_behind view own name found led

-- what is known of a name is right
pub record IsKnown (view : View) (own : Bool) (name : List ℕ) (known : Known) : Type 0 where
  pub led : known.led.items ≡ names_led (read_led view own name)
  pub line : IsLine known.line name (read_line view own name)
