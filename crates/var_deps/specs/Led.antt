-- Names that are taken up one after another.
use Rattle.std.specs.Prelude.{ℕ, true, List, [], ◌∷◌, ◌++◌, if◌then◌else◌}
use Rattle.task_model.specs.Leads.{Led, has_part, is_omitted}
use Rattle.var_deps.specs.declared.led.Led.{Led as Taken}

-- what stands for names that are led to
abbrev pub led_of : Taken → Led
led_of led = record { names = led.names.items; left_out = led.left_out }

-- one more name, unless it is left out; one that has no part in keys is passed over
abbrev pub kept_more : List (List ℕ) → List ℕ → Led → Led
kept_more omitted name led =
    if has_part name then (if is_omitted omitted name then record { names = led.names; left_out = true } else record { names = led.names ++ name ∷ []; left_out = led.left_out }) else led
