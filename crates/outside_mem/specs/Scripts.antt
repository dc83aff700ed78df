-- What a table of rules makes of a script. (Own rule.)
use Rattle.std.specs.Prelude.{ℕ, Bool, List, [], ◌∷◌, ◌||◌, nat_eq, Option, Some, None, Result, Ok, Err, find, codes, if◌then◌else◌}
use Rattle.std.specs.List.{starts_with}
use Rattle.tree_model.specs.Folder.{picked}
use Rattle.tree_model.specs.Overlay.{overlaid}
use Rattle.outside_traits.specs.Bench.{Entries, Gives}
use Rattle.outside_mem.specs.declared.script_table.Rule.{Rule}

-- whether the needle stands somewhere in the text
abbrev pub stands_in : List ℕ → List ℕ → Bool
stands_in needle [] = starts_with nat_eq [] needle
stands_in needle (b ∷ text) = starts_with nat_eq (b ∷ text) needle || stands_in needle text

-- the first rule whose needle stands in the script
abbrev pub rule_for : List Rule → List ℕ → Option Rule
rule_for rules script = find (λ rule. stands_in rule.needle script) rules

-- what a rule makes of a work tree: its own tree over it where its status is 0, and else a failure with that status; with
-- no rule the work tree as it is
abbrev pub outcome_of : Option Rule → Entries → Result Entries ℕ
outcome_of None work = Ok work
outcome_of (Some rule) work = if nat_eq rule.status 0 then Ok (overlaid work rule.puts) else Err rule.status

-- what a script gives by the rules: the first rule whose needle stands in it decides what becomes of the part `work/` of
-- what was laid
abbrev pub gives_by : List Rule → Gives
gives_by rules script tree = outcome_of (rule_for rules script) (picked (codes "work") tree)
