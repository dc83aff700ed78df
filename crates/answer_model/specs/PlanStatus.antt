-- The statuses of graphs that have no plan: the kind is the cause's name, the detail its texts (own rule).
use Rattle.std.specs.Prelude.{ℕ, List, [], ◌∷◌, codes}
use Rattle.meta_model.specs.declared.event.Status.{Status}
use Rattle.meta_model.specs.declared.event.Status.TheVariants.{Metadata, Limit}
use Rattle.plan_model.specs.PlanRefusal.{PlanRefusal, bad_flag, no_value, missing_file, input_bytes, plan_bytes}
use Rattle.answer_model.specs.Said.{value_status}

-- a word of a flag that can't be used, with the flag
abbrev pub flag_status : List ℕ → List ℕ → List ℕ → Status
flag_status file flag word = Metadata file 0 (codes "BadFlag") (flag ∷ word ∷ [])

abbrev pub plan_status : PlanRefusal → Status
plan_status (bad_flag file flag word) = flag_status file flag word
plan_status (no_value file refusal) = value_status file 0 refusal
plan_status (missing_file file word) = Metadata file 0 (codes "MissingFile") (word ∷ [])
plan_status (input_bytes path) = Limit (codes "InputBytes")
plan_status plan_bytes = Limit (codes "PlanBytes")
