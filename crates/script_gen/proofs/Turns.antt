-- Lists of which each item is asked in turn.
use Rattle.std.proofs.Common.{◌≡◌, ℕ, ◌<◌, List, length, get_or, drop, Result}
use Rattle.meta_model.specs.Passing.{behind}
use Rattle.meta_model.proofs.Passing.{IsInTurn, one_refused}
use Rattle.task_model.specs.TaskRefusal.{TaskRefusal}
use Rattle.script_gen.specs.declared.fault.ScriptFault.{ScriptFault}
use Rattle.script_gen.specs.Faults.{IsScriptFault, refusal_of}

-- one item is refused
pub one_fault : {B C : Type 0} (step : B → Result C TaskRefusal) (all : List B → Result (List C) TaskRefusal) → IsInTurn step all
    → (whole : Result (List C) TaskRefusal) (before : List C) (xs : List B) (i : ℕ) (x : B) (fault : ScriptFault) → x ≡ get_or xs i x → i < length xs → whole ≡ behind before (all (drop i xs)) → IsScriptFault fault (step x) → IsScriptFault fault whole
one_fault step all is whole before xs i x fault at lt w h = one_refused step all is whole before xs i x (refusal_of fault) at lt w h

-- Items that are given as they are asked: what is done is the front of the list.
