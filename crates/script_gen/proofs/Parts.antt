-- The definitions, step by step.
use Rattle.std.proofs.Common.{◌≡◌, refl, sym, ◌∙◌, ap, ℕ, List, [], ◌∷◌, Bool, true, false, Option, Some, None, Result, Ok, Err, codes, if◌then◌else◌, not, ◌&&◌, ◌||◌, unwrap_or, bytes_eq}
use Rattle.std.specs.Prelude.{zip}
use Rattle.meta_model.specs.declared.entry.EntryLine.{EntryLine}
use Rattle.meta_model.specs.declared.value.Key.{Key}
use Rattle.meta_model.specs.declared.value.KeyLine.{KeyLine}
use Rattle.meta_model.specs.Text.{words}
use Rattle.meta_model.specs.Base.{names}
use Rattle.meta_model.specs.Active.{find_in}
use Rattle.meta_model.specs.declared.value.Resolved.{Resolved}
use Rattle.meta_model.specs.Expansion.{Find, value_by}
use Rattle.task_model.specs.Views.{is_function, seen_by}
use Rattle.task_model.specs.Leads.{is_key_name}
use Rattle.task_model.specs.Keys.{key}
use Rattle.task_model.specs.TaskRefusal.{TaskRefusal, bad_flag, ◌>>=◌, asked, require}
use Rattle.task_model.specs.Scripts.{Flags, Frame, find_at, flag_at, places_of, script_of, value_at, all_functions, all_places, body, flag_text, folders, functions_in, is_on, is_path, line_names, paired, place_of, places_from, script, script_from, store_flags, told_names, told_values}
use Rattle.script_gen.specs.Steps.{called, place_in, told_value, begun, written, placed, side}
use Rattle.script_gen.specs.declared.fault.ScriptFault.{ScriptFault}
use Rattle.script_gen.specs.Faults.{IsScriptFault}
use Rattle.script_gen.proofs.Passing.{fault_on, fault_later}
use Rattle.meta_model.proofs.Passing.{goes_on, IsInTurn}

-- each list is asked in turn

required : {A : Type 0} (b : Bool) (refusal : TaskRefusal) (a : A) (m : Result (List A) TaskRefusal)
    → (require b refusal >>= λ u. m >>= λ more. Ok (a ∷ more)) ≡ ((require b refusal >>= λ u. Ok a) >>= λ c. m >>= λ more. Ok (c ∷ more))
required true refusal a m = refl
required false refusal a m = refl

called_step : (named : Bool) (m : Result (Option Resolved) TaskRefusal) (refusal : TaskRefusal) (word : List ℕ) (n : Result (List (List ℕ)) TaskRefusal)
    → (require named refusal >>= λ u. m >>= λ found. require (is_function found) refusal >>= λ v. n >>= λ others. Ok (word ∷ others))
    ≡ ((require named refusal >>= λ u. m >>= λ found. require (is_function found) refusal >>= λ v. Ok word) >>= λ c. n >>= λ more. Ok (c ∷ more))
called_step true (Ok found) refusal word n = required (is_function found) refusal word n
called_step true (Err other) refusal word n = refl
called_step false m refusal word n = refl

value_step : (m : Result (Option (List ℕ)) TaskRefusal) (name : List ℕ) (n : Result (List (List ℕ × List ℕ)) TaskRefusal)
    → (m >>= λ text. n >>= λ rest. Ok ((name, unwrap_or text []) ∷ rest)) ≡ ((m >>= λ text. Ok (name, unwrap_or text [])) >>= λ c. n >>= λ more. Ok (c ∷ more))
value_step (Ok text) name n = refl
value_step (Err refusal) name n = refl

pub functions_in_turn : (find : Find) (f : List ℕ) → IsInTurn (called find f) (all_functions find f)
functions_in_turn find f word rest = called_step (is_key_name word) (asked (find.at word)) (bad_flag f word) word (all_functions find f rest)

pub places_in_turn : (f : List ℕ) → IsInTurn (place_in f) (all_places f)
places_in_turn f word rest = required (bytes_eq (place_of word) (codes ".") || is_path (place_of word)) (bad_flag f word) (place_of word) (all_places f rest)

pub values_in_turn : (find : Find) → IsInTurn (told_value find) (told_values find)
values_in_turn find name names = value_step (asked (value_by find name)) name (told_values find names)

-- a script is begun, and then written

abbrev pub Names : Type 0
Names = List (List ℕ)

abbrev pub framed_by : Names → Names → List ℕ → Names → Names → Frame × List ℕ
framed_by cleandirs dirs noexec after before = (record { cleandirs = cleandirs; dirs = dirs; before = before; after = after }, noexec)

begun_then : (c d : Result Names TaskRefusal) (n : Result (List ℕ) TaskRefusal) (a b : Result Names TaskRefusal) (o : Result (Option Resolved) TaskRefusal) (done : Frame → Bool → Result (List ℕ) TaskRefusal) (write : Option Frame → Result (List ℕ) TaskRefusal)
    → ((frame : Frame) (on : Bool) → done frame on ≡ write (if on then Some frame else None))
    → (c >>= λ cleandirs. d >>= λ dirs. n >>= λ noexec. a >>= λ after. b >>= λ before. o >>= λ own. done (record { cleandirs = cleandirs; dirs = dirs; before = before; after = after }) (is_function own && not (is_on noexec)))
    ≡ (((c >>= λ cleandirs. d >>= λ dirs. n >>= λ noexec. a >>= λ after. b >>= λ before. Ok (framed_by cleandirs dirs noexec after before)) >>= λ frame. o >>= λ own. Ok (if is_function own && not (is_on frame.1) then Some frame.0 else None)) >>= write)
begun_then (Ok c) (Ok d) (Ok n) (Ok a) (Ok b) (Ok own) done write h = h (record { cleandirs = c; dirs = d; before = b; after = a }) (is_function own && not (is_on n))
begun_then (Ok c) (Ok d) (Ok n) (Ok a) (Ok b) (Err refusal) done write h = refl
begun_then (Ok c) (Ok d) (Ok n) (Ok a) (Err refusal) o done write h = refl
begun_then (Ok c) (Ok d) (Ok n) (Err refusal) b o done write h = refl
begun_then (Ok c) (Ok d) (Err refusal) a b o done write h = refl
begun_then (Ok c) (Err refusal) n a b o done write h = refl
begun_then (Err refusal) d n a b o done write h = refl

body_written : (find : Find) (names functions : Names) (task : List ℕ) (frame : Frame) (on : Bool) → body find names functions task frame on ≡ written find (told_names (codes "export") find names) (told_names (codes "func") find functions) task (if on then Some frame else None)
body_written find names functions task frame true = refl
body_written find names functions task frame false = refl

pub script_steps : (find : Find) (flags : Flags) (names functions : Names) (task : List ℕ) → script_from find flags names functions task ≡ (begun find flags task >>= written find (told_names (codes "export") find names) (told_names (codes "func") find functions) task)
script_steps find flags names functions task =
    begun_then (folders find flags (codes "cleandirs")) (folders find flags (codes "dirs")) (flag_text find flags (codes "noexec")) (functions_in find flags (codes "postfuncs")) (functions_in find flags (codes "prefuncs")) (asked (find.at task))
    (body find names functions task) (written find (told_names (codes "export") find names) (told_names (codes "func") find functions) task) (body_written find names functions task)

-- the script of a task whose key is known
pub script_is : (store : List EntryLine) (task : List ℕ) (made : Key) → key store task ≡ Ok made
    → script store task ≡ (begun (seen_by task (find_in store)) (store_flags store task) task >>= written (seen_by task (find_in store)) (told_names (codes "export") (seen_by task (find_in store)) (names store)) (told_names (codes "func") (seen_by task (find_in store)) (line_names made)) task)
script_is store task made e =
    ap (λ m. asked m >>= λ made. script_from (seen_by task (find_in store)) (store_flags store task) (names store) (line_names made) task) e
    ∙ script_steps (seen_by task (find_in store)) (store_flags store task) (names store) (line_names made) task

-- places, side by side

abbrev pub sided : List ℕ → Names → Names × Names
sided text places = (words text, places)

placed_then : (a : Result (List ℕ) TaskRefusal) (b : List ℕ → Result Names TaskRefusal) (c : Result (List ℕ) TaskRefusal) (d : List ℕ → Result Names TaskRefusal)
    → (a >>= λ input_text. b input_text >>= λ inputs. c >>= λ output_text. d output_text >>= λ outputs. paired (words input_text) (words output_text) >>= λ pairs. Ok (zip inputs outputs))
    ≡ ((a >>= λ text. b text >>= λ places. Ok (sided text places)) >>= λ inputs. (c >>= λ text. d text >>= λ places. Ok (sided text places)) >>= λ outputs. paired inputs.0 outputs.0 >>= λ pairs. Ok (zip inputs.1 outputs.1))
placed_then (Ok a) b c d = by_input (b a)
  where
    by_output : (inputs : Names) (text : List ℕ) (n : Result Names TaskRefusal)
        → (n >>= λ outputs. paired (words a) (words text) >>= λ pairs. Ok (zip inputs outputs)) ≡ ((n >>= λ places. Ok (sided text places)) >>= λ outputs. paired (words a) outputs.0 >>= λ pairs. Ok (zip inputs outputs.1))
    by_output inputs text (Ok outputs) = refl
    by_output inputs text (Err refusal) = refl

    by_text : (inputs : Names) (n : Result (List ℕ) TaskRefusal)
        → (n >>= λ output_text. d output_text >>= λ outputs. paired (words a) (words output_text) >>= λ pairs. Ok (zip inputs outputs)) ≡ ((n >>= λ text. d text >>= λ places. Ok (sided text places)) >>= λ outputs. paired (words a) outputs.0 >>= λ pairs. Ok (zip inputs outputs.1))
    by_text inputs (Ok text) = by_output inputs text (d text)
    by_text inputs (Err refusal) = refl

    by_input : (n : Result Names TaskRefusal)
        → (n >>= λ inputs. c >>= λ output_text. d output_text >>= λ outputs. paired (words a) (words output_text) >>= λ pairs. Ok (zip inputs outputs))
        ≡ ((n >>= λ places. Ok (sided a places)) >>= λ inputs. (c >>= λ text. d text >>= λ places. Ok (sided text places)) >>= λ outputs. paired inputs.0 outputs.0 >>= λ pairs. Ok (zip inputs.1 outputs.1))
    by_input (Ok inputs) = by_text inputs c
    by_input (Err refusal) = refl
placed_then (Err refusal) b c d = refl

pub places_steps : (find : Find) (flags : Flags) → places_from find flags ≡ placed find flags
places_steps find flags = placed_then (flag_text find flags (codes "sstate-inputdirs")) (λ text. all_places (codes "sstate-inputdirs") (words text)) (flag_text find flags (codes "sstate-outputdirs")) (λ text. all_places (codes "sstate-outputdirs") (words text))

-- a side is refused, or both are given

abbrev pub Paired : Type 0
Paired = List (List ℕ × List ℕ)

abbrev pub both : Names × Names → Names × Names → Result Paired TaskRefusal
both inputs outputs = paired inputs.0 outputs.0 >>= λ pairs. Ok (zip inputs.1 outputs.1)

abbrev pub with_outputs : Find → Flags → Names × Names → Result Paired TaskRefusal
with_outputs find flags inputs = side find flags (codes "sstate-outputdirs") >>= both inputs

pub inputs_refused : (find : Find) (flags : Flags) (fault : ScriptFault) → IsScriptFault fault (side find flags (codes "sstate-inputdirs")) → IsScriptFault fault (placed find flags)
inputs_refused find flags fault h = fault_on fault (side find flags (codes "sstate-inputdirs")) (with_outputs find flags) h

pub outputs_refused : (find : Find) (flags : Flags) (inputs : Names × Names) (fault : ScriptFault) → side find flags (codes "sstate-inputdirs") ≡ Ok inputs → IsScriptFault fault (side find flags (codes "sstate-outputdirs")) → IsScriptFault fault (placed find flags)
outputs_refused find flags inputs fault e h = fault_later fault (side find flags (codes "sstate-inputdirs")) inputs (with_outputs find flags) e (fault_on fault (side find flags (codes "sstate-outputdirs")) (both inputs) h)

pub both_given : (find : Find) (flags : Flags) (inputs outputs : Names × Names) → side find flags (codes "sstate-inputdirs") ≡ Ok inputs → side find flags (codes "sstate-outputdirs") ≡ Ok outputs → placed find flags ≡ both inputs outputs
both_given find flags inputs outputs e f = goes_on (side find flags (codes "sstate-inputdirs")) inputs (with_outputs find flags) e ∙ goes_on (side find flags (codes "sstate-outputdirs")) outputs (both inputs) f

-- by the lines of a key

abbrev pub lines_flags : List KeyLine → List ℕ → Flags
lines_flags lines task f = flag_at f (value_at lines task)

pub places_by : (made : Key) (lines : List KeyLine) (task t : List ℕ) → lines ≡ made.lines → t ≡ task → places_of made task ≡ placed (seen_by t (find_at lines)) (lines_flags lines t)
places_by made lines task t l e =
    places_steps (seen_by task (find_at made.lines)) (lines_flags made.lines task)
    ∙ ap (λ ls. placed (seen_by task (find_at ls)) (lines_flags ls task)) (sym l)
    ∙ ap (λ n. placed (seen_by n (find_at lines)) (lines_flags lines n)) (sym e)

pub script_by : (made : Key) (lines : List KeyLine) (task t : List ℕ) → lines ≡ made.lines → t ≡ task
    → script_of made task ≡ (begun (seen_by t (find_at lines)) (lines_flags lines t) task >>= written (seen_by t (find_at lines)) (told_names (codes "export") (seen_by t (find_at lines)) (line_names made)) (told_names (codes "func") (seen_by t (find_at lines)) (line_names made)) task)
script_by made lines task t l e =
    let by : Find → Flags → Result (List ℕ) TaskRefusal = λ find flags. begun find flags task >>= written find (told_names (codes "export") find (line_names made)) (told_names (codes "func") find (line_names made)) task in
    script_steps (seen_by task (find_at made.lines)) (lines_flags made.lines task) (line_names made) (line_names made) task
    ∙ ap (λ ls. by (seen_by task (find_at ls)) (lines_flags ls task)) (sym l)
    ∙ ap (λ n. by (seen_by n (find_at lines)) (lines_flags lines n)) (sym e)

-- a name with its value
pub value_told : (find : Find) (name : List ℕ) (text : Option (List ℕ)) (made : List ℕ) → value_by find name ≡ Ok text → made ≡ unwrap_or text [] → told_value find name ≡ Ok (name, made)
value_told find name text made e m =
    let told : Option (List ℕ) → Result (List ℕ × List ℕ) TaskRefusal = λ t. Ok (name, unwrap_or t []) in
    let pair : List ℕ → Result (List ℕ × List ℕ) TaskRefusal = λ x. Ok (name, x) in
    ap (λ r. asked r >>= told) e ∙ ap pair (sym m)
