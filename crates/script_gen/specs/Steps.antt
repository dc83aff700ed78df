-- What is asked of one word or of one name after another.
use Rattle.std.specs.Prelude.{ℕ, Bool, List, [], ◌++◌, ◌||◌, Option, Some, None, not, ◌&&◌, unwrap_or, Result, Ok, codes, bytes_eq, if◌then◌else◌, flat_map, zip, ◌∷◌}
use Rattle.meta_model.specs.Text.{into_order, words}
use Rattle.meta_model.specs.Expansion.{Find, value_by}
use Rattle.meta_model.specs.Script.{function_texts}
use Rattle.task_model.specs.Views.{is_function}
use Rattle.task_model.specs.Leads.{is_key_name}
use Rattle.task_model.specs.TaskRefusal.{TaskRefusal, bad_flag, ◌>>=◌, asked, require}
use Rattle.task_model.specs.Scripts.{Flags, Frame, all_places, paired, call_lines, cd_line, clean_lines, ended_bodies, export_lines, flag_text, folders, functions_in, is_folder, is_on, is_path, make_line, place_of, told_values}

-- a folder, where the word is one
abbrev pub folder_of : List ℕ → List ℕ → Result (List ℕ) TaskRefusal
folder_of f word = do
  fits ← require (is_folder word) (bad_flag f word)
  Ok word

-- a function to be called, where the word is one
abbrev pub called : Find → List ℕ → List ℕ → Result (List ℕ) TaskRefusal
called find f word = do
  named ← require (is_key_name word) (bad_flag f word)
  found ← asked (find.at word)
  there ← require (is_function found) (bad_flag f word)
  Ok word

-- a place, where the word is one
abbrev pub place_in : List ℕ → List ℕ → Result (List ℕ) TaskRefusal
place_in f word = do
  fits ← require (bytes_eq (place_of word) (codes ".") || is_path (place_of word)) (bad_flag f word)
  Ok (place_of word)

-- what one of the two flags of places says: its words, and the folders that they mean
abbrev pub side : Find → Flags → List ℕ → Result (List (List ℕ) × List (List ℕ)) TaskRefusal
side find flags f = do
  text ← flag_text find flags f
  places ← all_places f (words text)
  Ok (words text, places)

-- the pairs that both say
abbrev pub placed : Find → Flags → Result (List (List ℕ × List ℕ)) TaskRefusal
placed find flags = do
  inputs ← side find flags (codes "sstate-inputdirs")
  outputs ← side find flags (codes "sstate-outputdirs")
  pairs ← paired inputs.0 outputs.0
  Ok (zip inputs.1 outputs.1)

-- one name more in byte order, where it passes a test
abbrev pub taken_up : (List ℕ → Bool) → List (List ℕ) → List ℕ → List (List ℕ)
taken_up test names name = if test name then into_order names name else names

-- a name with its expanded value
abbrev pub told_value : Find → List ℕ → Result (List ℕ × List ℕ) TaskRefusal
told_value find name = do
  text ← asked (value_by find name)
  Ok (name, unwrap_or text [])

-- what the flags of a task say of its script, with the expanded text of `[noexec]`
abbrev pub framed : Find → Flags → Result (Frame × List ℕ) TaskRefusal
framed find flags = do
  cleandirs ← folders find flags (codes "cleandirs")
  dirs ← folders find flags (codes "dirs")
  noexec ← flag_text find flags (codes "noexec")
  after ← functions_in find flags (codes "postfuncs")
  before ← functions_in find flags (codes "prefuncs")
  Ok (record { cleandirs = cleandirs; dirs = dirs; before = before; after = after }, noexec)

-- ... where the task has a function and isn't `noexec`
abbrev pub begun : Find → Flags → List ℕ → Result (Option Frame) TaskRefusal
begun find flags task = do
  frame ← framed find flags
  own ← asked (find.at task)
  Ok (if is_function own && not (is_on frame.1) then Some frame.0 else None)

-- the text of a script
abbrev pub text_of : List (List ℕ × List ℕ) → List (List ℕ × List ℕ) → List ℕ → Frame → List ℕ
text_of exports bodies task frame = codes "set -e\n" ++ (export_lines exports ++ (function_texts (ended_bodies bodies) ++ (flat_map clean_lines frame.cleandirs ++ (flat_map make_line frame.dirs ++ (cd_line frame.dirs ++ call_lines (frame.before ++ task ∷ frame.after))))))

-- a script of these exported names and these functions
abbrev pub finished : Find → List (List ℕ) → List (List ℕ) → List ℕ → Frame → Result (List ℕ) TaskRefusal
finished find exports functions task frame = do
  values ← told_values find exports
  bodies ← told_values find functions
  Ok (text_of values bodies task frame)

-- the script of a task that has a frame, or the one that does nothing
abbrev pub written : Find → List (List ℕ) → List (List ℕ) → List ℕ → Option Frame → Result (List ℕ) TaskRefusal
written find exports functions task None = Ok (codes ":\n")
written find exports functions task (Some frame) = finished find exports functions task frame
