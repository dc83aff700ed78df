-- The entries that one statement adds, where it names no file.
use Rattle.std.specs.Prelude.{ℕ, Bool, true, false, not, List, [], ◌∷◌, ◌++◌, map, Option, Some, None, Result, Ok, codes, if◌then◌else◌}
use Rattle.meta_model.specs.declared.entry.Op.{Op}
use Rattle.meta_model.specs.declared.entry.Op.TheVariants.{Set, Now, AddBlank, PutBlank}
use Rattle.meta_model.specs.declared.entry.EntryLine.{EntryLine}
use Rattle.meta_model.specs.declared.entry.EntryLine.TheVariants as entry
use Rattle.meta_model.specs.declared.statement.Statement.{Statement}
use Rattle.meta_model.specs.declared.statement.Statement.TheVariants.{Assign, Flag, Export, Unset, UnsetFlag, Include, Require, Inherit, Function, ExportFunctions, AddTask, DelTask}
use Rattle.meta_model.specs.Refusal.{Refusal, ◌>>=◌}
use Rattle.meta_model.specs.Text.{space}
use Rattle.meta_model.specs.Names.{LateName, late_name, first_part}
use Rattle.meta_model.specs.Active.{expand}

-- `:=` sets its text, expanded over the entries so far, which earlier `:=` are among; the others take their text as it
-- stands ("Immediate variable expansion (:=)").
abbrev pub taken : List EntryLine → Op → List ℕ → Result (Op × List ℕ) Refusal
taken before Now text = do
  expanded ← expand before text
  Ok (Set, expanded)
taken before op text = Ok (op, text)

-- An entry's operator is never `:=`.
abbrev pub is_now : Op → Bool
is_now Now = true
is_now _ = false

abbrev pub has_no_now : EntryLine → Bool
has_no_now (entry.Set name op text) = not (is_now op)
has_no_now (entry.Flag name flag op text) = not (is_now op)
has_no_now _ = true

-- With a late keyword `+=` puts a blank in front of its text, `=+` one behind; the other operators change nothing (own rule).
abbrev pub late_text : Op → List ℕ → List ℕ
late_text AddBlank text = space ∷ text
late_text PutBlank text = text ++ (space ∷ [])
late_text op text = text

-- an assignment to a name, which may be late
abbrev pub line_of : Op → List ℕ → List ℕ → Option LateName → EntryLine
line_of op name text None = entry.Set name op text
line_of op name text (Some late) = entry.Later late.target late.kind late.when (late_text op text)

abbrev pub assignment_line : List ℕ → Op → List ℕ → EntryLine
assignment_line name op text = line_of op name text (late_name name)

-- the flag of exactly this name is `1`
abbrev pub set_flag : List ℕ → List ℕ → EntryLine
set_flag name flag = entry.Flag name flag Set (codes "1")

-- The entries that a statement adds to those before it, in a file whose class has this name. `export` sets the flag `export`
-- of the name as it is written. A function sets its body by `=`, and the flag `func` of the name up to its first colon. A
-- flag's name is never late. EXPORT_FUNCTIONS, `addtask` and `deltask` give an entry for each of their words (own rules).
-- `include`, `require` and `inherit` give none of their own: what they add are the entries of files.
abbrev pub lines_of : List ℕ → List EntryLine → Statement → Result (List EntryLine) Refusal
lines_of class before (Assign export name op text) = do
  t ← taken before op text
  Ok (assignment_line name t.0 t.1 ∷ (if export then set_flag name (codes "export") ∷ [] else []))
lines_of class before (Flag name flag op text) = do
  t ← taken before op text
  Ok (entry.Flag name flag t.0 t.1 ∷ [])
lines_of class before (Export name) = Ok (set_flag name (codes "export") ∷ [])
lines_of class before (Unset name) = Ok (entry.Unset name ∷ [])
lines_of class before (UnsetFlag name flag) = Ok (entry.UnsetFlag name flag ∷ [])
lines_of class before (Function name body) = Ok (assignment_line name Set body ∷ set_flag (first_part name) (codes "func") ∷ [])
lines_of class before (ExportFunctions names) = Ok (map (entry.Exported class) names)
lines_of class before (AddTask names after earlier) = Ok (map (λ name. entry.Task name after earlier) names)
lines_of class before (DelTask names) = Ok (map entry.NoTask names)
lines_of class before (Include path) = Ok []
lines_of class before (Require path) = Ok []
lines_of class before (Inherit names) = Ok []

-- statements in a row, each over the entries before it
abbrev pub entries_after : List ℕ → List EntryLine → List (ℕ × Statement) → Result (List EntryLine) Refusal
entries_after class list [] = Ok list
entries_after class list (s ∷ rest) = do
  lines ← lines_of class list s.1
  entries_after class (list ++ lines) rest
