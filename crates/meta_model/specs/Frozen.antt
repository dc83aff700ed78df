-- The entries once the names that hold references are moved to what they expand to (BitBake User Manual, "Syntax and
-- Operators", section "Key Expansion"; how names that meet are joined, and the order, are own rules).
use Rattle.std.specs.Prelude.{ℕ, Bool, true, false, not, List, [], ◌∷◌, ◌++◌, filter, Option, Some, None, Result, Ok, codes, bytes_eq, if◌then◌else◌, flat_map}
use Rattle.std.specs.List.{list_all}
use Rattle.meta_model.specs.declared.entry.Op.TheVariants.{Set as Assign, Weak}
use Rattle.meta_model.specs.declared.entry.EntryLine.{EntryLine}
use Rattle.meta_model.specs.declared.entry.EntryLine.TheVariants.{Set, Later, Flag, UnsetFlag, Task, NoTask}
use Rattle.meta_model.specs.declared.entry.LateLine.{LateLine}
use Rattle.meta_model.specs.Refusal.{Refusal, ◌>>=◌}
use Rattle.meta_model.specs.Text.{holds}
use Rattle.meta_model.specs.Names.{is_name_character}
use Rattle.meta_model.specs.Base.{value_slot, flag_slot, lates, flags_of, names}
use Rattle.meta_model.specs.Active.{expand}

-- a name holds `${`
abbrev pub holds_reference : List ℕ → Bool
holds_reference name = holds (codes "${") name

-- a name, and the name to which all that it has goes
pub record Move : Type 0 where
  pub source : List ℕ
  pub target : List ℕ

abbrev pub stays : Move → Bool
stays move = bytes_eq move.source move.target

-- A name that holds `${` is expanded over the entries as they are at the end. It goes to what that gives, unless this still
-- holds `${`, or a character that no reference's name may have: then it stays as it is written (own rule).
abbrev pub target_of : List EntryLine → List ℕ → Bool → Result (List ℕ) Refusal
target_of list name false = Ok name
target_of list name true = do
  target ← expand list name
  Ok (if list_all is_name_character target then target else name)

abbrev pub moves : List EntryLine → List (List ℕ) → Result (List Move) Refusal
moves list [] = Ok []
moves list (name ∷ rest) = do
  target ← target_of list name (holds_reference name)
  others ← moves list rest
  Ok (record { source = name; target = target } ∷ others)

abbrev pub given : (List ℕ → EntryLine) → Option (List ℕ) → List EntryLine
given line None = []
given line (Some text) = line text ∷ []

-- a flag that the source has replaces the target's whole
abbrev pub told_flag : List EntryLine → Move → List ℕ → List EntryLine
told_flag list move f =
    let slot = flag_slot list move.source f in
    UnsetFlag move.target f ∷ (given (Flag move.target f Assign) slot.value ++ given (Flag move.target f Weak) slot.weak)

-- the conditions of a late entry, expanded; what holds a colon then is one piece
abbrev pub conditions : List EntryLine → List (List ℕ) → Result (List (List ℕ)) Refusal
conditions list [] = Ok []
conditions list (text ∷ texts) = do
  first ← expand list text
  rest ← conditions list texts
  Ok (first ∷ rest)

abbrev pub told_lates : List EntryLine → List ℕ → List LateLine → Result (List EntryLine) Refusal
told_lates list target [] = Ok []
told_lates list target (line ∷ lines) = do
  when ← conditions list line.when
  rest ← told_lates list target lines
  Ok (Later target line.kind when line.text ∷ rest)

-- What the source has, as entries of the target: value and weak default where they are present, which replace the target's,
-- flags, and late entries, which go behind the target's (own rule).
abbrev pub told : List EntryLine → Move → Result (List EntryLine) Refusal
told list move = do
  late ← told_lates list move.target (lates list move.source)
  let slot = value_slot list move.source in
      Ok (given (Set move.target Assign) slot.value ++ given (Set move.target Weak) slot.weak ++ flat_map (told_flag list move) (flags_of list move.source) ++ late)

-- moves, each with the entries that it gives
abbrev pub told_all : List EntryLine → List Move → Result (List (Move × List EntryLine)) Refusal
told_all list [] = Ok []
told_all list (move ∷ moves) = do
  first ← told list move
  rest ← told_all list moves
  Ok ((move, first) ∷ rest)

-- the entries of the moves that pass the test
abbrev pub lines_where : (Move → Bool) → List (Move × List EntryLine) → List EntryLine
lines_where test told = flat_map (λ m. m.1) (filter (λ m. test m.0) told)

-- tasks stay as they are
abbrev pub is_task_line : EntryLine → Bool
is_task_line (Task task after before) = true
is_task_line (NoTask task) = true
is_task_line _ = false

-- The entries of the names that stay, and behind them those of the names that move, each in byte order. All names are
-- expanded first, then all conditions, in byte order of the names; all over the entries as they are given (own rule).
abbrev pub frozen : List EntryLine → Result (List EntryLine) Refusal
frozen list = do
  all ← moves list (names list)
  told ← told_all list all
  Ok (lines_where stays told ++ lines_where (λ move. not (stays move)) told ++ filter is_task_line list)
