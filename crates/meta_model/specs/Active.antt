-- The active overrides, and values under them.
use Rattle.std.specs.Prelude.{ℕ, zero, suc, true, false, List, [], Option, unwrap_or, Result, Ok, Err, codes}
use Rattle.meta_model.specs.declared.entry.EntryLine.{EntryLine}
use Rattle.meta_model.specs.Refusal.{Refusal, unstable, ◌>>=◌}
use Rattle.meta_model.specs.Text.{texts_eq, colon_pieces}
use Rattle.meta_model.specs.Overrides.{resolved}
use Rattle.meta_model.specs.Expansion.{Find, found_by, value_by, expand_by}

-- One pass: OVERRIDES evaluated with the list of the pass before, and cut at its colons; empty pieces are dropped, and an
-- absent OVERRIDES has none ("Conditional Metadata").
abbrev pub pass : List EntryLine → List (List ℕ) → Result (List (List ℕ)) Refusal
pass list before = do
  text ← value_by (found_by (λ name. Ok (resolved list before name))) (codes "OVERRIDES")
  Ok (colon_pieces (unwrap_or text []))

-- Two equal lists in a row end the passes, of which so many are left; repeated pieces are kept for this.
abbrev pub settled : List EntryLine → ℕ → List (List ℕ) → List (List ℕ) → Result (List (List ℕ)) Refusal
settled list zero before last = elim (texts_eq before last) [ true ↦ Ok last | false ↦ Err (unstable before last) ]
settled list (suc left) before last = elim (texts_eq before last) [
  | true ↦ Ok last
  | false ↦ do
    next ← pass list last
    settled list left last next
]

-- The active overrides: the list before the first pass is empty, and there are five passes at most (own rule).
abbrev pub active : List EntryLine → Result (List (List ℕ)) Refusal
active list = do
  first ← pass list []
  settled list 4 [] first

-- what each name has; where the overrides don't settle this is said of no name
abbrev pub find_in : List EntryLine → Find
find_in list =
    let overrides = active list in
    found_by (λ name. do
      under ← overrides
      Ok (resolved list under name))

-- The expanded value of a name.
abbrev pub value : List EntryLine → List ℕ → Result (Option (List ℕ)) Refusal
value list name = value_by (find_in list) name

-- A text expanded over the entries. A text without references looks nothing up.
abbrev pub expand : List EntryLine → List ℕ → Result (List ℕ) Refusal
expand list text = expand_by (find_in list) text
