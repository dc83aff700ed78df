-- Active overrides over any text that depends on them.
use Rattle.std.specs.Prelude.{ℕ, zero, suc, List, [], unwrap_or, Result, Ok, Err, codes, if◌then◌else◌}
use Rattle.meta_model.specs.declared.entry.EntryLine.{EntryLine}
use Rattle.meta_model.specs.Refusal.{Refusal, unstable, ◌>>=◌}
use Rattle.meta_model.specs.Text.{texts_eq, colon_pieces}
use Rattle.meta_model.specs.Overrides.{resolved}
use Rattle.meta_model.specs.Expansion.{found_by, value_by}

-- One pass: the text under the list of the pass before, cut at its colons ("Conditional Metadata").
abbrev pub pass_of : (List (List ℕ) → Result (List ℕ) Refusal) → List (List ℕ) → Result (List (List ℕ)) Refusal
pass_of text before = text before >>= λ made. Ok (colon_pieces made)

-- Two equal lists in a row end the passes, of which so many are left.
abbrev pub settled_by : (List (List ℕ) → Result (List (List ℕ)) Refusal) → ℕ → List (List ℕ) → List (List ℕ) → Result (List (List ℕ)) Refusal
settled_by pass zero before last = if texts_eq before last then Ok last else Err (unstable before last)
settled_by pass (suc left) before last = if texts_eq before last then Ok last else (pass last >>= settled_by pass left last)

-- The list before the first pass is empty, and there are five passes at most (own rule).
abbrev pub active_by : (List (List ℕ) → Result (List (List ℕ)) Refusal) → Result (List (List ℕ)) Refusal
active_by pass = pass [] >>= settled_by pass 4 []

-- The text that the entries give: the value of OVERRIDES under these active overrides, or no characters where it is absent.
abbrev pub overrides_under : List EntryLine → List (List ℕ) → Result (List ℕ) Refusal
overrides_under list before = value_by (found_by (λ name. Ok (resolved list before name))) (codes "OVERRIDES") >>= λ text. Ok (unwrap_or text [])
