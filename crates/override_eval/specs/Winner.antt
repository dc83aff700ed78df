-- The winning one of some forms.
use Rattle.std.specs.Prelude.{◌≡◌, ◌<◌, ℕ, Bool, true, false, List, [], length, Option, Some, None, slice_index_or}
use Rattle.std.specs.List.{slice_split}
use Rattle.meta_model.specs.Text.{is_colon}
use Rattle.meta_model.specs.Overrides.{all_active, beats}

-- The parts p1 to pk of a form `p1:..:pk`, which stands behind a name and a colon.
abbrev pub parts : List ℕ → List (List ℕ)
parts form = slice_split is_colon form

-- a form counts where its parts are all active overrides ("Conditional Metadata")
abbrev pub is_counted : List (List ℕ) → List ℕ → Bool
is_counted active form = all_active active (parts form)

-- the form at a place
abbrev form_at : List (List ℕ) → ℕ → List ℕ
form_at forms i = slice_index_or forms i []

-- Of the first n forms the one at this place counts, and no other that counts beats it; or none of them counts.
abbrev pub IsBestOf : List (List ℕ) → List (List ℕ) → ℕ → Option ℕ → Type 0
IsBestOf active forms n None = (k : ℕ) → k < n → is_counted active (form_at forms k) ≡ false
IsBestOf active forms n (Some i) = (i < n) × (is_counted active (form_at forms i) ≡ true)
    × ((k : ℕ) → k < n → is_counted active (form_at forms k) ≡ true → beats active (parts (form_at forms k)) (parts (form_at forms i)) ≡ false)

-- The winning form among these, by its place, where one of them counts.
abbrev pub IsWinner : List (List ℕ) → List (List ℕ) → Option ℕ → Type 0
IsWinner active forms winner = IsBestOf active forms (length forms) winner
