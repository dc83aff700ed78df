-- Layouts within their limits.
use Rattle.std.specs.Prelude.{◌≡◌, ◌≤◌, ℕ, true, false, List, length, Option, Some, None, All}
use Rattle.meta_model.specs.CleanBuild.{Entries, is_beyond_layout}

-- no path of the trees has more than 3,072 bytes
abbrev pub AreShort : List (ℕ × Entries) → Type 0
AreShort outputs = All (λ o. All (λ e. length e.0 ≤ 3072) o.1) outputs

-- the tree, where it is within the limits of a layout, and nothing where it is beyond them
abbrev pub IsWithinLayout : Entries → Option Entries → Type 0
IsWithinLayout laid (Some tree) = (tree ≡ laid) × (is_beyond_layout laid ≡ false)
IsWithinLayout laid None = is_beyond_layout laid ≡ true
