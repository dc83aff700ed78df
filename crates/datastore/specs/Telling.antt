-- Lines that a store tells of its names.
use Rattle.std.specs.Prelude.{◌≡◌, Bool, true, false, not, List, ◌++◌, Result, Ok}
use Rattle.meta_model.specs.declared.entry.EntryLine.{EntryLine}
use Rattle.meta_model.specs.Passing.{◌>>=◌, behind}
use Rattle.meta_model.specs.Refusal.{Refusal}
use Rattle.meta_model.specs.Frozen.{Move, stays, lines_where}

-- the lines of names that stay, and of those that move, behind those so far
abbrev pub parted : List EntryLine → List EntryLine → Result (List (Move × List EntryLine)) Refusal → Result (List EntryLine × List EntryLine) Refusal
parted staying moving more = more >>= λ told. Ok (staying ++ lines_where stays told, moving ++ lines_where (λ move. not (stays move)) told)

-- what one more name told stands behind the lines of those that stay or of those that move
abbrev pub IsPushed : List EntryLine → List EntryLine → List EntryLine → List EntryLine → Bool → Result (List EntryLine) Refusal → Type 0
IsPushed staying moving staying' moving' true more = (behind staying more ≡ Ok staying') × (moving' ≡ moving)
IsPushed staying moving staying' moving' false more = (behind moving more ≡ Ok moving') × (staying' ≡ staying)
