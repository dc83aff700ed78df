-- The entries of statements, behind those that were loaded.
use Rattle.std.specs.Prelude.{◌∷◌, [], ℕ, Bool, true, false, List, Result, Ok, codes}
use Rattle.meta_model.specs.declared.entry.Op.{Op}
use Rattle.meta_model.specs.declared.entry.EntryLine.{EntryLine}
use Rattle.meta_model.specs.Refusal.{Refusal, ◌>>=◌}
use Rattle.meta_model.specs.Entries.{assignment_line, set_flag}
use Rattle.load_model.specs.Loading.{Loaded, with_lines}

-- what is loaded behind these entries, where they are no refusal
abbrev pub added : Loaded → Result (List EntryLine) Refusal → Result Loaded Refusal
added loaded lines = lines >>= λ more. Ok (with_lines more loaded)

-- an assignment, and the flag of a name that is exported
abbrev pub exported_line : Bool → List ℕ → List EntryLine
exported_line true name = set_flag name (codes "export") ∷ []
exported_line false name = []

abbrev pub assigned : Bool → List ℕ → Op → List ℕ → List EntryLine
assigned export name op text = assignment_line name op text ∷ exported_line export name
