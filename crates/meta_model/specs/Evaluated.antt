-- What a text means where no file is read: the definitions put together, as the worked examples use them. The text is that of
-- a class `c`, in which every statement may stand.
use Rattle.std.specs.Prelude.{ℕ, zero, suc, List, [], ◌∷◌, ◌++◌, Option, Some, None, Result, Ok, Err, codes}
use Rattle.meta_model.specs.declared.line.Kind.TheVariants.{Class}
use Rattle.meta_model.specs.declared.line.SyntaxFault.{SyntaxFault}
use Rattle.meta_model.specs.declared.entry.EntryLine.{EntryLine}
use Rattle.meta_model.specs.declared.statement.Statement.{Statement}
use Rattle.meta_model.specs.declared.value.Resolved.{Resolved}
use Rattle.meta_model.specs.Refusal.{Refusal, ◌>>=◌}
use Rattle.meta_model.specs.Lines.{OrFault, lines_of_text}
use Rattle.meta_model.specs.Statements.{of_lines}
use Rattle.meta_model.specs.Entries.{entries_after}
use Rattle.meta_model.specs.Base.{flag, names}
use Rattle.meta_model.specs.Expansion.{value_within as within_names, values_by, expanded_parts}
use Rattle.meta_model.specs.Active.{value, expand, active, find_in}
use Rattle.meta_model.specs.Frozen.{frozen}
use Rattle.meta_model.specs.Tasks.{tasks}
use Rattle.meta_model.specs.Forms.{told_name}
use Rattle.meta_model.specs.Parts.{Parts, end, plain, reference, form, parts_of}

-- what a text gives; or why a value is refused; or the line and the fault of a statement
pub data Outcome (A : Type 0) : Type 0 where
  gives : A → Outcome A
  refused : Refusal → Outcome A
  faulty : ℕ → SyntaxFault → Outcome A

abbrev pub outcome_of : {A : Type 0} → Result A Refusal → Outcome A
outcome_of (Ok a) = gives a
outcome_of (Err refusal) = refused refusal

abbrev pub and_then : {A B : Type 0} → Outcome A → (A → Result B Refusal) → Outcome B
and_then (gives a) f = outcome_of (f a)
and_then (refused refusal) f = refused refusal
and_then (faulty n wrong) f = faulty n wrong

abbrev pub of_statements : OrFault (List (ℕ × Statement)) → Outcome (List EntryLine)
of_statements (Ok list) = outcome_of (entries_after (codes "c") [] list)
of_statements (Err e) = faulty e.0 e.1

-- the entries of a text
abbrev pub entries_of : List ℕ → Outcome (List EntryLine)
entries_of text = of_statements (of_lines Class (lines_of_text text))

-- the expanded value of a name
abbrev pub value_in : List ℕ → List ℕ → Outcome (Option (List ℕ))
value_in text name = and_then (entries_of text) (λ list. value list name)

-- the same once names are moved
abbrev pub frozen_value_in : List ℕ → List ℕ → Outcome (Option (List ℕ))
frozen_value_in text name = and_then (entries_of text) (λ list. frozen list >>= λ moved. value moved name)

-- the names, once names are moved
abbrev pub frozen_names_in : List ℕ → Outcome (List (List ℕ))
frozen_names_in text = and_then (entries_of text) (λ list. frozen list >>= λ moved. Ok (names moved))

-- the texts of the removes that are kept beside a name's value
abbrev pub removes_of : Option Resolved → List (List ℕ)
removes_of None = []
removes_of (Some found) = found.removes

abbrev pub removes_in : List ℕ → List ℕ → Outcome (List (List ℕ))
removes_in text name = and_then (entries_of text) (λ list. (find_in list).at name >>= λ found. Ok (removes_of found))

-- the expanded value of a name where no more than so many names may be in expansion
abbrev pub value_within : ℕ → List ℕ → List ℕ → Outcome (Option (List ℕ))
value_within left text name = and_then (entries_of text) (λ list. within_names left (find_in list) [] name)

-- a text expanded to at most so many bytes, in the expansion of a name
abbrev pub expanded_to : ℕ → List ℕ → List ℕ → List ℕ → Outcome (List ℕ)
expanded_to room text name other = and_then (entries_of text) (λ list. expanded_parts (values_by (find_in list)) name (parts_of other) room)

-- n references, each in the name of the next
abbrev pub nested : ℕ → List ℕ
nested zero = codes "a"
nested (suc n) = codes "${" ++ (nested n ++ codes "}")

-- a text expanded behind the entries
abbrev pub expanded_in : List ℕ → List ℕ → Outcome (List ℕ)
expanded_in text other = and_then (entries_of text) (λ list. expand list other)

-- a flag of a name
abbrev pub flag_in : List ℕ → List ℕ → List ℕ → Outcome (Option (List ℕ))
flag_in text name f = and_then (entries_of text) (λ list. Ok (flag list name f))

-- a flag of a name, once names are moved
abbrev pub frozen_flag_in : List ℕ → List ℕ → List ℕ → Outcome (Option (List ℕ))
frozen_flag_in text name f = and_then (entries_of text) (λ list. frozen list >>= λ moved. Ok (flag moved name f))

-- the names, the active overrides and the tasks
abbrev pub names_in : List ℕ → Outcome (List (List ℕ))
names_in text = and_then (entries_of text) (λ list. Ok (names list))

abbrev pub active_in : List ℕ → Outcome (List (List ℕ))
active_in text = and_then (entries_of text) (λ list. active list)

abbrev pub tasks_in : List ℕ → Outcome (List (List ℕ × List (List ℕ)))
tasks_in text = and_then (entries_of text) (λ list. Ok (tasks list))

-- a text with `<` and `>` round the names of its references, and round what its forms ask for
abbrev pub shown : Parts → List ℕ
shown end = []
shown (plain c rest) = c ∷ shown rest
shown (reference name rest) = codes "<" ++ (shown name ++ (codes ">" ++ shown rest))
shown (form f rest) = codes "<" ++ (told_name f.name f.words ++ (codes ">" ++ shown rest))

abbrev pub read : List ℕ → List ℕ
read text = shown (parts_of text)
