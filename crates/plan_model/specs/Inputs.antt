-- The input files of a task.
use Rattle.std.specs.Prelude.{ℕ, ◌+◌, nat_le, false, List, [], ◌∷◌, length, filter_map, Option, Some, None, Result, Ok, Err, codes, if◌then◌else◌}
use Rattle.tree_model.specs.declared.entry.Entry.{Entry}
use Rattle.tree_model.specs.declared.entry.Entry.TheVariants.{File}
use Rattle.tree_model.specs.Size.{entry_length}
use Rattle.tree_model.specs.Overlay.{overlaid}
use Rattle.meta_model.specs.CleanBuild.{Entries}
use Rattle.load_model.specs.LoadRefusal.{◌>>=◌}
use Rattle.load_model.specs.Paths.{path_named, file_name, has_ending, without_ending}
use Rattle.plan_model.specs.PlanRefusal.{PlanRefusal, missing_file, input_bytes, plan_bytes}

-- what stands at the paths of the project
abbrev pub Files : Type 0
Files = List ℕ → Option (List ℕ)

-- the most bytes of an input file, and of all input files of a plan (own rules)
abbrev pub most_of_input : ℕ
most_of_input = 16_777_216

abbrev pub most_of_inputs : ℕ
most_of_inputs = 268_435_456

-- A word of `[file-checksums]` names a file. `:True` at its end is dropped, and a word that ends with `:False` is passed over
-- (BitBake User Manual, "Variable Flags", file-checksums; that other words count as with `:True` is an own rule).
abbrev pub input_word : List ℕ → Option (List ℕ)
input_word word = if has_ending (codes ":False") word then None else Some (without_ending (codes ":True") word)

abbrev pub input_words : List (List ℕ) → List (List ℕ)
input_words words = filter_map input_word words

-- the bytes of a file that is there
abbrev pub input_there : List ℕ → List ℕ → List ℕ → Option (List ℕ) → Result (List ℕ × Entry) PlanRefusal
input_there file word path None = Err (missing_file file word)
input_there file word path (Some bytes) = if nat_le (length bytes) most_of_input then Ok (file_name path, File false bytes) else Err (input_bytes path)

abbrev pub input_at : Files → List ℕ → List ℕ → Option (List ℕ) → Result (List ℕ × Entry) PlanRefusal
input_at files file word None = Err (missing_file file word)
input_at files file word (Some path) = input_there file word path (files path)

-- The file that a word names, looked for from the project folder alone, under the last part of its path; it can't be run (own
-- rule).
abbrev pub input_of : Files → List ℕ → List ℕ → Result (List ℕ × Entry) PlanRefusal
input_of files file word = input_at files file word (path_named word)

-- the files of some words so far, and the bytes of all input files of the plan so far
pub record Inputs : Type 0 where
  pub tree : Entries
  pub bytes : ℕ

-- One file more; of two with one name the later counts, and the bytes of both.
abbrev pub with_input : Inputs → List ℕ × Entry → Inputs
with_input inputs input = record { tree = overlaid inputs.tree (input ∷ []); bytes = inputs.bytes + entry_length input.1 }

-- the inputs, unless they are beyond the limit
abbrev pub within_limit : Inputs → Result Inputs PlanRefusal
within_limit inputs = if nat_le inputs.bytes most_of_inputs then Ok inputs else Err plan_bytes

-- the file that a word names, behind others
abbrev pub one_more : Files → List ℕ → Inputs → List ℕ → Result Inputs PlanRefusal
one_more files file inputs word = input_of files file word >>= λ input. within_limit (with_input inputs input)

-- The files that words name, in their order, behind those so far (own rule; the manual's section is "Variable Flags").
abbrev pub inputs_of : Files → List ℕ → Inputs → List (List ℕ) → Result Inputs PlanRefusal
inputs_of files file inputs [] = Ok inputs
inputs_of files file inputs (word ∷ words) = one_more files file inputs word >>= λ more. inputs_of files file more words
