-- Paths as metadata writes them, and the files and folders of the project that they name.
use Rattle.std.specs.Prelude.{ℕ, ◌-◌, Bool, List, [], ◌∷◌, ◌++◌, length, take, fold, reverse, filter_map, Option, Some, None, ◌==◌, nat_eq, codes, bytes_eq, if◌then◌else◌}
use Rattle.std.specs.List.{ends_with, join_with_byte, before_last, after_last, list_any}
use Rattle.std.specs.Option.{option_map}
use Rattle.tree_model.specs.Path.{parts_of}
use Rattle.meta_model.specs.Text.{is_empty, begins_with}

abbrev pub slash : ℕ
slash = 47

abbrev pub is_slash : ℕ → Bool
is_slash c = c == slash

-- the folder above, where there is one; parts are kept from the last to the first
abbrev pub above : List (List ℕ) → Option (List (List ℕ))
above [] = None
above (part ∷ parts) = Some parts

-- One part further. `.` stays, `..` takes the part before, and an empty part leads nowhere.
abbrev pub further : Option (List (List ℕ)) → List ℕ → Option (List (List ℕ))
further None part = None
further (Some parts) part =
    if is_empty part then None
    else (if bytes_eq part (codes ".") then Some parts
    else (if bytes_eq part (codes "..") then above parts
    else Some (part ∷ parts)))

-- The path that a text names, below the project folder and without `.` and `..`; the empty path is the project folder. A text
-- that is empty, begins with `/`, has an empty part, or leaves the project folder names nothing (own rule).
abbrev pub path_named : List ℕ → Option (List ℕ)
path_named text = option_map (λ parts. join_with_byte slash (reverse parts)) (fold further (Some []) (parts_of text))

abbrev pub is_absolute : List ℕ → Bool
is_absolute text = begins_with (slash ∷ []) text

-- what a text names in each of some folders
abbrev pub paths_in : List (List ℕ) → List ℕ → List (List ℕ)
paths_in folders text = filter_map (λ folder. path_named (folder ++ slash ∷ text)) folders

-- The folder of a file. That of a file in the project folder itself is `.` (own rule).
abbrev pub folder_of : List ℕ → List ℕ
folder_of path = if list_any is_slash path then before_last is_slash path else codes "."

-- the last part of a path
abbrev pub file_name : List ℕ → List ℕ
file_name path = after_last is_slash path

abbrev pub has_ending : List ℕ → List ℕ → Bool
has_ending ending text = ends_with nat_eq text ending

-- a text without the ending, where it has it
abbrev pub without_ending : List ℕ → List ℕ → List ℕ
without_ending ending text = if has_ending ending text then take (length text - length ending) text else text
