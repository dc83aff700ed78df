-- The script of a task: the text that the shell is given.
use Rattle.std.specs.Prelude.{ℕ, List, [], ◌∷◌, ◌++◌, codes}

-- A function of the script: its name, the command `:`, so that an empty body is a function too, and its body.
abbrev pub function_text : List ℕ → List ℕ → List ℕ
function_text name body = name ++ (codes "() {\n:\n" ++ (body ++ codes "}\n"))

-- each function, in order
abbrev pub function_texts : List (List ℕ × List ℕ) → List ℕ
function_texts [] = []
function_texts (f ∷ functions) = function_text f.0 f.1 ++ function_texts functions
