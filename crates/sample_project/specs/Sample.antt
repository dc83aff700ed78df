-- The project that `--sample` generates. (Own rules.)
use Rattle.std.specs.Prelude.{ℕ, zero, suc, ◌/◌, List, [], ◌∷◌, ◌++◌, codes}
use Rattle.std.specs.Fmt.{decimal}

-- the name of the recipe with a number
abbrev pub recipe_name : ℕ → List ℕ
recipe_name k = codes "s" ++ decimal k

-- each recipe but the first needs the one with half its number
abbrev pub needs_line : ℕ → List ℕ
needs_line zero = []
needs_line (suc k) = codes "DEPENDS = \"" ++ (recipe_name (suc k / 2) ++ codes "\"\n")

-- what its second task does, and how its tasks follow one another
abbrev pub rest_text : List ℕ
rest_text = codes " > a.txt\n}\ndo_build() {\n    cat a.txt > b.txt\n}\naddtask prep\naddtask build after prep\ndo_build[deptask] = \"do_build\"\n"

-- its tasks: the first writes its number, the second copies that, and needs the second one of what the recipe needs
abbrev pub tasks_text : ℕ → List ℕ
tasks_text k = codes "do_prep() {\n    echo " ++ (decimal k ++ rest_text)

abbrev pub recipe_text : ℕ → List ℕ
recipe_text k = needs_line k ++ tasks_text k

abbrev pub recipe_path : ℕ → List ℕ
recipe_path k = codes "recipes/" ++ (recipe_name k ++ codes "_1.0.bb")

-- the file of a recipe
abbrev pub recipe_file : ℕ → List ℕ × List ℕ
recipe_file k = (recipe_path k, recipe_text k)

-- the files of so many recipes
abbrev pub sample_files : ℕ → List (List ℕ × List ℕ)
sample_files zero = []
sample_files (suc k) = sample_files k ++ recipe_file k ∷ []

-- the names of so many recipes, in order
abbrev pub sample_names : ℕ → List (List ℕ)
sample_names zero = []
sample_names (suc k) = sample_names k ++ recipe_name k ∷ []
