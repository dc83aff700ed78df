-- What recipes and appends are called.
use Rattle.std.specs.Prelude.{ℕ, Bool, not, ◌&&◌, List, [], unwrap_or, codes, bytes_eq, String}
use Rattle.std.specs.Global.{Global}
use Rattle.std.specs.BTreeMap.{BTreeMap, get_by_text}
use Rattle.load_model.specs.Paths.{file_name, has_ending, without_ending}

abbrev pub recipe_stem : List ℕ → List ℕ
recipe_stem recipe = without_ending (codes ".bb") (file_name recipe)

abbrev pub append_stem : List ℕ → List ℕ
append_stem append = without_ending (codes ".bbappend") (file_name append)

-- the append may belong to several recipes
abbrev pub is_open : List ℕ → Bool
is_open append = has_ending (codes "%") (append_stem append)

-- the append is for that name alone
abbrev pub is_named : List ℕ → List ℕ → Bool
is_named stem append = not (is_open append) && bytes_eq (append_stem append) stem

-- what a map keeps for a name
abbrev pub named_at : BTreeMap (String Global) (List (List ℕ)) → List ℕ → List (List ℕ)
named_at map stem = unwrap_or (get_by_text map stem) []
