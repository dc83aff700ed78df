-- The class that a file is.
use Rattle.std.proofs.Common.{◌≡◌, refl, sym, ◌∙◌, ap, ℕ, false, List, None, codes}
use Rattle.std.specs.Str.Pattern.{FindsTextSuffix}
use Rattle.std.proofs.lemmas.Str.Pattern.{ends_text}
use Rattle.load_model.specs.Paths.{file_name, without_ending, has_ending}
use Rattle.load_model.specs.Loading.{class_of}

whole_text : (ending text : List ℕ) → has_ending ending text ≡ false → without_ending ending text ≡ text
whole_text ending text e = rw e refl

pub class_none : (path name : List ℕ) → name ≡ file_name path → FindsTextSuffix (codes ".bbclass") name None → name ≡ class_of path
class_none path name e h = sym (whole_text (codes ".bbclass") name (sym (ends_text false (codes ".bbclass") name h))) ∙ ap (without_ending (codes ".bbclass")) e
