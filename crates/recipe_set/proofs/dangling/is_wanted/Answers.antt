use Rattle.std.proofs.Common.{◌≡◌, ◌∙◌, ap, sym, false, bytes_eq, ◌∷◌, []}
use Rattle.std.specs.List.{list_any}
use Rattle.recipe_set.specs.Stems.{recipe_stem, is_open}
use Rattle.load_model.specs.Paths.{has_ending}
use Rattle.recipe_set.proofs.Appending.{named_any}
use Rattle.recipe_set.proofs.dangling.is_wanted.Goals as goal

pub returns-else-has_ending : goal.returns-else-has_ending
returns-else-has_ending c =
    let append = c.args.append.now in
    let stem = c.append_stem-stem.result.now in
    let alone : is_open append ≡ false = ap (has_ending (37 ∷ [])) (sym c.append_stem-stem.ensures) ∙ sym c.if-has_ending.ensures in
    c.contains_key.ensures ∙ c.requires stem ∙ ap (λ s. list_any (λ path. bytes_eq s (recipe_stem path)) c.args.paths.now) c.append_stem-stem.ensures ∙ named_any append c.args.paths.now alone
