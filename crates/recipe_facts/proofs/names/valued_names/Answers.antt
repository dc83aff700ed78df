use Rattle.std.proofs.Common.{◌≡◌, ◌∙◌, ap, flat_map}
use Rattle.meta_model.specs.Text.{is_in}
use Rattle.load_model.specs.Facts.{fronts_of, valued_names}
use Rattle.meta_model.specs.Base.{names}
use Rattle.meta_model.proofs.Passing.{if_ok_both}
use Rattle.recipe_facts.proofs.Fronted.{set_is}
use Rattle.recipe_facts.proofs.names.valued_names.Goals as goal

pub returns : goal.returns
returns c =
    if_ok_both c.names_of.result _ (λ made. made ≡ valued_names c.args.store.now) _
    (λ made e ordered. set_is c.in_ok-set.set made (flat_map fronts_of (names c.args.store.now)) e ordered
    (λ t. c.in_ok-set.ensures t ∙ ap (λ l. is_in t (flat_map fronts_of l)) (c.as_slice.ensures ∙ c.in_ok-names.ensures)))
    c.names_of.ensures.names c.names_of.ensures.ordered
