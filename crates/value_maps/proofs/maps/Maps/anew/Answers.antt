use Rattle.std.proofs.Common.{◌∙◌, ap, ◌||◌}
use Rattle.meta_model.specs.Text.{is_in}
use Rattle.value_maps.specs.Maps.{base_of, under_special, is_anew}
use Rattle.value_maps.proofs.Naming.{if_same_keys}
use Rattle.value_maps.proofs.Hiding.{or_turned}
use Rattle.value_maps.proofs.maps.Maps.anew.Goals as goal

pub returns : goal.returns
returns c =
    let maps = c.args.self.now in
    let first = c.as_slice.result.now in
    let second = c.special.result.now in
    if_same_keys c.joined_names.result (λ t. is_in t second || is_in t first) (is_anew maps)
    (λ t. ap (λ l. is_in t l || is_in t first) c.special.ensures ∙ or_turned (is_in t (under_special (base_of maps))) (is_in t first)
    ∙ ap (λ l. is_in t l || is_in t (under_special (base_of maps))) c.as_slice.ensures ∙ ap (λ b. b || is_in t (under_special (base_of maps))) (c.in_ok-own.ensures t))
    c.joined_names.ensures
