use Rattle.std.proofs.Common.{◌∙◌, ap, ◌||◌}
use Rattle.std.specs.BTreeMap.{get_by_text}
use Rattle.meta_model.specs.Text.{is_in}
use Rattle.value_maps.specs.Flagged.{is_flagged}
use Rattle.value_maps.specs.Maps.{base_of, under_named}
use Rattle.value_maps.proofs.Naming.{if_same_keys}
use Rattle.value_maps.proofs.maps.Maps.flagged_among.Goals as goal

pub returns : goal.returns
returns c =
    let f = c.args.flag.now in
    let own = get_by_text c.args.self.now.named in
    let under = under_named (base_of c.args.self.now) in
    let first = c.as_slice.result.now in
    let second = c.as_slice-2.result.now in
    if_same_keys c.joined_names.result (λ t. is_in t second || is_in t first) (λ t. is_flagged f (under t) || is_flagged f (own t))
    (λ t. ap (λ l. is_in t l || is_in t first) c.as_slice-2.ensures ∙ ap (λ b. b || is_in t first) (c.in_ok-shared.ensures t)
    ∙ ap (λ l. is_flagged f (under t) || is_in t l) c.as_slice.ensures ∙ ap (λ b. is_flagged f (under t) || b) (c.in_ok-own.ensures t))
    c.joined_names.ensures
