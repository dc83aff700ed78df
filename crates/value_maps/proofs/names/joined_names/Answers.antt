use Rattle.std.proofs.Common.{refl, ◌∙◌, ap, ◌||◌, is_some}
use Rattle.std.specs.BTreeMap.{get_by_text}
use Rattle.meta_model.specs.Text.{is_in}
use Rattle.value_maps.proofs.Naming.{if_same_keys, if_keys}
use Rattle.value_maps.proofs.Flagging.{or_none}
use Rattle.value_maps.proofs.names.joined_names.Goals as goal

pub returns : goal.returns
returns c =
    let first = c.args.first.now in
    let second = c.args.second.now in
    let set = c.put_all-2.new.set in
    if_same_keys c.names_of.result (λ name. is_some (get_by_text set name)) (λ name. is_in name second || is_in name first)
    (λ t. c.in_ok-put_all-2.ensures t ∙ ap (λ b. is_in t second || b) (c.in_ok-put_all.ensures t ∙ ap (λ b. is_in t first || b) (rw c.new-set.ensures.empty refl) ∙ or_none (is_in t first)))
    (if_keys set c.names_of.result c.names_of.ensures.names c.names_of.ensures.ordered)
