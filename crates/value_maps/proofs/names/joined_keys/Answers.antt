use Rattle.std.proofs.Common.{refl, ◌∙◌, ap, ◌||◌, is_some, false}
use Rattle.std.specs.BTreeMap.{get_by_text}
use Rattle.std.specs.Option.{option_or}
use Rattle.meta_model.specs.Text.{is_in}
use Rattle.value_maps.proofs.Naming.{if_same_keys, if_keys, either_some}
use Rattle.value_maps.proofs.names.joined_keys.Goals as goal

pub returns : goal.returns
returns c =
    let own = c.args.own.now in
    let shared = c.args.shared.now in
    let set = c.put_all-2.new.set in
    if_same_keys c.names_of.result (λ name. is_some (get_by_text set name)) (λ name. is_some (option_or (get_by_text own name) (get_by_text shared name)))
    (λ t. c.in_ok-put_all-2.ensures t ∙ ap (λ b. is_in t c.as_slice-2.result.now || b) (c.in_ok-put_all.ensures t ∙ ap (λ b. is_in t c.as_slice.result.now || b) (rw c.new-set.ensures.empty refl) ∙ ap (λ l. is_in t l || false) c.as_slice.ensures ∙ ap (λ b. b || false) (c.in_ok-first.ensures.are t))
    ∙ ap (λ l. is_in t l || (is_some (get_by_text own t) || false)) c.as_slice-2.ensures ∙ ap (λ b. b || (is_some (get_by_text own t) || false)) (c.in_ok-second.ensures.are t)
    ∙ either_some (get_by_text own t) (get_by_text shared t))
    (if_keys set c.names_of.result c.names_of.ensures.names c.names_of.ensures.ordered)
