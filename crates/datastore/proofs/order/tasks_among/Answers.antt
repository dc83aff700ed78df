use Rattle.std.proofs.Common.{ℕ, List, ◌∙◌, ap, ◌++◌, ◌∷◌, [], take, filter, is_some, if◌then◌else◌}
use Rattle.std.specs.BTreeMap.{get_by_text}
use Rattle.value_maps.proofs.Naming.{filter_turn}
use Rattle.datastore.proofs.order.tasks_among.Goals as goal

pub loop-name-preserved : goal.loop-name-preserved
loop-name-preserved c =
    let test = λ (t : List ℕ). is_some (get_by_text c.args.all.now t) in
    let xs = c.as_slice-name-items.result.now in
    let i = c.loop-name.name-index in
    c.in_ok-push_if.ensures ∙ ap (λ m. m ++ (if c.contains_key.result then c.name-item.result ∷ [] else [])) c.loop-name.invariant
    ∙ ap (λ b. filter test (take i xs) ++ (if b then c.name-item.result ∷ [] else [])) (c.contains_key.ensures ∙ ap test c.as_str.ensures)
    ∙ filter_turn test xs i c.name-item.result c.name-item.is c.loop-name-test.true
