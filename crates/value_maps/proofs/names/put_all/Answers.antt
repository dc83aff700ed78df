use Rattle.std.proofs.Common.{◌∙◌, ap, ◌||◌, is_some, bytes_eq}
use Rattle.std.specs.BTreeMap.{get_by_text}
use Rattle.value_maps.proofs.Sets.{set_turn}
use Rattle.value_maps.proofs.names.put_all.Goals as goal

pub loop-name-preserved : goal.loop-name-preserved
loop-name-preserved c = λ t.
    let x = c.name-item.result in
    set_turn c.args.names.now c.loop-name.name-index x t (is_some (get_by_text c.args.set.now t)) c.name-item.is c.loop-name-test.true
    (c.in_ok-put_name.ensures t ∙ ap (λ n. bytes_eq n t || is_some (get_by_text c.loop-name.set t)) c.as_str.ensures ∙ ap (λ b. bytes_eq x t || b) (c.loop-name.invariant t))
