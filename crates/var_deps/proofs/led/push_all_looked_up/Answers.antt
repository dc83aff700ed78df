use Rattle.std.proofs.Common.{◌∙◌, ap, sym}
use Rattle.meta_model.specs.References.{looked_up}
use Rattle.task_model.specs.Leads.{all_looked_up}
use Rattle.var_deps.specs.Seen.{seen_with}
use Rattle.meta_model.specs.Passing.{behind}
use Rattle.var_deps.proofs.Behind.{one_turn, texts_in_turn}
use Rattle.var_deps.proofs.led.push_all_looked_up.Goals as goal

pub loop-text-preserved : goal.loop-text-preserved
loop-text-preserved c =
    let find = seen_with c.args.seen.now.store.now c.args.seen.now.task in
    let texts = c.args.texts.now in
    one_turn (looked_up find) (all_looked_up find) (texts_in_turn find) (behind c.args.list.now.items (all_looked_up find texts)) c.loop-text.list.items c.push_looked_up.new.list.items texts c.loop-text.text-index c.text-item.result c.text-item.is c.loop-text-test.true c.loop-text.invariant
    (ap (λ t. behind c.loop-text.list.items (looked_up find t)) (sym c.as_str.ensures) ∙ c.in_ok-push_looked_up.ensures.ok)
