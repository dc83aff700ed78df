use Rattle.std.proofs.Common.{◌∙◌, ap, ◌||◌, is_some}
use Rattle.std.specs.BTreeMap.{get_by_text}
use Rattle.meta_model.specs.Text.{is_in}
use Rattle.load_model.specs.Facts.{fronts_of}
use Rattle.recipe_facts.proofs.Fronted.{all_go_on}
use Rattle.recipe_facts.proofs.names.fronts_of_all.Goals as goal

pub loop-name-preserved : goal.loop-name-preserved
loop-name-preserved c = λ t.
    all_go_on c.args.names.now c.loop-name.name-index c.name-item.result t (is_some (get_by_text c.loop-name.set t)) (is_some (get_by_text c.put_fronts.new.set t)) c.name-item.is c.loop-name-test.true (c.loop-name.invariant t)
    (c.in_ok-put_fronts.ensures t ∙ ap (λ n. is_in t (fronts_of n) || is_some (get_by_text c.loop-name.set t)) c.as_str.ensures)
