use Rattle.std.proofs.Common.{ap, bytes_eq}
use Rattle.std.specs.HashMap.{get_by_text}
use Rattle.meta_model.specs.Providers.{is_named}
use Rattle.task_graph.proofs.Indexed.{index_step}
use Rattle.task_graph.proofs.index.index_named.Goals as goal

pub loop-number-preserved : goal.loop-number-preserved
loop-number-preserved c = λ q. index_step (is_named q) c.args.recipes.now c.loop-number.number c.index-recipes-number.result (bytes_eq c.as_str.result.now q) (get_by_text c.loop-number.map q) (get_by_text c.note.new.map q)
    c.loop-number-test.true c.index-recipes-number.is (ap (λ k. bytes_eq k q) c.as_str.ensures) (c.loop-number.invariant q) (c.in_ok-note.ensures q)
