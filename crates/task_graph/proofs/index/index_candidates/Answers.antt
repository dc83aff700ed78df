use Rattle.std.proofs.Common.{◌∙◌, refl, ◌||◌, bytes_eq}
use Rattle.std.specs.HashMap.{get_by_text}
use Rattle.meta_model.specs.Text.{is_in}
use Rattle.meta_model.specs.Providers.{is_candidate}
use Rattle.task_graph.proofs.Kept.{again}
use Rattle.task_graph.proofs.Indexed.{index_step}
use Rattle.task_graph.proofs.index.index_candidates.Goals as goal

pub loop-number-preserved : goal.loop-number-preserved
loop-number-preserved c = λ q.
    let both = again (bytes_eq c.as_str.result.now q) (is_in q c.as_slice.result.now) (get_by_text c.loop-number.map q) c.loop-number.number in
    index_step (is_candidate q) c.args.recipes.now c.loop-number.number c.index-recipes-number.result (bytes_eq c.as_str.result.now q || is_in q c.as_slice.result.now) (get_by_text c.loop-number.map q) (get_by_text c.note_all.new.map q)
    c.loop-number-test.true c.index-recipes-number.is (rw (c.as_str.ensures, c.as_slice.ensures) refl) (c.loop-number.invariant q) (c.in_ok-note_all.ensures q ∙ rw (c.in_ok-note.ensures q) both)
