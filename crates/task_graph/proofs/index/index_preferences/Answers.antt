use Rattle.std.proofs.Common.{ap, bytes_eq}
use Rattle.std.specs.HashMap.{get_by_text}
use Rattle.task_graph.proofs.Indexed.{first_step}
use Rattle.task_graph.proofs.index.index_preferences.Goals as goal

pub loop-place-preserved : goal.loop-place-preserved
loop-place-preserved c = λ q. first_step (λ p. bytes_eq p.0 q) c.args.preferences.now c.loop-place.place c.index-preferences-place.result (bytes_eq c.as_str.result.now q) (get_by_text c.loop-place.map q) (get_by_text c.note_first.new.map q)
    c.loop-place-test.true c.index-preferences-place.is (ap (λ k. bytes_eq k q) c.as_str.ensures) (c.loop-place.invariant q) (c.in_ok-note_first.ensures q)
