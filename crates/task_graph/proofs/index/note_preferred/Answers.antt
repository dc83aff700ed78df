use Rattle.std.proofs.lemmas.List.{take_all}
use Rattle.std.proofs.Common.{bytes_eq}
use Rattle.std.specs.HashMap.{get_by_text}
use Rattle.task_graph.specs.Index.{wants}
use Rattle.task_graph.proofs.Preferring.{wanted_more}
use Rattle.task_graph.proofs.index.note_preferred.Goals as goal

pub loop-name-preserved : goal.loop-name-preserved
loop-name-preserved c = λ q.
    let recipe = c.args.recipe.now in
    let put = rw c.as_str-pn.ensures at (c.in_ok-note_wanted-2.ensures q) in
    wanted_more c.as_slice-name-items.result.now c.loop-name.name-index c.name-item.result c.as_str.result.now q (bytes_eq recipe.pn q) (wants c.args.facts.now q recipe.pn) (get_by_text c.args.map.now q) (get_by_text c.loop-name.map q) (get_by_text c.note_wanted-in-loop-name.new.map q) c.args.number
    c.loop-name-test.true c.name-item.is c.as_str.ensures (c.loop-name.invariant q) put

pub returns : goal.returns
returns c = rw (take_all _ _ c.loop-name-test.false, c.as_slice-name-items.ensures) at c.loop-name.invariant
