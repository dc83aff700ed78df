use Rattle.std.proofs.lemmas.List.{take_all}
use Rattle.std.specs.HashMap.{get_by_text}
use Rattle.task_graph.proofs.Kept.{noted_more}
use Rattle.task_graph.proofs.only.note_all.Goals as goal

pub loop-name-preserved : goal.loop-name-preserved
loop-name-preserved c = λ q. noted_more c.args.names.now c.loop-name.name-index c.name-item.result c.as_str.result.now q (get_by_text c.args.map.now q) (get_by_text c.loop-name.map q) (get_by_text c.note.new.map q) c.args.number
    c.loop-name-test.true c.name-item.is c.as_str.ensures (c.loop-name.invariant q) (c.in_ok-note.ensures q)

pub returns : goal.returns
returns c = rw (take_all _ _ c.loop-name-test.false) at c.loop-name.invariant
