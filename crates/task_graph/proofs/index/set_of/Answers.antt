use Rattle.std.proofs.lemmas.List.{take_all}
use Rattle.std.proofs.Common.{string_bytes}
use Rattle.std.specs.HashSet.{contains_text}
use Rattle.std.proofs.lemmas.Map.Text.{hash_set_updates_text}
use Rattle.task_graph.proofs.Preferring.{set_more}
use Rattle.task_graph.proofs.index.set_of.Goals as goal

pub loop-name-preserved : goal.loop-name-preserved
loop-name-preserved c = λ q.
    let put = hash_set_updates_text (string_bytes c.in_ok-from_str.field-0) c.loop-name.set c.insert.new.self _ c.in_ok-insert.ensures.updates q in
    set_more c.args.names.now c.loop-name.name-index c.name-item.result c.as_str.result.now q (contains_text c.loop-name.set q) (contains_text c.insert.new.self q) c.loop-name-test.true c.name-item.is c.as_str.ensures (c.loop-name.invariant q)
    (rw c.in_ok-from_str.ensures.ok at put)

pub returns : goal.returns
returns c = rw (take_all _ _ c.loop-name-test.false) at c.loop-name.invariant
