use Rattle.std.specs.BTreeMap.{get_by_text}
use Rattle.value_maps.proofs.Emptied.{empty_turn}
use Rattle.value_maps.proofs.maps.without.Goals as goal

pub loop-name-preserved : goal.loop-name-preserved
loop-name-preserved c =
    let u = rw c.as_str.ensures at c.in_ok-put_value.ensures.ok in
    empty_turn (get_by_text c.args.named) (get_by_text c.loop-name.made) (get_by_text c.put_value.new.map) c.args.names.now c.loop-name.name-index c.name-item.result c.new.result c.loop-name.invariant
    (record { value = c.new.ensures.value; late = c.new.ensures.late; flags = c.new.ensures.flags }) u c.name-item.is c.loop-name-test.true
