use Rattle.std.specs.BTreeMap.{get_by_text}
use Rattle.value_maps.proofs.Sets.{some_drop}
use Rattle.datastore.proofs.tasks.drop_name.Goals as goal

pub returns : goal.returns
returns c = some_drop (get_by_text c.args.set.now) (get_by_text c.drop_value.new.map) c.args.name.now c.drop_value.ensures
