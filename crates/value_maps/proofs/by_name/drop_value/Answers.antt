use Rattle.std.proofs.Common.{None}
use Rattle.std.proofs.lemmas.Map.Text.{btree_map_updates_text}
use Rattle.value_maps.proofs.by_name.drop_value.Goals as goal

pub returns : goal.returns
returns g c = btree_map_updates_text c.args.name.now c.args.map.now c.remove.new.self None c.remove.ensures.updates
