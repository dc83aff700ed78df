use Rattle.value_maps.proofs.Hiding.{hidden_is}
use Rattle.value_maps.proofs.maps.Maps.hide.Goals as goal

pub returns : goal.returns
returns c = hidden_is c.args.self c.in_ok-named.named c.args.names.now c.in_ok-named.ensures
