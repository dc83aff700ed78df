use Rattle.value_maps.proofs.Naming.{if_keys}
use Rattle.value_maps.proofs.names.own_keys.Goals as goal

pub returns : goal.returns
returns c = if_keys c.args.named.now c.names_of.result c.names_of.ensures.names c.names_of.ensures.ordered
