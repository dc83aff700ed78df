use Rattle.value_maps.proofs.Flagging.{if_flagged}
use Rattle.value_maps.proofs.flagged.flagged_in.Goals as goal

pub returns : goal.returns
returns c = if_flagged c.args.flag.now c.args.named.now c.picked_names.result c.picked_names.ensures.names c.picked_names.ensures.ordered
