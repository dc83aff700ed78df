use Rattle.std.proofs.Common.{filter, take}
use Rattle.task_model.specs.Scripts.{is_told}
use Rattle.script_gen.proofs.Orders.{stays_ordered}
use Rattle.script_gen.proofs.told.told_names.Goals as goal

pub take_up-requires : goal.take_up-requires
take_up-requires g c = stays_ordered c.loop-name.told.items (filter (is_told c.args.flag.now (g.L.Lookup.finds c.args.from.now)) (take c.loop-name.name-index c.args.names.now)) c.loop-name.invariant
