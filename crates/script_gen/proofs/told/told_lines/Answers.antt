use Rattle.std.proofs.Common.{filter, map, take}
use Rattle.task_model.specs.Scripts.{is_told}
use Rattle.script_gen.proofs.Orders.{stays_ordered}
use Rattle.script_gen.proofs.told.told_lines.Goals as goal

pub take_up-requires : goal.take_up-requires
take_up-requires g c = stays_ordered c.loop-line.told.items (filter (is_told c.args.flag.now (g.L.Lookup.finds c.args.from.now)) (map (λ line. line.name) (take c.loop-line.line-index c.args.lines.now))) c.loop-line.invariant
