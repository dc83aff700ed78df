use Rattle.std.proofs.Common.{Some}
use Rattle.value_maps.specs.Named.{subject}
use Rattle.value_maps.proofs.Steps.{step_alike}
use Rattle.value_maps.proofs.named.Named.with_line.Goals as goal

pub returns : goal.returns
returns c = step_alike (Some c.args.self.now) (Some c.in_ok-made.made) (Some c.change.new.self) (subject c.args.line.now) c.args.line.now c.in_ok-made.ensures c.in_ok-change.ensures.ok
