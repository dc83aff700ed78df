use Rattle.std.proofs.Common.{Some, None, refl}
use Rattle.value_maps.specs.Named.{subject}
use Rattle.value_maps.proofs.Steps.{step_first}
use Rattle.value_maps.proofs.named.Named.first.Goals as goal

pub returns : goal.returns
returns c = step_first None c.new-made.result (Some c.change.new.self) (subject c.args.line.now) c.args.line.now refl c.new-made.ensures.value c.new-made.ensures.late c.new-made.ensures.flags c.in_ok-change.ensures.ok
