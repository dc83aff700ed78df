use Rattle.std.proofs.Common.{◌≡◌, take, map}
use Rattle.task_model.specs.Scripts.{told_names}
use Rattle.script_gen.proofs.told.told_lines.Given as goal

abbrev pub invariant-loop-line : goal.invariant-loop-line
invariant-loop-line g l = l.told.items ≡ told_names l.flag (g.L.Lookup.finds l.from) (map (λ line. line.name) (take l.line-index l.lines))
