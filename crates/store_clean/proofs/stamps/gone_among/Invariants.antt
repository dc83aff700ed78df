use Rattle.std.proofs.Common.{take}
use Rattle.store_clean.specs.Steps.{AreGoneStamps, node_names}
use Rattle.store_clean.proofs.stamps.gone_among.Given as goal

abbrev pub invariant-loop-file : goal.invariant-loop-file
invariant-loop-file l = AreGoneStamps (node_names l.nodes) l.chosen.marks.items (take l.file-index l.files) l.paths.items
