use Rattle.std.proofs.Common.{◌≡◌, take, map}
use Rattle.tree_model.specs.Manifest.{line_of}
use Rattle.tree_model.proofs.manifest.manifest_of.Given as goal

abbrev pub invariant-loop-path : goal.invariant-loop-path
invariant-loop-path l = l.lines.items ≡ map line_of (take l.path-index l.path-items)
