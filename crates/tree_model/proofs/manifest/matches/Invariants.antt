use Rattle.std.proofs.Common.{◌≡◌, take, map}
use Rattle.tree_model.specs.Manifest.{line_of}
use Rattle.tree_model.proofs.manifest.matches.Given as goal

abbrev pub invariant-loop-place : goal.invariant-loop-place
invariant-loop-place l = take l.place l.lines ≡ map line_of (take l.place l.entries)
