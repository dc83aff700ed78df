use Rattle.std.proofs.Common.{◌≡◌, ◌++◌, take, All}
use Rattle.tree_model.specs.Path.{BeginsWith}
use Rattle.build_store.specs.OpenOnes.{extras}
use Rattle.build_store.proofs.opening.note_extra.Given as goal

abbrev pub invariant-loop-path : goal.invariant-loop-path
invariant-loop-path l = All (BeginsWith l.prefix) l.paths → l.extra ≡ l.fn.extra ++ extras l.prefix l.tree (take l.path-index l.paths)
