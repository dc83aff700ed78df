use Rattle.std.proofs.Common.{◌≡◌, true, take, ℕ, List}
use Rattle.layer_conf.specs.Globs.{begun_by, matches_any}
use Rattle.layer_conf.proofs.heads.heads_of.Given as goal

abbrev pub invariant-loop-glob : goal.invariant-loop-glob
invariant-loop-glob l = (path : List ℕ) → matches_any (take l.glob-index l.globs) path ≡ true → begun_by l.made.items path ≡ true
