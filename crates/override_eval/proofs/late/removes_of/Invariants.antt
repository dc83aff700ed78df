use Rattle.std.proofs.Common.{◌≡◌, take}
use Rattle.meta_model.specs.declared.entry.Late.TheVariants.{Remove}
use Rattle.meta_model.specs.Overrides.{texts_of}
use Rattle.override_eval.proofs.late.removes_of.Given as goal

-- the removes of the lines that were gone through are there
abbrev pub invariant-loop-line : goal.invariant-loop-line
invariant-loop-line l = l.removes ≡ texts_of Remove l.active (take l.line-index l.ops)
