use Rattle.std.proofs.Common.{◌≡◌, ◌≤◌, ◌++◌, length, reverse, drop}
use Rattle.std.specs.List.{concat}
use Rattle.meta_model.specs.declared.entry.Late.TheVariants.{Prepend}
use Rattle.meta_model.specs.Overrides.{texts_of}
use Rattle.override_eval.proofs.late.push_prepends.Given as goal

-- the prepends of the lines that were gone through are put
abbrev pub invariant-loop-left : goal.invariant-loop-left
invariant-loop-left l = record {
  within : l.left ≤ length l.ops;
  put : l.text ≡ l.initial.text ++ concat (reverse (texts_of Prepend l.active (drop l.left l.ops)));
}

abbrev pub decreases-loop-left : goal.decreases-loop-left
decreases-loop-left l = l.left
