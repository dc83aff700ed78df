use Rattle.std.proofs.Common.{◌≡◌, ◌++◌, take}
use Rattle.std.specs.List.{concat}
use Rattle.meta_model.specs.declared.entry.Late.TheVariants.{Append}
use Rattle.meta_model.specs.Overrides.{texts_of}
use Rattle.override_eval.proofs.late.push_appends.Given as goal

-- the appends of the lines that were gone through are put
abbrev pub invariant-loop-line : goal.invariant-loop-line
invariant-loop-line l = l.text ≡ l.initial.text ++ concat (texts_of Append l.active (take l.line-index l.ops))
