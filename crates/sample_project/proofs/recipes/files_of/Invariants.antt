use Rattle.std.specs.Prelude.{◌≡◌}
use Rattle.sample_project.specs.Sample.{sample_files}
use Rattle.sample_project.proofs.recipes.files_of.Given as goal

abbrev pub invariant-loop-number : goal.invariant-loop-number
invariant-loop-number l = l.made.items ≡ sample_files l.number
