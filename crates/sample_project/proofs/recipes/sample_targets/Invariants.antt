use Rattle.std.specs.Prelude.{◌≡◌}
use Rattle.sample_project.specs.Sample.{sample_names}
use Rattle.sample_project.proofs.recipes.sample_targets.Given as goal

abbrev pub invariant-loop-number : goal.invariant-loop-number
invariant-loop-number l = l.made ≡ sample_names l.number
