-- What is read where there are targets.
use Rattle.std.proofs.Common.{◌≡◌, refl, arith, ◌<◌, ℕ, List, [], ◌∷◌, length}
use Rattle.load_model.specs.Loading.{Sources}
use Rattle.load_model.specs.Layers.{Config}
use Rattle.answer_model.specs.Modes.{environment_of, targets_over}

-- with targets all recipes are read
pub with_targets : (sources : Sources) (made : Config) (targets : List (List ℕ)) → 0 < length targets → environment_of sources made targets ≡ targets_over sources made targets
with_targets sources made [] lt = absurd (omega (arith, lt))
with_targets sources made (target ∷ targets) lt = refl
