-- A task that runs is one of the plan.
use Rattle.std.proofs.Common.{◌≡◌, ℕ, ◌<◌, zero, suc, arith, List, [], ◌∷◌, length}
use Rattle.tale_model.specs.declared.fate.Fate.{Fate}
use Rattle.tale_model.specs.declared.fate.Fate.TheVariants as fate
use Rattle.tale_model.specs.Fates.{fate_at}

pub running_within : (fates : List Fate) (t seat : ℕ) → fate_at fates t ≡ fate.Running seat → t < length fates
running_within [] t seat e = let n : fate.Waiting ≡ fate.Running seat = e in absurd (cc)
running_within (f ∷ fates) zero seat e = omega arith
running_within (f ∷ fates) (suc t) seat e = let h = running_within fates t seat e in omega (arith, h)
