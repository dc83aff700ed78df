-- What scripts give on benches that are alike.
use Rattle.std.proofs.Common.{◌≡◌, ◌<◌, sym, List, [], ◌∷◌, length, All, arith, subst}
use Rattle.std.proofs.lemmas.List.Elements.{All-head}
use Rattle.meta_model.specs.CleanBuild.{Gives}
use Rattle.run_workers.specs.Nothing.{nothing_given}

-- what they give on the first of them
abbrev pub gives_first : {B : Type 0} → (B → Gives) → List B → Gives
gives_first gives_of [] = nothing_given
gives_first gives_of (b ∷ benches) = gives_of b

-- benches on which scripts give the same
abbrev pub AreAlike : {B : Type 0} → (B → Gives) → Gives → List B → Type 0
AreAlike gives_of gives benches = All (λ b. gives_of b ≡ gives) benches

pub alike_first : {B : Type 0} (gives_of : B → Gives) (gives : Gives) (benches : List B) → 0 < length benches → AreAlike gives_of gives benches → gives ≡ gives_first gives_of benches
alike_first gives_of gives [] some all = absurd (omega (arith, some))
alike_first gives_of gives (b ∷ benches) some all = sym (All-head (λ b. gives_of b ≡ gives) b benches all)

pub alike_all : {B : Type 0} (gives_of : B → Gives) (gives : Gives) (benches : List B) → 0 < length benches → AreAlike gives_of gives benches → AreAlike gives_of (gives_first gives_of benches) benches
alike_all gives_of gives benches some all = subst (λ (x : Gives). AreAlike gives_of x benches) (alike_first gives_of gives benches some all) all
