-- What a fault says of what was meant.
use Rattle.std.specs.Prelude.{◌≡◌, Option, Result, Err, IfSome, ⊤}
use Rattle.meta_model.specs.Refusal.{Refusal, unstable}
use Rattle.override_eval.specs.declared.settling.OverrideFault.{OverrideFault}
use Rattle.override_eval.specs.declared.settling.OverrideFault.TheVariants.{Unstable, Under, Memory}

-- The fault is the refusal that was meant. Of want of memory nothing is claimed.
abbrev pub IsFaultOf : {F A : Type 0} → (F → Option Refusal) → OverrideFault F → Result A Refusal → Type 0
IsFaultOf told (Unstable before last) meant = meant ≡ Err (unstable before last)
IsFaultOf told (Under fault) meant = IfSome (told fault) (λ refusal. meant ≡ Err refusal)
IsFaultOf told Memory meant = ⊤
