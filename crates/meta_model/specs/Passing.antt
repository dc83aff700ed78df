-- Answers and refusals of any kind, one after another.
use Rattle.std.specs.Prelude.{◌≡◌, Bool, true, false, List, ◌++◌, Option, Result, Ok, Err, MatchOption, ⊤}

-- what follows, where this is no refusal
infixl 20 ◌>>=◌
abbrev pub ◌>>=◌ : {A B E : Type 0} → Result A E → (A → Result B E) → Result B E
Ok a >>= f = f a
Err refusal >>= f = Err refusal

-- a refusal, unless the test passes
abbrev pub require : {E : Type 0} → Bool → E → Result ⊤ E
require true refusal = Ok tt
require false refusal = Err refusal

-- a list that goes on behind what is there, where it is no refusal
abbrev pub behind : {A E : Type 0} → List A → Result (List A) E → Result (List A) E
behind before more = more >>= λ rest. Ok (before ++ rest)

-- What was meant is this refusal. Where there is none, as for want of memory, nothing is claimed.
abbrev pub IsRefused : {A E : Type 0} → Option E → Result A E → Type 0
IsRefused refusal meant = MatchOption refusal ⊤ (λ r. meant ≡ Err r)
