-- Walks along a relation: what leads where, how deep something stands, and cycles.
use Rattle.std.specs.Prelude.{◌≡◌, ℕ, zero, suc, ◌≤◌, List, [], ◌∷◌}

-- a walk of so many steps
abbrev pub Walk : {T : Type 0} → (T → T → Type 0) → ℕ → T → T → Type 0
Walk R zero a b = a ≡ b
Walk {T} R (suc n) a b = (c : T) × R a c × Walk R n c b

-- b is a itself or is met on some walk from it
abbrev pub LeadsTo : {T : Type 0} → (T → T → Type 0) → T → T → Type 0
LeadsTo R a b = (n : ℕ) × Walk R n a b

-- The depth of a is the number of steps of the longest walk from it: there is one of so many steps, and none of more.
pub record IsDepth {T : Type 0} (R : T → T → Type 0) (a : T) (depth : ℕ) : Type 0 where
  pub walk : (b : T) × Walk R depth a b
  pub longest : (n : ℕ) (b : T) → Walk R n a b → n ≤ depth

-- each element leads to the next in one step, and the last one to this one
abbrev pub ClosesAt : {T : Type 0} → (T → T → Type 0) → T → List T → Type 0
ClosesAt R first [] = ⊥
ClosesAt R first (a ∷ []) = R a first
ClosesAt R first (a ∷ (b ∷ rest)) = R a b × ClosesAt R first (b ∷ rest)

-- A cycle, from one of its elements on: each leads to the next in one step, and the last one to the first.
abbrev pub IsCycle : {T : Type 0} → (T → T → Type 0) → List T → Type 0
IsCycle R [] = ⊥
IsCycle R (a ∷ rest) = ClosesAt R a (a ∷ rest)
