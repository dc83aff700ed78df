-- The only one of some numbers.
use Rattle.std.specs.Prelude.{ℕ, suc, Bool, List, [], ◌∷◌, Option, Some, None, nat_eq, if◌then◌else◌}
use Rattle.task_graph.specs.declared.only.Only.{Only}
use Rattle.task_graph.specs.declared.only.Only.TheVariants.{One, Several}

-- what is kept of a list of numbers: whether there is one, and which, or are several
abbrev pub only_of : List ℕ → Option Only
only_of [] = None
only_of (n ∷ []) = Some (One n)
only_of (n ∷ (m ∷ others)) = Some Several

-- one more number, which may be the same again
abbrev pub with_number : Option Only → ℕ → Option Only
with_number None n = Some (One n)
with_number (Some (One m)) n = if nat_eq m n then Some (One m) else Some Several
with_number (Some Several) n = Some Several

-- the number, where there is one alone
abbrev pub number_in : Option Only → Option ℕ
number_in (Some (One n)) = Some n
number_in _ = None

-- the number of the first element, counted from k, that passes a test
abbrev pub first_place : {A : Type 0} → (A → Bool) → ℕ → List A → Option ℕ
first_place test k [] = None
first_place test k (x ∷ xs) = if test x then Some k else first_place test (suc k) xs
