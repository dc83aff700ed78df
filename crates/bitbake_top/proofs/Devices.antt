-- Counts of faults.
use Rattle.std.proofs.Common.{◌≡◌, ap, ℕ, ◌<◌, ◌≤◌, List, arith, get_or}
use Rattle.outside_traits.specs.Fault.{Rose}
use Rattle.run_model.specs.Benches.{SomeRose}
use Rattle.answer_model.specs.Devices.{AreUnchanged, IsUnchanged}

-- an unchanged count didn't rise
pub unchanged_rose : (before now : ℕ) → IsUnchanged before now → Rose before now → ⊥
unchanged_rose before now same rose = let e = same.same in let b = same.below in omega arith

-- a count that rose behind a later one rose
pub rose_from : (before mid now : ℕ) → before ≤ mid → Rose mid now → Rose before now
rose_from before mid now lt rose = omega (arith, lt, rose)

-- where no count changed, none rose
pub none_rose : (before now : List ℕ) → AreUnchanged before now → SomeRose before now → ⊥
none_rose before now same rose =
    let e : get_or now rose.0 0 ≡ get_or before rose.0 0 = ap (λ (l : List ℕ). get_or l rose.0 0) same.same in
    let b : get_or before rose.0 0 < 18446744073709551615 = same.below rose.0 0 rose.1 in
    let r : Rose (get_or before rose.0 0) (get_or now rose.0 0) = rose.2 in
    omega (arith, e, b, r)
