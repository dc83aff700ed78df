-- A list in which no item passes a test.
use Rattle.std.proofs.Common.{◌≡◌, refl, sym, ℕ, ◌<◌, Bool, true, false, cond, not, List, length, get_or, Some, None, position, le_trans}
use Rattle.std.specs.List.{position_or_len}
use Rattle.std.proofs.lemmas.List.Sums.{prefix_len_passes}
use Rattle.std.proofs.lemmas.Bool.{ltb-false}

none_of_cond : (b : Bool) (n : ℕ) → cond b (Some n) None ≡ None → b ≡ false
none_of_cond true n e = cc
none_of_cond false n e = refl

pub false_of_not : (b : Bool) → not b ≡ true → b ≡ false
false_of_not true e = sym e
false_of_not false e = refl

-- where no place passes, no item does
pub none_before : {X : Type 0} (p : X → Bool) (xs : List X) (d : X) → position p xs ≡ None → (k : ℕ) → k < length xs → p (get_or xs k d) ≡ false
none_before p xs d e k lt = let h = ltb-false (position_or_len p xs) (length xs) (none_of_cond _ _ e) in
    false_of_not (p (get_or xs k d)) (prefix_len_passes (λ x. not (p x)) xs k d (le_trans lt h))
