-- What a list begins with, and that a text may be cut behind it.
use Rattle.std.proofs.Common.{◌≡◌, ℕ, true, List, ◌++◌, length, take, drop, refl, ap, ◌∙◌, nat_eq, arith, length-append}
use Rattle.std.specs.List.{starts_with}
use Rattle.std.specs.Str.{IsUtf8, IsCharBoundary}
use Rattle.std.proofs.lemmas.Bool.Decides.{Decides-eqb}
use Rattle.std.proofs.lemmas.Slice.Eq.{starts_is}
use Rattle.std.proofs.lemmas.List.{take_at}
use Rattle.std.proofs.lemmas.Str.{IsCharBoundary-from_take}

-- what a list begins with stands in front of the rest
pub starts-is : (s p : List ℕ) → starts_with nat_eq s p ≡ true → s ≡ p ++ drop (length p) s
starts-is s p e = (starts_is Decides-eqb s p (starts_with nat_eq s p) refl).0 e

-- behind a text at the front a text may be cut
pub prefix-cut : (s p : List ℕ) → starts_with nat_eq s p ≡ true → IsUtf8 p → IsUtf8 s → IsCharBoundary s (length p)
prefix-cut s p e t u = let h = starts-is s p e in
    let n = ap length h in
    IsCharBoundary-from_take s (length p) u (omega (arith, length-append p (drop (length p) s), n)) (rw (ap (take (length p)) h ∙ take_at p (drop (length p) s) (length p) refl) t)
