-- Where a text may be cut, and what a list begins or ends with.
use Rattle.std.proofs.Common.{◌≡◌, ℕ, ◌-◌, true, List, ◌++◌, length, take, refl, nat_eq}
use Rattle.std.specs.List.{ends_with}
use Rattle.std.proofs.lemmas.Bool.Decides.{Decides-eqb}
use Rattle.std.proofs.lemmas.Slice.Eq.{ends_is}
pub use Rattle.meta_model.proofs.Prefixes.{starts-is, prefix-cut}

-- what a list ends with stands behind the rest
pub ends-is : (s p : List ℕ) → ends_with nat_eq s p ≡ true → s ≡ take (length s - length p) s ++ p
ends-is s p e = (ends_is Decides-eqb s p (ends_with nat_eq s p) refl).0 e
