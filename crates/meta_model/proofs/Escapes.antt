-- Where a value is cut at its first byte that doesn't stand as it is.
use Rattle.std.proofs.Common.{◌≡◌, ap, refl, ℕ, ◌+◌, Bool, true, false, cond, ◌||◌, List, [], ◌∷◌, ◌++◌, take, drop, get_or, Some, None, position, ◌==◌}
use Rattle.std.specs.Prelude.{codes}
use Rattle.meta_model.specs.declared.quoting.Quoting.{Quoting}
use Rattle.meta_model.specs.declared.quoting.Quoting.TheVariants.{Shell, Print}
use Rattle.meta_model.specs.Quoting.{is_special, escape, escaped}
use Rattle.meta_model.specs.Text.{backslash}
use Rattle.meta_model.proofs.Escaping as escaping

printed_by : (a b d : Bool) (c : ℕ) → (a || (b || d)) ≡ false → cond a (codes "\\\\") (cond b (codes "\\\"") (cond d (codes "\\n") (c ∷ []))) ≡ c ∷ []
printed_by true b d c e = absurd cc
printed_by false true d c e = absurd cc
printed_by false false true c e = absurd cc
printed_by false false false c e = refl

-- a byte that stands as it is
plain : (q : Quoting) (c : ℕ) → is_special q c ≡ false → escape q c ≡ c ∷ []
plain Shell c e = ap (λ b. cond b (backslash ∷ (c ∷ [])) (c ∷ [])) e
plain Print c e = printed_by (c == 92) (c == 34) (c == 10) c e

-- the last piece
pub escaped_last : (q : Quoting) (bs made old new whole : List ℕ) → None ≡ position (is_special q) bs → made ++ escaped q bs ≡ old ++ escaped q whole → new ≡ made ++ bs → new ≡ old ++ escaped q whole
escaped_last q = escaping.escaped_last (is_special q) (escape q) (plain q)

-- one piece and the byte behind it
pub escaped_step : (q : Quoting) (rest piece byte after made next new : List ℕ) (i : ℕ) → Some i ≡ position (is_special q) rest → piece ≡ take i rest → next ≡ made ++ piece → byte ≡ escape q (get_or rest i 0) → new ≡ next ++ byte
    → after ≡ drop (i + 1) rest → new ++ escaped q after ≡ made ++ escaped q rest
escaped_step q = escaping.escaped_step (is_special q) (escape q) (plain q)
