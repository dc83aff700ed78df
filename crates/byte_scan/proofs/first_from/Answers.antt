-- A set of one byte holds exactly that byte.
use Rattle.std.proofs.Common.{◌≡◌, ℕ, ◌==◌, ◌∙◌, ap, position, List, [], ◌∷◌, length, get_or, arith}
use Rattle.std.specs.List.{list_any}
use Rattle.std.proofs.Math.Bool.{or-false}
use Rattle.byte_scan.proofs.first_from.Goals as goal

-- the place of a set's only byte is the place of the set
only_byte : (hay set : List ℕ) → length set ≡ 1 → position (λ b. get_or set 0 0 == b) hay ≡ position (λ b. list_any (λ c. c == b) set) hay
only_byte hay [] one = absurd (omega arith)
only_byte hay (byte ∷ []) one = simp or-false
only_byte hay (byte ∷ (next ∷ rest)) one = absurd (omega arith)

pub returns-in-len1 : goal.returns-in-len1
returns-in-len1 c = c.first_place.ensures ∙ only_byte c.split_at.result.1.now c.args.set.now (omega arith) ∙ ap (position (λ b. list_any (λ d. d == b) c.args.set.now)) c.split_at.ensures.back
