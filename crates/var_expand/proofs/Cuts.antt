-- Where a text may be cut.
use Rattle.std.proofs.Common.{◌≡◌, sym, arith, ℕ, ◌-◌, true, ◌==◌, List, [], ◌∷◌, length, take, drop, codes}
use Rattle.std.proofs.lemmas.Bool.{true≢false, and_parts, eqb-true}
use Rattle.std.proofs.lemmas.Grind.{common_steps}
use Rattle.std.proofs.lemmas.Str.{IsCharBoundary-after_ascii}
use Rattle.std.specs.Str.{IsUtf8, IsCharBoundary}
use Rattle.meta_model.specs.Text.{begins_with}

pub brace_cut : (bs : List ℕ) → IsUtf8 bs → begins_with (codes "}") bs ≡ true → IsCharBoundary bs 1
brace_cut [] u h = absurd (true≢false (sym h))
brace_cut (c ∷ bs) u h =
    let first = and_parts (125 == c) _ h in
    let same = eqb-true 125 c first.0 in
    IsCharBoundary-after_ascii (c ∷ bs) 0 u (omega arith) (omega (arith, same))

pub opening_cut : (bs : List ℕ) → IsUtf8 bs → begins_with (codes "${") bs ≡ true → IsCharBoundary bs 2
opening_cut [] u h = absurd (true≢false (sym h))
opening_cut (c ∷ []) u h = absurd (true≢false (sym (and_parts (36 == c) _ h).1))
opening_cut (c ∷ (d ∷ bs)) u h =
    let both = and_parts (36 == c) _ h in
    let second = and_parts (123 == d) _ both.1 in
    let same = eqb-true 123 d second.0 in
    IsCharBoundary-after_ascii (c ∷ (d ∷ bs)) 1 u (omega arith) (omega (arith, same))

-- the rest of a list
pub whole_rest : (bs : List ℕ) (i : ℕ) → take (length bs - i) (drop i bs) ≡ drop i bs
whole_rest bs i = grind (arith, common_steps)
