use Rattle.std.proofs.Common.{◌<◌, ◌∙◌, sym, ap, ◌==◌, map, arith, w8}
use Rattle.std.specs.List.{position_or_len}
use Rattle.std.specs.Simd.Lanes.{mask_l}
use Rattle.std.specs.Int.Count.{count_trailing_zeros}
use Rattle.std.proofs.Math.Nat.{pos_of_ne-zero}
use Rattle.std.proofs.lemmas.Simd.{bitmask_splat, leading_from_mask_l, trailing_mask_l}
use Rattle.byte_scan.proofs.Lanes.{turned}
use Rattle.byte_scan.proofs.before.Goals as goal

pub returns-then-marks-eq0 : goal.returns-then-marks-eq0
returns-then-marks-eq0 c =
    let lanes = c.args.lanes in
    let byte = c.args.byte in
    let marks = bitmask_splat w8 (λ x y. x == y) lanes 32 byte c.requires (omega arith) in
    sym c.requires ∙ sym (leading_from_mask_l (λ x. x == byte) lanes (sym marks ∙ c.if-marks-eq0.true)) ∙ ap (λ p. position_or_len p lanes) (λ j. λ x. turned x byte j)

pub returns-else-marks-eq0 : goal.returns-else-marks-eq0
returns-else-marks-eq0 c =
    let lanes = c.args.lanes in
    let byte = c.args.byte in
    let marks = bitmask_splat w8 (λ x y. x == y) lanes 32 byte c.requires (omega arith) in
    let some : 0 < mask_l (map (λ x. x == byte) lanes) = pos_of_ne-zero (λ e. c.if-marks-eq0.false (marks ∙ e)) in
    ap (count_trailing_zeros 64) marks ∙ trailing_mask_l (λ x. x == byte) 64 lanes (omega (arith, c.requires)) some ∙ ap (λ p. position_or_len p lanes) (λ j. λ x. turned x byte j)
