use Rattle.std.proofs.Common.{◌∙◌, ap, ◌==◌, arith, w8}
use Rattle.std.specs.Simd.Lanes.{chunk}
use Rattle.std.specs.Int.RustNames.{count_ones}
use Rattle.std.proofs.lemmas.Simd.{bitmask_splat, ones-mask_l, length-chunk}
use Rattle.byte_scan.proofs.count_in.Goals as goal

pub returns : goal.returns
returns c =
    let lanes = chunk c.args.at 32 c.args.hay.now in
    ap count_ones (bitmask_splat w8 (λ x y. x == y) lanes 32 c.args.byte (length-chunk c.args.at 32 c.args.hay.now c.requires) (omega arith)) ∙ ones-mask_l (λ x. x == c.args.byte) lanes
