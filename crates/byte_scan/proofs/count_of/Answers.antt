use Rattle.std.proofs.Common.{rules, arith, ◌<◌, ◌^◌, ◌≤◌, ◌+◌, ◌==◌, length}
use Rattle.byte_scan.proofs.Counts.{block_more, rest_more, block_fits}
use Rattle.byte_scan.proofs.count_of.Goals as goal

pub overflow_add-total : goal.overflow_add-total
overflow_add-total c =
    let short : length c.args.hay.now < 2 ^ 64 = search rules in
    let room : c.loop-at.at + 32 ≤ length c.args.hay.now = omega (arith, c.loop-at.invariant.within, c.loop-at-test.true) in
    block_fits (λ b. b == c.args.byte) c.args.hay.now c.loop-at.at c.loop-at.total c.count_in-total.result room short c.loop-at.invariant.counted c.count_in-total.ensures

pub loop-at-preserved : goal.loop-at-preserved
loop-at-preserved c = record {
  within = omega (arith, c.loop-at.invariant.within, c.loop-at-test.true);
  counted = block_more (λ b. b == c.args.byte) c.args.hay.now c.loop-at.at c.loop-at.total c.count_in-total.result c.loop-at.invariant.counted c.count_in-total.ensures;
}

pub returns : goal.returns
returns c = rest_more (λ b. b == c.args.byte) c.args.hay.now c.loop-at.at c.loop-at.total c.count_from.result c.loop-at.invariant.counted c.count_from.ensures
