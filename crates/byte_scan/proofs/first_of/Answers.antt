use Rattle.std.proofs.Common.{arith, sym, ◌==◌}
use Rattle.std.specs.List.{list_any}
use Rattle.byte_scan.proofs.Firsts.{in_block, past_block, in_rest, none_in_rest}
use Rattle.byte_scan.proofs.first_of.Goals as goal

pub returns-then-free-lt-LANES : goal.returns-then-free-lt-LANES
returns-then-free-lt-LANES c =
    in_block (λ b. list_any (λ d. d == b) c.args.set.now) c.args.hay.now c.loop-at.at c.before_any-free.result (omega (arith, c.loop-at.invariant.within, c.loop-at-test.true)) c.loop-at.invariant.none c.before_any-free.ensures c.if-free-lt-LANES.true

pub loop-at-preserved : goal.loop-at-preserved
loop-at-preserved c = record {
  within = omega (arith, c.loop-at.invariant.within, c.loop-at-test.true);
  none = past_block (λ b. list_any (λ d. d == b) c.args.set.now) c.args.hay.now c.loop-at.at c.before_any-free.result (omega (arith, c.loop-at.invariant.within, c.loop-at-test.true)) c.loop-at.invariant.none c.before_any-free.ensures c.if-free-lt-LANES.false;
}

pub returns-in-Some : goal.returns-in-Some
returns-in-Some c =
    in_rest (λ b. list_any (λ d. d == b) c.args.set.now) c.args.hay.now c.loop-at.at c.in-Some.place c.loop-at.invariant.within c.loop-at.invariant.none (sym c.in-Some.ensures)

pub returns-in-None : goal.returns-in-None
returns-in-None c =
    none_in_rest (λ b. list_any (λ d. d == b) c.args.set.now) c.args.hay.now c.loop-at.at c.loop-at.invariant.within c.loop-at.invariant.none (sym c.in-None.ensures)
