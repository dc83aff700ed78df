use Rattle.std.proofs.Common.{◌≡◌, ◌∙◌, ◌+◌, arith, length, drop, rules}
use Rattle.layer_conf.proofs.Globs.{row_answer, row_is_long}
use Rattle.layer_conf.proofs.glob.matches_left.Goals as goal

pub with_byte-requires : goal.with_byte-requires
with_byte-requires c = row_is_long (drop c.loop-left.left c.args.pattern.now) c.args.path.now c.deref.result.now (c.deref.ensures.value ∙ c.loop-left.invariant.1)

pub index-requires : goal.index-requires
index-requires c =
    let long : length c.loop-left.row.items ≡ length c.args.path.now + 1 = row_is_long (drop c.loop-left.left c.args.pattern.now) c.args.path.now c.loop-left.row.items c.loop-left.invariant.1 in
    search (arith, rules)

pub returns : goal.returns
returns c = row_answer c.args.pattern.now c.args.path.now c.loop-left.row.items c.loop-left.left c.index.result.now c.loop-left-test.false c.loop-left.invariant.1 c.index.ensures
