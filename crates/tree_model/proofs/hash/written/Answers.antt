use Rattle.std.proofs.Common.{◌∙◌, length-set}
use Rattle.tree_model.proofs.HashLemmas.{all_read, byte_read}
use Rattle.tree_model.proofs.hash.written.Goals as goal

pub loop-place-preserved : goal.loop-place-preserved
loop-place-preserved c = record {
  size = length-set _ _ _ ∙ c.loop-place.invariant.size;
  front = λ hash is same. byte_read hash is c.args.digits.now c.loop-place.bytes c.loop-place.place c.digit_number-high.result c.digit_number-low.result c.loop-place-test.true c.loop-place.invariant.size c.digit_number-high.ensures.number c.digit_number-low.ensures.number same (c.loop-place.invariant.front hash is same);
}

pub returns : goal.returns
returns c hash is same = all_read hash is c.loop-place.bytes c.loop-place.place c.loop-place-test.false c.loop-place.invariant.size (c.loop-place.invariant.front hash is same)
