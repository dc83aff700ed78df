use Rattle.std.proofs.Common.{rules}
use Rattle.class_inherit.proofs.Parts.{next_part, last_part}
use Rattle.class_inherit.proofs.late.parts_of.Goals as goal

pub loop-part-preserved : goal.loop-part-preserved
loop-part-preserved c = record {
  text = search rules;
  parts = next_part c.args.text.now c.loop-part.rest.now c.in-Some.part.now c.in-Some.after.now c.loop-part.parts c.push_text.new.parts c.in-Some.ensures.parts c.loop-part.invariant.parts c.in_ok-push_text.ensures;
}

pub returns : goal.returns
returns c = last_part c.args.text.now c.loop-part.rest.now c.loop-part.parts c.push_text-2.new.parts c.in_default.ensures.parts c.loop-part.invariant.parts c.in_ok-push_text-2.ensures
