use Rattle.meta_model.specs.Overrides.{beats}
use Rattle.override_eval.specs.Winner.{parts}
use Rattle.override_eval.proofs.Places.{beats_is, beats_longer, beats_shorter}
use Rattle.override_eval.proofs.forms.beats.Goals as goal

pub loop-part-init : goal.loop-part-init
loop-part-init c = record {
  left = c.utf8.form;
  right = c.utf8.other;
  same = beats_is c.args.active.now (parts c.args.form.now) (parts c.args.other.now);
}

pub returns-in-None : goal.returns-in-None
returns-in-None c =
    beats_longer c.args.active.now c.loop-part.greater c.loop-part.left.now c.loop-part.right.now c.in-Some.part.now c.in-Some.after.now (beats c.args.active.now (parts c.args.form.now) (parts c.args.other.now))
    c.in-Some.ensures.parts c.in-None.ensures.parts c.loop-part.invariant.same

pub returns-in-Some-cut_at_colon-2 : goal.returns-in-Some-cut_at_colon-2
returns-in-Some-cut_at_colon-2 c =
    let cut = c.in-Some-cut_at_colon-2.field-0 in
    beats_shorter c.args.active.now c.loop-part.greater c.loop-part.left.now c.loop-part.right.now cut.0.now cut.1.now (beats c.args.active.now (parts c.args.form.now) (parts c.args.other.now))
    c.in_default.ensures.parts c.in-Some-cut_at_colon-2.ensures.parts c.loop-part.invariant.same
