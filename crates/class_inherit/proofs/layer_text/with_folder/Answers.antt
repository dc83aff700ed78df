use Rattle.std.proofs.Common.{refl, ap, sym, ◌∙◌, ◌++◌, rules}
use Rattle.class_inherit.proofs.LayerText.{put_step}
use Rattle.class_inherit.proofs.layer_text.with_folder.Goals as goal

pub loop-front-preserved : goal.loop-front-preserved
loop-front-preserved c = record {
  text = search rules;
  made = put_step c.args.layer.now c.args.text.now c.loop-front.rest.now c.in-Some.front.now c.in-Some.after.now c.loop-front.made (c.loop-front.made ++ c.in-Some.front.now) c.push_both.new.made (c.in-Some.ensures.parts c.args.layer.now) c.loop-front.invariant.made refl c.in_ok-push_both.ensures;
}

pub returns : goal.returns
returns c = c.in_ok-push_str.ensures.ok ∙ ap (λ l. c.loop-front.made ++ l) (sym (c.in_default.ensures.parts c.args.layer.now)) ∙ c.loop-front.invariant.made
