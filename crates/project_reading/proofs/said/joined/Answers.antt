use Rattle.std.proofs.Common.{◌≡◌, ◌∙◌, ap, sym, ◌++◌, ◌∷◌, [], take, ◌+◌, rules}
use Rattle.std.specs.List.{join_with_byte}
use Rattle.std.proofs.lemmas.List.{take_more}
use Rattle.meta_model.specs.Text.{colon}
use Rattle.project_reading.proofs.Joins.{join_next, before_next, sign_before}
use Rattle.project_reading.proofs.said.joined.Goals as goal

pub loop-text-preserved : goal.loop-text-preserved
loop-text-preserved c =
    let texts = c.args.texts.now in
    let i = c.loop-text.text-index in
    let more : take (i + 1) texts ≡ take i texts ++ c.text-item.result ∷ [] = take_more texts i c.text-item.result c.loop-text-test.true ∙ ap (λ x. take i texts ++ x ∷ []) (sym c.text-item.is) in
    record {
      text = search rules;
      between = before_next colon (take i texts) c.text-item.result ∙ ap (sign_before colon) (sym more);
      joined = join_next colon (take i texts) c.text-item.result c.loop-text.before.now c.loop-text.made c.push_str.new.self c.push_str-in-loop-text.new.self c.loop-text.invariant.between c.loop-text.invariant.joined c.in_ok-push_str.ensures.ok
          (c.in_ok-push_str-2.ensures.ok ∙ ap (λ p. c.push_str.new.self ++ p) c.as_str.ensures) ∙ ap (join_with_byte colon) (sym more);
    }
