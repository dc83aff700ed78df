use Rattle.std.proofs.Common.{◌≡◌, ◌∙◌, ap, sym, ◌++◌, ◌∷◌, [], take, ◌+◌, rules}
use Rattle.std.specs.List.{join_with_byte}
use Rattle.std.proofs.lemmas.List.{take_more}
use Rattle.load_model.specs.Paths.{slash}
use Rattle.path_words.proofs.Slashes.{join_next, before_next, slash_before}
use Rattle.path_words.proofs.paths.joined.Goals as goal

pub loop-part-preserved : goal.loop-part-preserved
loop-part-preserved c =
    let parts = c.args.parts.now in
    let i = c.loop-part.part-index in
    let more : take (i + 1) parts ≡ take i parts ++ c.part-item.result ∷ [] = take_more parts i c.part-item.result c.loop-part-test.true ∙ ap (λ x. take i parts ++ x ∷ []) (sym c.part-item.is) in
    record {
      text = search rules;
      between = before_next (take i parts) c.part-item.result ∙ ap slash_before (sym more);
      joined = join_next (take i parts) c.part-item.result c.loop-part.before.now c.loop-part.made c.push_str.new.self c.push_str-in-loop-part.new.self c.loop-part.invariant.between c.loop-part.invariant.joined c.in_ok-push_str.ensures.ok
          (c.in_ok-push_str-2.ensures.ok ∙ ap (λ p. c.push_str.new.self ++ p) c.as_str.ensures) ∙ ap (join_with_byte slash) (sym more);
    }
