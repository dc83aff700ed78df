use Rattle.std.proofs.Common.{◌∙◌, ap, [], ◌∷◌, ◌++◌, append_assoc}
use Rattle.script_gen.proofs.Ends.{ends_there, ends_away}
use Rattle.std.proofs.lemmas.Result.{on_ok_weaker}
use Rattle.script_gen.proofs.text.push_ended.Goals as goal

pub returns-then-ends_with : goal.returns-then-ends_with
returns-then-ends_with c =
    c.in_ok-push_str.ensures.ok ∙ ap (λ l. c.args.out.now ++ l) (ends_there c.args.text.now c.as_bytes.result.now c.ends_with.result c.as_bytes.ensures.value c.ends_with.ensures.value c.if-ends_with.true)

pub returns : goal.returns
returns c =
    on_ok_weaker c.push_str-2.result
    (λ e. e ∙ (ap (λ l. l ++ 10 ∷ []) c.in_ok-push_str.ensures.ok ∙ append_assoc c.args.out.now c.args.text.now (10 ∷ []) ∙ ap (λ l. c.args.out.now ++ l) (ends_away c.args.text.now c.as_bytes.result.now c.ends_with.result c.as_bytes.ensures.value c.ends_with.ensures.value c.if-ends_with.false))) c.push_str-2.ensures.ok
