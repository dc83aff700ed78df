use Rattle.std.proofs.Common.{◌≡◌, ◌∙◌, ap, sym, ◌++◌, ◌∷◌, [], ◌+◌, take, reverse}
use Rattle.std.proofs.lemmas.List.{take_more}
use Rattle.recipe_facts.specs.Brackets.{open_texts}
use Rattle.recipe_facts.proofs.Bracketed.{put_open}
use Rattle.recipe_facts.proofs.brackets.all_texts.Goals as goal

pub loop-text-preserved : goal.loop-text-preserved
loop-text-preserved c = λ last.
    let all = c.args.kept.now in
    let i = c.loop-text.text-index in
    let x = c.text-item.result in
    let more : take (i + 1) all ≡ take i all ++ x ∷ [] = take_more all i x c.loop-text-test.true ∙ ap (λ y. take i all ++ y ∷ []) (sym c.text-item.is) in
    put_open c.loop-text.made c.push_str.new.self c.push_str-in-loop-text.new.self x (take i all) c.loop-text.invariant (c.in_ok-push_str.ensures.ok ∙ ap (λ t. c.loop-text.made ++ t) c.as_str.ensures) c.in_ok-push_str-2.ensures.ok last
    ∙ ap (λ ts. open_texts (reverse ts) last) (sym more)
