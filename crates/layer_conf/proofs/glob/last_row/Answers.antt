use Rattle.std.proofs.Common.{◌≡◌, ◌∙◌, ◌++◌, ◌∷◌, [], ap, sym, true, false, arith, replicate, add-one, length}
use Rattle.layer_conf.proofs.Globs.{first_row, one_more_false}
use Rattle.layer_conf.proofs.glob.last_row.Goals as goal

pub loop-preserved : goal.loop-preserved
loop-preserved c =
    c.in_ok-push-2.ensures.items ∙ ap (λ l. l ++ false ∷ []) c.loop.invariant ∙ ap (λ l. true ∷ l) (one_more_false c.loop.counter ∙ ap (λ n. replicate n false) (sym (add-one c.loop.counter)))

pub returns : goal.returns
returns c =
    let all : c.loop.counter ≡ length c.args.path.now = omega arith in
    c.loop.invariant ∙ ap (λ n. true ∷ replicate n false) all ∙ sym (first_row c.args.path.now)
