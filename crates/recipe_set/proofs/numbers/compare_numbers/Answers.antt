use Rattle.std.proofs.Common.{sym, ◌∙◌, ap}
use Rattle.std.specs.Ordering.{nat_cmp}
use Rattle.load_model.specs.Versions.{number_of}
use Rattle.recipe_set.proofs.Digits.{decided, as_long}
use Rattle.recipe_set.proofs.numbers.compare_numbers.Goals as goal

pub returns-in-Equal : goal.returns-in-Equal
returns-in-Equal c =
    let l = c.without_zeros-left.result.now in
    let r = c.without_zeros-right.result.now in
    c.cmp-in-Equal.ensures
    ∙ sym (as_long l r (c.without_zeros-left.ensures.digits c.requires.left) (c.without_zeros-right.ensures.digits c.requires.right) c.in-Equal.ensures)
    ∙ ap (λ n. nat_cmp n (number_of r)) c.without_zeros-left.ensures.value ∙ ap (nat_cmp (number_of c.args.a.now)) c.without_zeros-right.ensures.value

pub returns-in_default : goal.returns-in_default
returns-in_default c =
    let l = c.without_zeros-left.result.now in
    let r = c.without_zeros-right.result.now in
    decided l r c.cmp.result c.without_zeros-left.ensures.front c.without_zeros-right.ensures.front (c.without_zeros-left.ensures.digits c.requires.left) (c.without_zeros-right.ensures.digits c.requires.right)
    c.cmp.ensures c.in_default.not-Equal
    ∙ ap (λ n. nat_cmp n (number_of r)) c.without_zeros-left.ensures.value ∙ ap (nat_cmp (number_of c.args.a.now)) c.without_zeros-right.ensures.value
