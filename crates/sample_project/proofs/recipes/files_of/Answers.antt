use Rattle.std.proofs.Common.{arith, ◌≡◌, ◌∙◌, ap, ◌++◌, ◌∷◌, ◌+◌, [], suc}
use Rattle.sample_project.specs.Sample.{sample_files}
use Rattle.sample_project.proofs.recipes.files_of.Goals as goal

pub loop-number-preserved : goal.loop-number-preserved
loop-number-preserved c =
    let next : suc c.loop-number.number ≡ c.loop-number.number + 1 = omega arith in
    c.in_ok-push.ensures.items ∙ ap (λ x. x ++ c.in_ok-file_of.field-0 ∷ []) c.loop-number.invariant
    ∙ ap (λ x. sample_files c.loop-number.number ++ x ∷ []) c.in_ok-file_of.ensures ∙ ap sample_files next
