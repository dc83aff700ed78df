use Rattle.std.proofs.Common.{append_assoc, ◌∙◌, ap, codes, ◌++◌, ℕ, List}
use Rattle.std.specs.Fmt.{decimal}
use Rattle.sample_project.specs.Sample.{rest_text}
use Rattle.sample_project.proofs.recipes.push_tasks.Goals as goal

pub returns : goal.returns
returns c =
    let made : List ℕ = c.args.made.now in
    let front : List ℕ = codes "do_prep() {\n    echo " in
    let number : List ℕ = decimal c.args.number in
    c.in_ok-push_rest.ensures ∙ ap (λ (x : List ℕ). x ++ rest_text) (c.in_ok-push_number.ensures ∙ ap (λ (x : List ℕ). x ++ number) c.in_ok-push_str.ensures.ok)
    ∙ append_assoc (made ++ front) number rest_text ∙ append_assoc made front (number ++ rest_text)
