use Rattle.std.proofs.Common.{◌≡◌, ◌∙◌, ap, sym, [], Some, None, fold, reverse}
use Rattle.std.specs.Option.{option_map}
use Rattle.std.specs.List.{join_with_byte}
use Rattle.tree_model.specs.Path.{parts_of}
use Rattle.load_model.specs.Paths.{slash, further}
use Rattle.path_words.proofs.Slashes.{nowhere_further}
use Rattle.path_words.proofs.paths.path_named.Goals as goal

pub returns-then-not-branch : goal.returns-then-not-branch
returns-then-not-branch c =
    let parts = c.loop-part.parts.items in
    let after = c.in-Some.after.now in
    let step : further (Some (reverse parts)) c.in-Some.part.now ≡ None = rw c.if-not-branch.true at c.in_ok-goes_further.ensures in
    let all : fold further (Some []) (parts_of c.args.text.now) ≡ None =
    sym c.loop-part.invariant.leads ∙ ap (fold further (Some (reverse parts))) c.in-Some.ensures.parts ∙ ap (λ s. fold further s (parts_of after)) step ∙ nowhere_further (parts_of after) in
    sym (ap (option_map (λ ps. join_with_byte slash (reverse ps))) all)
