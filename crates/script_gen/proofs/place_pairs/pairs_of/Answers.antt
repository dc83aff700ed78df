use Rattle.std.proofs.Common.{◌∙◌, ap, arith, ℕ, List, [], ◌∷◌, ◌++◌}
use Rattle.script_gen.proofs.Pairs.{zip_next, zip_long, zip_short}
use Rattle.script_gen.proofs.place_pairs.pairs_of.Goals as goal

pub returns-then-place-outputs : goal.returns-then-place-outputs
returns-then-place-outputs c = c.loop-place.invariant ∙ zip_short c.args.inputs.now c.args.outputs.now c.loop-place.place (omega arith)

pub loop-place-preserved : goal.loop-place-preserved
loop-place-preserved c =
    let list = c.loop-place.list in
    let input = c.index-inputs-place.result in
    let pair : List ℕ → List ℕ → List (List ℕ × List ℕ) = λ a b. (a, b) ∷ [] in
    zip_next c.args.inputs.now c.args.outputs.now c.loop-place.place input c.index-outputs-place.result list c.push.new.self (omega arith) (omega arith) c.index-inputs-place.is c.index-outputs-place.is c.loop-place.invariant
    (c.in_ok-push.ensures.ok ∙ ap (λ a. list ++ pair a c.in_ok-copy-2.field-0) c.in_ok-copy.ensures ∙ ap (λ b. list ++ pair input b) c.in_ok-copy-2.ensures)

pub returns : goal.returns
returns c = c.loop-place.invariant ∙ zip_long c.args.inputs.now c.args.outputs.now c.loop-place.place (omega arith)
