use Rattle.std.proofs.Common.{◌≡◌, ◌∙◌, ◌++◌, ◌∷◌, [], sym, ap, List, ℕ, cond, take, append_assoc, arith}
use Rattle.std.specs.Prelude.{is_none}
use Rattle.tree_model.specs.Tree.{entry_at}
use Rattle.build_store.specs.OpenOnes.{extras}
use Rattle.build_store.proofs.NotingRuns.{extras_next}
use Rattle.build_store.proofs.opening.note_extra.Goals as goal

pub loop-path-preserved : goal.loop-path-preserved
loop-path-preserved c = λ all.
    let prefix = c.args.prefix.now in
    let tree = c.args.tree.now in
    let paths = c.args.paths.now in
    let x = c.path-item.result in
    let k = c.loop-path.path-index in
    let begins = all k x (omega arith) in
    let is : x ≡ prefix ++ begins.0 = c.path-item.is ∙ begins.1 in
    let new = cond (is_none (entry_at tree begins.0)) (x ∷ []) [] in
    c.in_ok-note_path.ensures begins.0 is
    ∙ ap (λ (l : List (List ℕ)). l ++ new) (c.loop-path.invariant all)
    ∙ append_assoc c.args.extra.now (extras prefix tree (take k paths)) new
    ∙ ap (λ (l : List (List ℕ)). c.args.extra.now ++ l) (sym (extras_next prefix tree paths k x (omega arith) c.path-item.is begins.0 is))
