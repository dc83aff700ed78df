use Rattle.std.proofs.Common.{◌∙◌, sym, subst, List, ℕ}
use Rattle.tree_model.specs.Path.{BeginsWith}
use Rattle.sub_disk.proofs.Texts.{rests_more}
use Rattle.sub_disk.proofs.cut.rests_behind.Goals as goal

pub loop-path-preserved : goal.loop-path-preserved
loop-path-preserved c = λ all.
    let prefix = c.args.prefix.now in
    let path = c.path-item.result in
    let at = c.loop-path.path-index in
    let begin : BeginsWith prefix path = subst (λ (p : List ℕ). BeginsWith prefix p) (sym c.path-item.is) (all at path c.loop-path-test.true) in
    rests_more prefix path c.in_ok-rest_behind.field-0 c.loop-path.names.items c.push.new.self.items c.args.paths.now at c.loop-path-test.true c.path-item.is
    (sym c.as_str.ensures ∙ c.in_ok-rest_behind.ensures (subst (λ (p : List ℕ). BeginsWith prefix p) (sym c.as_str.ensures) begin)) (c.loop-path.invariant all) c.in_ok-push.ensures.items
