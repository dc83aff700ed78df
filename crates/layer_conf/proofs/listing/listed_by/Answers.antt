use Rattle.std.proofs.Common.{◌∙◌, subst, List, ℕ}
use Rattle.layer_conf.specs.Globs.{IsJoined}
use Rattle.layer_conf.proofs.Listed.{found_next}
use Rattle.layer_conf.proofs.listing.listed_by.Goals as goal

pub loop-head-preserved : goal.loop-head-preserved
loop-head-preserved g c =
    let held = g.L.Layers.files c.args.layers.now in
    let head = c.head-item.result in
    let old = c.loop-head.found in
    let new = c.in-Ok.made in
    let inv = c.loop-head.invariant in
    record {
      same = c.in-Ok.ensures.same ∙ inv.same;
      faults = c.in-Ok.ensures.cause.stayed ∙ inv.faults;
      found = λ told. found_next c.args.heads.now c.loop-head.head-index head held old new c.head-item.is c.loop-head-test.true (inv.found told)
          (subst (λ (h : List ℕ). IsJoined h held old new) c.as_str.ensures
          (subst (λ f. IsJoined c.as_str.result.now f old new) inv.same (c.in-Ok.ensures.paths told)));
    }
