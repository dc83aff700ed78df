use Rattle.std.proofs.Common.{subst, ◌≡◌, List, ℕ, true}
use Rattle.load_model.specs.Patterns.{matches}
use Rattle.layer_conf.specs.Globs.{begun_by}
use Rattle.layer_conf.proofs.Begun.{heads_next}
use Rattle.layer_conf.proofs.heads.heads_of.Goals as goal

pub loop-glob-preserved : goal.loop-glob-preserved
loop-glob-preserved c =
    heads_next c.args.globs.now c.loop-glob.glob-index c.glob-item.result c.loop-glob.made.items c.push_head.new.heads.items c.glob-item.is c.loop-glob-test.true c.loop-glob.invariant
    c.in_ok-push_head.ensures.kept (subst (λ (g : List ℕ). (path : List ℕ) → matches g path ≡ true → begun_by c.push_head.new.heads.items path ≡ true) c.as_str.ensures c.in_ok-push_head.ensures.begun)
