use Rattle.std.proofs.Common.{◌≡◌, ◌∙◌, sym, true, ◌∷◌, [], length, drop, arith}
use Rattle.std.proofs.lemmas.Grind.{common_steps}
use Rattle.meta_model.specs.Text.{begins_with}
use Rattle.load_model.specs.Paths.{slash}
use Rattle.layer_conf.proofs.Placing.{holds_both, holds_not}
use Rattle.layer_conf.proofs.order.holds.Goals as goal

pub returns-then-starts_with : goal.returns-then-starts_with
returns-then-starts_with c =
    let rest : c.starts_with-then-starts_with.result ≡ begins_with (slash ∷ []) (drop (length c.args.folder.now) c.args.path.now) = grind (arith, common_steps, c.starts_with-then-starts_with.ensures.value) in
    holds_both c.args.folder.now c.args.path.now true c.starts_with-then-starts_with.result (sym c.if-starts_with.true ∙ c.starts_with.ensures.value) rest

pub returns-else-starts_with : goal.returns-else-starts_with
returns-else-starts_with c = c.if-starts_with.false ∙ holds_not c.args.folder.now c.args.path.now (sym c.starts_with.ensures.value ∙ c.if-starts_with.false)
