use Rattle.std.proofs.Common.{sym, ◌∙◌, ap}
use Rattle.layer_conf.specs.Globs.{begun_by}
use Rattle.layer_conf.proofs.Begun.{begun_through}
use Rattle.layer_conf.proofs.heads.push_head.Goals as goal

pub returns-then-is_begun-clause-begun : goal.returns-then-is_begun-clause-begun
returns-then-is_begun-clause-begun c =
    let head = c.head_of-head.result.now in
    λ path h. begun_through c.args.heads.now.items head path
    (ap (λ l. begun_by l head) (sym c.as_slice.ensures.value) ∙ sym c.is_begun.ensures ∙ c.if-is_begun.true)
    (c.head_of-head.ensures path h)
