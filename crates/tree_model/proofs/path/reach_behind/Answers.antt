use Rattle.std.proofs.Common.{◌≡◌, refl, ap, length, true, eqb}
use Rattle.tree_model.proofs.PathLemmas.{longer_from_rest}
use Rattle.tree_model.proofs.path.reach_behind.Goals as goal

pub returns-else-starts_with_slash : goal.returns-else-starts_with_slash
returns-else-starts_with_slash c = λ path. (
  (c.args.rest.now, refl),
  longer_from_rest path c.args.rest.now
      (λ more e. (let t = c.starts_with_slash.ensures.1 (more, e) in cc))
      (λ e. (let n : eqb (length c.args.rest.now) 0 ≡ true = ap (λ l. eqb (length l) 0) e in cc)),
)
