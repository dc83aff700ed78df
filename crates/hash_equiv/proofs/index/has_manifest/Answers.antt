use Rattle.std.proofs.Common.{◌∙◌, ap}
use Rattle.store_model.specs.Rows.{manifest_eq}
use Rattle.hash_equiv.proofs.Rowing.{told_same}
use Rattle.hash_equiv.proofs.index.has_manifest.Goals as goal

pub returns : goal.returns
returns c = told_same _ _ _ c.equal_manifests.ensures ∙ ap (λ lines. manifest_eq lines c.args.manifest.now) c.lines.ensures
