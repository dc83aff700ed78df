use Rattle.std.proofs.Common.{subst, sym}
use Rattle.std.proofs.lemmas.Bool.{false≢true}
use Rattle.store_model.specs.declared.signature.StoredSig.{StoredSig}
use Rattle.store_model.specs.Readable.{HasShortPaths}
use Rattle.store_upgrade.proofs.Olden.{same_old}
use Rattle.store_upgrade.proofs.reading.good_old.Goals as goal

pub returns-then-not-are_short-clause-none : goal.returns-then-not-are_short-clause-none
returns-then-not-are_short-clause-none c old good bytes =
    false≢true (c.if-not-are_short.ensures.1 (subst HasShortPaths (sym c.lines.ensures) (subst (λ (s : StoredSig). HasShortPaths s.manifest) (same_old c.args.bytes.now c.args.stored old.stored c.requires good.spelled bytes) good.short)))
