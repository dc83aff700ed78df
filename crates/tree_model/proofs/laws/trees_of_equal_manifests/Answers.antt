use Rattle.std.proofs.Common.{refl}
use Rattle.sha2.specs.Sha256.{sha256}
use Rattle.tree_model.specs.Manifest.{content_of, kind_of}
use Rattle.tree_model.specs.Size.{entry_length}
use Rattle.tree_model.proofs.ManifestLemmas.{said_alike}
use Rattle.tree_model.proofs.laws.trees_of_equal_manifests.Goals as goal

pub returns-clause-kinds : goal.returns-clause-kinds
returns-clause-kinds c = said_alike kind_of (λ l. l.kind) (λ e. refl) c.args.one.now c.args.other.now c.requires

pub returns-clause-lengths : goal.returns-clause-lengths
returns-clause-lengths c = said_alike entry_length (λ l. l.length) (λ e. refl) c.args.one.now c.args.other.now c.requires

pub returns-clause-digests : goal.returns-clause-digests
returns-clause-digests c = said_alike (λ e. sha256 (content_of e)) (λ l. l.hash.bytes) (λ e. refl) c.args.one.now c.args.other.now c.requires
