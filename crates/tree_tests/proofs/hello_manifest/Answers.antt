use Rattle.std.proofs.Common.{refl}
use Rattle.std.specs.Fmt.{digits}
use Rattle.hex.specs.Hex.{encode_with}
use Rattle.tree_tests.proofs.hello_manifest.Goals as goal

pub returns-clause-bytes : goal.returns-clause-bytes
unfolding digits encode_with
returns-clause-bytes c = refl
