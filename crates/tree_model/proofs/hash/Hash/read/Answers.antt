use Rattle.std.proofs.Common.{ap, ◌∙◌, length}
use Rattle.tree_model.proofs.HashLemmas.{length-hash_text}
use Rattle.tree_model.proofs.hash.Hash.read.Goals as goal

pub returns-then-text-ne64-clause-none : goal.returns-then-text-ne64-clause-none
returns-then-text-ne64-clause-none c hash is same = c.if-text-ne64.true (ap length same ∙ length-hash_text hash is)
