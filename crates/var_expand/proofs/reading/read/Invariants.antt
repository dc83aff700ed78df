use denote.Text.{Utf8}
use denote.Shadow.{shadow}
use Rattle.std.proofs.Common.{◌≡◌, length}
use Rattle.meta_model.specs.Parts.{parts_of}
use Rattle.var_expand.specs.Standing.{levels}
use Rattle.var_expand.specs.ReadOn.{read_on}
use Rattle.var_expand.proofs.reading.read.Given as goal

abbrev pub invariant-loop-rest : goal.invariant-loop-rest
invariant-loop-rest l = shadow (Utf8 l.rest) × (read_on l.standing (levels l.rest) ≡ parts_of l.text)

abbrev pub decreases-loop-rest : goal.decreases-loop-rest
decreases-loop-rest l = length l.rest
