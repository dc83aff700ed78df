use Rattle.std.proofs.Common.{length, ◌-◌, ◌≡◌, ◌≤◌, take, drop}
use Rattle.meta_model.specs.Parts.{end}
use Rattle.var_expand.specs.Pieces.{text_before}
use Rattle.var_expand.specs.Standing.{levels, in_front}
use Rattle.var_expand.proofs.scan.run_len.Given as goal

abbrev pub invariant-loop-at : goal.invariant-loop-at
invariant-loop-at l = (l.at ≤ length l.bytes) × (levels l.bytes ≡ in_front (text_before (take l.at l.bytes) end) (levels (drop l.at l.bytes)))

abbrev pub decreases-loop-at : goal.decreases-loop-at
decreases-loop-at l = length l.bytes - l.at
