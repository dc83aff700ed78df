use Rattle.std.proofs.Common.{length, ◌≡◌}
use Rattle.bb_parser.specs.Written.{are_whole_lines}
use Rattle.bb_parser.proofs.writable.are_body_lines.Given as goal

-- all lines so far can stand in a body
abbrev pub invariant-loop-rest : goal.invariant-loop-rest
invariant-loop-rest l = are_whole_lines l.rest ≡ are_whole_lines l.body

abbrev pub decreases-loop-rest : goal.decreases-loop-rest
decreases-loop-rest l = length l.rest
