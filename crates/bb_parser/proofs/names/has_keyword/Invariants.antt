use Rattle.std.proofs.Common.{length, ◌≡◌}
use Rattle.meta_model.specs.Names.{is_late}
use Rattle.bb_parser.proofs.names.has_keyword.Given as goal

-- no part so far was a keyword
abbrev pub invariant-loop-next : goal.invariant-loop-next
invariant-loop-next l = is_late l.rest ≡ is_late l.name

abbrev pub decreases-loop-next : goal.decreases-loop-next
decreases-loop-next l = length l.rest
