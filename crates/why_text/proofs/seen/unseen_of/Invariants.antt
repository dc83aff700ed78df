use Rattle.std.proofs.Common.{◌≡◌, filter, not, take}
use Rattle.why_model.specs.Seen.{is_seen}
use Rattle.why_text.proofs.seen.unseen_of.Given as goal

abbrev pub invariant-loop-number : goal.invariant-loop-number
invariant-loop-number l = l.made.items ≡ filter (λ d. not (is_seen l.seen d)) (take l.number-index l.numbers)
