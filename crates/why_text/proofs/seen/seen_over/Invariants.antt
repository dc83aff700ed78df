use Rattle.std.proofs.Common.{◌≡◌, drop}
use Rattle.store_model.specs.Signatures.{signatures}
use Rattle.why_model.specs.Seen.{seen_from, seen_over}
use Rattle.why_text.proofs.seen.seen_over.Given as goal

abbrev pub invariant-loop-place : goal.invariant-loop-place
invariant-loop-place l = seen_from l.rows l.seen.items (drop l.place (signatures l.rows l.tasks)) ≡ seen_over l.rows l.tasks
