use Rattle.std.proofs.Common.{◌≡◌, ◌++◌, length}
use denote.Text.{Utf8}
use denote.Shadow.{shadow}
use Rattle.meta_model.specs.Quoting.{escaped}
use Rattle.meta_model.proofs.quoting.push_escaped.Given as goal

-- what is put so far, and the rest as it stands between double quotes
abbrev pub invariant-loop-place : goal.invariant-loop-place
invariant-loop-place l = shadow (Utf8 l.rest) × (l.out ++ escaped l.quoting l.rest ≡ l.fn.out ++ escaped l.quoting l.value)

abbrev pub decreases-loop-place : goal.decreases-loop-place
decreases-loop-place l = length l.rest
