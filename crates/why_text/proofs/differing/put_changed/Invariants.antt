use Rattle.std.proofs.Common.{◌≡◌, ◌++◌, filter, map, not, take}
use Rattle.std.specs.List.{list_any}
use Rattle.why_text.proofs.differing.put_changed.Given as goal

abbrev pub invariant-loop-place : goal.invariant-loop-place
invariant-loop-place g l = l.made ≡ l.fn.made ++ map g.P.Part.told (filter (λ x. not (list_any (g.P.Part.same x) l.was)) (take l.place l.now))
