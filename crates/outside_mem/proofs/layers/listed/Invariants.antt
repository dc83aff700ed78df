use Rattle.std.proofs.Common.{◌≡◌, map}
use Rattle.std.specs.String.{string_bytes}
use Rattle.outside_mem.proofs.Listing.{picked}
use Rattle.outside_mem.proofs.layers.listed.Given as goal

abbrev pub invariant-loop-path : goal.invariant-loop-path
invariant-loop-path l = l.found ≡ picked l.prefix (map (λ x. string_bytes x.0.now) l.yielded)
