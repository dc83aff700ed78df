use Rattle.std.proofs.Common.{◌≡◌, take, map}
use Rattle.std.specs.List.{fold}
use Rattle.multi_config.specs.Names.{config_of, with_named}
use Rattle.multi_config.proofs.parts.put_all_named.Given as goal

abbrev pub invariant-loop-place : goal.invariant-loop-place
invariant-loop-place l = l.names.items ≡ fold with_named l.fn.first.items (map config_of (take l.place-index l.places))
