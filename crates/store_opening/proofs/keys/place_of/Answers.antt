use Rattle.std.proofs.Common.{◌≡◌, Some, rules}
use Rattle.std.specs.Map.{lookup}
use Rattle.std.specs.Str.{bytes_eq}
use Rattle.store_opening.proofs.Keyed.{key_below}
use Rattle.store_opening.proofs.keys.place_of.Goals as goal

pub returns-in-Some-clause-within : goal.returns-in-Some-clause-within
returns-in-Some-clause-within c =
    let found : lookup (bytes_eq c.args.name.now.bytes) c.args.table.now.entries ≡ Some c.in-Some.place.now = search rules in
    key_below c.args.files.now c.args.table.now.entries c.args.name.now c.in-Some.place.now c.requires found
