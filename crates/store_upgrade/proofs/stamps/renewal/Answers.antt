use Rattle.std.proofs.Common.{◌≡◌, None, rules}
use Rattle.std.specs.Map.{lookup}
use Rattle.std.specs.Str.{bytes_eq}
use Rattle.store_upgrade.proofs.Stamped.{one_stamp_name}
use Rattle.store_upgrade.proofs.stamps.renewal.Goals as goal

pub returns-in-None-clause-none : goal.returns-in-None-clause-none
returns-in-None-clause-none c old name hash is found =
    let none : lookup (bytes_eq c.in_ok-old.old.bytes) c.args.names.now.entries ≡ None = search rules in
    one_stamp_name c.args.names.now.entries c.in_ok-old.old old name c.args.entry.now c.in_ok-old.ensures.some hash is none found
