use Rattle.std.proofs.Common.{arith, refl}
use Rattle.store_opening.specs.Named.{IsName}
use Rattle.store_opening.proofs.Clean.{hash_is_name}
use Rattle.store_opening.proofs.Written.{object_paths_clean, object_paths_short}
use Rattle.sstate_mirror.proofs.objects.put_short.Goals as goal

pub put_object-requires-clause-clean : goal.put_object-requires-clause-clean
put_object-requires-clause-clean g c =
    let is : IsName c.args.to.now = hash_is_name c.args.to.now (record { size = c.known.ensures.size; bytes = c.known.ensures.bytes }) in
    object_paths_clean c.args.tree.now c.entries-entries.ensures.tree (c.if-not-is_short.ensures.0 refl) c.args.to.now is

pub put_object-requires-clause-within_reach : goal.put_object-requires-clause-within_reach
put_object-requires-clause-within_reach g c k d lt =
    let is : IsName c.args.to.now = hash_is_name c.args.to.now (record { size = c.known.ensures.size; bytes = c.known.ensures.bytes }) in
    let short = object_paths_short c.args.tree.now c.entries-entries.ensures.tree (c.if-not-is_short.ensures.0 refl) c.args.to.now is k d lt in
    let reach = c.requires in
    omega (arith, short, reach)
