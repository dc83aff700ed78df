use Rattle.std.proofs.Common.{◌∙◌, ◌≤◌, sym, subst, List, ℕ, length, arith}
use Rattle.tree_model.specs.Path.{IsClean}
use Rattle.outside_traits.specs.Store.{IsFree}
use Rattle.store_opening.specs.Named.{IsName}
use Rattle.store_opening.proofs.Clean.{hash_is_name}
use Rattle.store_opening.proofs.Free.{free_record}
use Rattle.store_opening.proofs.Written.{record_clean, record_short}
use Rattle.store_upgrade.proofs.records.put_record.Goals as goal

pub put_staged-requires-clause-clean : goal.put_staged-requires-clause-clean
put_staged-requires-clause-clean g c =
    let is : IsName c.args.name.now = hash_is_name c.args.name.now (record { size = c.known.ensures.size; bytes = c.known.ensures.bytes }) in
    subst IsClean (sym (c.as_str-2.ensures ∙ c.in_ok-to.ensures)) (record_clean c.args.name.now is)

pub put_staged-requires-clause-within_reach : goal.put_staged-requires-clause-within_reach
put_staged-requires-clause-within_reach g c =
    let is : IsName c.args.name.now = hash_is_name c.args.name.now (record { size = c.known.ensures.size; bytes = c.known.ensures.bytes }) in
    let short = record_short c.args.name.now is in
    let reach = c.requires.reach in
    subst (λ (p : List ℕ). length p ≤ g.D.Disk.reach) (sym (c.as_str-2.ensures ∙ c.in_ok-to.ensures)) (omega (arith, short, reach))

pub put_staged-requires-clause-free : goal.put_staged-requires-clause-free
put_staged-requires-clause-free g c told =
    let is : IsName c.args.name.now = hash_is_name c.args.name.now (record { size = c.known.ensures.size; bytes = c.known.ensures.bytes }) in
    subst (IsFree (g.D.Disk.story c.args.disk.now).held) (sym (c.as_str-2.ensures ∙ c.in_ok-to.ensures)) (free_record (g.D.Disk.story c.args.disk.now).held c.args.name.now is (c.requires.laid told))
