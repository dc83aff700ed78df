use Rattle.std.proofs.Common.{◌∙◌, ◌≤◌, sym, subst, List, ℕ, length, arith}
use Rattle.std.proofs.lemmas.Result.{on_ok_weaker}
use Rattle.tree_model.specs.Path.{IsClean}
use Rattle.outside_traits.specs.Store.{IsFree}
use Rattle.store_opening.specs.Named.{IsName}
use Rattle.store_opening.proofs.Clean.{hash_is_name}
use Rattle.store_opening.proofs.Free.{free_staged_record}
use Rattle.store_opening.proofs.Written.{staged_clean, staged_short}
use Rattle.store_upgrade.proofs.Laid.{IsWell, laid_changed, well_staged_record}
use Rattle.store_upgrade.proofs.records.stage_record.Goals as goal

pub write-requires-clause-clean : goal.write-requires-clause-clean
write-requires-clause-clean g c =
    let is : IsName c.args.added.now.name = hash_is_name c.args.added.now.name (record { size = c.known.ensures.size; bytes = c.known.ensures.bytes }) in
    subst IsClean (sym (c.as_str.ensures ∙ c.in_ok-path.ensures)) (staged_clean c.args.added.now.name is)

pub write-requires-clause-within_reach : goal.write-requires-clause-within_reach
write-requires-clause-within_reach g c =
    let is : IsName c.args.added.now.name = hash_is_name c.args.added.now.name (record { size = c.known.ensures.size; bytes = c.known.ensures.bytes }) in
    let short = staged_short c.args.added.now.name is in
    let reach = c.requires.reach in
    subst (λ (p : List ℕ). length p ≤ g.D.Disk.reach) (sym (c.as_str.ensures ∙ c.in_ok-path.ensures)) (omega (arith, short, reach))

pub write-requires-clause-free : goal.write-requires-clause-free
write-requires-clause-free g c told =
    let is : IsName c.args.added.now.name = hash_is_name c.args.added.now.name (record { size = c.known.ensures.size; bytes = c.known.ensures.bytes }) in
    subst (IsFree (g.D.Disk.story c.args.disk.now).held) (sym (c.as_str.ensures ∙ c.in_ok-path.ensures)) (free_staged_record (g.D.Disk.story c.args.disk.now).held c.args.added.now.name is (c.requires.laid told))

pub returns-clause-laid : goal.returns-clause-laid
returns-clause-laid g c told =
    let is : IsName c.args.added.now.name = hash_is_name c.args.added.now.name (record { size = c.known.ensures.size; bytes = c.known.ensures.bytes }) in
    on_ok_weaker c.write.result
    (λ held. laid_changed (g.D.Disk.story c.args.disk.now).held (g.D.Disk.story c.write.new.disk).held c.as_str.result.now (subst IsWell (sym (c.as_str.ensures ∙ c.in_ok-path.ensures)) (well_staged_record c.args.added.now.name is)) (c.write.ensures.changes told).held (c.requires.laid told))
    (c.write.ensures.held told)
