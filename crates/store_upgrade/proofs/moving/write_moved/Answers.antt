use Rattle.std.proofs.Common.{sym, subst, List, ℕ}
use Rattle.tree_model.specs.declared.hash.Hash.{Hash}
use Rattle.outside_traits.proofs.Runs.{passes_so}
use Rattle.store_upgrade.specs.Steps.{AreFolders, AreHeld, AreStagedStamps, AreStamped, HaveOneName}
use Rattle.store_upgrade.specs.Writes.{Writes}
use Rattle.store_upgrade.proofs.Stamped.{renewed_names}
use Rattle.store_upgrade.proofs.Whole.{copied_later, early_writes, on_both, prepared_keys, prepared_objects, prepared_writes, run_prepared}
use Rattle.store_upgrade.proofs.moving.write_moved.Goals as goal

pub returns-in_err-stamps-clause-images : goal.returns-in_err-stamps-clause-images
returns-in_err-stamps-clause-images g c told = passes_so (λ i k. Writes c.args.moved.now (g.D.Disk.story c.args.disk.now).held k) (c.in_err-stamps.ensures.early told) (λ i k e. early_writes c.args.moved.now (g.D.Disk.story c.args.disk.now).held k e)

pub put_prepared-requires-clause-folders : goal.put_prepared-requires-clause-folders
put_prepared-requires-clause-folders g c = subst AreFolders (sym c.deref.ensures.value) c.in_ok-stamps.ensures.folders

pub put_prepared-requires-clause-names : goal.put_prepared-requires-clause-names
put_prepared-requires-clause-names g c told = subst HaveOneName (sym c.deref.ensures.value) (renewed_names (g.D.Disk.story c.args.disk.now).held c.args.moved.now.records.items c.in_ok-stamps.stamps.items (c.in_ok-stamps.ensures.stamps told).renewed)

pub put_prepared-requires-clause-held : goal.put_prepared-requires-clause-held
put_prepared-requires-clause-held g c told = subst (λ (l : List (List ℕ × Hash)). AreHeld l (g.D.Disk.story c.prepare.new.disk).held) (sym c.deref.ensures.value) (c.in_ok-stamps.ensures.stamps told).held_still

pub put_prepared-requires-clause-staged : goal.put_prepared-requires-clause-staged
put_prepared-requires-clause-staged g c told = subst (λ (l : List (List ℕ × Hash)). AreStagedStamps l (g.D.Disk.story c.prepare.new.disk).held) (sym c.deref.ensures.value) (c.in_ok-stamps.ensures.stamps told).staged

pub returns-clause-images : goal.returns-clause-images
returns-clause-images g c told =
    run_prepared c.args.moved.now (g.D.Disk.story c.args.disk.now) (g.D.Disk.story c.prepare.new.disk) (g.D.Disk.story c.put_prepared.new.disk)
    (g.met.D.Disk.sound c.prepare.new.disk told) (c.in_ok-stamps.ensures.durable told) (c.in_ok-stamps.ensures.early told) (c.in_ok-stamps.ensures.staged told)
    (c.in_ok-stamps.ensures.keyed told) (c.put_prepared.ensures.puts told)

pub returns-clause-written : goal.returns-clause-written
returns-clause-written g c told =
    let early = (c.in_ok-stamps.ensures.early told).held in
    let staged = c.in_ok-stamps.ensures.staged told in
    let keyed = c.in_ok-stamps.ensures.keyed told in
    let puts = (c.put_prepared.ensures.puts told).held in
    let stamps = c.in_ok-stamps.ensures.stamps told in
    on_both c.put_prepared.result (c.put_prepared.ensures.done told) (c.put_prepared.ensures.put told) (c.put_prepared.ensures.stamped told)
    (λ done put stamped. record {
      writes = prepared_writes c.args.moved.now (g.D.Disk.story c.args.disk.now).held (g.D.Disk.story c.prepare.new.disk).held (g.D.Disk.story c.put_prepared.new.disk).held early staged keyed puts;
      done = done;
      put = λ names. put names (staged names);
      keyed = prepared_keys c.args.moved.now (g.D.Disk.story c.args.disk.now).held (g.D.Disk.story c.prepare.new.disk).held (g.D.Disk.story c.put_prepared.new.disk).held early staged keyed puts;
      objects =
          copied_later c.args.moved.now.rows c.args.moved.now.records.items (g.D.Disk.story c.args.disk.now).held (g.D.Disk.story c.prepare.new.disk).held
          (g.D.Disk.story c.put_prepared.new.disk).held
          (prepared_objects c.args.moved.now (g.D.Disk.story c.prepare.new.disk).held (g.D.Disk.story c.put_prepared.new.disk).held puts) (c.in_ok-stamps.ensures.objects told);
      stamps = λ folder name renewed. subst (λ (l : List (List ℕ × Hash)). AreStamped l (g.D.Disk.story c.put_prepared.new.disk).held) c.deref.ensures.value stamped folder name (stamps.renewed.whole folder name renewed);
    })
