use Rattle.std.proofs.Common.{◌≡◌, ◌∙◌, sym, subst, List, ℕ, arith, length, ◌≤◌}
use Rattle.tree_model.specs.Path.{IsClean}
use Rattle.outside_traits.specs.Store.{IsFree}
use Rattle.outside_traits.proofs.Calls.{writes_passes}
use Rattle.store_model.specs.Paths.{key_path}
use Rattle.build_store.proofs.Written.{key_clean, key_short}
use Rattle.build_store.proofs.Free.{free_key}
use Rattle.build_store.proofs.keys.write_key.Goals as goal

pub write-requires-clause-clean : goal.write-requires-clause-clean
write-requires-clause-clean g c =
    let is : c.as_str.result.now ≡ key_path c.args.name.now = c.as_str.ensures ∙ c.in_ok-path.ensures in
    subst IsClean (sym is) (key_clean c.args.name.now c.requires.name)

pub write-requires-clause-within_reach : goal.write-requires-clause-within_reach
write-requires-clause-within_reach g c =
    let is : c.as_str.result.now ≡ key_path c.args.name.now = c.as_str.ensures ∙ c.in_ok-path.ensures in
    let short : length c.as_str.result.now ≤ 3600 = subst (λ (l : List ℕ). length l ≤ 3600) (sym is) (key_short c.args.name.now c.requires.name) in
    let reach = c.requires.reach in
    omega (arith, short, reach)

pub write-requires-clause-free : goal.write-requires-clause-free
write-requires-clause-free g c told =
    let is : c.as_str.result.now ≡ key_path c.args.name.now = c.as_str.ensures ∙ c.in_ok-path.ensures in
    subst (IsFree (g.D.Disk.story c.args.disk.now).held) (sym is) (free_key (g.D.Disk.story c.args.disk.now).held c.args.name.now c.requires.name (c.requires.laid_out told))

pub returns-clause-others : goal.returns-clause-others
returns-clause-others g c told =
    let is : c.as_str.result.now ≡ key_path c.args.name.now = c.as_str.ensures ∙ c.in_ok-path.ensures in
    rw is at (writes_passes (c.write.ensures.told told))
