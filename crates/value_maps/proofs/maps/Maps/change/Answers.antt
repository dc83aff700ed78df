use Rattle.std.proofs.Common.{◌≡◌, refl, ◌∙◌, sym, Some}
use Rattle.std.specs.BTreeMap.{get_by_text}
use Rattle.std.proofs.lemmas.Map.Text.{btree_map_updates_text}
use Rattle.std.proofs.lemmas.Result.{on_ok_weaker, on_err_weaker}
use Rattle.value_maps.proofs.Steps.{goes_on, stays_so}
use Rattle.value_maps.proofs.maps.Maps.change.Goals as goal

pub returns-in-Some-get_mut-clause-ok : goal.returns-in-Some-get_mut-clause-ok
returns-in-Some-get_mut-clause-ok c =
    let m = c.args.self.now.named in
    let w = c.change.new.self in
    let n = c.get_mut.follows.lender w in
    let k = c.in-Some.name.now in
    let found : get_by_text m k ≡ Some c.in-Some-get_mut.named.now = sym c.get_mut.ensures.value ∙ rw c.in-Some-get_mut.is in
    let u = btree_map_updates_text k m n (Some w) ((c.get_mut.follows.holds w).3 (rw found refl)) in
    on_ok_weaker c.change.result (goes_on c.args.self.now n k c.in-Some-get_mut.named.now w c.args.line.now c.in-Some.ensures found u) c.change.ensures.ok

pub returns-in-Some-get_mut-clause-err : goal.returns-in-Some-get_mut-clause-err
returns-in-Some-get_mut-clause-err c =
    let m = c.args.self.now.named in
    let w = c.change.new.self in
    let n = c.get_mut.follows.lender w in
    let k = c.in-Some.name.now in
    let found : get_by_text m k ≡ Some c.in-Some-get_mut.named.now = sym c.get_mut.ensures.value ∙ rw c.in-Some-get_mut.is in
    let u = btree_map_updates_text k m n (Some w) ((c.get_mut.follows.holds w).3 (rw found refl)) in
    on_err_weaker c.change.result (stays_so c.args.self.now n k c.in-Some-get_mut.named.now w found u) c.change.ensures.err
