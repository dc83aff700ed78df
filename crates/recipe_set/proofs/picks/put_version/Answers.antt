use Rattle.std.proofs.Common.{◌≡◌, ◌∙◌, ap, sym, false, is_some, string_bytes}
use Rattle.std.specs.BTreeMap.{get_by_text}
use Rattle.std.proofs.lemmas.Map.Text.{btree_map_updates_text}
use Rattle.recipe_set.proofs.Picking.{version_stays, version_put}
use Rattle.recipe_set.proofs.picks.put_version.Goals as goal

pub returns-then-contains_key : goal.returns-then-contains_key
returns-then-contains_key c = λ t.
    version_stays (get_by_text c.args.map.now) c.args.pair.now.0 c.args.pair.now.1 t (ap (λ k. is_some (get_by_text c.args.map.now k)) (sym c.as_str.ensures) ∙ sym c.contains_key.ensures ∙ c.if-contains_key.true)

pub returns : goal.returns
returns c = λ t.
    let m = c.args.map.now in
    let key = c.in_ok-from_str.ensures.ok ∙ c.as_str-2.ensures in
    let away : is_some (get_by_text m c.args.pair.now.0) ≡ false = ap (λ k. is_some (get_by_text m k)) (sym c.as_str.ensures) ∙ sym c.contains_key.ensures ∙ c.if-contains_key.false in
    let u = btree_map_updates_text (string_bytes c.in_ok-from_str.field-0) m c.insert.new.self _ c.in_ok-insert.ensures.updates in
    version_put (get_by_text m) (get_by_text c.insert.new.self) c.args.pair.now.0 c.args.pair.now.1 c.in_ok-copy.field-0 away (rw key at u) c.in_ok-copy.ensures t
