use Rattle.std.proofs.Common.{◌∙◌, ap, ◌||◌, is_some, string_bytes}
use Rattle.std.specs.BTreeMap.{get_by_text}
use Rattle.std.proofs.lemmas.Map.Text.{btree_map_updates_text}
use Rattle.value_maps.proofs.Sets.{some_put}
use Rattle.recipe_facts.proofs.Fronted.{turned}
use Rattle.recipe_set.proofs.dangling.put_stem.Goals as goal

pub returns : goal.returns
returns c =
    let u = btree_map_updates_text (string_bytes c.in_ok-from_str.field-0) c.args.set.now c.insert.new.self _ c.in_ok-insert.ensures.updates in
    λ t. some_put (get_by_text c.args.set.now) (get_by_text c.insert.new.self) c.args.stem.now tt (rw c.in_ok-from_str.ensures.ok at u) t ∙ ap (λ b. b || is_some (get_by_text c.args.set.now t)) (turned c.args.stem.now t)
