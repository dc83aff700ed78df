use Rattle.std.proofs.Common.{◌≡◌, ℕ, List, Some, bytes_eq}
use Rattle.std.specs.BTreeMap.{get_by_text}
use Rattle.std.specs.Map.{update}
use Rattle.std.proofs.lemmas.Result.{on_ok_weaker}
use Rattle.value_maps.proofs.Sets.{some_put}
use Rattle.value_maps.proofs.by_name.put_name.Goals as goal

pub returns : goal.returns
returns c =
    let m = get_by_text c.args.set.now in
    let n = get_by_text c.put_value.new.map in
    on_ok_weaker c.put_value.result (λ (u : (q : List ℕ) → n q ≡ update bytes_eq m c.args.name.now (Some tt) q). some_put m n c.args.name.now tt u) c.put_value.ensures.ok
