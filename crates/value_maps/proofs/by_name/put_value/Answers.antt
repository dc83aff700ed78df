use Rattle.std.proofs.Common.{ap, Some, string_bytes}
use Rattle.std.specs.BTreeMap.{is_at}
use Rattle.std.specs.Map.{lookup}
use Rattle.std.proofs.lemmas.Map.Text.{btree_map_updates_text, text_cmp}
use Rattle.value_maps.proofs.Sets.{on_err}
use Rattle.value_maps.proofs.by_name.put_value.Goals as goal

pub returns-in_err-insert-clause-err : goal.returns-in_err-insert-clause-err
returns-in_err-insert-clause-err g c = on_err c.from_residual-in_err-insert.result (λ q. ap (lookup (is_at (text_cmp q))) c.in_err-insert.ensures.err)

pub returns-clause-ok : goal.returns-clause-ok
returns-clause-ok g c = rw c.in_ok-key.ensures.ok at (btree_map_updates_text (string_bytes c.in_ok-key.key) c.args.map.now c.insert.new.self (Some c.args.value) c.in_ok-insert.ensures.updates)
