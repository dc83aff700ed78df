use Rattle.std.proofs.Common.{◌+◌, sym, ◌∙◌, string_bytes, Some}
use Rattle.std.proofs.lemmas.Map.Text.{btree_map_updates_text}
use Rattle.var_expand.proofs.Growing.{put_at}
use Rattle.var_expand.proofs.going.keep.Goals as goal

pub returns : goal.returns
returns c =
    put_at c.args.values.now c.insert.new.self c.args.name.now c.args.value.now c.in_ok-value.value c.in-Some.most c.args.met c.in-Some.is
    (sym c.contains_key.ensures ∙ c.if-contains_key.false) c.in_ok-value.ensures
    (rw c.in_ok-from_str.ensures.ok at (btree_map_updates_text (string_bytes c.in_ok-from_str.field-0) c.args.values.now c.insert.new.self (Some (record { height = c.in-Some.most + 1; value = c.in_ok-value.value })) c.in_ok-insert.ensures.updates))
