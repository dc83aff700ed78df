use Rattle.std.proofs.Common.{◌∙◌, ap, string_bytes}
use Rattle.std.specs.HashMap.{get_by_text}
use Rattle.std.proofs.lemmas.Map.Text.{hash_map_updates_text}
use Rattle.task_graph.specs.Only.{with_number}
use Rattle.task_graph.proofs.Kept.{noted}
use Rattle.task_graph.proofs.only.note.Goals as goal

pub returns : goal.returns
returns c =
    let sets = hash_map_updates_text (string_bytes c.in_ok-from_str.field-0) c.args.map.now c.insert.new.self _ c.in_ok-insert.ensures.updates in
    noted c.args.name.now (get_by_text c.args.map.now) (get_by_text c.insert.new.self) c.with_number-next.result c.args.number (rw c.in_ok-from_str.ensures.ok at sets)
    (c.with_number-next.ensures ∙ ap (λ o. with_number o c.args.number) (c.copied.ensures ∙ c.get.ensures.value))
