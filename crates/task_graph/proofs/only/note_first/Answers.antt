use Rattle.std.proofs.Common.{◌∙◌, sym, string_bytes}
use Rattle.std.specs.HashMap.{get_by_text}
use Rattle.std.proofs.lemmas.Map.Text.{hash_map_updates_text}
use Rattle.task_graph.proofs.Kept.{noted_first}
use Rattle.task_graph.proofs.only.note_first.Goals as goal

pub returns-in_ok-insert-in-None : goal.returns-in_ok-insert-in-None
returns-in_ok-insert-in-None c =
    let sets = hash_map_updates_text (string_bytes c.in_ok-from_str-in-None.field-0) c.args.map.now c.insert.new.self _ c.in_ok-insert-in-None.ensures.updates in
    noted_first c.args.name.now (get_by_text c.args.map.now) (get_by_text c.insert.new.self) c.args.place (rw c.in_ok-from_str-in-None.ensures.ok at sets) (sym (c.copied.ensures ∙ c.get.ensures.value) ∙ c.in-None.is)
