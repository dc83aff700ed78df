use Rattle.std.proofs.Common.{◌≡◌, ◌+◌, ◌*◌, drop}
use Rattle.meta_model.specs.Parts.{end, depth}
use Rattle.meta_model.specs.Expansion.{values_by}
use Rattle.var_expand.specs.Pieces.{part_before, parts_in, parts_in_list}
use Rattle.meta_model.specs.References.{noted}
use Rattle.var_expand.proofs.names.+noting.Given as goal

abbrev pub decreases-note_reference : goal.decreases-note_reference
decreases-note_reference g l = 3 * depth (parts_in l.name.now) + 2

abbrev pub decreases-note_part : goal.decreases-note_part
decreases-note_part g l = 3 * depth (part_before l.part.now end)

abbrev pub decreases-note_parts : goal.decreases-note_parts
decreases-note_parts g l = 3 * depth (parts_in l.parts.now) + 1

abbrev pub invariant-note_parts-loop-part : goal.invariant-note_parts-loop-part
invariant-note_parts-loop-part g l =
    noted (values_by (g.L.Lookup.finds l.from)) (parts_in l.parts) l.fn.names.items ≡ noted (values_by (g.L.Lookup.finds l.from)) (parts_in_list (drop l.part-index l.part-items)) l.names.items
