use Rattle.std.proofs.Common.{◌≡◌, ◌≤◌, ◌+◌, ◌*◌, length, drop}
use Rattle.meta_model.specs.Parts.{end, depth}
use Rattle.meta_model.specs.Expansion.{longest, expanded_parts}
use Rattle.var_expand.specs.Pieces.{part_before, parts_in, parts_in_list}
use Rattle.var_expand.specs.Expanding.{known, last_name, removed}
use Rattle.var_expand.specs.Going.{AllTelling, Grew}
use Rattle.var_expand.proofs.Expanding.{finish, gather}
use Rattle.var_expand.proofs.expansion.+expansion.Given as goal

abbrev pub decreases-value_within : goal.decreases-value_within
decreases-value_within g l = 1000 * l.left

abbrev pub decreases-words_there : goal.decreases-words_there
decreases-words_there g l = 1000 * l.left + 1

abbrev pub decreases-expand_form : goal.decreases-expand_form
decreases-expand_form g l = 1000 * l.left + 2

abbrev pub decreases-expand_reference : goal.decreases-expand_reference
decreases-expand_reference g l = 1000 * l.left + 10 * depth (parts_in l.name.now) + 8

abbrev pub decreases-expand_part : goal.decreases-expand_part
decreases-expand_part g l = 1000 * l.left + 10 * depth (part_before l.part.now end) + 3

abbrev pub decreases-expand_parts : goal.decreases-expand_parts
decreases-expand_parts g l = 1000 * l.left + 10 * depth (parts_in l.parts.now) + 5

abbrev pub decreases-expand_text : goal.decreases-expand_text
decreases-expand_text g l = 1000 * l.left + 700

abbrev pub decreases-removed_words : goal.decreases-removed_words
decreases-removed_words g l = 1000 * l.left + 750

abbrev pub decreases-expand_owned : goal.decreases-expand_owned
decreases-expand_owned g l = 1000 * l.left + 800

abbrev pub decreases-expand_value : goal.decreases-expand_value
decreases-expand_value g l = 1000 * l.left + 900

abbrev pub invariant-expand_parts-loop-part : goal.invariant-expand_parts-loop-part
invariant-expand_parts-loop-part g l =
    (length l.out ≤ longest) × (l.going.within.items ≡ l.fn.going.within.items)
    × (expanded_parts (known (g.L.Lookup.finds l.from) l.left l.fn.going.within.items) (last_name l.fn.going.within.items) (parts_in l.parts) longest ≡ finish (known (g.L.Lookup.finds l.from) l.left l.fn.going.within.items) (last_name l.fn.going.within.items) l.out (parts_in_list (drop l.part-index l.part-items)))
    × Grew (g.L.Lookup.finds l.from) l.left l.fn.going l.going
    × AllTelling (g.L.Lookup.finds l.from) l.going (λ values. expanded_parts values (last_name l.fn.going.within.items) (parts_in l.parts) longest ≡ finish values (last_name l.fn.going.within.items) l.out (parts_in_list (drop l.part-index l.part-items)))

abbrev pub invariant-removed_words-loop-remove : goal.invariant-removed_words-loop-remove
invariant-removed_words-loop-remove g l =
    (l.going.within.items ≡ l.fn.going.within.items)
    × (removed (known (g.L.Lookup.finds l.from) l.left l.fn.going.within.items) (last_name l.fn.going.within.items) l.removes ≡ gather (known (g.L.Lookup.finds l.from) l.left l.fn.going.within.items) (last_name l.fn.going.within.items) l.words (drop l.remove-index l.removes))
    × Grew (g.L.Lookup.finds l.from) l.left l.fn.going l.going
    × AllTelling (g.L.Lookup.finds l.from) l.going (λ values. removed values (last_name l.fn.going.within.items) l.removes ≡ gather values (last_name l.fn.going.within.items) l.words (drop l.remove-index l.removes))
