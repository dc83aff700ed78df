-- What a store says of its entries.
use Rattle.std.proofs.Common.{◌≡◌, ◌∙◌, sym, ap, append_assoc, fold, List, [], ◌∷◌, ◌++◌}
use Rattle.std.specs.Global.{Vec}
use Rattle.meta_model.specs.declared.entry.EntryLine.{EntryLine}
use Rattle.value_maps.specs.declared.maps.Maps.{Maps}
use Rattle.value_maps.specs.Maps.{base_of, under_entries}
use Rattle.datastore.specs.Parts.{moved_with}
use Rattle.datastore.specs.Store.{all_entries}

-- one more entry of a store's own
pub entries_step : (old new : Maps) (past : List (Vec EntryLine)) (own middle more : List EntryLine) (line : EntryLine) → base_of new ≡ base_of old → middle ≡ own → more ≡ middle ++ line ∷ [] → all_entries old past own ++ line ∷ [] ≡ all_entries new past more
entries_step old new past own middle more line same e h =
    append_assoc (fold moved_with (under_entries (base_of old)) past) own (line ∷ []) ∙ ap (λ l. fold moved_with (under_entries (base_of old)) past ++ l) (ap (λ l. l ++ line ∷ []) (sym e) ∙ sym h) ∙ ap (λ b. fold moved_with (under_entries b) past ++ more) (sym same)
