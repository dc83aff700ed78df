-- What the maps keep, entry by entry.
use Rattle.std.proofs.Common.{◌≡◌, refl, sym, ◌∙◌, ap, subst, Option, Some, None, Bool, true, false, not, List, [], ◌∷◌, ◌++◌}
use Rattle.meta_model.proofs.Steps.{value_slot-push, flag_slot-push, lates-push}
use Rattle.meta_model.specs.declared.entry.EntryLine.{EntryLine}
use Rattle.meta_model.specs.Base.{value_slot, value_after, flag_after, lates_after}
use Rattle.value_maps.specs.declared.maps.Maps.{Maps}
use Rattle.std.specs.Option.{option_or}
use Rattle.value_maps.specs.Named.{flag_at}
use Rattle.value_maps.specs.Maps.{Goes, Keeps, KeepsBase, named_at}

-- one more entry
pub keeps_step : (list : List EntryLine) (old new : Maps) (line : EntryLine) → Keeps list old → Goes old new line → Keeps (list ++ line ∷ []) new
keeps_step list old new line k g = record {
  shared = subst KeepsBase (sym g.same) k.shared;
  value = λ name. (g.steps name).value ∙ ap (λ s. value_after name s line) (k.value name) ∙ sym (value_slot-push list line name);
  late = λ name. (g.steps name).late ∙ ap (λ l. lates_after name l line) (k.late name) ∙ sym (lates-push list line name);
  flags = λ name flag. (g.steps name).flags flag ∙ ap (λ s. flag_after name flag s (flag_at (named_at old name) flag) line) (k.value name)
      ∙ ap (λ s. flag_after name flag (value_slot list name) s line) (k.flags name flag) ∙ sym (flag_slot-push list line name flag);
  forms = g.forms k.forms;
}

-- a store of the shared entries alone

or_none : {A : Type 0} (o : Option A) → option_or o None ≡ o
or_none None = refl
or_none (Some a) = refl

not_false : (b : Bool) → not b ≡ false → b ≡ true
not_false true h = refl
not_false false h = absurd cc
