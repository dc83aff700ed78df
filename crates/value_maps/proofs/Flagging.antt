-- The names that have a flag.
use Rattle.std.proofs.Common.{◌≡◌, refl, sym, ◌∙◌, ap, ℕ, List, [], ◌∷◌, filter, Bool, true, false, not, ◌||◌, Option, Some, None, is_some, Result, Ok, Err, IfOk, OnOk, String, BTreeMap}
use Rattle.std.specs.Global.{Global}
use Rattle.std.specs.Option.{option_or}
use Rattle.std.specs.BTreeMap.{get_by_text, IsOrdered}
use Rattle.std.specs.String.{string_cmp}
use Rattle.meta_model.specs.declared.entry.EntryLine.{EntryLine}
use Rattle.meta_model.specs.Text.{is_in, is_empty}
use Rattle.meta_model.specs.Slot.{Slot, at_end, is_set}
use Rattle.meta_model.specs.Base.{value_slot, flag_slot, flag, flags_of, lates, names_in, is_left, names}
use Rattle.meta_model.proofs.Ordered.{ascending_same, ordered_ascending, ordered_in, filtered_in, filter_ascending}
use Rattle.value_maps.specs.declared.named.Named.{Named}
use Rattle.value_maps.specs.declared.maps.Maps.{Maps}
use Rattle.value_maps.specs.Maps.{named_at, base_of, under_named, Keeps}
use Rattle.value_maps.specs.Picked.{picked, passes}
use Rattle.value_maps.specs.Keys.{AreKeys}
use Rattle.value_maps.specs.Flagged.{has_flag, is_flagged}
use Rattle.value_maps.proofs.Naming.{in_flags, left_named}
use Rattle.value_maps.proofs.Picked.{picked_in}

-- the names of a map that have a flag

flag_passes : (f : List ℕ) (o : Option Named) → passes (has_flag f) o ≡ is_flagged f o
flag_passes f None = refl
flag_passes f (Some named) = refl

pub if_flagged : {E : Type 0} (f : List ℕ) (map : BTreeMap (String Global) Named) (r : Result (List (List ℕ)) E) → IfOk r (λ made. made ≡ picked (has_flag f) map.entries) → OnOk r (IsOrdered string_cmp map)
    → IfOk r (λ made. (t : List ℕ) → is_in t made ≡ is_flagged f (get_by_text map t))
if_flagged f map (Ok made) e ordered = λ t. ap (is_in t) e ∙ picked_in (has_flag f) map.entries t ordered ∙ flag_passes f (get_by_text map t)
if_flagged f map (Err fault) e ordered = tt

pub or_none : (b : Bool) → (b || false) ≡ b
or_none true = refl
or_none false = refl

-- one that has a flag is left

or_last : (a b : Bool) → b ≡ true → (a || b) ≡ true
or_last true b h = refl
or_last false b h = h

end_set : (s : Slot) → is_some (at_end s) ≡ true → is_set s ≡ true
end_set s h = at s.value s.weak h
  where
    at : (v w : Option (List ℕ)) → is_some (option_or v w) ≡ true → (is_some v || is_some w) ≡ true
    at None w h = h
    at (Some v) w h = refl

not_empty : (t : List ℕ) (xs : List (List ℕ)) → is_in t xs ≡ true → not (is_empty xs) ≡ true
not_empty t [] h = absurd cc
not_empty t (x ∷ xs) h = refl

flag_left : (list : List EntryLine) (t f : List ℕ) → is_some (flag list t f) ≡ true → is_left list t ≡ true
flag_left list t f h =
    or_last (is_set (value_slot list t)) (not (is_empty (lates list t)) || not (is_empty (flags_of list t)))
    (or_last (not (is_empty (lates list t))) (not (is_empty (flags_of list t))) (not_empty f (flags_of list t) (in_flags list t f ∙ end_set (flag_slot list t f) h)))

flag_named : (list : List EntryLine) (t f : List ℕ) → is_some (flag list t f) ≡ true → is_in t (names list) ≡ true
flag_named list t f h =
    ordered_in (filter (is_left list) (names_in list)) t ∙ filtered_in (is_left list) (names_in list) t (left_named list t) ∙ flag_left list t f h

-- a store's own name, or else the shared one, has the flag

either_flagged : (f : List ℕ) (a b : Option Named) → is_flagged f (option_or a b) ≡ true → (is_flagged f b || is_flagged f a) ≡ true
either_flagged f None b h = rw h refl
either_flagged f (Some a) b h = or_last (is_flagged f b) (is_flagged f (Some a)) h

-- and no other name
pub if_flagged_are : {E : Type 0} (list : List EntryLine) (f : List ℕ) (r : Result (List (List ℕ)) E) → IfOk r (λ made. made ≡ filter (λ t. is_some (flag list t f)) (names list)) → IfOk r (λ made. (t : List ℕ) → is_in t made ≡ is_some (flag list t f))
if_flagged_are list f (Ok made) e = λ t. ap (is_in t) e ∙ filtered_in (λ t. is_some (flag list t f)) (names list) t (flag_named list t f)
if_flagged_are list f (Err fault) e = tt

pub flagged_are : (list : List EntryLine) (maps : Maps) (f : List ℕ) (keys : List (List ℕ)) → Keeps list maps → AreKeys keys (λ t. is_flagged f (under_named (base_of maps) t) || is_flagged f (get_by_text maps.named t))
    → filter (λ t. is_flagged f (named_at maps t)) keys ≡ filter (λ t. is_some (flag list t f)) (names list)
flagged_are list maps f keys keeps all =
    let kept = λ (t : List ℕ). is_flagged f (named_at maps t) in
    let told = λ (t : List ℕ). is_some (flag list t f) in
    ascending_same (filter kept keys) (filter told (names list)) (filter_ascending kept keys all.ordered)
    (filter_ascending told (names list) (ordered_ascending (filter (is_left list) (names_in list))))
    (λ t. filtered_in kept keys t (λ h. all.are t ∙ either_flagged f (get_by_text maps.named t) (under_named (base_of maps) t) h)
    ∙ ap (λ s. is_some (at_end s)) (keeps.flags t f) ∙ sym (filtered_in told (names list) t (flag_named list t f)))
