-- What is told of a name.
use Rattle.std.proofs.Common.{◌≡◌, refl, sym, ◌∙◌, ap, ℕ, ◌+◌, ◌<◌, true, List, [], ◌∷◌, ◌++◌, length, get_or, take, flat_map, filter, Option, Some, None, bytes_eq, append_assoc, append-nil}
use Rattle.std.proofs.lemmas.List.{take_more}
use Rattle.std.proofs.lemmas.List.Concat.{flat_map-append}
use Rattle.std.specs.BTreeMap.{get_by_text, IsOrdered}
use Rattle.std.specs.String.{string_cmp}
use Rattle.meta_model.specs.declared.entry.EntryLine.{EntryLine}
use Rattle.meta_model.specs.Base.{value_slot, flag_slot, flag_in, flags_of}
use Rattle.meta_model.specs.Frozen.{Move, told_flag}
use Rattle.meta_model.specs.Text.{is_in}
use Rattle.meta_model.specs.Slot.{nothing, is_set}
use Rattle.meta_model.proofs.Bools.{not_both, or_first, or_later, text_itself}
use Rattle.meta_model.proofs.Winner.{filter_passes}
use Rattle.meta_model.proofs.Ordered.{ordered_in}
use Rattle.value_maps.specs.declared.kept.Kept.{Kept}
use Rattle.value_maps.specs.declared.named.Named.{Named}
use Rattle.value_maps.specs.declared.maps.Maps.{Maps}
use Rattle.value_maps.specs.Kept.{slot_of, flag_kept}
use Rattle.value_maps.specs.Named.{slot_at, flag_at}
use Rattle.value_maps.specs.Maps.{named_at, Keeps}
use Rattle.value_maps.specs.Picked.{picked}
use Rattle.value_maps.specs.Left.{kept_set}
use Rattle.value_maps.specs.Telling.{value_lines, flag_lines, flag_told, told_kept}
use Rattle.value_maps.proofs.Naming.{flags_are, no_flags_of}

-- one more of lists that are put together
pub flat_turn : {A B : Type 0} (f : A → List B) (xs : List A) (i : ℕ) (x : A) → x ≡ get_or xs i x → i < length xs → flat_map f (take i xs) ++ f x ≡ flat_map f (take (i + 1) xs)
flat_turn f xs i x is lt =
    sym (ap (flat_map f) (take_more xs i x lt) ∙ flat_map-append f (take i xs) (get_or xs i x ∷ []) ∙ ap (λ l. flat_map f (take i xs) ++ l) (append-nil (f (get_or xs i x))) ∙ ap (λ z. flat_map f (take i xs) ++ f z) (sym is))

-- flags that are told

flat_same : (f g : List ℕ → List EntryLine) (fs : List (List ℕ)) → ((t : List ℕ) → is_in t fs ≡ true → f t ≡ g t) → flat_map f fs ≡ flat_map g fs
flat_same f g [] h = refl
flat_same f g (x ∷ fs) h =
    ap (λ l. l ++ flat_map f fs) (h x (or_first (bytes_eq x x) (is_in x fs) (text_itself x)))
    ∙ ap (λ l. g x ++ l) (flat_same f g fs (λ t i. h t (or_later (bytes_eq t x) (is_in t fs) i)))

set_flag : (list : List EntryLine) (name f : List ℕ) → is_in f (flags_of list name) ≡ true → is_set (flag_slot list name f) ≡ true
set_flag list name f h =
    filter_passes (λ g. is_set (flag_slot list name g)) (flat_map (flag_in name) list) f (sym (ordered_in (filter (λ g. is_set (flag_slot list name g)) (flat_map (flag_in name) list)) f) ∙ h)

told_at : (list : List EntryLine) (source target f : List ℕ) (o : Option Kept) → flag_kept o ≡ flag_slot list source f → is_set (flag_slot list source f) ≡ true → flag_told target f o ≡ told_flag list (record { source = source; target = target }) f
told_at list source target f None e h = not_both (is_set (flag_slot list source f)) h (ap is_set (sym e))
told_at list source target f (Some kept) e h = ap (flag_lines target f) e

pub named_told : (list : List EntryLine) (maps : Maps) (source target : List ℕ) (named : Named) (old middle : List EntryLine) (fs : List (List ℕ)) → Keeps list maps → named_at maps source ≡ Some named → IsOrdered string_cmp named.flags
    → fs ≡ picked kept_set named.flags.entries → middle ≡ old ++ value_lines target (slot_of named.kept)
    → middle ++ flat_map (told_kept target named.flags) fs ≡ old ++ (value_lines target (value_slot list source) ++ flat_map (told_flag list (record { source = source; target = target })) (flags_of list source))
named_told list maps source target named old middle fs keeps found ordered e m =
    let move : Move = record { source = source; target = target } in
    let names : fs ≡ flags_of list source = e ∙ flags_are list maps source named keeps found ordered in
    ap (λ l. l ++ flat_map (told_kept target named.flags) fs) (m ∙ ap (λ s. old ++ value_lines target s) (ap slot_at (sym found) ∙ keeps.value source))
    ∙ ap (λ l. (old ++ value_lines target (value_slot list source)) ++ flat_map (told_kept target named.flags) l) names
    ∙ ap (λ l. (old ++ value_lines target (value_slot list source)) ++ l) (flat_same (told_kept target named.flags) (told_flag list move) (flags_of list source)
    (λ t i. told_at list source target t (get_by_text named.flags t) (ap (λ o. flag_at o t) (sym found) ∙ keeps.flags source t) (set_flag list source t i)))
    ∙ append_assoc old (value_lines target (value_slot list source)) (flat_map (told_flag list move) (flags_of list source))

pub none_told : (list : List EntryLine) (maps : Maps) (source target : List ℕ) (old : List EntryLine) → Keeps list maps → named_at maps source ≡ None
    → old ≡ old ++ (value_lines target (value_slot list source) ++ flat_map (told_flag list (record { source = source; target = target })) (flags_of list source))
none_told list maps source target old keeps found =
    let value : value_slot list source ≡ nothing = sym (keeps.value source) ∙ ap slot_at found in
    let none : flags_of list source ≡ [] = no_flags_of list maps source keeps found in
    rw (value, none) (sym (append-nil old))
