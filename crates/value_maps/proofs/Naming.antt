-- The names and flags that entries leave.
use Rattle.std.proofs.Common.{◌≡◌, refl, sym, ◌∙◌, ap, subst, ℕ, List, [], ◌∷◌, ◌++◌, map, filter, flat_map, take, get_or, length, ◌<◌, ◌+◌, if◌then◌else◌, Bool, true, false, not, ◌||◌, ◌&&◌, Option, Some, None, is_some, Result, Ok, Err, IfOk, OnOk, inl, inr, bytes_eq, codes, String, BTreeMap}
use Rattle.std.specs.Global.{Global}
use Rattle.std.specs.Option.{option_or}
use Rattle.std.specs.List.{list_any}
use Rattle.std.proofs.lemmas.List.{take_more}
use Rattle.std.proofs.lemmas.List.Elements.{filter-append}
use Rattle.std.specs.BTreeMap.{get_by_text, IsOrdered}
use Rattle.std.specs.String.{string_cmp}
use Rattle.meta_model.proofs.Bools.{not_both, either_way, or_left, or_right, differs}
use Rattle.meta_model.proofs.Winner.{value_unnamed, lates_unnamed}
use Rattle.meta_model.specs.declared.entry.EntryLine.{EntryLine}
use Rattle.meta_model.specs.declared.entry.EntryLine.TheVariants.{Set, Later, Flag, Unset, UnsetFlag, Exported, Task, NoTask}
use Rattle.meta_model.specs.Text.{is_in, is_empty, in_byte_order}
use Rattle.meta_model.specs.Slot.{Slot, nothing, is_set}
use Rattle.meta_model.specs.Base.{may_export, value_after, value_slot, flag_from, flag_slot, lates, flag_in, flags_of, names_in, is_left, names}
use Rattle.value_maps.specs.declared.kept.Kept.{Kept}
use Rattle.value_maps.specs.declared.named.Named.{Named}
use Rattle.value_maps.specs.declared.maps.Maps.{Maps}
use Rattle.value_maps.specs.Kept.{slot_of, flag_kept}
use Rattle.value_maps.specs.Named.{slot_at, lates_at, flag_at}
use Rattle.value_maps.specs.Maps.{named_at, Keeps}
use Rattle.value_maps.specs.Picked.{picked, passes}
use Rattle.value_maps.specs.Left.{kept_set, named_left}
use Rattle.meta_model.specs.Ascending.{Ascending}
use Rattle.value_maps.specs.Keys.{AreKeys}
use Rattle.meta_model.proofs.Ordered.{ordered_in, ordered_is, filtered_in, filter_ascending}
use Rattle.value_maps.proofs.Picked.{picked_is, picked_in, picked_ascending}

-- a flag that no entry gives is nothing

flag_unnamed : (list : List EntryLine) (name f : List ℕ) (value : Slot) → is_in f (flat_map (flag_in name) list) ≡ false → flag_from name f value nothing list ≡ nothing
flag_unnamed [] name f value h = refl
flag_unnamed (Set n op text ∷ rest) name f value h = flag_unnamed rest name f (value_after name value (Set n op text)) h
flag_unnamed (Later n kind when text ∷ rest) name f value h = flag_unnamed rest name f value h
flag_unnamed (Flag n g op text ∷ rest) name f value h = elim (either_way (bytes_eq n name)) [
  | inl t ↦
      let k : is_in f (g ∷ flat_map (flag_in name) rest) ≡ false = rw t at h in
      rw (t, differs f g (or_left (bytes_eq f g) (is_in f (flat_map (flag_in name) rest)) k)) (flag_unnamed rest name f value (or_right (bytes_eq f g) (is_in f (flat_map (flag_in name) rest)) k))
  | inr t ↦ let k : is_in f (flat_map (flag_in name) rest) ≡ false = rw t at h in rw t (flag_unnamed rest name f value k)
]
flag_unnamed (Unset n ∷ rest) name f value h = elim (either_way (bytes_eq n name)) [
  | inl t ↦ rw t (flag_unnamed rest name f nothing h)
  | inr t ↦ rw t (flag_unnamed rest name f value h)
]
flag_unnamed (UnsetFlag n g ∷ rest) name f value h = elim (either_way (bytes_eq n name && bytes_eq g f)) [
  | inl t ↦ rw t (flag_unnamed rest name f value h)
  | inr t ↦ rw t (flag_unnamed rest name f value h)
]
flag_unnamed (Exported class n ∷ rest) name f value h = elim (either_way (bytes_eq n name)) [
  | inl t ↦
      let k : is_in f (codes "func" ∷ flat_map (flag_in name) rest) ≡ false = rw t at h in
      elim (either_way (may_export value)) [
        | inl m ↦ rw (t, m, or_left (bytes_eq f (codes "func")) (is_in f (flat_map (flag_in name) rest)) k)
            (flag_unnamed rest name f _ (or_right (bytes_eq f (codes "func")) (is_in f (flat_map (flag_in name) rest)) k))
        | inr m ↦ rw (t, m) (flag_unnamed rest name f _ (or_right (bytes_eq f (codes "func")) (is_in f (flat_map (flag_in name) rest)) k))
      ]
  | inr t ↦ let k : is_in f (flat_map (flag_in name) rest) ≡ false = rw t at h in rw t (flag_unnamed rest name f value k)
]
flag_unnamed (Task t after before ∷ rest) name f value h = flag_unnamed rest name f value h
flag_unnamed (NoTask t ∷ rest) name f value h = flag_unnamed rest name f value h

flag_named : (list : List EntryLine) (name f : List ℕ) → is_set (flag_slot list name f) ≡ true → is_in f (flat_map (flag_in name) list) ≡ true
flag_named list name f h = elim (either_way (is_in f (flat_map (flag_in name) list))) [
  | inl t ↦ t
  | inr e ↦ not_both (is_set (flag_slot list name f)) h (ap is_set (flag_unnamed list name f nothing e))
]

-- the flags of a name are those that are set
pub in_flags : (list : List EntryLine) (name f : List ℕ) → is_in f (flags_of list name) ≡ is_set (flag_slot list name f)
in_flags list name f =
    ordered_in (filter (λ g. is_set (flag_slot list name g)) (flat_map (flag_in name) list)) f
    ∙ filtered_in (λ g. is_set (flag_slot list name g)) (flat_map (flag_in name) list) f (λ h. flag_named list name f h)

-- the flags of a name that no entry names

no_flags : (list : List EntryLine) (name : List ℕ) → is_in name (names_in list) ≡ false → flat_map (flag_in name) list ≡ []
no_flags [] name h = refl
no_flags (Set n op text ∷ rest) name h = no_flags rest name (or_right (bytes_eq name n) (is_in name (names_in rest)) h)
no_flags (Later n kind when text ∷ rest) name h = no_flags rest name (or_right (bytes_eq name n) (is_in name (names_in rest)) h)
no_flags (Flag n f op text ∷ rest) name h = rw (differs name n (or_left (bytes_eq name n) (is_in name (names_in rest)) h)) (no_flags rest name (or_right (bytes_eq name n) (is_in name (names_in rest)) h))
no_flags (Unset n ∷ rest) name h = no_flags rest name h
no_flags (UnsetFlag n f ∷ rest) name h = no_flags rest name h
no_flags (Exported class n ∷ rest) name h = rw (differs name n (or_left (bytes_eq name n) (is_in name (names_in rest)) h)) (no_flags rest name (or_right (bytes_eq name n) (is_in name (names_in rest)) h))
no_flags (Task t after before ∷ rest) name h = no_flags rest name h
no_flags (NoTask t ∷ rest) name h = no_flags rest name h

unnamed_gone : (list : List EntryLine) (name : List ℕ) → is_in name (names_in list) ≡ false → is_left list name ≡ false
unnamed_gone list name h =
    rw (value_unnamed list name h, lates_unnamed list name h) (ap (λ fs. not (is_empty (in_byte_order (filter (λ f. is_set (flag_slot list name f)) fs)))) (no_flags list name h))

pub left_named : (list : List EntryLine) (name : List ℕ) → is_left list name ≡ true → is_in name (names_in list) ≡ true
left_named list name h = elim (either_way (is_in name (names_in list))) [
  | inl t ↦ t
  | inr e ↦ not_both (is_left list name) h (unnamed_gone list name e)
]

-- the flags that are kept

kept_passes : (o : Option Kept) → passes kept_set o ≡ is_set (flag_kept o)
kept_passes None = refl
kept_passes (Some kept) = refl

pub flags_are : (list : List EntryLine) (maps : Maps) (name : List ℕ) (named : Named) → Keeps list maps → named_at maps name ≡ Some named → IsOrdered string_cmp named.flags → picked kept_set named.flags.entries ≡ flags_of list name
flags_are list maps name named keeps found ordered =
    picked_is named.flags kept_set (λ f. is_set (flag_slot list name f)) (flat_map (flag_in name) list) ordered
    (λ f. kept_passes (get_by_text named.flags f) ∙ ap (λ o. is_set (flag_at o f)) (sym found) ∙ ap is_set (keeps.flags name f))
    (λ f. flag_named list name f)

any_picked : (es : List (String Global × Kept)) → list_any kept_set (map (λ e. e.1) es) ≡ not (is_empty (picked kept_set es))
any_picked [] = refl
any_picked (e ∷ es) = elim (either_way (kept_set e.1)) [
  | inl t ↦ rw t refl
  | inr t ↦ rw t (any_picked es)
]

-- what is left of a name

pub left_is : (list : List EntryLine) (maps : Maps) (name : List ℕ) (named : Named) → Keeps list maps → named_at maps name ≡ Some named → IsOrdered string_cmp named.flags → named_left named ≡ is_left list name
left_is list maps name named keeps found ordered =
    ap (λ b. is_set (slot_of named.kept) || (not (is_empty named.lates.items) || b)) (any_picked named.flags.entries ∙ ap (λ fs. not (is_empty fs)) (flags_are list maps name named keeps found ordered))
    ∙ ap (λ s. is_set s || (not (is_empty named.lates.items) || not (is_empty (flags_of list name)))) (ap slot_at (sym found) ∙ keeps.value name)
    ∙ ap (λ l. is_set (value_slot list name) || (not (is_empty l) || not (is_empty (flags_of list name)))) (ap lates_at (sym found) ∙ keeps.late name)

none_set : (list : List EntryLine) (maps : Maps) (name : List ℕ) → Keeps list maps → named_at maps name ≡ None → (f : List ℕ) → is_set (flag_slot list name f) ≡ false
none_set list maps name keeps found f = ap is_set (sym (keeps.flags name f) ∙ ap (λ o. flag_at o f) found)

filter_none : (test : List ℕ → Bool) (xs : List (List ℕ)) → ((f : List ℕ) → test f ≡ false) → filter test xs ≡ []
filter_none test [] h = refl
filter_none test (x ∷ xs) h = rw (h x) (filter_none test xs h)

pub no_flags_of : (list : List EntryLine) (maps : Maps) (name : List ℕ) → Keeps list maps → named_at maps name ≡ None → flags_of list name ≡ []
no_flags_of list maps name keeps found = ap in_byte_order (filter_none (λ f. is_set (flag_slot list name f)) (flat_map (flag_in name) list) (none_set list maps name keeps found))

pub none_left : (list : List EntryLine) (maps : Maps) (name : List ℕ) → Keeps list maps → named_at maps name ≡ None → is_left list name ≡ false
none_left list maps name keeps found =
    ap (λ s. is_set s || (not (is_empty (lates list name)) || not (is_empty (flags_of list name)))) (sym (keeps.value name) ∙ ap slot_at found)
    ∙ ap (λ l. not (is_empty l) || not (is_empty (flags_of list name))) (sym (keeps.late name) ∙ ap lates_at found)
    ∙ ap (λ fs. not (is_empty fs)) (no_flags_of list maps name keeps found)

-- the names

some_passes : {V : Type 0} (o : Option V) → passes (λ there. true) o ≡ is_some o
some_passes None = refl
some_passes (Some v) = refl

-- the names of a map
pub keys_are : {V : Type 0} (map : BTreeMap (String Global) V) (made : List (List ℕ)) → made ≡ picked (λ there. true) map.entries → IsOrdered string_cmp map → AreKeys made (λ name. is_some (get_by_text map name))
keys_are map made e ordered = record {
  ordered = subst Ascending (sym e) (picked_ascending (λ there. true) map.entries ordered);
  are = λ name. ap (is_in name) e ∙ picked_in (λ there. true) map.entries name ordered ∙ some_passes (get_by_text map name);
}

pub if_keys : {V E : Type 0} (map : BTreeMap (String Global) V) (r : Result (List (List ℕ)) E) → IfOk r (λ made. made ≡ picked (λ there. true) map.entries) → OnOk r (IsOrdered string_cmp map)
    → IfOk r (λ made. AreKeys made (λ name. is_some (get_by_text map name)))
if_keys map (Ok made) e ordered = keys_are map made e ordered
if_keys map (Err fault) e ordered = tt

pub left_kept : (list : List EntryLine) (maps : Maps) (name : List ℕ) → Keeps list maps → is_left list name ≡ true → is_some (named_at maps name) ≡ true
left_kept list maps name keeps h = at (named_at maps name) refl
  where
    at : (o : Option Named) → named_at maps name ≡ o → is_some o ≡ true
    at None e = not_both (is_left list name) h (none_left list maps name keeps e)
    at (Some named) e = refl

pub names_are : (list : List EntryLine) (maps : Maps) (keys : List (List ℕ)) → Keeps list maps → AreKeys keys (λ name. is_some (named_at maps name)) → filter (is_left list) keys ≡ names list
names_are list maps keys keeps all =
    let there : (t : List ℕ) → is_left list t ≡ true → is_in t keys ≡ true = λ t h. all.are t ∙ left_kept list maps t keeps h in
    ordered_is (is_left list) (names_in list) (filter (is_left list) keys) (filter_ascending (is_left list) keys all.ordered) (λ t. filtered_in (is_left list) keys t (there t)) (λ t. left_named list t)

-- names in byte order that pass another test
pub same_keys : (names : List (List ℕ)) (f g : List ℕ → Bool) → ((t : List ℕ) → f t ≡ g t) → AreKeys names f → AreKeys names g
same_keys names f g same all = record { ordered = all.ordered; are = λ name. all.are name ∙ same name }

pub if_same_keys : {E : Type 0} (r : Result (List (List ℕ)) E) (f g : List ℕ → Bool) → ((t : List ℕ) → f t ≡ g t) → IfOk r (λ made. AreKeys made f) → IfOk r (λ made. AreKeys made g)
if_same_keys (Ok made) f g same all = same_keys made f g same all
if_same_keys (Err fault) f g same all = tt

pub turned_or : (a b : Bool) → (a || (b || false)) ≡ (b || a)
turned_or true true = refl
turned_or true false = refl
turned_or false true = refl
turned_or false false = refl

pub either_some : {A : Type 0} (a b : Option A) → (is_some b || (is_some a || false)) ≡ is_some (option_or a b)
either_some None None = refl
either_some None (Some b) = refl
either_some (Some a) None = refl
either_some (Some a) (Some b) = refl

-- one more text that is filtered
pub filter_turn : (test : List ℕ → Bool) (xs : List (List ℕ)) (i : ℕ) (x : List ℕ) → x ≡ get_or xs i x → i < length xs → filter test (take i xs) ++ (if test x then x ∷ [] else []) ≡ filter test (take (i + 1) xs)
filter_turn test xs i x is lt =
    sym (ap (filter test) (take_more xs i x lt) ∙ filter-append test (take i xs) (get_or xs i x ∷ []) ∙ ap (λ z. filter test (take i xs) ++ (if test z then z ∷ [] else [])) (sym is))
