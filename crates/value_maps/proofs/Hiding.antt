-- Names that are told again where names are moved, and those that stay as they are.
use Rattle.std.proofs.Common.{◌≡◌, refl, sym, ◌∙◌, ap, ℕ, Bool, true, false, not, ◌||◌, ◌&&◌, ◌⊎◌, inl, inr, List, filter, Option, Some, None, is_some, BTreeMap, String}
use Rattle.std.specs.Global.{Global}
use Rattle.std.specs.BTreeMap.{get_by_text}
use Rattle.std.specs.Option.{option_or}
use Rattle.std.specs.List.{list_all}
use Rattle.meta_model.proofs.Bools.{and_left, and_right, or_left, or_right, or_first, or_later}
use Rattle.meta_model.proofs.Ordered.{filtered_in}
use Rattle.meta_model.specs.declared.entry.EntryLine.{EntryLine}
use Rattle.meta_model.specs.Text.{is_in}
use Rattle.meta_model.specs.Frozen.{holds_reference}
use Rattle.value_maps.specs.declared.maps.Maps.{Maps}
use Rattle.value_maps.specs.declared.named.Named.{Named}
use Rattle.value_maps.specs.Named.{slot_at, lates_at, IsAlike}
use Rattle.value_maps.specs.Plain.{is_plain_late, is_plain}
use Rattle.value_maps.specs.Hidden.{AreEmpty}
use Rattle.value_maps.specs.Keys.{AreKeys}
use Rattle.value_maps.specs.Maps.{named_at, base_of, under_named, under_special, is_anew, Keeps, IsHidden}

-- names that have to be told again

-- a name that has to be told again is kept
pub special_there : (n : List ℕ) (o : Option Named) → not (is_plain n o) ≡ true → is_some o ≡ true
special_there n None h = absurd cc
special_there n (Some named) h = refl

pub special_are : (named : List ℕ → Option Named) (keys made : List (List ℕ)) → AreKeys keys (λ n. is_some (named n)) → made ≡ filter (λ n. not (is_plain n (named n))) keys → (n : List ℕ) → is_in n made ≡ not (is_plain n (named n))
special_are named keys made all e n = ap (is_in n) e ∙ filtered_in (λ m. not (is_plain m (named m))) keys n (λ h. all.are n ∙ special_there n (named n) h)

-- a name that isn't told again

not_true : (b : Bool) → not b ≡ true → b ≡ false
not_true true e = absurd cc
not_true false e = refl

pub unmarked : (n : List ℕ) (o : Option Named) → is_plain n o ≡ true → (slot_at o).exported ≡ false
unmarked n None h = refl
unmarked n (Some named) h =
    let rest = and_right (not (holds_reference n)) (not named.kept.exported && list_all is_plain_late named.lates.items) h in
    not_true named.kept.exported (and_left (not named.kept.exported) (list_all is_plain_late named.lates.items) rest)

pub plain_lates_at : (n : List ℕ) (o : Option Named) → is_plain n o ≡ true → list_all is_plain_late (lates_at o) ≡ true
plain_lates_at n None h = refl
plain_lates_at n (Some named) h =
    let rest = and_right (not (holds_reference n)) (not named.kept.exported && list_all is_plain_late named.lates.items) h in
    and_right (not named.kept.exported) (list_all is_plain_late named.lates.items) rest

pub no_reference : (n : List ℕ) (o : Option Named) → is_some o ≡ true → is_plain n o ≡ true → holds_reference n ≡ false
no_reference n None s h = absurd cc
no_reference n (Some named) s h = not_true (holds_reference n) (and_left (not (holds_reference n)) (not named.kept.exported && list_all is_plain_late named.lates.items) h)

plain_not : (b : Bool) → not b ≡ false → b ≡ true
plain_not true e = refl
plain_not false e = absurd cc

plain_at : (n : List ℕ) (own under : Option Named) → is_plain n own ≡ true → is_plain n under ≡ true → is_plain n (option_or own under) ≡ true
plain_at n None under h u = u
plain_at n (Some named) under h u = h

pub plain_of : (list : List EntryLine) (maps : Maps) (n : List ℕ) → Keeps list maps → is_anew maps n ≡ false → is_plain n (named_at maps n) ≡ true
plain_of list maps n k h =
    let own = is_plain n (get_by_text maps.named n) in
    let special = is_in n (under_special (base_of maps)) in
    plain_at n (get_by_text maps.named n) (under_named (base_of maps) n) (plain_not own (or_left (not own) special h)) (k.shared.plain n (or_right (not own) special h))

pub or_turned : (a b : Bool) → (a || b) ≡ (b || a)
or_turned true true = refl
or_turned true false = refl
or_turned false true = refl
or_turned false false = refl

-- a name that is told again

or_some : {A : Type 0} (a b : Option A) → (is_some a || is_some b) ≡ is_some (option_or a b)
or_some None b = refl
or_some (Some a) b = refl

left_kept_of : (a b : Bool) → (a || b) ≡ true → (a ≡ true) ⊎ (b ≡ true)
left_kept_of true b h = inl refl
left_kept_of false b h = inr h

-- it is kept
pub anew_kept : (list : List EntryLine) (maps : Maps) → Keeps list maps → (n : List ℕ) → is_anew maps n ≡ true → is_some (named_at maps n) ≡ true
anew_kept list maps k n h =
    let own = get_by_text maps.named n in
    let under = under_named (base_of maps) n in
    sym (or_some own under) ∙ (elim (left_kept_of (not (is_plain n own)) (is_in n (under_special (base_of maps))) h) [
      | inl o ↦ or_first (is_some own) (is_some under) (special_there n own o)
      | inr i ↦ or_later (is_some own) (is_some under) (k.shared.there n i)
    ])

-- maps in which nothing is kept of some names
pub hidden_is : (maps : Maps) (named : BTreeMap (String Global) Named) (names : List (List ℕ)) → AreEmpty (get_by_text maps.named) (get_by_text named) names → IsHidden maps (record maps { named = named }) names
hidden_is maps named names empty = record {
  same = refl;
  noted = λ n. refl;
  none = λ n h. at n (get_by_text named n) (empty.there n h) (empty.none n h);
  others = λ n h. ap (λ o. option_or o (under_named (base_of maps) n)) (empty.others n h);
}
  where
    at : (n : List ℕ) (o : Option Named) → is_some o ≡ true → IsAlike None o → IsAlike None (option_or o (under_named (base_of maps) n))
    at n None s e = absurd cc
    at n (Some kept) s e = e
