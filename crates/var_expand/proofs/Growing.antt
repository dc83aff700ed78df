-- Laws of what is known while texts are expanded.
use Rattle.std.proofs.Common.{◌≡◌, refl, sym, ◌∙◌, ap, subst, arith, ℕ, zero, ◌+◌, ◌-◌, ◌<◌, ◌≤◌, nat_le, max, Bool, true, false, not, ◌&&◌, inl, inr, List, [], ◌∷◌, ◌++◌, length, Option, Some, None, Result, Ok, Err, codes, bytes_eq, cond, String, BTreeMap, OnOk}
use Rattle.std.specs.Global.{Global}
use Rattle.std.specs.Prelude.{is_some}
use Rattle.std.specs.Option.{option_map, option_or}
use Rattle.std.specs.BTreeMap.{get_by_text}
use Rattle.std.specs.Map.{update}
use Rattle.std.proofs.lemmas.Bool.{lt-ltb, le-leb, leb-true, true≢false}
use Rattle.meta_model.proofs.Bools.{not_both, either_way, and_left, and_right, both, from_or, or_later, same_text, text_itself}
use Rattle.meta_model.specs.declared.value.Resolved.{Resolved}
use Rattle.meta_model.specs.Refusal.{Refusal, value_cycle, too_long, require, ◌>>=◌}
use Rattle.meta_model.specs.Text.{holds, is_empty, is_in}
use Rattle.meta_model.specs.Expansion.{Find, Values, longest, expanded_value}
use Rattle.var_expand.specs.declared.going.Known.{Known}
use Rattle.var_expand.specs.declared.going.Going.{Going}
use Rattle.var_expand.specs.declared.parts.Part.{Part}
use Rattle.var_expand.specs.Expanding.{grown, innermost_first, known, last_name, part_text}
use Rattle.var_expand.specs.declared.going.AtHand.TheVariants.{Deeper}
use Rattle.var_expand.specs.Going.{AllTelling, Grew, IsAtHand, IsBeyond, IsGoing, IsLeft, IsLow, IsPut, IsPutAt, Tells, has_no_more, higher, if_fits, joined, kept_in, kept_of, leaf_of, table_of}
use Rattle.var_expand.specs.ValueTable.{Kept, IsTable, IsRight, below, told_below}
use Rattle.var_expand.specs.declared.fault.ExpandFault.{ExpandFault}
use Rattle.var_expand.specs.Faults.{IsFaultOf}
use Rattle.var_expand.proofs.Expanding.{onto_more, in_names, last_is, known_none, known_found, plain_ok, plain_long, value_alone, value_fault, fault_on, fault_same, put_ok}
use Rattle.var_expand.proofs.Table.{told_value}
use Rattle.var_expand.proofs.Wider.{Wider, present_wider, value_wider}

-- Growing

pub grew_itself : (find : Find) (left : ℕ) (a : Going) → IsGoing find left a → Grew find left a a
grew_itself find left a going = record { right = going.right; apart = going.apart; kept = λ name kept is. is; within = λ name there. refl; low = going.low; tells = λ values tells. tells }

pub grew_on : (find : Find) (left : ℕ) (a b c : Going) → b.within.items ≡ a.within.items → Grew find left a b → Grew find left b c → Grew find left a c
grew_on find left a b c same first second = record {
  right = second.right;
  apart = second.apart;
  kept = λ name kept is. second.kept name kept (first.kept name kept is);
  within = λ name there. second.within name (subst (λ names. is_in name (innermost_first names) ≡ true) (sym same) there) ∙ first.within name there;
  low = second.low;
  tells = λ values tells. first.tells values (second.tells values tells);
}

-- What is known

-- a value that is kept is known
pub kept_known : (find : Find) (values : BTreeMap (String Global) Known) (name : List ℕ) (kept : Kept) → kept_in values name ≡ Some kept → table_of find values name ≡ Some kept
unfolding table_of
kept_known find values name kept is = ap (λ o. option_or o (leaf_of (find.at name))) is

-- so is what needn't be kept, where nothing is
pub leaf_known : (find : Find) (values : BTreeMap (String Global) Known) (name : List ℕ) (kept : Kept) → ((name : List ℕ) (kept : Kept) → kept_in values name ≡ Some kept → leaf_of (find.at name) ≡ None) → leaf_of (find.at name) ≡ Some kept → table_of find values name ≡ Some kept
unfolding table_of
leaf_known find values name kept apart is = by (kept_in values name) refl
  where
    by : (found : Option Kept) → kept_in values name ≡ found → option_or (kept_in values name) (leaf_of (find.at name)) ≡ Some kept
    by None e = ap (λ o. option_or o (leaf_of (find.at name))) e ∙ is
    by (Some other) e = absurd (let no : None ≡ Some kept = sym (apart name other e) ∙ is in cc)

-- the value that is known where there is room for it
pub told_known : (find : Find) (left : ℕ) (a : Going) (name : List ℕ) (kept : Kept) → IsGoing find left a → table_of find a.values name ≡ Some kept → kept.height ≤ left → (known find left a.within.items).at name ≡ Ok kept.value
unfolding known
told_known find left a name kept going is low =
    told_value find (table_of find a.values) going.right left (innermost_first a.within.items) name kept is low
    (λ other k there e. let above = going.clear other there k e in omega (arith, above, low))

-- The height that is met

higher_tells : (find : Find) (a b : Going) (height : ℕ) → b.values ≡ a.values → b.height ≡ higher a.height height → (values : Values) → Tells (table_of find b.values) b.height values → Tells (table_of find a.values) a.height values
higher_tells find a b height same is values tells = by a.height refl
  where
    by : (met : Option ℕ) → a.height ≡ met → Tells (table_of find a.values) met values
    by None e = subst (λ h. Tells (table_of find b.values) h values) (is ∙ ap (λ h. higher h height) e) tells
    by (Some most) e = λ name kept k low.
        let t : Tells (table_of find b.values) (Some (max most height)) values = subst (λ h. Tells (table_of find b.values) h values) (is ∙ ap (λ h. higher h height) e) tells in
        t name kept (ap (λ v. table_of find v name) same ∙ k) (omega (arith, low))

higher_low : (left : ℕ) (met : Option ℕ) (height : ℕ) → IsLow left met → height ≤ left → IsLow left (higher met height)
higher_low left None height low le = tt
higher_low left (Some most) height low le = omega (arith, low, le)

-- more was met, and nothing else changed
pub grew_higher : (find : Find) (left : ℕ) (a b : Going) (height : ℕ) → b.values ≡ a.values → b.height ≡ higher a.height height → IsGoing find left a → height ≤ left → Grew find left a b
grew_higher find left a b height same is going le = record {
  right = subst (λ v. IsTable find (table_of find v)) (sym same) going.right;
  apart = subst (λ v. (name : List ℕ) (kept : Kept) → kept_in v name ≡ Some kept → leaf_of (find.at name) ≡ None) (sym same) going.apart;
  kept = λ name kept k. ap (λ v. table_of find v name) same ∙ k;
  within = λ name there. ap (λ v. table_of find v name) same;
  low = subst (IsLow left) (sym is) (higher_low left a.height height going.low le);
  tells = higher_tells find a b height same is;
}

-- what is known up to the height that is met is told
pub higher_told : (find : Find) (a b : Going) (kept : Kept) (name : List ℕ) → b.height ≡ higher a.height kept.height → table_of find b.values name ≡ Some kept → AllTelling find b (λ values. values.at name ≡ Ok kept.value)
higher_told find a b kept name is there values same tells = by a.height refl
  where
    by : (met : Option ℕ) → a.height ≡ met → values.at name ≡ Ok kept.value
    by None e = absurd (subst (λ h. Tells (table_of find b.values) h values) (is ∙ ap (λ h. higher h kept.height) e) tells)
    by (Some most) e =
        let t : Tells (table_of find b.values) (Some (max most kept.height)) values = subst (λ h. Tells (table_of find b.values) h values) (is ∙ ap (λ h. higher h kept.height) e) tells in
        t name kept there (omega arith)

-- what is no higher than anything
pub lowest_told : (find : Find) (a : Going) (kept : Kept) (name : List ℕ) → kept.height ≡ 0 → table_of find a.values name ≡ Some kept → AllTelling find a (λ values. values.at name ≡ Ok kept.value)
lowest_told find a kept name none there values same tells = by a.height refl
  where
    by : (met : Option ℕ) → a.height ≡ met → values.at name ≡ Ok kept.value
    by None e = absurd (subst (λ h. Tells (table_of find a.values) h values) e tells)
    by (Some most) e = let t : Tells (table_of find a.values) (Some most) values = subst (λ h. Tells (table_of find a.values) h values) e tells in t name kept there (omega (arith, none))

-- Leaves

-- Entering and leaving a name

no_leaf : (found : Resolved) → has_no_more found ≡ false → leaf_of (Ok (Some found)) ≡ None
no_leaf found more = ap (λ b. if_fits found (b && nat_le (length found.text) longest)) more

-- what is known of a name that meets others is kept
only_kept : (find : Find) (values : BTreeMap (String Global) Known) (name : List ℕ) (o : Option Kept) → leaf_of (find.at name) ≡ None → table_of find values name ≡ o → kept_in values name ≡ o
unfolding table_of
only_kept find values name o leaf is = or_none (kept_in values name) ∙ ap (option_or (kept_in values name)) (sym leaf) ∙ is
  where
    or_none : (k : Option Kept) → k ≡ option_or k None
    or_none None = refl
    or_none (Some kept) = refl

same_known : (find : Find) (values other : BTreeMap (String Global) Known) (name : List ℕ) → kept_in values name ≡ kept_in other name → table_of find values name ≡ table_of find other name
unfolding table_of
same_known find values other name e = ap (λ o. option_or o (leaf_of (find.at name))) e

-- a name that stands behind those in expansion may be kept where it is too high
pub entered : (find : Find) (left : ℕ) (a b : Going) (name : List ℕ) (found : Resolved) → IsGoing find left a → find.at name ≡ Ok (Some found) → has_no_more found ≡ false → IsBeyond (kept_in a.values) left name
    → b.within.items ≡ a.within.items ++ name ∷ [] → b.values ≡ a.values → b.height ≡ Some 0 → IsGoing find (left - 1) b
entered find left a b name found going is more beyond names values height = record {
  right = subst (λ v. IsTable find (table_of find v)) (sym values) going.right;
  apart = subst (λ v. (name : List ℕ) (kept : Kept) → kept_in v name ≡ Some kept → leaf_of (find.at name) ≡ None) (sym values) going.apart;
  clear = λ other there kept known.
      let known' : table_of find a.values other ≡ Some kept = ap (λ v. table_of find v other) (sym values) ∙ known in
      let all : is_in other (name ∷ innermost_first a.within.items) ≡ true = subst (λ l. is_in other l ≡ true) (ap innermost_first names ∙ onto_more [] a.within.items name) there in
      elim (either_way (bytes_eq other name)) [
        | inl same ↦
            let e = same_text other name same in
            let leaf : leaf_of (find.at other) ≡ None = ap (λ n. leaf_of (find.at n)) e ∙ ap leaf_of is ∙ no_leaf found more in
            let above = beyond kept (ap (kept_in a.values) (sym e) ∙ only_kept find a.values other (Some kept) leaf known') in omega (arith, above)
        | inr apart ↦ let above = going.clear other (from_or (bytes_eq other name) (is_in other (innermost_first a.within.items)) all apart) kept known' in omega (arith, above)
      ];
  low = subst (IsLow (left - 1)) (sym height) (omega arith);
}

-- the table with one name more
module _ (find : Find) (old new : BTreeMap (String Global) Known) (name value : List ℕ) (met : Option ℕ) (height : ℕ) (found : Resolved) (put : IsPutAt old new name met value height) (is : find.at name ≡ Ok (Some found)) (more : has_no_more found ≡ false) where
  leafless : leaf_of (find.at name) ≡ None
  leafless = ap leaf_of is ∙ no_leaf found more

  unknown : table_of find old name ≡ None
  unknown = none (table_of find old name) refl
    where
      none : (o : Option Kept) → table_of find old name ≡ o → table_of find old name ≡ None
      none None e = e
      none (Some kept) e = absurd (let no : None ≡ Some kept = sym put.absent ∙ only_kept find old name (Some kept) leafless e in cc)

  abbrev pub own_kept : Kept
  own_kept = record { height = height; value = Some value }

  here : kept_in new name ≡ Some own_kept
  here = put.put name ∙ ap (λ b. cond b (Some own_kept) (kept_in old name)) (text_itself name)

  pub now_known : table_of find new name ≡ Some own_kept
  now_known = kept_known find new name own_kept here

  away : (other : List ℕ) → bytes_eq other name ≡ false → kept_in new other ≡ kept_in old other
  away other apart = put.put other ∙ ap (λ b. cond b (Some own_kept) (kept_in old other)) (turned apart)
    where
      turned : bytes_eq other name ≡ false → bytes_eq name other ≡ false
      turned e = elim (either_way (bytes_eq name other)) [
        | inl same ↦ absurd (not_both (bytes_eq other name) (subst (λ n. bytes_eq n name ≡ true) (same_text name other same) (text_itself name)) e)
        | inr differ ↦ differ
      ]

  still : (other : List ℕ) → bytes_eq other name ≡ false → table_of find new other ≡ table_of find old other
  still other apart = same_known find new old other (away other apart)

  -- what was known is another name
  other_name : (other : List ℕ) (kept : Kept) → table_of find old other ≡ Some kept → bytes_eq other name ≡ false
  other_name other kept known = elim (either_way (bytes_eq other name)) [
    | inl same ↦ absurd (let no : Some kept ≡ None = sym known ∙ ap (table_of find old) (same_text other name same) ∙ unknown in cc)
    | inr apart ↦ apart
  ]

  pub kept_still : (other : List ℕ) (kept : Kept) → table_of find old other ≡ Some kept → table_of find new other ≡ Some kept
  kept_still other kept known = still other (other_name other kept known) ∙ known

  below_at : (h : ℕ) (other : List ℕ) (a : Option (List ℕ)) → (below find.known (table_of find old) h).at other ≡ Ok a → (below find.known (table_of find new) h).at other ≡ Ok a
  below_at h other a told = by (table_of find old other) refl
    where
      by : (o : Option Kept) → table_of find old other ≡ o → (below find.known (table_of find new) h).at other ≡ Ok a
      by None e = absurd (let no : told_below other h None ≡ Ok a = ap (told_below other h) (sym e) ∙ told in cc)
      by (Some kept) e = ap (told_below other h) (kept_still other kept e ∙ sym e) ∙ told

  below_more : (h : ℕ) → Wider (below find.known (table_of find old) h) (below find.known (table_of find new) h)
  below_more h = record { known = refl; at = λ other a told. below_at h other a told }

  right_still : (other : List ℕ) (kept : Kept) → IsRight find (table_of find old) other kept → IsRight find (table_of find new) other kept
  right_still other kept right = record {
    found = right.found;
    found_is = right.found_is;
    value_is = present_wider (expanded_value (below find.known (table_of find old) kept.height) other) (expanded_value (below find.known (table_of find new) kept.height) other)
        (λ r t e. value_wider (below find.known (table_of find old) kept.height) (below find.known (table_of find new) kept.height) (below_more kept.height) other r t e) right.found kept.value right.value_is;
    none = right.none;
  }

  -- lower names are told below the height of the name
  lower_told : Tells (table_of find old) met (below find.known (table_of find new) height)
  lower_told = subst (λ m. Tells (table_of find old) m (below find.known (table_of find new) height)) (sym put.met_is) (λ other kept known low.
      ap (told_below other height) (kept_still other kept known)
      ∙ told_lower other kept height (let h = put.height_is in omega (arith, low, h)))
    where
      told_lower : (other : List ℕ) (kept : Kept) (h : ℕ) → kept.height < h → told_below other h (Some kept) ≡ Ok kept.value
      told_lower other kept h lt = ap (λ b. elim b as (λ _. Result (Option (List ℕ)) Refusal) [ true ↦ Ok kept.value | false ↦ Err (value_cycle other) ]) (lt-ltb kept.height h lt)

  own_right : ((values : Values) → values.known ≡ find.known → Tells (table_of find old) met values → expanded_value values name found ≡ Ok value) → IsRight find (table_of find new) name own_kept
  own_right told = record {
    found = Some found;
    found_is = is;
    value_is = ap (λ m. m >>= (λ text. Ok (Some text))) (told (below find.known (table_of find new) height) refl lower_told);
    none = λ zero. absurd (let h = put.height_is in omega (arith, zero, h));
  }

  pub put_right : IsTable find (table_of find old) → ((values : Values) → values.known ≡ find.known → Tells (table_of find old) met values → expanded_value values name found ≡ Ok value) → IsTable find (table_of find new)
  put_right right told other kept known = elim (either_way (bytes_eq other name)) [
    | inl same ↦
        let e = same_text other name same in
        let k : own_kept ≡ kept = let two : Some own_kept ≡ Some kept = sym now_known ∙ ap (table_of find new) (sym e) ∙ known in cc in
        subst (λ n. IsRight find (table_of find new) n kept) (sym e) (subst (IsRight find (table_of find new) name) k (own_right told))
    | inr apart ↦ right_still other kept (right other kept (sym (still other apart) ∙ known))
  ]

  pub put_apart : ((other : List ℕ) (kept : Kept) → kept_in old other ≡ Some kept → leaf_of (find.at other) ≡ None) → (other : List ℕ) (kept : Kept) → kept_in new other ≡ Some kept → leaf_of (find.at other) ≡ None
  put_apart before other kept there = elim (either_way (bytes_eq other name)) [
    | inl same ↦ ap (λ n. leaf_of (find.at n)) (same_text other name same) ∙ leafless
    | inr apart ↦ before other kept (sym (away other apart) ∙ there)
  ]

-- a name in expansion is another than a fresh one
fresh_apart : (names : List (List ℕ)) (name other : List ℕ) → is_in name names ≡ false → is_in other (innermost_first names) ≡ true → bytes_eq other name ≡ false
fresh_apart names name other fresh there = elim (either_way (bytes_eq other name)) [
  | inl same ↦ absurd (not_both (is_in name names) (sym (in_names name names) ∙ subst (λ n. is_in n (innermost_first names) ≡ true) (same_text other name same) there) fresh)
  | inr apart ↦ apart
]

-- what a name in expansion met counts for it alone, and its value, once it is kept, for those before
module _ (find : Find) (left : ℕ) (a b m c : Going) (name value : List ℕ) (found : Resolved) (going : IsGoing find left a) (is : find.at name ≡ Ok (Some found)) (more : has_no_more found ≡ false) (fresh : is_in name a.within.items ≡ false) (room : 1 ≤ left)
    (names : b.within.items ≡ a.within.items ++ name ∷ []) (values : b.values ≡ a.values) (grew : Grew find (left - 1) b m) (told : AllTelling find m (λ v. expanded_value v name found ≡ Ok value)) where
  before : (other : List ℕ) → is_in other (innermost_first a.within.items) ≡ true → table_of find m.values other ≡ table_of find a.values other
  before other there =
      grew.within other (subst (λ l. is_in other l ≡ true) (sym (ap innermost_first names ∙ onto_more [] a.within.items name)) (or_later (bytes_eq other name) (is_in other (innermost_first a.within.items)) there))
      ∙ ap (λ v. table_of find v other) values

  kept_on : (other : List ℕ) (kept : Kept) → table_of find a.values other ≡ Some kept → table_of find m.values other ≡ Some kept
  kept_on other kept known = grew.kept other kept (ap (λ v. table_of find v other) values ∙ known)

  pub left_unkept : c.values ≡ m.values → c.height ≡ joined a.height None → Grew find left a c
  left_unkept same height = record {
    right = subst (λ v. IsTable find (table_of find v)) (sym same) grew.right;
    apart = subst (λ v. (name : List ℕ) (kept : Kept) → kept_in v name ≡ Some kept → leaf_of (find.at name) ≡ None) (sym same) grew.apart;
    kept = λ other kept known. ap (λ v. table_of find v other) same ∙ kept_on other kept known;
    within = λ other there. ap (λ v. table_of find v other) same ∙ before other there;
    low = subst (IsLow left) (sym height) tt;
    tells = λ v tells. absurd (subst (λ h. Tells (table_of find c.values) h v) height tells);
  }

  pub left_kept : (own : ℕ) → IsPutAt m.values c.values name m.height value own → c.height ≡ joined a.height (Some own) → Grew find left a c
  left_kept own put height = record {
    right = put_right find m.values c.values name value m.height own found put is more grew.right told;
    apart = put_apart find m.values c.values name value m.height own found put is more grew.apart;
    kept = λ other kept known. kept_still find m.values c.values name value m.height own found put is more other kept (kept_on other kept known);
    within = λ other there. still find m.values c.values name value m.height own found put is more other (fresh_apart a.within.items name other fresh there) ∙ before other there;
    low = subst (IsLow left) (sym height) (higher_low left a.height own going.low own_low);
    tells = λ v tells. before_tells v (subst (λ h. Tells (table_of find c.values) h v) height tells) a.height refl;
  }
    where
      own_low : own ≤ left
      own_low = let l : put.most ≤ left - 1 = subst (IsLow (left - 1)) put.met_is grew.low in let h = put.height_is in omega (arith, l, h, room)

      before_tells : (v : Values) → Tells (table_of find c.values) (higher a.height own) v → (met : Option ℕ) → a.height ≡ met → Tells (table_of find a.values) a.height v
      before_tells v tells None e = absurd (subst (λ h. Tells (table_of find c.values) (higher h own) v) e tells)
      before_tells v tells (Some most) e = subst (λ h. Tells (table_of find a.values) h v) (sym e) (λ other kept known low.
          (let t : Tells (table_of find c.values) (Some (max most own)) v = subst (λ h. Tells (table_of find c.values) (higher h own) v) e tells in
          t other kept (kept_still find m.values c.values name value m.height own found put is more other kept (kept_on other kept known)) (omega (arith, low))))

  pub left_grew : IsLeft m c a.height name value → Grew find left a c
  left_grew gone = by gone.own gone.put gone.height
    where
      by : (own : Option ℕ) → IsPut m.values c.values name m.height value own → c.height ≡ joined a.height own → Grew find left a c
      by None same height = left_unkept same height
      by (Some own) put height = left_kept own put height

  pub left_told : IsLeft m c a.height name value → AllTelling find c (λ v. v.at name ≡ Ok (Some value))
  left_told gone v telling tells = by gone.own gone.put gone.height
    where
      by : (own : Option ℕ) → IsPut m.values c.values name m.height value own → c.height ≡ joined a.height own → v.at name ≡ Ok (Some value)
      by None same height = absurd (subst (λ h. Tells (table_of find c.values) h v) height tells)
      by (Some own) put height = higher_told find a c (record { height = own; value = Some value }) name height (now_known find m.values c.values name value m.height own found put is more) v telling tells

-- A value at hand

-- it is kept
pub kept_at_hand : (find : Find) (left : ℕ) (a b : Going) (name : List ℕ) (kept : Kept) → IsGoing find left a → kept_in a.values name ≡ Some kept → kept.height ≤ left → b.values ≡ a.values → b.height ≡ higher a.height kept.height
    → ((known find left a.within.items).at name ≡ Ok kept.value) × Grew find left a b × AllTelling find b (λ v. v.at name ≡ Ok kept.value)
kept_at_hand find left a b name kept going is low values height =
    let there = kept_known find a.values name kept is in (
      told_known find left a name kept going there low,
      grew_higher find left a b kept.height values height going low,
      higher_told find a b kept name height (ap (λ v. table_of find v name) values ∙ there),
    )

-- there is none
pub none_at_hand : (find : Find) (left : ℕ) (a : Going) (name : List ℕ) → IsGoing find left a → find.at name ≡ Ok None → is_in name a.within.items ≡ false
    → ((known find left a.within.items).at name ≡ Ok None) × Grew find left a a × AllTelling find a (λ v. v.at name ≡ Ok None)
none_at_hand find left a name going is fresh =
    let kept : Kept = record { height = 0; value = None } in (
      known_none find left a.within.items name fresh is,
      grew_itself find left a going,
      lowest_told find a kept name refl (leaf_known find a.values name kept going.apart (ap leaf_of is)),
    )

no_text : (b : Bool) → not b ≡ true → b ≡ false
no_text true e = sym e
no_text false e = refl

nothing : {A : Type 0} (xs : List A) → is_empty xs ≡ true → xs ≡ []
nothing [] e = refl
nothing (x ∷ xs) e = absurd (true≢false (sym e))

no_opening : (found : Resolved) → has_no_more found ≡ true → holds (codes "${") found.text ≡ false
no_opening found e = no_text (holds (codes "${") found.text) (and_left (not (holds (codes "${") found.text)) (is_empty found.removes) e)

-- it meets no other name
pub plain_at_hand : (find : Find) (left : ℕ) (a b : Going) (name value : List ℕ) (found : Resolved) → IsGoing find left a → find.at name ≡ Ok (Some found) → is_in name a.within.items ≡ false → 1 ≤ left → has_no_more found ≡ true
    → value ≡ found.text → length found.text ≤ longest → b.values ≡ a.values → b.height ≡ higher a.height 1
    → ((known find left a.within.items).at name ≡ Ok (Some value)) × Grew find left a b × AllTelling find b (λ v. v.at name ≡ Ok (Some value))
plain_at_hand find left a b name value found going is fresh room plain same fits values height =
    let kept : Kept = record { height = 1; value = Some found.text } in
    let names = a.within.items ++ name ∷ [] in
    let v = known find (left - 1) names in
    let leaf : leaf_of (find.at name) ≡ Some kept = ap leaf_of is ∙ ap (if_fits found) (both (has_no_more found) (nat_le (length found.text) longest) plain (le-leb (length found.text) longest fits)) in
    let there = leaf_known find a.values name kept going.apart leaf in
    let text : Some found.text ≡ Some value = ap Some (sym same) in (
      known_found find left a.within.items name found fresh is room
          ∙ ap (λ m. m >>= (λ t. Ok (Some t))) (value_alone v (last_name names) found found.text (plain_ok v (last_name names) found.text (no_opening found plain) fits) (nothing found.removes (and_right (not (holds (codes "${") found.text)) (is_empty found.removes) plain)))
          ∙ ap Ok text,
      grew_higher find left a b 1 values height going room,
      λ w telling tells. higher_told find a b kept name height (ap (λ u. table_of find u name) values ∙ there) w telling tells ∙ ap Ok text,
    )

-- or is too long
pub plain_too_long : (find : Find) (left : ℕ) (names : List (List ℕ)) (name : List ℕ) (found : Resolved) (fault : ExpandFault) → find.at name ≡ Ok (Some found) → is_in name names ≡ false → 1 ≤ left → has_no_more found ≡ true
    → IsFaultOf fault (require (nat_le (length found.text) longest) (too_long name)) → IsFaultOf fault ((known find left names).at name)
plain_too_long find left names name found fault is fresh room plain long =
    let v = known find (left - 1) (names ++ name ∷ []) in
    let n = last_name (names ++ name ∷ []) in
    fault_same fault ((known find left names).at name) (expanded_value v n found >>= (λ text. Ok (Some text))) (known_found find left names name found fresh is room)
    (fault_on fault (expanded_value v n found) (λ text. Ok (Some text))
    (value_fault v n found fault (plain_long v n found.text fault (no_opening found plain) (subst (λ m. IsFaultOf fault (require (nat_le (length found.text) longest) (too_long m))) (sym (last_is names name)) long))))

-- the start

leaf_alone : (find : Find) (values : BTreeMap (String Global) Known) (name : List ℕ) → kept_in values name ≡ None → table_of find values name ≡ leaf_of (find.at name)
unfolding table_of
leaf_alone find values name none = ap (λ o. option_or o (leaf_of (find.at name))) none

pub started : (find : Find) (left : ℕ) (a : Going) → a.within.items ≡ [] → ((name : List ℕ) → kept_in a.values name ≡ None) → a.height ≡ Some 0 → IsGoing find left a
started find left a names none height = record {
  right = λ name kept known. leaf_right name kept (find.at name) refl (sym (leaf_alone find a.values name (none name)) ∙ known);
  apart = λ name kept there. absurd (let no : None ≡ Some kept = sym (none name) ∙ there in cc);
  clear = λ name there kept known. not_both false (subst (λ l. is_in name (innermost_first l) ≡ true) names there) refl;
  low = subst (IsLow left) (sym height) (omega arith);
}
  where
    fitting_right : (name : List ℕ) (kept : Kept) (found : Resolved) (b : Bool) → find.at name ≡ Ok (Some found) → (has_no_more found && nat_le (length found.text) longest) ≡ b → if_fits found b ≡ Some kept → IsRight find (table_of find a.values) name kept
    fitting_right name kept found true is fits e =
        let same : record { height = 1; value = Some found.text } ≡ kept = let two : Some (record { height = 1; value = Some found.text }) ≡ Some kept = e in cc in
        subst (IsRight find (table_of find a.values) name) same (record {
          found = Some found;
          found_is = is;
          value_is = ap (λ m. m >>= (λ t. Ok (Some t))) (value_alone (below find.known (table_of find a.values) 1) name found found.text
              (plain_ok (below find.known (table_of find a.values) 1) name found.text (no_opening found (and_left (has_no_more found) (nat_le (length found.text) longest) fits)) (leb-true (length found.text) longest (and_right (has_no_more found) (nat_le (length found.text) longest) fits)))
              (nothing found.removes (and_right (not (holds (codes "${") found.text)) (is_empty found.removes) (and_left (has_no_more found) (nat_le (length found.text) longest) fits))));
          none = λ zero. absurd (omega (arith, zero));
        })
    fitting_right name kept found false is fits e = absurd (let no : None ≡ Some kept = e in cc)

    leaf_right : (name : List ℕ) (kept : Kept) (r : Result (Option Resolved) Refusal) → find.at name ≡ r → leaf_of (find.at name) ≡ Some kept → IsRight find (table_of find a.values) name kept
    leaf_right name kept (Ok None) is e =
        let same : record { height = 0; value = None } ≡ kept = let two : Some (record { height = 0; value = None }) ≡ Some kept = ap leaf_of (sym is) ∙ e in cc in
        subst (IsRight find (table_of find a.values) name) same (record { found = None; found_is = is; value_is = refl; none = λ zero. refl })
    leaf_right name kept (Ok (Some found)) is e = fitting_right name kept found (has_no_more found && nat_le (length found.text) longest) is refl (ap leaf_of (sym is) ∙ e)
    leaf_right name kept (Err refusal) is e = absurd (let no : None ≡ Some kept = ap leaf_of (sym is) ∙ e in cc)

-- a value that is put

pub put_at : (old new : BTreeMap (String Global) Known) (name value copy : List ℕ) (most : ℕ) (met : Option ℕ) → met ≡ Some most → is_some (get_by_text old name) ≡ false → copy ≡ value
    → ((other : List ℕ) → get_by_text new other ≡ update bytes_eq (get_by_text old) name (Some (record { height = most + 1; value = copy })) other) → IsPutAt old new name met value (most + 1)
put_at old new name value copy most met is none same put = record {
  most = most;
  met_is = is;
  height_is = refl;
  absent = ap (option_map kept_of) (no_one (get_by_text old name) none);
  put = λ other. ap (option_map kept_of) (put other) ∙ through (bytes_eq name other) (get_by_text old other) ∙ ap (λ t. cond (bytes_eq name other) (Some (record { height = most + 1; value = Some t })) (kept_in old other)) same;
}
  where
    no_one : (o : Option Known) → is_some o ≡ false → o ≡ None
    no_one None e = refl
    no_one (Some k) e = absurd (true≢false e)

    through : (b : Bool) (o : Option Known) → option_map kept_of (cond b (Some (record { height = most + 1; value = copy })) o) ≡ cond b (Some (record { height = most + 1; value = Some copy })) (option_map kept_of o)
    through true o = refl
    through false o = refl

-- A name that isn't at hand

deeper_known : (find : Find) (left : ℕ) (a b c : Going) (name : List ℕ) (found : Resolved) → IsAtHand find left a b name (Deeper found) → c.within.items ≡ b.within.items ++ name ∷ []
    → (known find left a.within.items).at name ≡ (expanded_value (known find (left - 1) c.within.items) (last_name c.within.items) found >>= (λ text. Ok (Some text)))
deeper_known find left a b c name found at names =
    known_found find left a.within.items name found at.3 at.4 at.1
    ∙ ap (λ l. expanded_value (known find (left - 1) l) (last_name l) found >>= (λ text. Ok (Some text))) (ap (λ g. g.within.items ++ name ∷ []) (sym at.0) ∙ sym names)

pub deeper_fault : (find : Find) (left : ℕ) (a b c : Going) (name : List ℕ) (found : Resolved) (fault : ExpandFault) → IsAtHand find left a b name (Deeper found) → c.within.items ≡ b.within.items ++ name ∷ []
    → IsFaultOf fault (expanded_value (known find (left - 1) c.within.items) (last_name c.within.items) found) → IsFaultOf fault ((known find left a.within.items).at name)
deeper_fault find left a b c name found fault at names h =
    fault_same fault ((known find left a.within.items).at name) (expanded_value (known find (left - 1) c.within.items) (last_name c.within.items) found >>= (λ text. Ok (Some text))) (deeper_known find left a b c name found at names)
    (fault_on fault (expanded_value (known find (left - 1) c.within.items) (last_name c.within.items) found) (λ text. Ok (Some text)) h)

pub deeper_ok : (find : Find) (left : ℕ) (a b c : Going) (name value : List ℕ) (found : Resolved) → IsAtHand find left a b name (Deeper found) → c.within.items ≡ b.within.items ++ name ∷ []
    → expanded_value (known find (left - 1) c.within.items) (last_name c.within.items) found ≡ Ok value → (known find left a.within.items).at name ≡ Ok (Some value)
deeper_ok find left a b c name value found at names h = deeper_known find left a b c name found at names ∙ ap (λ m. m >>= (λ text. Ok (Some text))) h

module _ (find : Find) (left : ℕ) (a b c : Going) (name : List ℕ) (found : Resolved) (at : IsAtHand find left a b name (Deeper found)) (going : IsGoing find left a) (names : c.within.items ≡ b.within.items ++ name ∷ []) (values : c.values ≡ b.values) where
  names_behind : c.within.items ≡ a.within.items ++ name ∷ []
  names_behind = names ∙ ap (λ g. g.within.items ++ name ∷ []) at.0

  values_same : c.values ≡ a.values
  values_same = values ∙ ap (λ g. g.values) at.0

  pub deeper_going : c.height ≡ Some 0 → IsGoing find (left - 1) c
  deeper_going height = entered find left a c name found going at.4 at.5 at.2 names_behind values_same height

  module _ (m e : Going) (outer : Option ℕ) (value : List ℕ) (height : outer ≡ b.height) (grew : Grew find (left - 1) c m) (told : AllTelling find m (λ v. expanded_value v (last_name c.within.items) found ≡ Ok value)) (gone : IsLeft m e outer name value) where
    own_told : AllTelling find m (λ v. expanded_value v name found ≡ Ok value)
    own_told v telling tells = subst (λ n. expanded_value v n found ≡ Ok value) (ap last_name names_behind ∙ last_is a.within.items name) (told v telling tells)

    gone_before : IsLeft m e a.height name value
    gone_before = subst (λ h. IsLeft m e h name value) (height ∙ ap (λ g. g.height) at.0) gone

    pub deeper_grew : Grew find left a e
    deeper_grew = left_grew find left a c m e name value found going at.4 at.5 at.3 at.1 names_behind values_same grew own_told gone_before

    pub deeper_told : AllTelling find e (λ v. v.at name ≡ Ok (Some value))
    deeper_told = left_told find left a c m e name value found going at.4 at.5 at.3 at.1 names_behind values_same grew own_told gone_before

-- a piece that is put behind what is expanded so far, whoever tells what is known
pub put_told : {T : Type 0} (find : Find) (going : Going) (name : List ℕ) (part : Part) (out piece piece' new : List ℕ) (r : Result T ExpandFault) → AllTelling find going (λ v. part_text v name part ≡ Ok piece) → piece' ≡ piece
    → OnOk r (length piece' ≤ longest - length out) → OnOk r (new ≡ out ++ piece') → OnOk r (AllTelling find going (λ v. grown v name part out ≡ Ok new))
put_told find going name part out piece piece' new (Ok made) e same fits is = λ v telling tells. put_ok v name part out piece piece' new (Ok made) (e v telling tells) same fits is
put_told find going name part out piece piece' new (Err fault) e same fits is = is
