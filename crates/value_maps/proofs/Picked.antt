-- Keys of maps in byte order.
use Rattle.std.proofs.Common.{◌≡◌, refl, sym, ◌∙◌, subst, ℕ, List, [], ◌∷◌, filter, Bool, true, false, inl, inr, bytes_eq, String, BTreeMap, string_bytes}
use Rattle.std.specs.Global.{Global}
use Rattle.std.specs.String.{string_cmp}
use Rattle.std.specs.Map.{lookup, keys_of}
use Rattle.std.specs.BTreeMap.{is_at, get_by_text, IsOrdered}
use Rattle.std.specs.List.{AllByRecursion}
use Rattle.std.specs.List.Sorted.{IsStrictlySortedBy}
use Rattle.std.specs.declared.cmp.Ordering.TheVariants.{Less}
use Rattle.std.proofs.lemmas.Map.Keys.{sorted_head, sorted_tail}
use Rattle.std.proofs.lemmas.Map.Text.{is_eq-slice_cmp, text_cmp}
use Rattle.meta_model.proofs.Bools.{either_way, or_first, same_text}
use Rattle.meta_model.specs.Text.{is_in, in_byte_order}
use Rattle.value_maps.specs.Picked.{picked, passes}
use Rattle.meta_model.specs.Ascending.{Above, Ascending}
use Rattle.meta_model.proofs.Ordered.{above_not_in, ordered_is}

module _ {V : Type 0} where
  picked_above : (test : V → Bool) (x : String Global) (es : List (String Global × V)) → AllByRecursion (λ y. string_cmp x y ≡ Less) (keys_of es) → Above (string_bytes x) (picked test es)
  picked_above test x [] a = tt
  picked_above test x (e ∷ es) a = elim (either_way (test e.1)) [
    | inl t ↦ rw t (a.0, picked_above test x es a.1)
    | inr t ↦ rw t (picked_above test x es a.1)
  ]

  pub picked_ascending : (test : V → Bool) (es : List (String Global × V)) → IsStrictlySortedBy string_cmp (keys_of es) → Ascending (picked test es)
  picked_ascending test [] s = tt
  picked_ascending test (e ∷ es) s = elim (either_way (test e.1)) [
    | inl t ↦ rw t (picked_above test e.0 es (sorted_head string_cmp e.0 (keys_of es) s), picked_ascending test es (sorted_tail string_cmp e.0 (keys_of es) s))
    | inr t ↦ rw t (picked_ascending test es (sorted_tail string_cmp e.0 (keys_of es) s))
  ]

  pub picked_in : (test : V → Bool) (es : List (String Global × V)) (t : List ℕ) → IsStrictlySortedBy string_cmp (keys_of es) → is_in t (picked test es) ≡ passes test (lookup (is_at (text_cmp t)) es)
  picked_in test [] t s = refl
  picked_in test (e ∷ es) t s =
      let head = sorted_head string_cmp e.0 (keys_of es) s in
      let later = picked_in test es t (sorted_tail string_cmp e.0 (keys_of es) s) in
      elim (either_way (bytes_eq t (string_bytes e.0))) [
        | inl same ↦
            let at : is_at (text_cmp t) e.0 ≡ true = is_eq-slice_cmp t (string_bytes e.0) ∙ same in
            elim (either_way (test e.1)) [
              | inl y ↦ rw (y, at) (or_first (bytes_eq t (string_bytes e.0)) (is_in t (picked test es)) same ∙ sym y)
              | inr n ↦ rw (n, at) (subst (λ z. is_in z (picked test es) ≡ false) (sym (same_text t (string_bytes e.0) same)) (above_not_in (string_bytes e.0) (picked test es) (picked_above test e.0 es head)) ∙ sym n)
            ]
        | inr other ↦
            let at : is_at (text_cmp t) e.0 ≡ false = is_eq-slice_cmp t (string_bytes e.0) ∙ other in
            elim (either_way (test e.1)) [
              | inl y ↦ rw (y, at, other) later
              | inr n ↦ rw (n, at) later
            ]
      ]

  -- the keys of a map that are picked are the texts that pass a test, in byte order
  pub picked_is : (m : BTreeMap (String Global) V) (test : V → Bool) (asked : List ℕ → Bool) (xs : List (List ℕ)) → IsOrdered string_cmp m → ((t : List ℕ) → passes test (get_by_text m t) ≡ asked t) → ((t : List ℕ) → asked t ≡ true → is_in t xs ≡ true)
      → picked test m.entries ≡ in_byte_order (filter asked xs)
  picked_is m test asked xs s same there = ordered_is asked xs (picked test m.entries) (picked_ascending test m.entries s) (λ t. picked_in test m.entries t s ∙ same t) there
