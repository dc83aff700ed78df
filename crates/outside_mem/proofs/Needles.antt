-- A text that stands in another.
use Rattle.std.proofs.Common.{◌≡◌, inl, inr, ℕ, List, [], ◌∷◌, ◌++◌, Bool, true, false, refl, sym, ◌∙◌, ap}
use Rattle.std.specs.Prelude.{◌||◌, nat_eq}
use Rattle.std.specs.List.{starts_with}
use Rattle.std.specs.Str.Iter.{HasSubslice}
use Rattle.std.proofs.lemmas.Bool.{false≢true}
use Rattle.outside_traits.proofs.Puts.{bool_cases}
use Rattle.outside_mem.specs.Scripts.{stands_in}
use Rattle.outside_mem.proofs.Listing.{begins_with, starts}

-- the text begins with the needle and something more
begins_in : (needle text : List ℕ) → starts_with nat_eq text needle ≡ true → stands_in needle text ≡ true
begins_in needle [] begins = begins
begins_in needle (b ∷ text) begins = ap (λ (t : Bool). t || stands_in needle text) begins

-- what stands in a text stands in it with a byte more in front
stands_behind : (needle text : List ℕ) (b : ℕ) → stands_in needle text ≡ true → stands_in needle (b ∷ text) ≡ true
stands_behind needle text b stands = elim (starts_with nat_eq (b ∷ text) needle) as (λ (t : Bool). (t || stands_in needle text) ≡ true) [ true ↦ refl | false ↦ stands ]

-- a needle between two other pieces stands in the text
stands_from : (needle text front back : List ℕ) → text ≡ front ++ (needle ++ back) → stands_in needle text ≡ true
stands_from needle text [] back is = begins_in needle text (starts needle text (back, is))
stands_from needle [] (b ∷ front) back is = absurd (cc)
stands_from needle (a ∷ text) (b ∷ front) back is = stands_behind needle text a (stands_from needle text front back (cc))

-- where the needle stands
where_in : (needle text : List ℕ) → stands_in needle text ≡ true → HasSubslice text needle
where_in needle [] stands = let w = begins_with needle [] stands in ([], w.0, w.1)
where_in needle (b ∷ text) stands = elim (bool_cases (starts_with nat_eq (b ∷ text) needle)) [
  | inl begins ↦ let w = begins_with needle (b ∷ text) begins in ([], w.0, w.1)
  | inr differ ↦
      let w = where_in needle text (sym (ap (λ (t : Bool). t || stands_in needle text) differ) ∙ stands) in
      (b ∷ w.0, w.1, λ i. b ∷ w.2 i)
]

-- two tests of one fact agree
pub stands_is : (r : Bool) (needle text : List ℕ) → ((r ≡ true → HasSubslice text needle) × (HasSubslice text needle → r ≡ true)) → r ≡ stands_in needle text
stands_is true needle text tests = let w = tests.0 refl in sym (stands_from needle text w.0 w.1 w.2)
stands_is false needle text tests = elim (bool_cases (stands_in needle text)) [
  | inl stands ↦ absurd (false≢true (tests.1 (where_in needle text stands)))
  | inr absent ↦ sym absent
]
