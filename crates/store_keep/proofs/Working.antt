-- The worked case.
use Rattle.std.proofs.Common.{◌≡◌, ◌∙◌, refl, arith, lit<, lit≤, ℕ, zero, suc, ◌+◌, ◌<◌, Bool, true, false, List, [], ◌∷◌, length, set, inl, inr}
use Rattle.std.specs.List.{AllByRecursion}
use Rattle.std.proofs.lemmas.List.Elements.{All-contains, All-from_recursion}
use Rattle.store_keep.specs.Keep.{IsClosure, NameEarlier, Names}
use Rattle.store_keep.specs.Tries.{AreKept}
use Rattle.store_keep.specs.Worked.{edges, order, roots}
use Rattle.std.proofs.lemmas.List.{length-set}
use Rattle.store_keep.proofs.Closures.{closed_marks, closure_of}

-- each record names places below its own, from a place on
abbrev AreEarlier : List (List ℕ) → ℕ → Type 0
AreEarlier [] k = Unit {0}
AreEarlier (ws ∷ more) k = AllByRecursion (λ w. w < k) ws × AreEarlier more (k + 1)

earlier_from : (all : List (List ℕ)) (k v w : ℕ) → AreEarlier all k → Names all v w → w < k + v
earlier_from [] k v w are n = absurd (let lt = n.1 in omega (arith, lt))
earlier_from (ws ∷ more) k zero w are n = let lt = All-contains (λ x. x < k) ws w (All-from_recursion (λ x. x < k) ws are.0) n in omega (arith, lt)
earlier_from (ws ∷ more) k (suc v) w are n = let lt = earlier_from more (k + 1) v w are.1 n in omega (arith, lt)

earlier : NameEarlier edges
earlier v w n = let lt = earlier_from edges 0 v w (tt, ((lit< tt, tt), ((lit< tt, tt), (tt, ((lit< tt, tt), tt))))) n in omega (arith, lt)

pub root_part : IsClosure edges roots (true ∷ (true ∷ (false ∷ (false ∷ (false ∷ [])))))
root_part = closure_of edges roots earlier refl

with : (before : List Bool) (k : ℕ) → length before ≡ 5 → IsClosure edges (set before k true) (closed_marks edges 5 (set before k true))
with before k long = closure_of edges (set before k true) earlier (length-set before k true ∙ long)

abbrev two : List Bool
two = true ∷ (true ∷ (false ∷ (false ∷ (false ∷ []))))

abbrev three : List Bool
three = true ∷ (true ∷ (true ∷ (false ∷ (false ∷ []))))

abbrev four : List Bool
four = true ∷ (true ∷ (false ∷ (true ∷ (true ∷ []))))

abbrev five : List Bool
five = true ∷ (true ∷ (true ∷ (true ∷ (true ∷ []))))

pub at_most_three : AreKept edges roots order 3 three
at_most_three = record {
  first = two;
  closure = root_part;
  tried = (two, inr (inr (four, with two 4 refl, inr (lit< tt, refl))), (three, inr (inr (three, with two 2 refl, inl (lit≤ tt, refl))), (three, inr (inl (lit≤ tt, refl)), refl)));
}

pub at_most_none : AreKept edges roots order 0 two
at_most_none = record {
  first = two;
  closure = root_part;
  tried = (two, inr (inl (lit≤ tt, refl)), (two, inr (inl (lit≤ tt, refl)), (two, inr (inl (lit≤ tt, refl)), refl)));
}

pub all_of_five : AreKept edges roots order 5 five
all_of_five = record {
  first = two;
  closure = root_part;
  tried = (four, inr (inr (four, with two 4 refl, inl (lit≤ tt, refl))), (five, inr (inr (five, with four 2 refl, inl (lit≤ tt, refl))), (five, inl (refl, refl), refl)));
}
