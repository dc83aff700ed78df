-- Texts with a prefix, and lists of them.
use Rattle.std.proofs.Common.{◌≡◌, ◌<◌, ◌+◌, ◌∙◌, sym, ap, refl, subst, arith, ℕ, zero, suc, Bool, true, false, List, [], ◌∷◌, ◌++◌, length, map, take, drop, ◌⊎◌, inl, inr, get_or, All, append_assoc}
use Rattle.std.specs.Prelude.{◌&&◌, Contains}
use Rattle.std.specs.Ordering.{nat_cmp, ordering_then}
use Rattle.std.specs.declared.cmp.Ordering.TheVariants.{Less}
use Rattle.std.specs.Cmp.Lexicographic.{slice_cmp}
use Rattle.std.specs.List.{AllByRecursion}
use Rattle.std.specs.List.Sorted.{IsStrictlySortedBy}
use Rattle.std.proofs.Math.Seq.{drop-append_seam, take-append_seam}
use Rattle.std.proofs.lemmas.Cmp.{nat_cmp_total, tied_itself}
use Rattle.std.proofs.lemmas.List.{get_or_default, map-append, take-append-drop, take_more}
use Rattle.std.proofs.lemmas.Slice.Eq.{bytes_eq-Decides}
use Rattle.tree_model.specs.Path.{BeginsWith}
use Rattle.outside_traits.specs.Store.{IsListing, Store}
use Rattle.sub_disk.specs.Sub.{begins, below}

pub and_first : (a b : Bool) → (a && b) ≡ true → a ≡ true
and_first true b e = refl
and_first false b e = absurd cc

pub and_second : (a b : Bool) → (a && b) ≡ true → b ≡ true
and_second true b e = e
and_second false b e = absurd cc

pub both : (a b : Bool) → a ≡ true → b ≡ true → (a && b) ≡ true
both true b s t = t
both false b s t = absurd cc

pub front_same : (prefix p q : List ℕ) → prefix ++ p ≡ prefix ++ q → p ≡ q
front_same [] p q e = e
front_same (x ∷ prefix) p q e = front_same prefix p q (let f : prefix ++ p ≡ prefix ++ q = cc in f)

pub drop_front : (prefix p : List ℕ) → drop (length prefix) (prefix ++ p) ≡ p
drop_front prefix p = drop-append_seam prefix p

pub begins_front : (prefix p : List ℕ) → begins prefix (prefix ++ p) ≡ true
begins_front prefix p = (bytes_eq-Decides (take (length prefix) (prefix ++ p)) prefix).1 (take-append_seam prefix p)

pub begins_is : (prefix path : List ℕ) → begins prefix path ≡ true → path ≡ prefix ++ drop (length prefix) path
begins_is prefix path t = sym (take-append-drop (length prefix) path) ∙ ap (λ (l : List ℕ). l ++ drop (length prefix) path) ((bytes_eq-Decides (take (length prefix) path) prefix).0 t)

-- a path of the folder, and one that stands above some path
pub split_at : (prefix p q rest : List ℕ) → prefix ++ p ≡ q ++ 47 ∷ rest → ((r : List ℕ) × (prefix ≡ q ++ 47 ∷ r)) ⊎ ((s : List ℕ) × (q ≡ prefix ++ s) × (p ≡ s ++ 47 ∷ rest))
split_at [] p q rest e = inr (q, refl, e)
split_at (x ∷ prefix) p [] rest e = let first : x ≡ 47 = cc in inl (prefix, (λ i. first i ∷ prefix))
split_at (x ∷ prefix) p (y ∷ q) rest e =
    let first : x ≡ y = cc in
    let more : prefix ++ p ≡ q ++ 47 ∷ rest = cc in
    elim (split_at prefix p q rest more) [
      | inl r ↦ let is = r.1 in inl (r.0, (λ i. first i ∷ is i))
      | inr s ↦ let is = s.1 in let back = sym first in inr (s.0, (λ i. back i ∷ is i), s.2)
    ]

-- ---- lists of names

cmp_front : (prefix a b : List ℕ) → slice_cmp nat_cmp (prefix ++ a) (prefix ++ b) ≡ slice_cmp nat_cmp a b
cmp_front [] a b = refl
cmp_front (x ∷ prefix) a b = ap (λ o. ordering_then o (slice_cmp nat_cmp (prefix ++ a) (prefix ++ b))) (tied_itself nat_cmp_total x) ∙ cmp_front prefix a b

later_names : (prefix name : List ℕ) (names : List (List ℕ)) → AllByRecursion (λ y. slice_cmp nat_cmp (prefix ++ name) y ≡ Less) (map (λ n. prefix ++ n) names) → AllByRecursion (λ y. slice_cmp nat_cmp name y ≡ Less) names
later_names prefix name [] all = tt
later_names prefix name (n ∷ names) all = (sym (cmp_front prefix name n) ∙ all.0, later_names prefix name names all.1)

ascending_names : (prefix : List ℕ) (names : List (List ℕ)) → IsStrictlySortedBy (slice_cmp nat_cmp) (map (λ n. prefix ++ n) names) → IsStrictlySortedBy (slice_cmp nat_cmp) names
unfolding IsStrictlySortedBy
ascending_names prefix [] up = tt
ascending_names prefix (n ∷ names) up = (later_names prefix n names up.0, ascending_names prefix names up.1)

has_front : (prefix q : List ℕ) (names : List (List ℕ)) → Contains names q → Contains (map (λ n. prefix ++ n) names) (prefix ++ q)
has_front prefix q [] has = absurd (omega (arith, has.1))
has_front prefix q (n ∷ names) (zero, lt, at) = (zero, omega arith, ap (λ (p : List ℕ). prefix ++ p) at)
has_front prefix q (n ∷ names) (suc k, lt, at) = let more = has_front prefix q names (k, omega (arith, lt), at) in (suc more.0, omega (arith, more.1), more.2)

has_name : (prefix q : List ℕ) (names : List (List ℕ)) → Contains (map (λ n. prefix ++ n) names) (prefix ++ q) → Contains names q
has_name prefix q [] has = absurd (omega (arith, has.1))
has_name prefix q (n ∷ names) (zero, lt, at) = (zero, omega arith, front_same prefix n q at)
has_name prefix q (n ∷ names) (suc k, lt, at) = let more = has_name prefix q names (k, omega (arith, lt), at) in (suc more.0, omega (arith, more.1), more.2)

-- a list of the other disk, without the prefix, is one of the folder
pub listing_below : (prefix asked : List ℕ) (held : Store) (paths names : List (List ℕ)) → map (λ n. prefix ++ n) names ≡ paths → IsListing (prefix ++ asked) held paths → IsListing asked (below prefix held) names
listing_below prefix asked held paths names cut listing = record {
  ascending = ascending_names prefix names (subst (IsStrictlySortedBy (slice_cmp nat_cmp)) (sym cut) listing.ascending);
  are_held = λ q has.
      let there = listing.are_held (prefix ++ q) (subst (λ (ps : List (List ℕ)). Contains ps (prefix ++ q)) cut (has_front prefix q names has)) in
      ((there.0.0, front_same prefix q (asked ++ there.0.0) (there.0.1 ∙ append_assoc prefix asked there.0.0)), there.1);
  all = λ q begin some. has_name prefix q names (subst (λ (ps : List (List ℕ)). Contains ps (prefix ++ q)) (sym cut)
      (listing.all (prefix ++ q) (begin.0, ap (λ (p : List ℕ). prefix ++ p) begin.1 ∙ sym (append_assoc prefix asked begin.0)) some));
}

-- each path of a list of the other disk begins with the folder's prefix
pub listed_begin : (prefix asked : List ℕ) (held : Store) (paths : List (List ℕ)) → IsListing (prefix ++ asked) held paths → All (λ p. BeginsWith prefix p) paths
listed_begin prefix asked held paths listing k d lt =
    let there = listing.are_held (get_or paths k d) (k, lt, get_or_default paths k (get_or paths k d) d lt) in
    (asked ++ there.0.0, there.0.1 ∙ append_assoc prefix asked there.0.0)

-- one name more is cut
pub rests_more : (prefix path rest : List ℕ) (names more paths : List (List ℕ)) (i : ℕ) → i < length paths → path ≡ get_or paths i path → path ≡ prefix ++ rest → map (λ n. prefix ++ n) names ≡ take i paths → more ≡ names ++ rest ∷ []
    → map (λ n. prefix ++ n) more ≡ take (i + 1) paths
rests_more prefix path rest names more paths i lt is cut so_far pushed =
    ap (map (λ n. prefix ++ n)) pushed ∙ map-append (λ n. prefix ++ n) names (rest ∷ [])
    ∙ (λ j. so_far j ++ (sym cut ∙ is) j ∷ [])
    ∙ sym (take_more paths i path lt)
