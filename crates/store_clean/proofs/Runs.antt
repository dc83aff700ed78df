-- Runs from what was durable.
use Rattle.std.proofs.Common.{◌≡◌, ◌≢◌, ◌∙◌, sym, ap, subst, refl, ℕ, zero, suc, ◌+◌, ◌<◌, ◌⊎◌, inl, inr, List, [], ◌∷◌, length, get_or, take, Option, None, arith}
use Rattle.std.specs.Prelude.{Contains, IsSome}
use Rattle.std.specs.Option.{is_some}
use Rattle.std.proofs.lemmas.Bool.{false≢true}
use Rattle.outside_traits.specs.Answers.{IsSettled}
use Rattle.outside_traits.specs.Passes.{EachNow, Passes, Same}
use Rattle.outside_traits.specs.Store.{IsFree, Moves, Store}
use Rattle.outside_traits.specs.Story.{IsSound, Story}
use Rattle.outside_traits.proofs.Images.{above-image}
use Rattle.outside_traits.proofs.Puts.{path_cases}
use Rattle.outside_traits.proofs.Runs.{passes_at, passes_then}
use Rattle.tree_model.specs.declared.entry.Entry.{Entry}
use Rattle.tree_model.specs.Path.{IsBelow}
use Rattle.store_clean.specs.Cleared.{gone_path}
use Rattle.store_clean.specs.Steps.{TakesAway}
use Rattle.store_clean.proofs.Lists.{taken_first, taken_last, taken_none, taken_or}

-- each image is what is held
abbrev pub IsDurable : Story → Type 0
IsDurable story = EachNow story (λ image. image ≡ story.held)

-- nothing changed since all was durable
pub durable_same : (a b : Story) → IsDurable a → Passes a b Same → IsDurable b
durable_same a b was run image img = let w = run.now image img in w.2 ∙ was w.0 w.1 ∙ sym run.held

-- what a run leaves alone since all was durable may be renamed
pub settled_by : (a b : Story) (R : Store → Store → Type 0) (q : List ℕ) → IsDurable a → Passes a b R → ((i j : Store) → R i j → j q ≡ i q) → IsSome (b.held q) → IsSettled q b
settled_by a b R q was run leaves some = record {
  held = some;
  kept = λ image img.
      let w = run.now image img in
      leaves w.0 image w.2 ∙ ap (λ (h : Store). h q) (was w.0 w.1) ∙ sym (leaves a.held b.held run.held);
}

pub none_not : (o : Option Entry) → o ≡ None → IsSome o → ⊥
none_not o none some = false≢true (sym (ap is_some none) ∙ some)

pub passes_start : (a : Story) (P : Store → Type 0) → IsSound a → IsDurable a → P a.held → Passes a a (λ i k. P k)
passes_start a P sound durable p = record {
  later = omega arith;
  held = p;
  now = λ i img. (i, img, subst P (sym (durable i img)) p);
  since = λ t i le left. inl left;
  above = λ k i le left. (i, left, subst P (sym (durable i (above-image a sound k i left))) p);
}

pub passes_on : {a b c : Story} {S : Store → Store → Type 0} (P Q : Store → Type 0) → IsSound b → IsDurable b → Passes a b (λ i j. P j) → Passes b c S → ((j : Store) → P j → Q j) → ((k : Store) → S b.held k → Q k) → Passes a c (λ i k. Q k)
passes_on {a} {b} {c} {S} P Q sound durable first second early late = passes_at (λ j. j ≡ b.held) (λ i k. Q k) sound durable first second (λ i j p. early j p) (λ i j k p e s. late k (subst (λ (h : Store). S h k) e s))

-- a run from what was durable, by what it does to that
pub passes_from : {a b : Story} {S : Store → Store → Type 0} (Q : Store → Type 0) → IsSound a → IsDurable a → Passes a b S → ((k : Store) → S a.held k → Q k) → Passes a b (λ i k. Q k)
passes_from {a} {b} {S} Q sound durable run says = record {
  later = run.later;
  held = says b.held run.held;
  now = λ k img. let w = run.now k img in (w.0, w.1, says k (subst (λ (h : Store). S h k) (durable w.0 w.1) w.2));
  since = λ t k le left. elim (run.since t k le left) [
    | inl past ↦ inl past
    | inr w ↦ inr (w.0, w.1, says k (subst (λ (h : Store). S h k) (durable w.0 w.1) w.2))
  ];
  above = λ n k le left. let w = run.above n k le left in (w.0, w.1, says k (subst (λ (h : Store). S h k) (durable w.0 (above-image a sound n w.0 w.1)) w.2));
}

-- ---- what is taken away

pub takes_same : (P : List ℕ → Type 0) (i : Store) → TakesAway P i i
takes_same P i = record { taken = λ q ne. inl refl }

pub takes_so : (P Q : List ℕ → Type 0) → ((q : List ℕ) → P q → Q q) → (i j : Store) → TakesAway P i j → TakesAway Q i j
takes_so P Q so i j takes = record { taken = λ q ne. elim (takes.taken q ne) [ inl same ↦ inl same | inr w ↦ inr (so q w.0, w.1) ] }

-- nothing comes to be held above or below where it is renamed to
pub free_kept : (P : List ℕ → Type 0) (i j : Store) → TakesAway P i j → ((q : List ℕ) → IsBelow q gone_path → q ≢ gone_path) → ((q : List ℕ) → IsBelow gone_path q → q ≢ gone_path) → IsFree i gone_path → IsFree j gone_path
free_kept P i j takes above_ne below_ne free = record {
  above = λ q b. none q (above_ne q b) (free.above q b);
  below = λ q b. none q (below_ne q b) (free.below q b);
}
  where
    none : (q : List ℕ) → q ≢ gone_path → i q ≡ None → j q ≡ None
    none q ne was = elim (takes.taken q ne) [ inl same ↦ same ∙ was | inr w ↦ w.1 ]

module _ (paths : List (List ℕ)) (n : ℕ) (path : List ℕ) (lt : n < length paths) (is : path ≡ get_or paths n path) where
  early : (i j : Store) → TakesAway (Contains (take n paths)) i j → TakesAway (Contains (take (n + 1) paths)) i j
  early i j takes = takes_so (Contains (take n paths)) (Contains (take (n + 1) paths)) (λ q has. taken_first paths n path q lt is has) i j takes

  late : (x : Option Entry) (i j k : Store) → TakesAway (Contains (take n paths)) i j → Moves path gone_path x j k → TakesAway (Contains (take (n + 1) paths)) i k
  late x i j k takes moves = record { taken = λ q ne. by q ne ((early i j takes).taken q ne) (path_cases q path) moves.source }
    where
      by : (q : List ℕ) → q ≢ gone_path → (j q ≡ i q) ⊎ (Contains (take (n + 1) paths) q × (j q ≡ None)) → (q ≡ path) ⊎ (q ≢ path) → (k path ≡ j path) ⊎ (k path ≡ None) → (k q ≡ i q) ⊎ (Contains (take (n + 1) paths) q × (k q ≡ None))
      by q ne (inl same) (inr other) source = inl (moves.others q other ne ∙ same)
      by q ne (inr w) (inr other) source = inr (w.0, moves.others q other ne ∙ w.1)
      by q ne (inl same) (inl here) (inl kept) = inl (ap k here ∙ kept ∙ ap j (sym here) ∙ same)
      by q ne (inr w) (inl here) (inl kept) = inr (w.0, ap k here ∙ kept ∙ ap j (sym here) ∙ w.1)
      by q ne was (inl here) (inr gone) = inr (subst (λ (p : List ℕ). Contains (take (n + 1) paths) p) (sym here) (taken_last paths n path lt is), ap k here ∙ gone)

  pub takes_more : (x : Option Entry) (a b c : Story) → Passes a b (TakesAway (Contains (take n paths))) → Passes b c (Moves path gone_path x) → Passes a c (TakesAway (Contains (take (n + 1) paths)))
  takes_more x a b c run move = passes_then (TakesAway (Contains (take (n + 1) paths))) run move early (late x)

  -- what was gone through is gone
  pub gone_more : (x : Option Entry) (j k : Store) → Moves path gone_path x j k → k path ≡ None → ((q : List ℕ) → Contains (take n paths) q → q ≢ gone_path → j q ≡ None) → (q : List ℕ) → Contains (take (n + 1) paths) q → q ≢ gone_path → k q ≡ None
  gone_more x j k moves none was q has ne = by (path_cases q path) (taken_or paths n path q lt is has)
    where
      by : (q ≡ path) ⊎ (q ≢ path) → Contains (take n paths) q ⊎ (path ≡ q) → k q ≡ None
      by (inl here) which = ap k here ∙ none
      by (inr other) (inl earlier) = moves.others q other ne ∙ was q earlier ne
      by (inr other) (inr same) = absurd (other (sym same))

pub takes_first : (paths : List (List ℕ)) (n : ℕ) (i j : Store) → ((q : List ℕ) → Contains (take n paths) q → Contains paths q) → TakesAway (Contains (take n paths)) i j → TakesAway (Contains paths) i j
takes_first paths n i j within takes = takes_so (Contains (take n paths)) (Contains paths) within i j takes

-- what is held still is none of those that were gone through
pub not_taken : (paths : List (List ℕ)) (n : ℕ) (held : Store) (q : List ℕ) → ((p : List ℕ) → Contains (take n paths) p → p ≢ gone_path → held p ≡ None) → q ≢ gone_path → IsSome (held q) → Contains (take n paths) q → ⊥
not_taken paths n held q gone ne some has = none_not (held q) (gone q has ne) some

-- so it wasn't touched
pub not_touched : (paths : List (List ℕ)) (n : ℕ) (q : List ℕ) → (Contains (take n paths) q → ⊥) → q ≢ gone_path → (i j : Store) → TakesAway (Contains (take n paths)) i j → j q ≡ i q
not_touched paths n q never ne i j takes = elim (takes.taken q ne) [ inl same ↦ same | inr w ↦ absurd (never w.0) ]

pub taken_within : (paths : List (List ℕ)) (n : ℕ) (q : List ℕ) → Contains (take n paths) q → Contains paths q
taken_within paths zero q has = absurd (taken_none paths q has)
taken_within [] (suc n) q has = has
taken_within (p ∷ paths) (suc n) q (zero, lt, e) = (zero, omega arith, e)
taken_within (p ∷ paths) (suc n) q (suc k, lt, e) = let w = taken_within paths n q (k, omega (arith, lt), e) in (suc w.0, (let l = w.1 in omega (arith, l)), w.2)
