-- The records of seats that were spread over benches and joined again.
use Rattle.std.proofs.Common.{◌≡◌, ◌∙◌, sym, ap, subst, refl, ℕ, zero, suc, ◌+◌, ◌<◌, ◌≤◌, List, [], ◌∷◌, ◌++◌, length, get_or, Some, None, arith, eq-eqb, ne_eqb, eqb, inl, inr}
use Rattle.std.specs.List.{slice_get}
use Rattle.std.proofs.lemmas.Bool.{cases_eq}
use Rattle.std.proofs.lemmas.List.Elements.{All-cons}
use Rattle.outside_traits.specs.Bench.{Workplace}
use Rattle.meta_model.specs.CleanBuild.{Gives}
use Rattle.run_queue.specs.Seen.{Seen}
use Rattle.turn_lock.specs.declared.rule.Record.{Record}
use Rattle.turn_lock.specs.declared.rule.View.{View}
use Rattle.turn_lock.specs.Totals.{once}
use Rattle.turn_lock.specs.Views.{joined, numbered, records_of, split_off, times_held}
use Rattle.run_workers.specs.declared.shared.Told.{Told}
use Rattle.run_workers.specs.Seats.{HoldsNone, IsSameSeat, NoneHold}
use Rattle.run_workers.specs.Worked.{AllWorked, HasBegun, IsJoined, IsWorked}
use Rattle.run_workers.proofs.Records.{none_first}

module _ {B : Type 0} (dt bt alike : Type 0) (place : B → Workplace) (gives_of : B → Gives) (faults : B → ℕ) (first : Seen) (gives : Gives) where
  -- one more worker
  pub all_push : (n : ℕ) (olds news : List B) (records : List (Record Told)) (old new : B) (r : Record Told) → AllWorked dt bt alike place gives_of faults first gives n olds news records
      → r.number ≡ n + length olds → IsWorked dt bt alike place gives_of faults first gives (n + length olds) r.entries old new
      → AllWorked dt bt alike place gives_of faults first gives n (olds ++ old ∷ []) (news ++ new ∷ []) (records ++ r ∷ [])
  all_push n [] [] [] old new r all number is =
      let zero_more : n + 0 ≡ n = omega arith in
      (number ∙ zero_more, subst (λ k. IsWorked dt bt alike place gives_of faults first gives k r.entries old new) zero_more is, tt)
  all_push n [] [] (x ∷ records) old new r all number is = absurd all
  all_push n [] (y ∷ news) records old new r all number is = absurd all
  all_push n (x ∷ olds) [] records old new r all number is = absurd all
  all_push n (x ∷ olds) (y ∷ news) [] old new r all number is = absurd all
  all_push n (x ∷ olds) (y ∷ news) (z ∷ records) old new r all number is =
      let one_more : n + suc (length olds) ≡ suc n + length olds = omega arith in
      (all.0, all.1, all_push (suc n) olds news records old new r all.2 (number ∙ one_more) (subst (λ k. IsWorked dt bt alike place gives_of faults first gives k r.entries old new) one_more is))

  -- each number of theirs is that of a record
  pub all_numbered : (s : ℕ) (olds news : List B) (records : List (Record Told)) → AllWorked dt bt alike place gives_of faults first gives s olds news records → (n : ℕ) → s ≤ n → n < s + length olds → 0 < numbered n records
  all_numbered s [] [] [] all n from to = absurd (omega (arith, from, to))
  all_numbered s [] [] (x ∷ records) all n from to = absurd all
  all_numbered s [] (y ∷ news) records all n from to = absurd all
  all_numbered s (x ∷ olds) [] records all n from to = absurd all
  all_numbered s (x ∷ olds) (y ∷ news) [] all n from to = absurd all
  all_numbered s (x ∷ olds) (y ∷ news) (z ∷ records) all n from to = elim (cases_eq s n) [
    | inl same ↦ let one : once (eqb z.number n) ≡ 1 = ap once (eq-eqb z.number n (all.0 ∙ same)) in omega (arith, one)
    | inr ne ↦ let more = all_numbered (suc s) olds news records all.2 n (omega (arith, from, ne)) (omega (arith, to)) in omega (arith, more)
  ]

  -- and no other number is
  pub all_within : (s : ℕ) (olds news : List B) (records : List (Record Told)) → AllWorked dt bt alike place gives_of faults first gives s olds news records → (n : ℕ) → 0 < numbered n records → (s ≤ n) × (n < s + length olds)
  all_within s [] [] [] all n some = absurd (omega (arith, some))
  all_within s [] [] (x ∷ records) all n some = absurd all
  all_within s [] (y ∷ news) records all n some = absurd all
  all_within s (x ∷ olds) [] records all n some = absurd all
  all_within s (x ∷ olds) (y ∷ news) [] all n some = absurd all
  all_within s (x ∷ olds) (y ∷ news) (z ∷ records) all n some = elim (cases_eq z.number n) [
    | inl same ↦ let is = all.0 in (omega (arith, is, same), omega (arith, is, same))
    | inr ne ↦ let none : once (eqb z.number n) ≡ 0 = ap once (ne_eqb z.number n ne) in
        let more = all_within (suc s) olds news records all.2 n (omega (arith, some, none)) in let low = more.0 in let high = more.1 in (omega (arith, low), omega (arith, high))
  ]

  pub all_long : (s : ℕ) (olds news : List B) (records : List (Record Told)) → AllWorked dt bt alike place gives_of faults first gives s olds news records → length news ≡ length olds
  all_long s [] [] [] all = refl
  all_long s [] [] (x ∷ records) all = refl
  all_long s [] (y ∷ news) records all = absurd all
  all_long s (x ∷ olds) [] records all = absurd all
  all_long s (x ∷ olds) (y ∷ news) [] all = absurd all
  all_long s (x ∷ olds) (y ∷ news) (z ∷ records) all = ap suc (all_long (suc s) olds news records all.2)

  -- none of them has a job in hand
  pub all_rest : (s : ℕ) (olds news : List B) (records : List (Record Told)) → AllWorked dt bt alike place gives_of faults first gives s olds news records → NoneHold records
  all_rest s [] [] [] all = λ k d lt. absurd (omega (arith, lt))
  all_rest s [] [] (x ∷ records) all = absurd all
  all_rest s [] (y ∷ news) records all = absurd all
  all_rest s (x ∷ olds) [] records all = absurd all
  all_rest s (x ∷ olds) (y ∷ news) [] all = absurd all
  all_rest s (x ∷ olds) (y ∷ news) (z ∷ records) all =
      All-cons (λ (r : Record Told). HoldsNone r.number r.entries) z records (subst (λ n. HoldsNone n z.entries) (sym all.0) all.1.1.none) (all_rest (suc s) olds news records all.2)

  -- the worker on the bench of a number
  pub record WorkedAt (s k : ℕ) (records : List (Record Told)) (old new : B) : Type 0 where
    pub record_at : Record Told
    pub within : k < length records
    pub is : (d : Record Told) → get_or records k d ≡ record_at
    pub number : record_at.number ≡ s + k
    pub worked : IsWorked dt bt alike place gives_of faults first gives (s + k) record_at.entries old new

  pub all_at : (s : ℕ) (olds news : List B) (records : List (Record Told)) → AllWorked dt bt alike place gives_of faults first gives s olds news records → (k : ℕ) (old new : B) → slice_get olds k ≡ Some old → slice_get news k ≡ Some new → WorkedAt s k records old new
  all_at s [] [] [] all k old new was is = absurd (let n : None ≡ Some old = was in cc)
  all_at s [] [] (x ∷ records) all k old new was is = absurd all
  all_at s [] (y ∷ news) records all k old new was is = absurd all
  all_at s (x ∷ olds) [] records all k old new was is = absurd all
  all_at s (x ∷ olds) (y ∷ news) [] all k old new was is = absurd all
  all_at s (x ∷ olds) (y ∷ news) (z ∷ records) all zero old new was is =
      let same : x ≡ old = (let e : Some x ≡ Some old = was in cc) in
      let now : y ≡ new = (let e : Some y ≡ Some new = is in cc) in
      let more : s ≡ s + 0 = omega arith in record {
        record_at = z;
        within = omega arith;
        is = λ d. refl;
        number = all.0 ∙ more;
        worked = subst (λ n. IsWorked dt bt alike place gives_of faults first gives n z.entries old new) more (subst (λ b. IsWorked dt bt alike place gives_of faults first gives s z.entries b new) same (subst (IsWorked dt bt alike place gives_of faults first gives s z.entries x) now all.1));
      }
  all_at s (x ∷ olds) (y ∷ news) (z ∷ records) all (suc k) old new was is =
      let rest = all_at (suc s) olds news records all.2 k old new was is in
      let more : suc s + k ≡ s + suc k = omega arith in let within = rest.within in record {
        record_at = rest.record_at;
        within = omega (arith, within);
        is = rest.is;
        number = rest.number ∙ more;
        worked = subst (λ n. IsWorked dt bt alike place gives_of faults first gives n rest.record_at.entries old new) more rest.worked;
      }

  module _ {N : Type 0} (v : View N Told) (olds news : List B) (j : IsJoined v) (all : AllWorked dt bt alike place gives_of faults first gives 1 olds news v.others) where
    -- the joined seat has the numbers of all
    pub has_all : (n : ℕ) → n < length olds + 1 → 0 < times_held n v
    has_all n lt = elim (cases_eq v.number n) [
      | inl same ↦ let one : once (eqb v.number n) ≡ 1 = ap once (eq-eqb v.number n same) in omega (arith, one)
      | inr ne ↦ let is = j.number in let some = all_numbered 1 olds news v.others all n (omega (arith, is, ne)) (omega (arith, lt)) in omega (arith, some)
    ]

    pub none_hold : NoneHold (records_of v)
    none_hold = All-cons (λ (r : Record Told). HoldsNone r.number r.entries) (record { number = v.number; entries = v.own }) v.others (none_first v.number v.own j.mine) (all_rest 1 olds news v.others all)

pub one_more : (n : ℕ) → n + 1 ≡ 1 + n
one_more n = omega arith

module _ {N : Type 0} where
  -- the seat that takes another one in, once that was split off and did its work
  pub record TakenIn (m : ℕ) (v w x u : View N Told) : Type 0 where
    pub number : w.number ≡ m
    pub joins : IsJoined u
    pub others : u.others ≡ v.others ++ record { number = m; entries = x.own } ∷ []

  pub taken_in : (m : ℕ) (start v w x u : View N Told) → HasBegun m start → w ≡ split_off start → IsSameSeat w x → IsJoined v → u ≡ joined v x → TakenIn m v w x u
  taken_in m start v w x u b split same j is = record {
    number = ap (λ (y : View N Told). y.number) split ∙ spares;
    joins = record {
      number = ap (λ (y : View N Told). y.number) is ∙ j.number;
      spares = ap (λ (y : View N Told). y.spare) is ∙ j.spares;
      mine = ap (λ (y : View N Told). y.own) is ∙ j.mine;
    };
    others =
        ap (λ (y : View N Told). y.others) is ∙ ap (λ l. v.others ++ record { number = x.number; entries = x.own } ∷ l) none
        ∙ ap (λ n. v.others ++ record { number = n; entries = x.own } ∷ []) number;
  }
    where
      spares : start.number + start.spare ≡ m
      spares = let n = b.number in let s = b.spares in omega (arith, n, s)

      none : x.others ≡ []
      none = same.others ∙ ap (λ (y : View N Told). y.others) split

      number : x.number ≡ m
      number = same.number ∙ ap (λ (y : View N Told). y.number) split ∙ spares
