-- Which seats marked what in a tale.
use Rattle.std.proofs.Common.{◌≡◌, ◌≢◌, ◌∙◌, sym, ap, refl, ℕ, zero, suc, Bool, true, List, [], ◌∷◌, ◌++◌, Some, None, inl, inr}
use Rattle.std.specs.Prelude.{◌⊎◌, ◌==◌, ◌||◌, Option, false, fold}
use Rattle.std.specs.List.{slice_get}
use Rattle.std.proofs.lemmas.List.Elements.{filter-append}
use Rattle.std.proofs.lemmas.List.Sums.{fold_push}
use Rattle.std.proofs.lemmas.Option.{none-some, same_Some}
use Rattle.meta_model.specs.declared.event.Event.{Event}
use Rattle.meta_model.specs.declared.event.Logged.{Logged}
use Rattle.run_queue.specs.Turns.{Marks}
use Rattle.run_model.specs.Runs.{broken_by, broken_off, started_in}
use Rattle.run_model.specs.Seats.{own, is_bench_break}
use Rattle.run_workers.proofs.Working.{started_split as in_split}
use Rattle.run_model.specs.Benches.{BreaksBench, broken_at, started_by}
use Rattle.build_resume.specs.Benches.{SomeBreak}
use Rattle.run_model.specs.Ends.{bench_broke}
use Rattle.std.proofs.lemmas.Bool.{false≢true}
use Rattle.build_resume.specs.Drive.{IsAlone}

-- ---- what a seat started

-- the entries of a seat in two lists
pub own_split : (seat : ℕ) (one other : List Logged) → own seat (one ++ other) ≡ own seat one ++ own seat other
own_split seat one other = filter-append (λ (e : Logged). e.seat == seat) one other

pub started_split : (seat : ℕ) (one other : List Logged) → started_by seat (one ++ other) ≡ started_by seat one ++ started_by seat other
started_split seat one other = ap started_in (own_split seat one other) ∙ in_split (own seat one) (own seat other)

-- ---- the task that broke off at the end

-- by entries that stand behind others
off_behind : (before : Option ℕ) (one other : List Logged) (t : ℕ) → broken_off other ≡ Some t → fold (λ before entry. broken_by entry.event) before (one ++ other) ≡ Some t
off_behind before [] [] t off = let n : None ≡ Some t = off in cc
off_behind before [] (e ∷ other) t off = off
off_behind before (e ∷ one) other t off = off_behind (broken_by e.event) one other t off

pub broken_behind : (seat : ℕ) (one other : List Logged) (t : ℕ) → broken_at seat other ≡ Some t → broken_at seat (one ++ other) ≡ Some t
broken_behind seat one other t off = ap broken_off (own_split seat one other) ∙ off_behind None (own seat one) (own seat other) t off

-- by the event that seat 0 marked last
pub broken_marked : (event : Event) (old new : List Logged) → Marks 0 event old new → broken_at 0 new ≡ broken_by event
broken_marked event old new m =
    let e : Logged = record { event = event; seat = 0; moment = m.moment } in
    ap (broken_at 0) m.is ∙ ap broken_off (own_split 0 old (e ∷ [])) ∙ fold_push (λ before entry. broken_by entry.event) None (own 0 old) e

-- ---- places in two lists

split_place : (xs ys : List Logged) (k : ℕ) (x : Logged) → slice_get (xs ++ ys) k ≡ Some x → (slice_get xs k ≡ Some x) ⊎ ((j : ℕ) × (slice_get ys j ≡ Some x))
split_place [] ys k x at = inr (k, at)
split_place (y ∷ xs) ys zero x at = inl at
split_place (y ∷ xs) ys (suc k) x at = split_place xs ys k x at

-- the one entry of a list of one
only_entry : (e x : Logged) (k : ℕ) → slice_get (e ∷ []) k ≡ Some x → e ≡ x
only_entry e x zero at = same_Some e x at
only_entry e x (suc k) at = absurd (none-some x at)

-- ---- events that only seat 0 marked

pub alone_nil : IsAlone []
alone_nil = record { seats = λ place entry at. absurd (none-some entry at) }

pub alone_one : (e : Logged) → e.seat ≡ 0 → IsAlone (e ∷ [])
alone_one e zero_seat = record { seats = λ place entry at. ap (λ (l : Logged). l.seat) (sym (only_entry e entry place at)) ∙ zero_seat }

pub alone_then : (one other : List Logged) → IsAlone one → IsAlone other → IsAlone (one ++ other)
alone_then one other a b = record {
  seats = λ place entry at. elim (split_place one other place entry at) [
    | inl first ↦ a.seats place entry first
    | inr later ↦ b.seats later.0 entry later.1
  ];
}

-- ---- tasks that broke off since a bench failed

pub breaks_nil : (seat : ℕ) → BreaksBench seat [] → ⊥
breaks_nil seat b = none-some b.entry b.is_entry

pub breaks_one : (seat : ℕ) (e : Logged) → BreaksBench seat (e ∷ []) → is_bench_break e.event ≡ true
breaks_one seat e b = ap (λ (l : Logged). is_bench_break l.event) (only_entry e b.entry b.place b.is_entry) ∙ b.breaks

pub breaks_split : (seat : ℕ) (one other : List Logged) → BreaksBench seat (one ++ other) → BreaksBench seat one ⊎ BreaksBench seat other
breaks_split seat one other b = elim (split_place one other b.place b.entry b.is_entry) [
  | inl first ↦ inl (record { place = b.place; entry = b.entry; is_entry = first; of = b.of; breaks = b.breaks })
  | inr later ↦ inr (record { place = later.0; entry = b.entry; is_entry = later.1; of = b.of; breaks = b.breaks })
]

-- what seat 0 marked behind is no break of another seat
pub breaks_before : (seat : ℕ) (old more : List Logged) → seat ≢ 0 → IsAlone more → BreaksBench seat (old ++ more) → BreaksBench seat old
breaks_before seat old more other alone b = elim (breaks_split seat old more b) [
  | inl before ↦ before
  | inr later ↦ absurd (other (sym later.of ∙ alone.seats later.place later.entry later.is_entry))
]

-- a task that broke off since its bench failed, by the test of a tale
pub some_break : (tale : List Logged) → bench_broke tale ≡ true → SomeBreak tale
some_break [] e = absurd (false≢true e)
some_break (x ∷ tale) e = by (is_bench_break x.event) refl (λ more. some_break tale more) e
  where
    by : (b : Bool) → is_bench_break x.event ≡ b → (bench_broke tale ≡ true → SomeBreak tale) → (b || bench_broke tale) ≡ true → SomeBreak (x ∷ tale)
    by true is later one = (x.seat, record { place = 0; entry = x; is_entry = refl; of = refl; breaks = is })
    by false is later one =
        let rest = later one in
        (rest.0, record { place = suc rest.1.place; entry = rest.1.entry; is_entry = rest.1.is_entry; of = rest.1.of; breaks = rest.1.breaks })
