-- What the workers of a run left of it.
use Rattle.std.proofs.Common.{◌≡◌, ◌≢◌, ◌∙◌, sym, ap, subst, refl, ℕ, suc, ◌+◌, ◌<◌, ◌≤◌, Bool, true, false, if◌then◌else◌, List, [], ◌∷◌, length, take, get_or, Some, None, All, arith, eq-eqb, ne_eqb, eqb, inl, inr}
use Rattle.std.specs.Prelude.{Option, is_some}
use Rattle.std.proofs.lemmas.Bool.{cases_eq, false≢true}
use Rattle.std.proofs.lemmas.List.Elements.{All-cons, All-head, All-tail}
use Rattle.outside_traits.specs.Bench.{Workplace}
use Rattle.outside_traits.specs.Fault.{Counts, Rose}
use Rattle.outside_traits.specs.Story.{Story}
use Rattle.meta_model.specs.declared.event.Logged.{Logged}
use Rattle.meta_model.specs.CleanBuild.{Gives}
use Rattle.tale_model.specs.Fates.{NoneRuns}
use Rattle.run_queue.specs.Seen.{RunView, Seen, seen}
use Rattle.run_queue.specs.Turns.{fates_of}
use Rattle.turn_lock.specs.declared.rule.Record.{Record}
use Rattle.turn_lock.specs.declared.rule.View.{View}
use Rattle.turn_lock.specs.Totals.{once}
use Rattle.turn_lock.specs.Views.{entries_of, numbered, records_of}
use Rattle.run_workers.specs.declared.shared.Told.{Told}
use Rattle.run_workers.specs.declared.worker.Halt.{Halt}
use Rattle.run_workers.specs.Left.{AllDid, IsLeft}
use Rattle.run_model.specs.Runs.{RanScripts, RanThese, Runs, broken_off, started_in}
use Rattle.run_workers.specs.Runs.{RanSoFar, ScriptsSoFar, by_bench}
use Rattle.run_workers.specs.Told.{logged_in, printed_in, told}
use Rattle.run_model.specs.Seats.{own}
use Rattle.run_workers.specs.Worked.{AllWorked, Breaks, Did, IsJoined, Worked}
use Rattle.run_workers.proofs.Sinces.{lines_first, since_first}
use Rattle.run_workers.proofs.Spreading.{WorkedAt, all_at, all_long, all_within}
use Rattle.run_workers.proofs.Telling.{logged_own, logged_told, printed_own}
use Rattle.run_workers.proofs.Working.{ran_all, said_all, worked_first}

-- ---- entries and their seats

none_of : (n : ℕ) (tale : List Told) → entries_of (λ e. e.logged.seat) n tale ≡ [] → All (λ e. e.logged.seat ≢ n) tale
none_of n [] none = λ k d lt. absurd (omega (arith, lt))
none_of n (e ∷ tale) none = elim (cases_eq e.logged.seat n) [
  | inl same ↦
      let some : e ∷ entries_of (λ e. e.logged.seat) n tale ≡ [] = sym (ap (λ (b : Bool). if b then e ∷ entries_of (λ e. e.logged.seat) n tale else entries_of (λ e. e.logged.seat) n tale) (eq-eqb e.logged.seat n same)) ∙ none in
      absurd cc
  | inr ne ↦ All-cons (λ (e : Told). e.logged.seat ≢ n) e tale ne (none_of n tale (sym (ap (λ (b : Bool). if b then e ∷ entries_of (λ e. e.logged.seat) n tale else entries_of (λ e. e.logged.seat) n tale) (ne_eqb e.logged.seat n ne)) ∙ none))
]

all_logged : (P : ℕ → Type 0) (tale : List Told) → All (λ (e : Told). P e.logged.seat) tale → All (λ (e : Logged). P e.seat) (logged_in tale)
all_logged P [] all = λ k d lt. absurd (omega (arith, lt))
all_logged P (e ∷ tale) all = All-cons (λ (e : Logged). P e.seat) e.logged (logged_in tale) (All-head (λ (e : Told). P e.logged.seat) e tale all) (all_logged P tale (All-tail (λ (e : Told). P e.logged.seat) e tale all))

rose_of : (a b : ℕ) (failed : Bool) → Counts a b failed → failed ≡ true → Rose a b
rose_of a b true c is = c.rose
rose_of a b false c is = absurd (let n : false ≡ true = is in cc)

module _ {B : Type 0} (dt bt alike : Type 0) (place : B → Workplace) (gives_of : B → Gives) (faults : B → ℕ) (first : Seen) (gives : Gives) where
  -- what a worker did, by the tale
  did : (halt : Option Halt) (n : ℕ) (mine : List Told) (tale : List Logged) (printed : ℕ) (old new : B) → logged_in mine ≡ own n tale → printed_in mine ≡ own n (take printed tale)
      → Worked dt bt alike place gives_of faults first gives halt n mine old new → Did dt bt alike place gives_of faults first gives tale printed n old new
  did halt n mine tale printed old new logged said w = record {
    same = w.same;
    later = w.cause.later;
    breaks = let b = w.breaks in subst (Breaks (Unit {0}) (Rose (faults old) (faults new))) logged (record {
      front = b.front;
      back = b.back;
      cut = b.cut;
      before = b.before;
      last = elim b.last [
        | inl none ↦ inl none
        | inr one ↦ inr (one.0, one.1, tt, λ is. rose_of (faults old) (faults new) (by_bench halt) w.cause (one.3 is))
      ];
    });
    ran = λ t u o e r. let m = w.ran t u o e r in record { runs = m.runs; ran = m.ran; these = subst (λ l. RanThese gives first.plan (broken_off l) (started_in l) m.runs) logged (ran_by halt (started_in (logged_in mine)) m.runs m.these) };
    said = λ t. let m = w.said t in record {
      runs = m.runs;
      ran = m.ran;
      these = subst (λ l. RanScripts first.plan (broken_off l) (started_in (own n (take printed tale))) m.runs) logged (subst (λ l. RanScripts first.plan (broken_off (logged_in mine)) (started_in l) m.runs) said (said_by halt (started_in (printed_in mine)) m.runs m.these));
    };
  }
    where
      ran_by : (h : Option Halt) (ts : List ℕ) (runs : Runs) → RanSoFar gives first.plan h (broken_off (logged_in mine)) ts runs → RanThese gives first.plan (broken_off (logged_in mine)) ts runs
      ran_by None ts runs all = ran_all gives first.plan (broken_off (logged_in mine)) ts runs all
      ran_by (Some h) ts runs these = these

      said_by : (h : Option Halt) (ts : List ℕ) (runs : Runs) → ScriptsSoFar first.plan h (broken_off (logged_in mine)) ts runs → RanScripts first.plan (broken_off (logged_in mine)) ts runs
      said_by None ts runs all = said_all first.plan (broken_off (logged_in mine)) ts runs all
      said_by (Some h) ts runs these = these

module _ {D B W : Type 0} (dt bt wt alike : Type 0) (story : D → Story) (place : B → Workplace) (gives_of : B → Gives) (bench_faults : B → ℕ) (written : W → List ℕ) (faults : W → ℕ) (first : Seen) (count : ℕ) (gives : Gives) where
  pub all_did : {N : Type 0} (v : View N Told) (olds news : List B) (now : RunView D W) → IsJoined v → AllWorked dt bt alike place gives_of bench_faults first gives 1 olds news v.others
      → IsLeft dt wt alike story written faults first count gives (records_of v) now → NoneRuns (fates_of now)
      → AllDid dt bt wt alike story place gives_of bench_faults written faults first count gives olds news now
  all_did v olds news now j all left none = record {
    printed = left.printed;
    since = left.kept.since;
    lines = left.kept.lines;
    heard = heard left.whole refl;
    none = none;
    seats = subst (λ (l : List Logged). All (λ e. (0 < e.seat) × (e.seat ≤ length olds)) l) (logged_told now.tale left.printed)
        (all_logged (λ n. (0 < n) × (n ≤ length olds)) (told now.tale left.printed) (λ k d lt. seat (get_or (told now.tale left.printed) k d).logged.seat (left.others k d lt) (none_zero k d lt)));
    many = all_long dt bt alike place gives_of bench_faults first gives 1 olds news v.others all;
    each = λ k old new was is. at k old new (all_at dt bt alike place gives_of bench_faults first gives 1 olds news v.others all k old new was is);
  }
    where
      heard : (w : Bool) → left.whole ≡ w → now.fault ≡ None → left.printed ≡ length now.tale
      heard true is faultless = (left.kept.whole is).1
      heard false is faultless = absurd (false≢true (sym (ap is_some faultless) ∙ left.kept.faulty is))

      mine : Record Told
      mine = record { number = v.number; entries = v.own }

      none_zero : All (λ (e : Told). e.logged.seat ≢ 0) (told now.tale left.printed)
      none_zero = none_of 0 (told now.tale left.printed) (subst (λ n. entries_of (λ e. e.logged.seat) n (told now.tale left.printed) ≡ []) j.number (left.entries 0 mine (omega arith) ∙ j.mine))

      seat : (n : ℕ) → 0 < numbered n (records_of v) → n ≢ 0 → (0 < n) × (n ≤ length olds)
      seat n some ne =
          let zeroth : once (eqb v.number n) ≡ 0 = ap once (ne_eqb v.number n (λ is. ne (sym is ∙ j.number))) in
          let w = all_within dt bt alike place gives_of bench_faults first gives 1 olds news v.others all n (omega (arith, some, zeroth)) in
          let low = w.0 in let high = w.1 in (omega (arith, low), omega (arith, high))

      at : (k : ℕ) (old new : B) → WorkedAt dt bt alike place gives_of bench_faults first gives 1 k v.others old new → Did dt bt alike place gives_of bench_faults first gives now.tale left.printed (suc k) old new
      at k old new w =
          let r = w.record_at in
          let within = w.within in
          let number : r.number ≡ suc k = w.number ∙ omega arith in
          let entries : entries_of (λ e. e.logged.seat) (suc k) (told now.tale left.printed) ≡ r.entries =
          subst (λ n. entries_of (λ e. e.logged.seat) n (told now.tale left.printed) ≡ r.entries) number
          (subst (λ (x : Record Told). entries_of (λ e. e.logged.seat) x.number (told now.tale left.printed) ≡ x.entries) (w.is mine) (left.entries (suc k) mine (omega (arith, within)))) in
          let one : 1 + k ≡ suc k = omega arith in
          did dt bt alike place gives_of bench_faults first gives w.worked.0 (suc k) r.entries now.tale left.printed old new
          (sym (ap logged_in entries) ∙ logged_own (suc k) (told now.tale left.printed) ∙ ap (own (suc k)) (logged_told now.tale left.printed))
          (sym (ap printed_in entries) ∙ printed_own (suc k) now.tale left.printed)
          (subst (λ n. Worked dt bt alike place gives_of bench_faults first gives w.worked.0 n r.entries old new) one w.worked.1)

  -- where nothing was done
  pub none_did : (olds : List B) (now : RunView D W) → seen story written now ≡ first → faults now.sink ≡ count → now.tale ≡ [] → NoneRuns (fates_of now)
      → AllDid dt bt wt alike story place gives_of bench_faults written faults first count gives olds olds now
  none_did olds now is same empty none =
      record {
        printed = 0;
        since = since_first dt wt alike story written faults first count gives now is same;
        lines = lines_first dt wt alike story written faults first count gives now is;
        heard = λ faultless. sym (ap length empty);
        none = none;
        seats = subst (λ (l : List Logged). All (λ e. (0 < e.seat) × (e.seat ≤ length olds)) l) (sym empty) (λ k d lt. absurd (omega (arith, lt)));
        many = refl;
        each = λ k old new was at.
            let b : old ≡ new = (let e : Some old ≡ Some new = sym was ∙ at in cc) in
            subst (Did dt bt alike place gives_of bench_faults first gives now.tale 0 (suc k) old) b
            (did dt bt alike place gives_of bench_faults first gives None (suc k) [] now.tale 0 old old (sym (ap (own (suc k)) empty)) refl (worked_first dt bt alike place gives_of bench_faults first gives (suc k) [] old refl));
      }
