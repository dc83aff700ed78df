-- Why workers came to an end, told of longer tales and of more benches.
use Rattle.std.proofs.Common.{◌≡◌, ◌∙◌, sym, ap, subst, refl, arith, ℕ, zero, suc, Bool, true, false, List, [], ◌∷◌, ◌++◌, length, append_assoc, append-nil, Some, None, Ok, Err, inl, inr}
use Rattle.std.specs.Prelude.{IsSome, MatchBool, Option, Result, ◌||◌}
use Rattle.std.proofs.lemmas.Bool.{false≢true}
use Rattle.std.proofs.lemmas.List.Sums.{fold_push}
use Rattle.outside_traits.specs.Fault.{Rose}
use Rattle.outside_traits.specs.Story.{Story}
use Rattle.tree_model.specs.declared.text.Mem.{Mem}
use Rattle.meta_model.specs.CleanBuild.{Gives}
use Rattle.meta_model.specs.declared.event.Logged.{Logged}
use Rattle.meta_model.specs.declared.plan.Options.{Options}
use Rattle.meta_model.specs.declared.plan.Plan.{Plan}
use Rattle.tale_model.specs.Fates.{HoldsFailure, fates_told}
use Rattle.run_model.specs.Outcome.{IsAtEnd}
use Rattle.run_queue.specs.Keeps.{IsState}
use Rattle.run_queue.specs.Seen.{RunView, Seen}
use Rattle.meta_model.specs.declared.event.Cut.{Cut}
use Rattle.meta_model.specs.declared.event.Cut.TheVariants as cut
use Rattle.meta_model.specs.declared.event.Event.TheVariants as events
use Rattle.run_model.specs.Report.{is_started}
use Rattle.run_model.specs.Seats.{is_bench_break, is_break}
use Rattle.task_worker.specs.declared.given.Given.{Given}
use Rattle.task_worker.specs.declared.given.Given.TheVariants as given
use Rattle.turn_lock.specs.declared.rule.View.{View}
use Rattle.run_queue.specs.Turns.{Claims, closed_by}
use Rattle.run_model.specs.Runs.{broken_by, broken_off}
use Rattle.run_workers.specs.Runs.{by_bench}
use Rattle.run_workers.specs.Worked.{BrokeOff, Closes}
use Rattle.run_queue.specs.declared.closing.Ending.{Ending}
use Rattle.run_queue.specs.declared.closing.Ending.TheVariants as ending
use Rattle.run_queue.specs.declared.fault.RunFault.{RunFault}
use Rattle.run_queue.specs.declared.state.Claim.{Claim}
use Rattle.run_queue.specs.declared.state.Claim.TheVariants as claim
use Rattle.turn_lock.specs.Views.{Begins}
use Rattle.run_workers.specs.Ended.{AllEnded, ClaimSays, Ended, HaltsBy, HaltsIn, IsStopped, SaysWhy, WasFaulty, by_memory}
use Rattle.run_workers.specs.Seats.{BreakAdds, EndAdds, Entry, HeardOn, IsSameSeat, Turned, closing_as}
use Rattle.run_workers.specs.Since.{Kept, SharedView}
use Rattle.run_workers.specs.Told.{logged_in, told}
use Rattle.run_workers.specs.declared.shared.Claimed.{Claimed}
use Rattle.run_workers.specs.declared.shared.Closing.{Closing}
use Rattle.run_workers.specs.declared.shared.Closing.TheVariants as closing
use Rattle.run_workers.specs.declared.shared.Told.{Told}
use Rattle.run_workers.specs.declared.worker.Halt.{Halt}
use Rattle.run_workers.specs.declared.worker.Halt.TheVariants as halts
use Rattle.run_workers.proofs.Telling.{logged_split, logged_told}

-- ---- what a claim says

module _ {D W : Type 0} (n : ℕ) (old new : RunView D W) (first : Seen) (same_plan : old.plan ≡ first.plan) (same_options : old.options ≡ first.options) where
  stopped_first : (tale : List Logged) → HoldsFailure (fates_told (length old.plan.tasks) tale) → old.options.keep_going ≡ false → IsStopped first tale
  stopped_first tale failed ends = (subst (λ (p : Plan). HoldsFailure (fates_told (length p.tasks) tale)) same_plan failed, ap (λ (x : Options). x.keep_going) (sym same_options) ∙ ends)

  pub says_why : (c : Claim) → Claims n old new (Ok c) → SaysWhy first new.tale (IsSome new.fault) c
  says_why (claim.Run job) h = tt
  says_why (claim.Settled t) h = tt
  says_why (claim.Restore t) h = tt
  says_why claim.Wait h = tt
  says_why claim.Finished h =
      subst (λ (l : List Logged). IsAtEnd first.plan first.options l) (sym h.0) (subst (λ (x : Options). IsAtEnd first.plan x old.tale) same_options (subst (λ (p : Plan). IsAtEnd p old.options old.tale) same_plan h.1))
  says_why claim.Stopped h = elim h.1 [
    | inl failed ↦ inl (subst (IsStopped first) (sym h.0) (stopped_first old.tale failed.0 failed.1))
    | inr fault ↦ inr fault
  ]

-- the same over another tale, and of another fault
pub says_on : (first : Seen) (tale other : List Logged) (faulty more : Type 0) (r : Result Claimed Mem) → tale ≡ other → (faulty → more) → ClaimSays first tale faulty r → ClaimSays first other more r
says_on first tale other faulty more (Ok c) same goes h = (why c.claim h.0, λ unheard. goes (h.1 unheard))
  where
    why : (x : Claim) → SaysWhy first tale faulty x → SaysWhy first other more x
    why (claim.Run job) w = tt
    why (claim.Settled t) w = tt
    why (claim.Restore t) w = tt
    why claim.Wait w = tt
    why claim.Finished w = subst (λ (l : List Logged). IsAtEnd first.plan first.options l) same w
    why claim.Stopped (inl stopped) = inl (subst (IsStopped first) same stopped)
    why claim.Stopped (inr fault) = inr (goes fault)
says_on first tale other faulty more (Err e) same goes h = tt

-- where not all had been printed behind a turn, a fault is kept
pub unheard_faulty : (was now : Option RunFault) (events printed later : ℕ) (whole still : Bool) → HeardOn now events printed whole later still → (whole ≡ false → IsSome was) → (IsSome was → now ≡ was) → still ≡ false → IsSome now
unheard_faulty was now events printed later whole still h faulty rests unheard = elim (h.stops unheard) [
  | inl before ↦ subst (λ (f : Option RunFault). IsSome f) (sym (rests (faulty before))) (faulty before)
  | inr here ↦ here
]

-- a job that was closed where a fault is kept
pub ended_stops : (r : Result Ending Mem) (faulty : Bool) (kept : Option RunFault) → MatchBool faulty (IsSome kept) (kept ≡ None) → closing_as r faulty ≡ Ok closing.Stopped → IsSome kept
ended_stops (Ok ending.More) faulty kept m is = absurd (let n : ◌≡◌ {A = Result Closing Mem} (Ok closing.More) (Ok closing.Stopped) = is in cc)
ended_stops (Ok ending.Wait) faulty kept m is = absurd (let n : ◌≡◌ {A = Result Closing Mem} (Ok closing.Wait) (Ok closing.Stopped) = is in cc)
ended_stops (Ok ending.Closed) true kept m is = m
ended_stops (Ok ending.Closed) false kept m is = absurd (let n : ◌≡◌ {A = Result Closing Mem} (Ok closing.Closed) (Ok closing.Stopped) = is in cc)
ended_stops (Err e) faulty kept m is = absurd (let n : ◌≡◌ {A = Result Closing Mem} (Err e) (Ok closing.Stopped) = is in cc)

-- a shared state that keeps a fault
module _ {D W : Type 0} (dt wt alike : Type 0) (story : D → Story) (written : W → List ℕ) (disk_faults : D → ℕ) (faults : W → ℕ) (first : Seen) (count : ℕ) (gives : Gives) where
  pub was_faulty : (s : SharedView D W) (seen : List Told) → Kept dt wt alike story written faults first count gives s → IsState (disk_faults s.state.store.disk) s.state → seen ≡ told s.state.tale s.printed → IsSome s.state.fault → WasFaulty disk_faults faults first count (logged_in seen)
  was_faulty s seen kept state is some = record {
    then = s.state;
    plan = kept.since.plan;
    tale_is = sym (ap logged_in is ∙ logged_told s.state.tale s.printed);
    kept = state;
    sink = kept.since.sink;
    faulty = some;
  }

-- ---- workers

module _ (first : Seen) (faulty : List Logged → Type 0) where
  pub halts_now : (halt : Halt) (tale : List Logged) → HaltsBy first faulty halt tale → HaltsIn first faulty (Some halt) tale
  halts_now halt tale why = (tale, [], sym (append-nil tale), why)

  pub halts_later : (halt : Option Halt) (tale later more : List Logged) → later ≡ tale ++ more → HaltsIn first faulty halt tale → HaltsIn first faulty halt later
  halts_later None tale later more is h = tt
  halts_later (Some halt) tale later more is h = (h.0, h.1 ++ more, is ∙ ap (λ (l : List Logged). l ++ more) h.2 ∙ append_assoc h.0 h.1 more, h.3)

  pub ended_later : (wanting still : Bool) (failed : Type 0) (tale later more : List Logged) → later ≡ tale ++ more → (wanting ≡ true → still ≡ true) → Ended first faulty wanting failed tale → Ended first faulty still failed later
  ended_later wanting still failed tale later more is goes e = record { halt = e.halt; why = halts_later (Some e.halt) tale later more is e.why; memory = λ m. goes (e.memory m); bench = e.bench }

  module _ {B : Type 0} (faults : B → ℕ) where
    pub none_ended : (wanting : Bool) (tale : List Logged) (news : List B) → AllEnded first faulty faults wanting tale [] news
    none_ended wanting tale news k old new was is = absurd (let n : None ≡ Some old = was in cc)

    -- one more
    pub ended_push : (wanting : Bool) (tale : List Logged) (olds news : List B) (x y : B) → length news ≡ length olds → AllEnded first faulty faults wanting tale olds news → Ended first faulty wanting (Rose (faults x) (faults y)) tale → AllEnded first faulty faults wanting tale (olds ++ x ∷ []) (news ++ y ∷ [])
    ended_push wanting tale [] [] x y long all one zero old new was is =
        let a : x ≡ old = (let e : Some x ≡ Some old = was in cc) in
        let b : y ≡ new = (let e : Some y ≡ Some new = is in cc) in
        subst (λ (u : B). Ended first faulty wanting (Rose (faults u) (faults new)) tale) a (subst (λ (v : B). Ended first faulty wanting (Rose (faults x) (faults v)) tale) b one)
    ended_push wanting tale [] [] x y long all one (suc k) old new was is = absurd (let n : None ≡ Some old = was in cc)
    ended_push wanting tale [] (b ∷ news) x y long all one k old new was is = absurd (let e : suc (length news) ≡ 0 = long in omega (arith, e))
    ended_push wanting tale (a ∷ olds) [] x y long all one k old new was is = absurd (let e : 0 ≡ suc (length olds) = long in omega (arith, e))
    ended_push wanting tale (a ∷ olds) (b ∷ news) x y long all one zero old new was is = all zero old new was is
    ended_push wanting tale (a ∷ olds) (b ∷ news) x y long all one (suc k) old new was is = ended_push wanting tale olds news x y (let e : suc (length news) ≡ suc (length olds) = long in omega (arith, e)) (λ j. all (suc j)) one k old new was is

    pub all_later : (wanting still : Bool) (tale later more : List Logged) (olds news : List B) → later ≡ tale ++ more → (wanting ≡ true → still ≡ true) → AllEnded first faulty faults wanting tale olds news → AllEnded first faulty faults still later olds news
    all_later wanting still tale later more olds news is goes all k old new was at = ended_later wanting still (Rose (faults old) (faults new)) tale later more is goes (all k old new was at)

    -- where nothing was done for want of memory
    pub all_wanting : (tale : List Logged) (olds news : List B) → AllEnded first faulty faults true tale olds news
    all_wanting tale olds news k old new was is = record { halt = halts.Memory; why = ([], tale, refl, tt); memory = λ m. refl; bench = λ b. absurd (let n : halts.Memory ≡ halts.Bench = b in cc) }

    -- one worker, by its last turn
    pub ended_one : (halt : Halt) (wanting : Bool) (tale : List Logged) (old new : B) → wanting ≡ by_memory halt → HaltsIn first faulty (Some halt) tale → (halt ≡ halts.Bench → Rose (faults old) (faults new)) → Ended first faulty wanting (Rose (faults old) (faults new)) tale
    ended_one halt wanting tale old new is why bench = record { halt = halt; why = why; memory = λ m. is ∙ m; bench = bench }

    -- what a seat that took others in has seen begins with what they had seen
    pub all_seen : (wanting still : Bool) (seen later : List Told) (olds news : List B) → Begins later seen → (wanting ≡ true → still ≡ true) → AllEnded first faulty faults wanting (logged_in seen) olds news → AllEnded first faulty faults still (logged_in later) olds news
    all_seen wanting still seen later olds news b goes all = all_later wanting still (logged_in seen) (logged_in later) (logged_in b.0) olds news (ap logged_in b.1 ∙ logged_split seen b.0) goes all

  pub one_seen : (wanting still : Bool) (failed : Type 0) (seen later : List Told) → Begins later seen → (wanting ≡ true → still ≡ true) → Ended first faulty wanting failed (logged_in seen) → Ended first faulty still failed (logged_in later)
  one_seen wanting still failed seen later b goes e = ended_later wanting still failed (logged_in seen) (logged_in later) (logged_in b.0) (ap logged_in b.1 ∙ logged_split seen b.0) goes e

-- a choice of two
pub want_first : (a b : Bool) → a ≡ true → (a || b) ≡ true
want_first true b e = refl
want_first false b e = absurd (false≢true e)

pub want_second : (a b : Bool) → b ≡ true → (a || b) ≡ true
want_second true b e = refl
want_second false b e = e

-- ---- what a turn leaves

-- what a seat has seen begins with what it had seen before its turn
pub turned_seen : {N : Type 0} (v w : View N Told) (added : List Told) → Turned v w added → Begins w.seen v.seen
turned_seen v w added t = (t.begins.0 ++ added, t.seen ∙ ap (λ l. l ++ added) t.begins.1 ∙ append_assoc v.seen t.begins.0 added)

-- where it added nothing its own record is as it was
pub turned_none : {N : Type 0} (v w : View N Told) (added : List Told) → added ≡ [] → Turned v w added → w.own ≡ v.own
turned_none v w added none t = t.mine ∙ ap (λ l. v.own ++ l) none ∙ append-nil v.own

-- and it is the same seat
pub turned_same : {N : Type 0} (u v w : View N Told) (added : List Told) → IsSameSeat u v → Turned v w added → IsSameSeat u w
turned_same u v w added s t = record { name = t.name ∙ s.name; number = t.number ∙ s.number; spare = t.spare ∙ s.spare; others = t.others ∙ s.others }

closed_quiet : (t : ℕ) (g : Option Given) → is_started (closed_by t g) ≡ false
closed_quiet t None = refl
closed_quiet t (Some (given.Tree tree manifest)) = refl
closed_quiet t (Some (given.Fails status)) = refl
closed_quiet t (Some given.TooLarge) = refl

closed_calm : (t : ℕ) (g : Option Given) → is_break (closed_by t g) ≡ false
closed_calm t None = refl
closed_calm t (Some (given.Tree tree manifest)) = refl
closed_calm t (Some (given.Fails status)) = refl
closed_calm t (Some given.TooLarge) = refl

-- a job that was closed, whatever comes then
pub closes_as : (n t : ℕ) (g : Option Given) (printed : Bool) (halt : Option Halt) (old new added : List Told) → Entry n printed (closed_by t g) added → new ≡ old ++ added → Closes n halt old new
closes_as n t g printed halt old new added e is = record {
  event = closed_by t g;
  moment = e.moment;
  printed = printed;
  is = is ∙ ap (λ l. old ++ l) e.is;
  quiet = closed_quiet t g;
  breaks = λ b. absurd (false≢true (sym (closed_calm t g) ∙ b));
}

-- one that broke, in a worker that halts; by its bench only where that is why it halts
closes_broken : (n t : ℕ) (c : Cut) (printed : Bool) (halt : Halt) (old new added : List Told) → (is_bench_break (events.Broke t c) ≡ true → by_bench (Some halt) ≡ true) → Entry n printed (events.Broke t c) added → new ≡ old ++ added → Closes n (Some halt) old new
closes_broken n t c printed halt old new added bench e is = record {
  event = events.Broke t c;
  moment = e.moment;
  printed = printed;
  is = is ∙ ap (λ l. old ++ l) e.is;
  quiet = refl;
  breaks = λ b. (refl, bench);
}

bench_cut : (t : ℕ) (c : Cut) → is_bench_break (events.Broke t c) ≡ true → c ≡ cut.Bench
bench_cut t cut.Memory is = absurd (false≢true is)
bench_cut t cut.Bench is = refl
bench_cut t cut.Fault is = absurd (false≢true is)

-- one that was broken off
pub closes_broke : (n t : ℕ) (asked : Cut) (halt : Halt) (old new added : List Told) → (asked ≡ cut.Bench → by_bench (Some halt) ≡ true) → BreakAdds n t asked added → new ≡ old ++ added → Closes n (Some halt) old new
closes_broke n t asked halt old new added goes a is = closes_broken n t a.broke a.printed halt old new added (λ bench. elim a.as_asked [
  | inl same ↦ goes (sym same ∙ bench_cut t a.broke bench)
  | inr other ↦ absurd (other (bench_cut t a.broke bench))
]) a.entry is

-- its seat's record says so then
pub broke_off : (n t : ℕ) (asked : Cut) (halt : Halt) (old new added : List Told) → BreakAdds n t asked added → new ≡ old ++ added → BrokeOff t (Some halt) (logged_in new)
broke_off n t asked halt old new added a is =
    let e : Logged = record { event = events.Broke t a.broke; seat = n; moment = a.entry.moment } in
    (refl, ap (λ (l : List Told). broken_off (logged_in l)) (is ∙ ap (λ l. old ++ l) a.entry.is) ∙ ap broken_off (logged_split old (record { logged = e; printed = a.printed } ∷ [])) ∙ fold_push (λ before entry. broken_by entry.event) None (logged_in old) e)

-- by what a turn of it added
pub closes_closed : (n t : ℕ) (g : Option Given) (old new added : List Told) → EndAdds n t g (Ok closing.Closed) added → new ≡ old ++ added → Closes n None old new
closes_closed n t g old new added (printed, e) is = closes_as n t g printed None old new added e is

pub closes_stopped : (n t : ℕ) (g : Option Given) (old new added : List Told) → EndAdds n t g (Ok closing.Stopped) added → new ≡ old ++ added → Closes n (Some halts.Stopped) old new
closes_stopped n t g old new added (printed, inl e) is = closes_as n t g printed (Some halts.Stopped) old new added e is
closes_stopped n t g old new added (printed, inr e) is = closes_broken n t cut.Fault printed halts.Stopped old new added (λ b. absurd (false≢true b)) e is

pub closes_wanting : (n t : ℕ) (g : Option Given) (e : Mem) (old new added : List Told) → EndAdds n t g (Err e) added → new ≡ old ++ added → Closes n (Some halts.Memory) old new
closes_wanting n t g e old new added (printed, m) is = closes_broken n t cut.Memory printed halts.Memory old new added (λ b. absurd (false≢true b)) m is
