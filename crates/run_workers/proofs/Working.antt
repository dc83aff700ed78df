-- What a worker did, turn by turn.
use Rattle.std.proofs.Common.{◌≡◌, ◌∙◌, sym, ap, subst, refl, ℕ, Bool, true, false, List, [], ◌∷◌, ◌++◌, append_assoc, append-nil, Some, None, inl, inr, arith}
use Rattle.std.specs.Prelude.{◌⊎◌, Option, IsSome}
use Rattle.std.proofs.lemmas.Bool.{false≢true}
use Rattle.outside_traits.specs.Bench.{Workplace}
use Rattle.outside_traits.specs.Fault.{Counts}
use Rattle.meta_model.specs.declared.event.Event.{Event}
use Rattle.meta_model.specs.declared.event.Event.TheVariants as events
use Rattle.meta_model.specs.declared.event.Why.TheVariants as why
use Rattle.meta_model.specs.declared.event.Logged.{Logged}
use Rattle.meta_model.specs.declared.plan.Plan.{Plan}
use Rattle.meta_model.specs.CleanBuild.{Entries, Gives}
use Rattle.run_model.specs.Report.{is_started}
use Rattle.task_worker.specs.declared.given.Job.{Job}
use Rattle.run_queue.specs.declared.state.Claim.TheVariants as claim
use Rattle.run_model.specs.Opening.{Opening}
use Rattle.run_queue.specs.Keeps.{IsRun}
use Rattle.run_queue.specs.Seen.{Seen}
use Rattle.run_queue.specs.Turns.{IsCleanJob}
use Rattle.run_workers.specs.declared.shared.Told.{Told}
use Rattle.run_workers.specs.declared.worker.Halt.{Halt}
use Rattle.run_workers.specs.Runs.{AllRan, AllScripts, RanSoFar, ScriptsSoFar, by_bench}
use Rattle.run_model.specs.Runs.{IsRunOf, IsScriptOf, RanScripts, RanThese, Runs, broken_off, started_in}
use Rattle.run_workers.specs.Seats.{AddsBy, HoldsNone, MendAdds}
use Rattle.run_queue.specs.declared.restoring.Mending.{Mending}
use Rattle.run_queue.specs.declared.restoring.Mending.TheVariants as mending
use Rattle.run_workers.specs.Told.{logged_in, printed_in}
use Rattle.run_workers.specs.Worked.{Breaks, BrokeOff, Closes, NoneBroke, RanMine, RanOnce, SaidMine, Worked}
use Rattle.run_model.specs.Seats.{is_bench_break, is_break}
use Rattle.run_workers.proofs.Records.{none_added, none_first}
use Rattle.run_workers.proofs.Telling.{logged_split, printed_split}

-- ---- lists of runs

pub started_split : (one other : List Logged) → started_in (one ++ other) ≡ started_in one ++ started_in other
started_split [] other = refl
started_split (e ∷ one) other = by e.event (started_split one other)
  where
    by : (x : Event) → started_in (one ++ other) ≡ started_in one ++ started_in other → started_in (record e { event = x } ∷ (one ++ other)) ≡ started_in (record e { event = x } ∷ one) ++ started_in other
    by (events.Found t) rest = rest
    by (events.Restored t) rest = rest
    by (events.Started t seat) rest = ap (λ l. t ∷ l) rest
    by (events.Ended t) rest = rest
    by (events.Failed t w) rest = rest
    by (events.Broke t c) rest = rest

-- an event that is no start starts nothing
quiet_starts : (e : Logged) → is_started e.event ≡ false → started_in (e ∷ []) ≡ []
quiet_starts e quiet = by e.event quiet
  where
    by : (x : Event) → is_started x ≡ false → started_in (record e { event = x } ∷ []) ≡ []
    by (events.Found t) q = refl
    by (events.Restored t) q = refl
    by (events.Started t seat) q = absurd (false≢true (sym q))
    by (events.Ended t) q = refl
    by (events.Failed t w) q = refl
    by (events.Broke t c) q = refl

quiet_says : (e : Told) → is_started e.logged.event ≡ false → started_in (printed_in (e ∷ [])) ≡ []
quiet_says e quiet = by e.printed
  where
    by : (p : Bool) → started_in (printed_in (record e { printed = p } ∷ [])) ≡ []
    by true = quiet_starts e.logged quiet
    by false = refl

module _ (gives : Gives) (plan : Plan) where
  pub ran_all : (broke : Option ℕ) (ts : List ℕ) (runs : Runs) → AllRan gives plan ts runs → RanThese gives plan broke ts runs
  ran_all broke [] [] all = tt
  ran_all broke [] (r ∷ runs) all = absurd all
  ran_all broke (t ∷ ts) [] all = absurd all
  ran_all broke (t ∷ ts) (r ∷ runs) all = (all.0, ran_all broke ts runs all.1)

  ran_one : (ts : List ℕ) (t : ℕ) (runs : Runs) (run : List ℕ × Entries) → AllRan gives plan ts runs → IsRunOf gives plan t run → AllRan gives plan (ts ++ t ∷ []) (runs ++ run ∷ [])
  ran_one [] t [] run all is = (is, tt)
  ran_one [] t (r ∷ runs) run all is = absurd all
  ran_one (u ∷ ts) t [] run all is = absurd all
  ran_one (u ∷ ts) t (r ∷ runs) run all is = (all.0, ran_one ts t runs run all.1 is)

  ran_none : (ts : List ℕ) (t : ℕ) (runs : Runs) → AllRan gives plan ts runs → RanThese gives plan (Some t) (ts ++ t ∷ []) runs
  ran_none [] t [] all = (refl, refl)
  ran_none [] t (r ∷ runs) all = absurd all
  ran_none (u ∷ ts) t [] all = absurd all
  ran_none (u ∷ ts) t (r ∷ runs) all = (all.0, ran_none ts t runs all.1)

  -- up to where a worker goes on or halts
  ran_so_far : (halt : Option Halt) (broke : Option ℕ) (ts : List ℕ) (runs : Runs) → AllRan gives plan ts runs → RanSoFar gives plan halt broke ts runs
  ran_so_far None broke ts runs all = all
  ran_so_far (Some h) broke ts runs all = ran_all broke ts runs all

  ran_or_broke : (halt : Option Halt) (mine : List Logged) (ts : List ℕ) (t : ℕ) (runs : Runs) → BrokeOff t halt mine → AllRan gives plan ts runs → RanSoFar gives plan halt (broken_off mine) (ts ++ t ∷ []) runs
  ran_or_broke None mine ts t runs broke all = absurd (false≢true broke.0)
  ran_or_broke (Some h) mine ts t runs broke all = subst (λ (b : Option ℕ). RanThese gives plan b (ts ++ t ∷ []) runs) (sym broke.1) (ran_none ts t runs all)

module _ (plan : Plan) where
  pub said_all : (broke : Option ℕ) (ts : List ℕ) (runs : Runs) → AllScripts plan ts runs → RanScripts plan broke ts runs
  said_all broke [] [] all = tt
  said_all broke [] (r ∷ runs) all = absurd all
  said_all broke (t ∷ ts) [] all = absurd all
  said_all broke (t ∷ ts) (r ∷ runs) all = (all.0, said_all broke ts runs all.1)

  said_one : (ts : List ℕ) (t : ℕ) (runs : Runs) (run : List ℕ × Entries) → AllScripts plan ts runs → IsScriptOf plan t run.0 → AllScripts plan (ts ++ t ∷ []) (runs ++ run ∷ [])
  said_one [] t [] run all is = (is, tt)
  said_one [] t (r ∷ runs) run all is = absurd all
  said_one (u ∷ ts) t [] run all is = absurd all
  said_one (u ∷ ts) t (r ∷ runs) run all is = (all.0, said_one ts t runs run all.1 is)

  said_none : (ts : List ℕ) (t : ℕ) (runs : Runs) → AllScripts plan ts runs → RanScripts plan (Some t) (ts ++ t ∷ []) runs
  said_none [] t [] all = (refl, refl)
  said_none [] t (r ∷ runs) all = absurd all
  said_none (u ∷ ts) t [] all = absurd all
  said_none (u ∷ ts) t (r ∷ runs) all = (all.0, said_none ts t runs all.1)

  said_so_far : (halt : Option Halt) (broke : Option ℕ) (ts : List ℕ) (runs : Runs) → AllScripts plan ts runs → ScriptsSoFar plan halt broke ts runs
  said_so_far None broke ts runs all = all
  said_so_far (Some h) broke ts runs all = said_all broke ts runs all

  said_or_broke : (halt : Option Halt) (mine : List Logged) (ts : List ℕ) (t : ℕ) (runs : Runs) → BrokeOff t halt mine → AllScripts plan ts runs → ScriptsSoFar plan halt (broken_off mine) (ts ++ t ∷ []) runs
  said_or_broke None mine ts t runs broke all = absurd (false≢true broke.0)
  said_or_broke (Some h) mine ts t runs broke all = subst (λ (b : Option ℕ). RanScripts plan b (ts ++ t ∷ []) runs) (sym broke.1) (said_none ts t runs all)

-- ---- entries of which none broke

none_broke_then : (one other : List Logged) → NoneBroke one → NoneBroke other → NoneBroke (one ++ other)
none_broke_then [] other a b = b
none_broke_then (e ∷ one) other a b = (a.0, none_broke_then one other a.1 b)

-- a worker goes on
abbrev going : Option Halt
going = None

-- then none broke
none_broke : (mine : List Logged) → Breaks (IsSome going) (by_bench going ≡ true) mine → NoneBroke mine
none_broke mine b = elim b.last [
  | inl none ↦ subst NoneBroke (sym (b.cut ∙ ap (λ l. b.front ++ l) none ∙ append-nil b.front)) b.before
  | inr last ↦ absurd (false≢true last.2)
]

breaks_none : (halts failed : Type 0) (mine : List Logged) → NoneBroke mine → Breaks halts failed mine
breaks_none halts failed mine none = record { front = mine; back = []; cut = sym (append-nil mine); before = none; last = inl refl }

breaks_one : (halts failed : Type 0) (mine : List Logged) (e : Logged) → NoneBroke mine → (is_break e.event ≡ true → halts × (is_bench_break e.event ≡ true → failed)) → Breaks halts failed (mine ++ e ∷ [])
breaks_one halts failed mine e none breaks = at (is_break e.event) refl
  where
    at : (b : Bool) → is_break e.event ≡ b → Breaks halts failed (mine ++ e ∷ [])
    at true is = record { front = mine; back = e ∷ []; cut = refl; before = none; last = inr (e, refl, (breaks is).0, (breaks is).1) }
    at false is = breaks_none halts failed (mine ++ e ∷ []) (none_broke_then mine (e ∷ []) none (is, tt))

-- ---- what a claim adds where it hands out no job

abbrev pub Quiet : ℕ → List Told → Type 0
Quiet n added = (added ≡ []) ⊎ ((e : Told) × (added ≡ e ∷ []) × (e.logged.seat ≡ n) × (is_started e.logged.event ≡ false) × (is_break e.logged.event ≡ false))

pub quiet_settled : (n t : ℕ) (printed : Bool) (added : List Told) → AddsBy n printed (claim.Settled t) added → Quiet n added
quiet_settled n t printed added (inl e) = inr (record { logged = record { event = events.Found t; seat = n; moment = e.moment }; printed = printed }, e.is, refl, refl, refl)
quiet_settled n t printed added (inr (inl e)) = inr (record { logged = record { event = events.Restored t; seat = n; moment = e.moment }; printed = printed }, e.is, refl, refl, refl)
quiet_settled n t printed added (inr (inr e)) = inr (record { logged = record { event = events.Failed t why.TooLarge; seat = n; moment = e.moment }; printed = printed }, e.is, refl, refl, refl)

-- what a turn adds on a task that is being restored
pub quiet_mended : (n t : ℕ) (r : Mending) (added : List Told) → MendAdds n t r added → Quiet n added
quiet_mended n t mending.More added is = inl is
quiet_mended n t mending.Wait added is = inl is
quiet_mended n t mending.Closed added (inl is) = inl is
quiet_mended n t mending.Closed added (inr e) = inr (record { logged = record { event = events.Restored t; seat = n; moment = e.1.moment }; printed = e.0 }, e.1.is, refl, refl, refl)
quiet_mended n t mending.Stopped added is = inl is

-- ---- a worker

counts_on : (a b c : ℕ) (failed : Bool) → Counts a b false → Counts b c failed → Counts a c failed
counts_on a b c failed one other = subst (λ n. Counts n c failed) one.stayed other

module _ {B : Type 0} (dt bt alike : Type 0) (place : B → Workplace) (gives_of : B → Gives) (faults : B → ℕ) (first : Seen) (gives : Gives) where
  -- before its first turn
  pub worked_first : (n : ℕ) (mine : List Told) (b : B) → mine ≡ [] → Worked dt bt alike place gives_of faults first gives None n mine b b
  worked_first n mine b none = record {
    none = none_first n mine none;
    same = refl;
    cause = record { later = omega arith; rose = tt; stayed = refl };
    breaks = breaks_none _ _ (logged_in mine) (subst (λ (l : List Told). NoneBroke (logged_in l)) (sym none) tt);
    ran = λ t u o e r. record { runs = []; ran = sym (append-nil (place b).runs); these = subst (λ (l : List Told). AllRan gives first.plan (started_in (logged_in l)) []) (sym none) tt };
    said = λ t. record { runs = []; ran = sym (append-nil (place b).runs); these = subst (λ (l : List Told). AllScripts first.plan (started_in (printed_in l)) []) (sym none) tt };
  }

  -- what only waits on the bench changes nothing of that
  pub worked_beside : (halt : Option Halt) (n : ℕ) (mine : List Told) (old now next : B) → gives_of next ≡ gives_of now → (bt → place next ≡ place now) → faults next ≡ faults now → (alike → bt) → Worked dt bt alike place gives_of faults first gives halt n mine old now
      → Worked dt bt alike place gives_of faults first gives halt n mine old next
  worked_beside halt n mine old now next same_gives same_place same_faults tell w = record {
    none = w.none;
    same = same_gives ∙ w.same;
    cause = subst (λ f. Counts (faults old) f (by_bench halt)) (sym same_faults) w.cause;
    breaks = w.breaks;
    ran = λ t u o e r. let before = w.ran t u o e r in record { runs = before.runs; ran = ap (λ (p : Workplace). p.runs) (same_place (tell u)) ∙ before.ran; these = before.these };
    said = λ t. let before = w.said t in record { runs = before.runs; ran = ap (λ (p : Workplace). p.runs) (same_place t) ∙ before.ran; these = before.these };
  }

  module _ (n : ℕ) (mine : List Told) (old now : B) (w : Worked dt bt alike place gives_of faults first gives None n mine old now) where
    -- a turn that adds nothing, or one entry that is no start and says of no task that it broke, and in which nothing ran
    pub worked_on : (halt : Option Halt) (added : List Told) → by_bench halt ≡ false → Quiet n added
        → Worked dt bt alike place gives_of faults first gives halt n (mine ++ added) old now
    worked_on halt added whole which = record {
      none = elim which [
        | inl is ↦ subst (HoldsNone n) (sym (ap (λ l. mine ++ l) is ∙ append-nil mine)) w.none
        | inr m ↦ subst (λ (l : List Told). HoldsNone n (mine ++ l)) (sym (m.1 ∙ ap (λ s. record (m.0) { logged = record (m.0.logged) { seat = s } } ∷ []) m.2)) (none_added n mine m.0.logged.event m.0.logged.moment m.0.printed m.3)
      ];
      same = w.same;
      cause = subst (λ f. Counts (faults old) (faults now) f) (sym whole) w.cause;
      breaks = breaks_none _ _ (logged_in (mine ++ added)) (subst NoneBroke (sym (logged_split mine added)) (none_broke_then (logged_in mine) (logged_in added) (none_broke (logged_in mine) w.breaks) quiet));
      ran = λ t u o e r. let before = w.ran t u o e r in record {
        runs = before.runs;
        ran = before.ran;
        these = subst (λ ts. RanSoFar gives first.plan halt (broken_off (logged_in (mine ++ added))) ts before.runs) (sym same_logged) (ran_so_far gives first.plan halt (broken_off (logged_in (mine ++ added))) (started_in (logged_in mine)) before.runs before.these);
      };
      said = λ t. let before = w.said t in record {
        runs = before.runs;
        ran = before.ran;
        these = subst (λ ts. ScriptsSoFar first.plan halt (broken_off (logged_in (mine ++ added))) ts before.runs) (sym same_printed) (said_so_far first.plan halt (broken_off (logged_in (mine ++ added))) (started_in (printed_in mine)) before.runs before.these);
      };
    }
      where
        quiet : NoneBroke (logged_in added)
        quiet = elim which [
          | inl is ↦ subst (λ (l : List Told). NoneBroke (logged_in l)) (sym is) tt
          | inr m ↦ subst (λ (l : List Told). NoneBroke (logged_in l)) (sym m.1) (m.4, tt)
        ]

        starts_none : started_in (logged_in added) ≡ []
        starts_none = elim which [
          | inl is ↦ ap (λ (l : List Told). started_in (logged_in l)) is
          | inr m ↦ ap (λ (l : List Told). started_in (logged_in l)) m.1 ∙ quiet_starts m.0.logged m.3
        ]

        says_none : started_in (printed_in added) ≡ []
        says_none = elim which [
          | inl is ↦ ap (λ (l : List Told). started_in (printed_in l)) is
          | inr m ↦ ap (λ (l : List Told). started_in (printed_in l)) m.1 ∙ quiet_says m.0 m.3
        ]

        same_logged : started_in (logged_in (mine ++ added)) ≡ started_in (logged_in mine)
        same_logged = ap started_in (logged_split mine added) ∙ started_split (logged_in mine) (logged_in added) ∙ ap (λ l. started_in (logged_in mine) ++ l) starts_none ∙ append-nil (started_in (logged_in mine))

        same_printed : started_in (printed_in (mine ++ added)) ≡ started_in (printed_in mine)
        same_printed = ap started_in (printed_split mine added) ∙ started_split (printed_in mine) (printed_in added) ∙ ap (λ l. started_in (printed_in mine) ++ l) says_none ∙ append-nil (started_in (printed_in mine))

    -- a turn that started the job of a task, which came to an end
    module _ (halt : Option Halt) (job : Job) (printed : Bool) (moment : ℕ) (mid new : List Told) (next : B)
        (begins : mid ≡ mine ++ record { logged = record { event = events.Started job.task n; seat = n; moment = moment }; printed = printed } ∷ [])
        (c : Closes n halt mid new) where
      abbrev start : Told
      start = record { logged = record { event = events.Started job.task n; seat = n; moment = moment }; printed = printed }

      abbrev end : Told
      end = record { logged = record { event = c.event; seat = n; moment = c.moment }; printed = c.printed }

      logged_mid : logged_in mid ≡ logged_in mine ++ start.logged ∷ []
      logged_mid = ap logged_in begins ∙ logged_split mine (start ∷ [])

      logged_new : logged_in new ≡ logged_in mid ++ end.logged ∷ []
      logged_new = ap logged_in c.is ∙ logged_split mid (end ∷ [])

      started_new : started_in (logged_in new) ≡ started_in (logged_in mine) ++ job.task ∷ []
      started_new =
          ap started_in logged_new ∙ started_split (logged_in mid) (end.logged ∷ []) ∙ ap (λ l. started_in (logged_in mid) ++ l) (quiet_starts end.logged c.quiet) ∙ append-nil (started_in (logged_in mid))
          ∙ ap started_in logged_mid ∙ started_split (logged_in mine) (start.logged ∷ [])

      printed_new : started_in (printed_in new) ≡ started_in (printed_in mine) ++ started_in (printed_in (start ∷ []))
      printed_new =
          ap (λ (l : List Told). started_in (printed_in l)) c.is ∙ ap started_in (printed_split mid (end ∷ [])) ∙ started_split (printed_in mid) (printed_in (end ∷ []))
          ∙ ap (λ l. started_in (printed_in mid) ++ l) (quiet_says end c.quiet) ∙ append-nil (started_in (printed_in mid))
          ∙ ap (λ (l : List Told). started_in (printed_in l)) begins ∙ ap started_in (printed_split mine (start ∷ [])) ∙ started_split (printed_in mine) (printed_in (start ∷ []))

      abbrev broke : Option ℕ
      broke = broken_off (logged_in new)

      ran_job : (run : List ℕ × Entries) → IsRunOf gives first.plan job.task run → RanOnce printed (BrokeOff job.task halt (logged_in new)) run (place now).runs (place next).runs
          → RanMine gives first.plan None (logged_in mine) (place old).runs (place now).runs → RanMine gives first.plan halt (logged_in new) (place old).runs (place next).runs
      ran_job run is once before = elim once [
        | inl did ↦ record {
          runs = before.runs ++ run ∷ [];
          ran = did.1 ∙ ap (λ (l : Runs). l ++ run ∷ []) before.ran ∙ append_assoc (place old).runs before.runs (run ∷ []);
          these = subst (λ ts. RanSoFar gives first.plan halt broke ts (before.runs ++ run ∷ [])) (sym started_new)
              (ran_so_far gives first.plan halt broke (started_in (logged_in mine) ++ job.task ∷ []) (before.runs ++ run ∷ []) (ran_one gives first.plan (started_in (logged_in mine)) job.task before.runs run before.these is));
        }
        | inr none ↦ record {
          runs = before.runs;
          ran = none.1 ∙ before.ran;
          these = subst (λ ts. RanSoFar gives first.plan halt broke ts before.runs) (sym started_new) (ran_or_broke gives first.plan halt (logged_in new) (started_in (logged_in mine)) job.task before.runs none.0 before.these);
        }
      ]

      said_job : (run : List ℕ × Entries) → IsScriptOf first.plan job.task run.0 → RanOnce printed (BrokeOff job.task halt (logged_in new)) run (place now).runs (place next).runs
          → SaidMine first.plan None (logged_in mine) (printed_in mine) (place old).runs (place now).runs → SaidMine first.plan halt (logged_in new) (printed_in new) (place old).runs (place next).runs
      said_job run is once before = by printed refl
        where
          ts : List ℕ
          ts = started_in (printed_in mine)

          by : (p : Bool) → printed ≡ p → SaidMine first.plan halt (logged_in new) (printed_in new) (place old).runs (place next).runs
          by true heard = elim once [
            | inl did ↦ record {
              runs = before.runs ++ run ∷ [];
              ran = did.1 ∙ ap (λ (l : Runs). l ++ run ∷ []) before.ran ∙ append_assoc (place old).runs before.runs (run ∷ []);
              these = subst (λ l. ScriptsSoFar first.plan halt broke l (before.runs ++ run ∷ [])) (sym (printed_new ∙ ap (λ p. ts ++ started_in (printed_in (record start { printed = p } ∷ []))) heard))
                  (said_so_far first.plan halt broke (ts ++ job.task ∷ []) (before.runs ++ run ∷ []) (said_one first.plan ts job.task before.runs run before.these is));
            }
            | inr none ↦ record {
              runs = before.runs;
              ran = none.1 ∙ before.ran;
              these = subst (λ l. ScriptsSoFar first.plan halt broke l before.runs) (sym (printed_new ∙ ap (λ p. ts ++ started_in (printed_in (record start { printed = p } ∷ []))) heard)) (said_or_broke first.plan halt (logged_in new) ts job.task before.runs none.0 before.these);
            }
          ]
          by false unheard = elim once [
            | inl did ↦ absurd (false≢true (sym unheard ∙ did.0))
            | inr none ↦ record {
              runs = before.runs;
              ran = none.1 ∙ before.ran;
              these = subst (λ l. ScriptsSoFar first.plan halt broke l before.runs) (sym (printed_new ∙ ap (λ p. ts ++ started_in (printed_in (record start { printed = p } ∷ []))) unheard ∙ append-nil ts)) (said_so_far first.plan halt broke ts before.runs before.these);
            }
          ]

      clean_run : (o : Opening) → o.gives ≡ gives → IsCleanJob o first job → IsRunOf gives first.plan job.task (job.script, job.layout)
      clean_run o same j = subst (λ (x : Gives). IsRunOf x first.plan job.task (job.script, job.layout)) same (record {
        task = j.task;
        is_task = j.is_task;
        outputs = j.outputs;
        numbers = j.numbers;
        clean = j.clean;
        is = λ i. (j.script i, j.layout i);
      })

      pub worked_job : gives_of next ≡ gives_of now → Counts (faults now) (faults next) (by_bench halt)
          → (bt → RanOnce printed (BrokeOff job.task halt (logged_in new)) (job.script, job.layout) (place now).runs (place next).runs) → (alike → bt) → IsScriptOf first.plan job.task job.script
          → (dt → alike → (o : Opening) → o.gives ≡ gives → IsRun o first → IsCleanJob o first job) → Worked dt bt alike place gives_of faults first gives halt n new old next
      worked_job same cause once tells script clean = record {
        none = subst (HoldsNone n) (sym c.is) (none_added n mid c.event c.moment c.printed c.quiet);
        same = same ∙ w.same;
        cause = counts_on (faults old) (faults now) (faults next) (by_bench halt) w.cause cause;
        breaks = subst (Breaks (IsSome halt) (by_bench halt ≡ true)) (sym logged_new)
            (breaks_one (IsSome halt) (by_bench halt ≡ true) (logged_in mid) end.logged (subst NoneBroke (sym logged_mid) (none_broke_then (logged_in mine) (start.logged ∷ []) (none_broke (logged_in mine) w.breaks) (refl, tt))) c.breaks);
        ran = λ t u o e r. ran_job (job.script, job.layout) (clean_run o e (clean t u o e r)) (once (tells u)) (w.ran t u o e r);
        said = λ t. said_job (job.script, job.layout) script (once t) (w.said t);
      }
