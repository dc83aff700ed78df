-- Whatever held of a run as it began holds on, turn by turn.
use Rattle.std.proofs.Common.{◌≡◌, ℕ, ◌+◌, ◌∙◌, refl, List, [], ◌++◌, length, map, take, sym, subst, ap, Bool, true, false, None, arith, append-nil, inl, inr}
use Rattle.std.specs.Prelude.{IsSome}
use Rattle.outside_traits.specs.Fault.{Counts}
use Rattle.outside_traits.specs.Story.{Story}
use Rattle.meta_model.specs.declared.event.Logged.{Logged}
use Rattle.meta_model.specs.CleanBuild.{Gives}
use Rattle.run_model.specs.Report.{tale_text}
use Rattle.run_model.specs.Opening.{Opening}
use Rattle.run_queue.specs.Keeps.{IsFront, IsRun, IsSteady, Prints}
use Rattle.run_queue.specs.Seen.{RunView, Seen, seen}
use Rattle.run_queue.specs.Turns.{SameRun}
use Rattle.run_workers.specs.Seats.{HeardOn}
use Rattle.run_workers.specs.Since.{Kept, Since}
use Rattle.run_workers.specs.Told.{tell, told}
use Rattle.run_workers.proofs.Telling.{take_all, take_within, told_quiet, told_whole}

-- what is written begins with the base
front_base : (failed : Bool) (base now text : List ℕ) → Prints base now text failed → IsFront base now
front_base true base now text p = record { rest = p.front.front; is = p.front.written }
front_base false base now text p = record { rest = text; is = p.whole }

-- where the sink stands the whole text is written
front_whole : (failed : Bool) (base now text : List ℕ) → failed ≡ false → Prints base now text failed → IsFront (base ++ text) now
front_whole true base now text stands p = absurd cc
front_whole false base now text stands p = record { rest = []; is = p.whole ∙ sym (append-nil (base ++ text)) }

module _ {D W : Type 0} (dt wt alike : Type 0) (story : D → Story) (written : W → List ℕ) (faults : W → ℕ) (first : Seen) (count : ℕ) (gives : Gives) where
  pub since_first : (now : RunView D W) → seen story written now ≡ first → faults now.sink ≡ count → Since dt wt alike story written faults first count gives now
  since_first now is same = record {
    plan = ap (λ (s : Seen). s.plan) is;
    options = ap (λ (s : Seen). s.options) is;
    run = λ t u o e r. subst (IsRun o) (sym is) r;
    steady = λ t u o e r s. subst (λ (x : Seen). IsSteady x.fault) (sym is) s;
    sink = λ before h. subst (λ n. Counts before n now.sink_failed) (sym same) (subst (λ (x : Seen). Counts before count x.sink_failed) (sym is) h);
    text = λ t base h. subst (λ (x : Seen). Prints base x.written (tale_text x.plan.tasks x.tale) x.sink_failed) (sym is) h;
    stays = λ t front h. subst (λ (x : Seen). IsFront front x.written) (sym is) h;
  }

  -- nothing of the tale had been printed as the run began
  pub lines_first : (now : RunView D W) → seen story written now ≡ first → wt → (base : List ℕ) → Prints base first.written (tale_text first.plan.tasks first.tale) first.sink_failed → IsFront (base ++ tale_text now.plan.tasks (take 0 now.tale)) (written now.sink)
  lines_first now is t base h =
      let p = subst (λ (x : Seen). Prints base x.written (tale_text x.plan.tasks x.tale) x.sink_failed) (sym is) h in
      subst (λ b. IsFront b (written now.sink)) (sym (append-nil base)) (front_base now.sink_failed base (written now.sink) (tale_text now.plan.tasks now.tale) p)

  -- a turn that keeps what held as the run began
  pub since_turn : (b c : RunView D W) → Since dt wt alike story written faults first count gives b → SameRun b c
      → (dt → alike → (o : Opening) → o.gives ≡ gives → IsRun o first → IsRun o (seen story written b) → IsRun o (seen story written c))
      → (dt → alike → (o : Opening) → o.gives ≡ gives → IsRun o first → IsRun o (seen story written b) → IsSteady b.fault → IsSteady c.fault)
      → ((before : ℕ) → Counts before (faults b.sink) b.sink_failed → Counts before (faults c.sink) c.sink_failed)
      → (wt → (base : List ℕ) → Prints base (written b.sink) (tale_text b.plan.tasks b.tale) b.sink_failed → Prints base (written c.sink) (tale_text b.plan.tasks c.tale) c.sink_failed)
      → (wt → (front : List ℕ) → IsFront front (written b.sink) → IsFront front (written c.sink))
      → Since dt wt alike story written faults first count gives c
  since_turn b c p same run steady sink text stays = record {
    plan = same.plan ∙ p.plan;
    options = same.options ∙ p.options;
    run = λ t u o e r. run t u o e r (p.run t u o e r);
    steady = λ t u o e r s. steady t u o e r (p.run t u o e r) (p.steady t u o e r s);
    sink = λ before h. sink before (p.sink before h);
    text = λ t base h. subst (λ plan. Prints base (written c.sink) (tale_text plan.tasks c.tale) c.sink_failed) (sym same.plan) (text t base (p.text t base h));
    stays = λ t front h. stays t front (p.stays t front h);
  }

  module _ (b c : RunView D W) (printed : ℕ) (whole : Bool) (now : ℕ) (still : Bool) (added : List Logged)
      (k : Kept dt wt alike story written faults first count gives (record { state = b; printed = printed; whole = whole })) (same : SameRun b c)
      (grown : c.tale ≡ b.tale ++ added) (h : HeardOn c.fault (length c.tale) printed whole now still) where
    full : still ≡ true → now ≡ length b.tale + length added
    full on = (h.goes_on on).2 ∙ ap length grown ∙ Rattle.std.proofs.Common.length-append b.tale added

    -- the tale as seats hand it on grows by what was marked
    pub grows : told c.tale now ≡ told b.tale printed ++ map (tell still) added
    grows = by still refl
      where
        by : (s : Bool) → still ≡ s → told c.tale now ≡ told b.tale printed ++ map (tell s) added
        by true on =
            ap (λ (t : List Logged). told t now) grown ∙ ap (told (b.tale ++ added)) (full on) ∙ told_whole b.tale added
            ∙ ap (λ n. told b.tale n ++ map (tell true) added) (sym (k.whole (h.goes_on on).1).1)
        by false off = ap (λ (t : List Logged). told t now) grown ∙ ap (told (b.tale ++ added)) (h.rests off) ∙ told_quiet b.tale added printed k.within

    -- and the state keeps what it has to
    pub kept_turn : Since dt wt alike story written faults first count gives c → (wt → (front : List ℕ) → IsFront front (written b.sink) → IsFront front (written c.sink)) → (c.fault ≡ None → c.sink_failed ≡ false) → (IsSome b.fault → c.fault ≡ b.fault)
        → Kept dt wt alike story written faults first count gives (record { state = c; printed = now; whole = still })
    kept_turn since stays heard still_faulty = by still refl
      where
        all : ℕ
        all = length b.tale + length added

        count_all : length c.tale ≡ length b.tale + length added
        count_all = ap length grown ∙ Rattle.std.proofs.Common.length-append b.tale added

        by : (s : Bool) → still ≡ s → Kept dt wt alike story written faults first count gives (record { state = c; printed = now; whole = s })
        by true on = record {
          since = since;
          within = let f = full on in omega (arith, f, count_all);
          whole = λ w. ((h.goes_on on).0, full on ∙ sym count_all);
          faulty = λ w. absurd (let n : true ≡ false = w in cc);
          lines = λ t base p.
              subst (λ (l : List Logged). IsFront (base ++ tale_text c.plan.tasks l) (written c.sink)) (sym (ap (λ n. take n c.tale) (full on ∙ sym count_all) ∙ take_all c.tale))
              (front_whole c.sink_failed base (written c.sink) (tale_text c.plan.tasks c.tale) (heard (h.goes_on on).0) (since.text t base p));
        }
        by false off = record {
          since = since;
          within = let r = h.rests off in let w = k.within in omega (arith, r, w, count_all);
          whole = λ w. absurd (let n : false ≡ true = w in cc);
          faulty = λ w. elim (h.stops off) [
            | inl before ↦ let f = k.faulty before in subst (λ x. IsSome x) (sym (still_faulty f)) f
            | inr kept ↦ kept
          ];
          lines = λ t base p.
              subst (λ (l : List Logged). IsFront (base ++ tale_text c.plan.tasks l) (written c.sink)) (sym (ap (λ n. take n c.tale) (h.rests off) ∙ ap (take printed) grown ∙ take_within b.tale added printed k.within))
              (subst (λ plan. IsFront (base ++ tale_text plan.tasks (take printed b.tale)) (written c.sink)) (sym same.plan) (stays t (base ++ tale_text b.plan.tasks (take printed b.tale)) (k.lines t base p)));
        }
