-- What ran had been printed, turn by turn.
use Rattle.std.proofs.Common.{◌≡◌, ◌∙◌, sym, ap, subst, refl, ℕ, Bool, false, List, [], ◌∷◌, ◌++◌, append_assoc, append-nil, Some, None, inl, inr}
use Rattle.std.specs.Prelude.{◌⊎◌, Option, IsSome}
use Rattle.std.proofs.lemmas.Bool.{false≢true}
use Rattle.meta_model.specs.declared.event.Event.TheVariants as events
use Rattle.meta_model.specs.declared.event.Logged.{Logged}
use Rattle.meta_model.specs.declared.plan.Plan.{Plan}
use Rattle.meta_model.specs.CleanBuild.{Entries}
use Rattle.run_model.specs.Report.{tale_text}
use Rattle.run_queue.specs.declared.fault.RunFault.{RunFault}
use Rattle.run_queue.specs.Keeps.{IsFront, Prints}
use Rattle.run_queue.specs.Turns.{Marks}
use Rattle.run_workers.specs.Runs.{AllScripts, ScriptsSoFar}
use Rattle.run_model.specs.Runs.{IsScriptOf, RanScripts, Runs}
use Rattle.run_model.specs.Seats.{own}
use Rattle.run_workers.specs.Worked.{BrokeOff}
use Rattle.run_model.specs.Benches.{AtSeats, broken_at, started_by}
use Rattle.run_model.specs.Build.{RanJust, RanPrinted}
use Rattle.build_resume.specs.Drive.{ClosesAlone, IsAlone, RanSaid, SaidByWorkers, SaidTo}
use Rattle.run_workers.specs.declared.worker.Halt.{Halt}
use Rattle.run_workers.proofs.Working.{said_all as all_said}
use Rattle.build_resume.proofs.Driving.{closing_starts}
use Rattle.build_resume.proofs.Seating.{alone_nil, alone_one, alone_then, started_split}

-- ---- texts that grow

-- what was written stands in front of what is written
pub grew : (a b : List ℕ) → ((front : List ℕ) → IsFront front a → IsFront front b) → IsFront a b
grew a b stays = stays a (record { rest = []; is = sym (append-nil a) })

grew_on : (a m b : List ℕ) → IsFront a m → IsFront m b → IsFront a b
grew_on a m b one other = record { rest = one.rest ++ other.rest; is = other.is ∙ ap (λ (l : List ℕ). l ++ other.rest) one.is ∙ append_assoc a one.rest other.rest }

-- a text of three parts goes on
on_three : (a b base text rest : List ℕ) → a ≡ base ++ (text ++ rest) → (g : IsFront a b) → b ≡ base ++ (text ++ (rest ++ g.rest))
on_three a b base text rest is g =
    g.is ∙ ap (λ (l : List ℕ). l ++ g.rest) is ∙ append_assoc base (text ++ rest) g.rest ∙ ap (λ (l : List ℕ). base ++ l) (append_assoc text rest g.rest)

-- where the sink stood, and stands, the whole text of a tale is written
pub said_whole : (base a b : List ℕ) (plan : Plan) (old new : List Logged) (before now : Bool) → (Prints base a (tale_text plan.tasks old) before → Prints base b (tale_text plan.tasks new) now) → before ≡ false → now ≡ false → a ≡ base ++ tale_text plan.tasks old → b ≡ base ++ tale_text plan.tasks new
said_whole base a b plan old new before now goes stood stands is =
    let was : Prints base a (tale_text plan.tasks old) before = subst (λ (f : Bool). Prints base a (tale_text plan.tasks old) f) (sym stood) (record { whole = is; front = tt }) in
    (subst (λ (f : Bool). Prints base b (tale_text plan.tasks new) f) stands (goes was)).whole

-- ---- scripts that ran

scripts_then : (plan : Plan) (ts more : List ℕ) (runs last : Runs) → AllScripts plan ts runs → AllScripts plan more last → AllScripts plan (ts ++ more) (runs ++ last)
scripts_then plan [] more [] last all rest = rest
scripts_then plan [] more (r ∷ runs) last all rest = absurd all
scripts_then plan (t ∷ ts) more [] last all rest = absurd all
scripts_then plan (t ∷ ts) more (r ∷ runs) last all rest = (all.0, scripts_then plan ts more runs last all.1 rest)

scripts_last : (plan : Plan) (broke : Option ℕ) (ts more : List ℕ) (runs last : Runs) → AllScripts plan ts runs → RanScripts plan broke more last → RanScripts plan broke (ts ++ more) (runs ++ last)
scripts_last plan broke [] more [] last all rest = rest
scripts_last plan broke [] more (r ∷ runs) last all rest = absurd all
scripts_last plan broke (t ∷ ts) more [] last all rest = absurd all
scripts_last plan broke (t ∷ ts) more (r ∷ runs) last all rest = (all.0, scripts_last plan broke ts more runs last all.1 rest)

-- ---- turns

module _ (plan : Plan) (first fault : Option RunFault) (from old new : List Logged) (before now : Runs) (base a b : List ℕ) (r : RanSaid plan None first from old before now base a) (g : IsFront a b) where
  -- the last turn, in which nothing ran
  pub said_halts : (halt : Halt) (more : List Logged) → new ≡ old ++ more → RanSaid plan (Some halt) fault from new before now base b
  said_halts halt more tale = record {
    front = r.front;
    back = r.back ++ more;
    cut = tale ∙ ap (λ (l : List Logged). l ++ more) r.cut ∙ append_assoc r.front r.back more;
    on = r.on;
    goes = r.goes;
    alone = r.alone;
    runs = r.runs;
    ran = r.ran;
    these = all_said plan (broken_at 0 new) (started_by 0 r.front) r.runs r.these;
    rest = r.rest ++ g.rest;
    is = on_three a b base (tale_text plan.tasks r.front) r.rest r.is g;
    whole = λ goes. absurd (let n : Some halt ≡ None = goes in cc);
  }

  -- the front of a tale in which no fault is kept is all of it
  said_all : first ≡ None → (r.front ≡ old) × (a ≡ base ++ tale_text plan.tasks old)
  said_all faultless =
      let w = r.whole refl faultless in
      let front : r.front ≡ old = sym (append-nil r.front) ∙ ap (λ (l : List Logged). r.front ++ l) (sym w.0) ∙ sym r.cut in
      (front, r.is ∙ ap (λ (l : List ℕ). base ++ (tale_text plan.tasks r.front ++ l)) w.1 ∙ ap (λ (l : List ℕ). base ++ l) (append-nil (tale_text plan.tasks r.front)) ∙ ap (λ (l : List Logged). base ++ tale_text plan.tasks l) front)

  -- a turn in which nothing was started
  pub said_settled : (entry : Logged) → new ≡ old ++ entry ∷ [] → started_by 0 (entry ∷ []) ≡ [] → IsAlone (entry ∷ []) → first ≡ None → (fault ≡ None → a ≡ base ++ tale_text plan.tasks old → b ≡ base ++ tale_text plan.tasks new) → RanSaid plan None fault from new before now base b
  said_settled entry tale starts own faultless says = by fault refl
    where
      by : (f : Option RunFault) → fault ≡ f → RanSaid plan None fault from new before now base b
      by (Some f) is = record {
        front = r.front;
        back = r.back ++ entry ∷ [];
        cut = tale ∙ ap (λ (l : List Logged). l ++ entry ∷ []) r.cut ∙ append_assoc r.front r.back (entry ∷ []);
        on = r.on;
        goes = r.goes;
        alone = r.alone;
        runs = r.runs;
        ran = r.ran;
        these = r.these;
        rest = r.rest ++ g.rest;
        is = on_three a b base (tale_text plan.tasks r.front) r.rest r.is g;
        whole = λ goes none. absurd (let n : Some f ≡ None = sym is ∙ none in cc);
      }
      by None is =
          let all = said_all faultless in
          let started : started_by 0 r.front ≡ started_by 0 new =
          ap (started_by 0) all.0 ∙ sym (append-nil (started_by 0 old)) ∙ ap (λ (l : List ℕ). started_by 0 old ++ l) (sym starts) ∙ sym (started_split 0 old (entry ∷ [])) ∙ ap (started_by 0) (sym tale) in
          record {
            front = new;
            back = [];
            cut = sym (append-nil new);
            on = r.on ++ entry ∷ [];
            goes = tale ∙ ap (λ (l : List Logged). l ++ entry ∷ []) (sym all.0 ∙ r.goes) ∙ append_assoc from r.on (entry ∷ []);
            alone = alone_then r.on (entry ∷ []) r.alone own;
            runs = r.runs;
            ran = r.ran;
            these = subst (λ (ts : List ℕ). AllScripts plan ts r.runs) started r.these;
            rest = [];
            is = says is all.1 ∙ ap (λ (l : List ℕ). base ++ l) (sym (append-nil (tale_text plan.tasks new)));
            whole = λ goes none. (refl, refl);
          }

-- ---- the first turn, and the end

-- behind the workers' turns
pub said_first : {B : Type 0} (runs : B → Runs) (plan : Plan) (fault : Option RunFault) (tale : List Logged) (benches now : List B) (before : Runs) (base written : List ℕ) (w : SaidByWorkers runs plan fault tale benches now base written) → RanSaid plan None fault w.front tale before before base written
said_first runs plan fault tale benches now before base written w = record {
  front = w.front;
  back = w.back;
  cut = w.cut;
  on = [];
  goes = sym (append-nil w.front);
  alone = alone_nil;
  runs = [];
  ran = sym (append-nil before);
  these = subst (λ (ts : List ℕ). AllScripts plan ts []) (sym w.none) tt;
  rest = w.rest;
  is = w.is;
  whole = λ goes. w.whole;
}

-- behind the last one
pub said_last : (plan : Plan) (halt : Halt) (fault : Option RunFault) (from tale told : List Logged) (before now : Runs) (base old new : List ℕ) → told ≡ tale → RanSaid plan (Some halt) fault from tale before now base old → IsFront old new → SaidTo plan from told before now base new
said_last plan halt fault from tale told before now base old new told_is r g = record {
  front = r.front;
  back = r.back;
  cut = told_is ∙ r.cut;
  on = r.on;
  goes = r.goes;
  alone = r.alone;
  ran = record { runs = r.runs; ran = r.ran; these = subst (λ (l : List Logged). RanScripts plan (broken_at 0 l) (started_by 0 r.front) r.runs) (sym told_is) r.these };
  rest = r.rest ++ g.rest;
  written_is = on_three old new base (tale_text plan.tasks r.front) r.rest r.is g;
}

-- where no turn was taken
pub said_nothing : (plan : Plan) (tale : List Logged) (before now : List Runs) (old new : List ℕ) → tale ≡ [] → AtSeats (λ seat. RanJust plan (broken_at seat tale) (started_by seat tale)) before now → IsFront old new → RanPrinted plan tale before now old new
said_nothing plan tale before now old new none ran g = record {
  front = tale;
  back = [];
  cut = sym (append-nil tale);
  ran = ran;
  rest = g.rest;
  written = g.is ∙ ap (λ (l : List Logged). old ++ (tale_text plan.tasks l ++ g.rest)) (sym none);
}

-- A turn that started a task, whose job came to an end. Where a fault was kept when it had been started its script didn't run.
module _ (plan : Plan) (first kept fault : Option RunFault) (from old mid new : List Logged) (before now after : Runs) (base a m b : List ℕ) (r : RanSaid plan None first from old before now base a) (one : IsFront a m) (other : IsFront m b)
    (faultless : first ≡ None) (t : ℕ) (run : List ℕ × Entries) (script : IsScriptOf plan t run.0) (marks : Marks 0 (events.Started t 0) old mid) (halt : Option Halt) (closes : ClosesAlone t halt mid new) where
  abbrev entry : Logged
  entry = record { event = events.Started t 0; seat = 0; moment = marks.moment }

  abbrev last : Logged
  last = record { event = closes.event; seat = 0; moment = closes.marks.moment }

  tale : new ≡ old ++ entry ∷ last ∷ []
  tale = closes.marks.is ∙ ap (λ (l : List Logged). l ++ last ∷ []) marks.is ∙ append_assoc old (entry ∷ []) (last ∷ [])

  -- what had been started once it was
  front_is : r.front ≡ old
  front_is = (said_all plan first fault from old new before now base a b r (grew_on a m b one other) faultless).0

  mid_started : started_by 0 mid ≡ started_by 0 r.front ++ t ∷ []
  mid_started =
      ap (started_by 0) marks.is ∙ started_split 0 old (entry ∷ [])
      ∙ ap (λ (l : List Logged). started_by 0 l ++ t ∷ []) (sym front_is)

  new_started : started_by 0 mid ≡ started_by 0 new
  new_started =
      sym (append-nil (started_by 0 mid)) ∙ ap (λ (l : List ℕ). started_by 0 mid ++ l) (sym (closing_starts t closes.marks.moment closes.event closes.of closes.starts_none)) ∙ sym (started_split 0 mid (last ∷ [])) ∙ ap (started_by 0) (sym closes.marks.is)

  -- how the front goes on, by the start, and by what closed it
  mid_goes : mid ≡ from ++ (r.on ++ entry ∷ [])
  mid_goes = marks.is ∙ ap (λ (l : List Logged). l ++ entry ∷ []) (sym front_is ∙ r.goes) ∙ append_assoc from r.on (entry ∷ [])

  mid_alone : IsAlone (r.on ++ entry ∷ [])
  mid_alone = alone_then r.on (entry ∷ []) r.alone (alone_one entry refl)

  new_goes : new ≡ from ++ ((r.on ++ entry ∷ []) ++ last ∷ [])
  new_goes = closes.marks.is ∙ ap (λ (l : List Logged). l ++ last ∷ []) mid_goes ∙ append_assoc from (r.on ++ entry ∷ []) (last ∷ [])

  new_alone : IsAlone ((r.on ++ entry ∷ []) ++ last ∷ [])
  new_alone = alone_then (r.on ++ entry ∷ []) (last ∷ []) mid_alone (alone_one last refl)

  abbrev broke : Option ℕ
  broke = broken_at 0 new

  -- the scripts that ran, with this one
  with_run : (h : Option Halt) → ScriptsSoFar plan h broke (started_by 0 mid) (r.runs ++ run ∷ [])
  with_run None = subst (λ (ts : List ℕ). AllScripts plan ts (r.runs ++ run ∷ [])) (sym mid_started) (scripts_then plan (started_by 0 r.front) (t ∷ []) r.runs (run ∷ []) r.these (script, tt))
  with_run (Some h) = subst (λ (ts : List ℕ). RanScripts plan broke ts (r.runs ++ run ∷ [])) (sym mid_started) (scripts_last plan broke (started_by 0 r.front) (t ∷ []) r.runs (run ∷ []) r.these (script, tt))

  -- or without it
  with_none : (h : Option Halt) → BrokeOff t h (own 0 new) → ScriptsSoFar plan h broke (started_by 0 mid) r.runs
  with_none None off = absurd (false≢true off.0)
  with_none (Some h) off =
      subst (λ (ts : List ℕ). RanScripts plan broke ts r.runs) (sym mid_started)
      (subst (λ (runs : Runs). RanScripts plan broke (started_by 0 r.front ++ t ∷ []) runs) (append-nil r.runs) (scripts_last plan broke (started_by 0 r.front) (t ∷ []) r.runs [] r.these (refl, off.1)))

  record RanSo : Type 0 where
    pub runs : Runs
    pub ran : after ≡ before ++ runs
    pub these : ScriptsSoFar plan halt broke (started_by 0 mid) runs

  ran_so : (after ≡ now ++ run ∷ []) ⊎ ((after ≡ now) × BrokeOff t halt (own 0 new)) → RanSo
  ran_so (inl did) = record { runs = r.runs ++ run ∷ []; ran = did ∙ ap (λ (l : Runs). l ++ run ∷ []) r.ran ∙ append_assoc before r.runs (run ∷ []); these = with_run halt }
  ran_so (inr none) = record { runs = r.runs; ran = none.0 ∙ r.ran; these = with_none halt none.1 }

  pub said_job : (after ≡ now ++ run ∷ []) ⊎ ((after ≡ now) × BrokeOff t halt (own 0 new)) → (IsSome kept → IsSome halt × (after ≡ now)) → (kept ≡ None → a ≡ base ++ tale_text plan.tasks old → m ≡ base ++ tale_text plan.tasks mid) → (kept ≡ None → fault ≡ None → m ≡ base ++ tale_text plan.tasks mid → b ≡ base ++ tale_text plan.tasks new)
      → RanSaid plan halt fault from new before after base b
  said_job ran unheard says says_new = by kept refl
    where
      so : RanSo
      so = ran_so ran

      held : (h : Option Halt) → IsSome h → RanSaid plan h fault from new before now base b
      held None some = absurd (false≢true some)
      held (Some h) some = said_halts plan first fault from old new before now base a b r (grew_on a m b one other) h (entry ∷ last ∷ []) tale

      mid_text : kept ≡ None → m ≡ base ++ tale_text plan.tasks mid
      mid_text none = says none (said_all plan first fault from old new before now base a b r (grew_on a m b one other) faultless).1

      -- as far as the line of the start
      front : kept ≡ None → ((halt ≡ None) → (fault ≡ None) → ⊥) → RanSaid plan halt fault from new before after base b
      front none not = record {
        front = mid;
        back = last ∷ [];
        cut = closes.marks.is;
        on = r.on ++ entry ∷ [];
        goes = mid_goes;
        alone = mid_alone;
        runs = so.runs;
        ran = so.ran;
        these = so.these;
        rest = other.rest;
        is = other.is ∙ ap (λ (l : List ℕ). l ++ other.rest) (mid_text none) ∙ append_assoc base (tale_text plan.tasks mid) other.rest;
        whole = λ goes faultless. absurd (not goes faultless);
      }

      all : kept ≡ None → fault ≡ None → RanSaid plan halt fault from new before after base b
      all none faultless_now = record {
        front = new;
        back = [];
        cut = sym (append-nil new);
        on = (r.on ++ entry ∷ []) ++ last ∷ [];
        goes = new_goes;
        alone = new_alone;
        runs = so.runs;
        ran = so.ran;
        these = subst (λ (ts : List ℕ). ScriptsSoFar plan halt broke ts so.runs) new_started so.these;
        rest = [];
        is = says_new none faultless_now (mid_text none) ∙ ap (λ (l : List ℕ). base ++ l) (sym (append-nil (tale_text plan.tasks new)));
        whole = λ goes none. (refl, refl);
      }

      by_fault : kept ≡ None → (f : Option RunFault) → fault ≡ f → RanSaid plan halt fault from new before after base b
      by_fault none None is = all none is
      by_fault none (Some f) is = front none (λ goes n. absurd (let e : Some f ≡ None = sym is ∙ n in cc))

      by : (k : Option RunFault) → kept ≡ k → RanSaid plan halt fault from new before after base b
      by (Some f) is =
          let u = unheard (subst (λ (x : Option RunFault). IsSome x) (sym is) refl) in
          subst (λ (runs : Runs). RanSaid plan halt fault from new before runs base b) (sym u.1) (held halt u.0)
      by None is = by_fault is fault refl
