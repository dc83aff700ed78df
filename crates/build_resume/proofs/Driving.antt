-- What a turn adds to the tale of a run, and to what its bench ran.
use Rattle.std.proofs.Common.{◌≡◌, ◌∙◌, sym, ap, subst, refl, ℕ, List, [], ◌∷◌, ◌++◌, append_assoc, append-nil, Some, None, inl, inr, true, false}
use Rattle.std.specs.Prelude.{◌⊎◌, Bool, IsSome, Option, Ok}
use Rattle.std.proofs.lemmas.Bool.{false≢true}
use Rattle.std.proofs.lemmas.List.{append_cancel_left}
use Rattle.meta_model.specs.declared.event.Event.{Event}
use Rattle.meta_model.specs.declared.event.Event.TheVariants as events
use Rattle.meta_model.specs.declared.event.Logged.{Logged}
use Rattle.meta_model.specs.declared.plan.Plan.{Plan}
use Rattle.meta_model.specs.CleanBuild.{Entries, Gives}
use Rattle.tale_model.specs.Fates.{task_of}
use Rattle.task_worker.specs.declared.given.Job.{Job}
use Rattle.run_model.specs.Opening.{Opening}
use Rattle.task_worker.specs.declared.given.Given.{Given}
use Rattle.task_worker.specs.declared.given.Given.TheVariants as given
use Rattle.run_queue.specs.declared.fault.RunFault.{RunFault}
use Rattle.run_queue.specs.Seen.{RunView, Seen}
use Rattle.run_queue.specs.declared.closing.Ending.TheVariants as ending
use Rattle.run_queue.specs.Turns.{EndsTurn, IsCleanJob, Marks, closed_by}
use Rattle.run_workers.specs.Runs.{AllRan, RanSoFar}
use Rattle.run_model.specs.Runs.{IsRunOf, RanThese, Runs}
use Rattle.run_model.specs.Seats.{is_break, own}
use Rattle.run_workers.specs.Worked.{Breaks, BrokeOff, NoneBroke}
use Rattle.run_model.specs.Benches.{broken_at, started_by}
use Rattle.build_resume.specs.Drive.{BreaksBy, Broken, ClosesAlone, Drove, Grows}
use Rattle.run_workers.specs.declared.worker.Halt.{Halt}
use Rattle.build_resume.proofs.Seating.{alone_nil, alone_one, alone_then, breaks_nil, breaks_one, breaks_split, broken_behind, broken_marked, started_split}
use Rattle.build_resume.proofs.Turning.{all_then, these_still, these_then}

-- a turn that marked nothing
pub drove_none : (gives : Gives) (plan : Plan) (halt : Halt) (old new : List Logged) (runs : Runs) → new ≡ old → Drove gives plan (Some halt) old new runs runs
drove_none gives plan halt old new runs same = record { more = []; tale = same ∙ sym (append-nil old); runs = []; ran = sym (append-nil runs); these = tt }

-- the job's run is one over the clean outputs
pub clean_run : (o : Opening) (s : Seen) (plan : Plan) (gives : Gives) (job : Job) → o.gives ≡ gives → s.plan ≡ plan → IsCleanJob o s job → IsRunOf gives plan job.task (job.script, job.layout)
clean_run o s plan gives job same plan_is j =
    subst (λ (p : Plan). IsRunOf gives p job.task (job.script, job.layout)) plan_is (subst (λ (x : Gives). IsRunOf x s.plan job.task (job.script, job.layout)) same (record {
      task = j.task;
      is_task = j.is_task;
      outputs = j.outputs;
      numbers = j.numbers;
      clean = j.clean;
      is = λ i. (j.script i, j.layout i);
    }))

-- an event that closes a task starts none
pub closing_starts : (t moment : ℕ) (event : Event) → task_of event ≡ t → ((seat : ℕ) → event ≡ events.Started t seat → ⊥) → started_by 0 (record { event = event; seat = 0; moment = moment } ∷ []) ≡ []
closing_starts t moment (events.Found u) e n = refl
closing_starts t moment (events.Restored u) e n = refl
closing_starts t moment (events.Started u seat) e n = absurd (n seat (ap (λ k. events.Started k seat) e))
closing_starts t moment (events.Ended u) e n = refl
closing_starts t moment (events.Failed u w) e n = refl
closing_starts t moment (events.Broke u c) e n = refl

so_far : (gives : Gives) (plan : Plan) (halt : Option Halt) (broke : Option ℕ) (t : ℕ) (run : List ℕ × Entries) → IsRunOf gives plan t run → RanSoFar gives plan halt broke (t ∷ []) (run ∷ [])
so_far gives plan None broke t run is = (is, tt)
so_far gives plan (Some h) broke t run is = (is, tt)

-- the entries by which a task began, and by which its job came to an end
abbrev starts : (t : ℕ) {old mid : List Logged} → Marks 0 (events.Started t 0) old mid → Logged
starts t m = record { event = events.Started t 0; seat = 0; moment = m.moment }

abbrev closes : {t : ℕ} {halt : Option Halt} {mid new : List Logged} → ClosesAlone t halt mid new → Logged
closes c = record { event = c.event; seat = 0; moment = c.marks.moment }

two_more : {t : ℕ} {halt : Option Halt} {old mid new : List Logged} (m : Marks 0 (events.Started t 0) old mid) (c : ClosesAlone t halt mid new) → new ≡ old ++ starts t m ∷ closes c ∷ []
two_more {t} {halt} {old} m c = c.marks.is ∙ ap (λ (l : List Logged). l ++ closes c ∷ []) m.is ∙ append_assoc old (starts t m ∷ []) (closes c ∷ [])

-- a turn that started a task, whose job came to an end
pub drove_job : (gives : Gives) (plan : Plan) (halt : Option Halt) (t : ℕ) (run : List ℕ × Entries) (old mid new : List Logged) (before now : Runs) → IsRunOf gives plan t run → Marks 0 (events.Started t 0) old mid → ClosesAlone t halt mid new
    → (now ≡ before ++ run ∷ []) ⊎ ((now ≡ before) × BrokeOff t halt (own 0 new)) → Drove gives plan halt old new before now
drove_job gives plan halt t run old mid new before now is m c ran = elim ran [
  | inl did ↦ record { more = entries; tale = two_more m c; runs = run ∷ []; ran = did; these = subst (λ ts. RanSoFar gives plan halt (broken_at 0 entries) ts (run ∷ [])) (sym started) (so_far gives plan halt (broken_at 0 entries) t run is) }
  | inr none ↦ record { more = entries; tale = two_more m c; runs = []; ran = none.0 ∙ sym (append-nil before); these = subst (λ ts. RanSoFar gives plan halt (broken_at 0 entries) ts []) (sym started) (halted halt none.1) }
]
  where
    entries : List Logged
    entries = starts t m ∷ closes c ∷ []

    started : started_by 0 entries ≡ t ∷ []
    started = ap (λ l. t ∷ l) (closing_starts t c.marks.moment c.event c.of c.starts_none)

    halted : (h : Option Halt) → BrokeOff t h (own 0 new) → RanSoFar gives plan h (broken_at 0 entries) (t ∷ []) []
    halted None broke = absurd (false≢true broke.0)
    halted (Some h) broke = (refl, sym (broken_marked c.event mid new c.marks) ∙ broke.1)

-- one turn behind others
pub drove_on : (gives : Gives) (plan : Plan) (halt : Option Halt) (old mid new : List Logged) (before between now : Runs) → Drove gives plan None old mid before between → Drove gives plan halt mid new between now → Drove gives plan halt old new before now
drove_on gives plan halt old mid new before between now one other = record {
  more = one.more ++ other.more;
  tale = other.tale ∙ ap (λ (l : List Logged). l ++ other.more) one.tale ∙ append_assoc old one.more other.more;
  runs = one.runs ++ other.runs;
  ran = other.ran ∙ ap (λ (l : Runs). l ++ other.runs) one.ran ∙ append_assoc before one.runs other.runs;
  these = by halt other.these;
}
  where
    by : (h : Option Halt) → RanSoFar gives plan h (broken_at 0 other.more) (started_by 0 other.more) other.runs → RanSoFar gives plan h (broken_at 0 (one.more ++ other.more)) (started_by 0 (one.more ++ other.more)) (one.runs ++ other.runs)
    by None these = subst (λ ts. AllRan gives plan ts (one.runs ++ other.runs)) (sym (started_split 0 one.more other.more)) (all_then gives plan (started_by 0 one.more) (started_by 0 other.more) one.runs other.runs one.these these)
    by (Some h) these =
        subst (λ ts. RanThese gives plan (broken_at 0 (one.more ++ other.more)) ts (one.runs ++ other.runs)) (sym (started_split 0 one.more other.more))
        (these_then gives plan (broken_at 0 (one.more ++ other.more)) (started_by 0 one.more) (started_by 0 other.more) one.runs other.runs one.these (these_still gives plan (broken_at 0 other.more) (broken_at 0 (one.more ++ other.more)) (started_by 0 other.more) other.runs (broken_behind 0 one.more other.more) these))

-- before the first turn
pub drove_first : (gives : Gives) (plan : Plan) (tale : List Logged) (runs : Runs) → Drove gives plan None tale tale runs runs
drove_first gives plan tale runs = record { more = []; tale = sym (append-nil tale); runs = []; ran = sym (append-nil runs); these = tt }

-- by the plan, and what scripts give, as they were
pub drove_same : {gives other : Gives} {plan now : Plan} (halt : Option Halt) (old new : List Logged) (before after : Runs) → gives ≡ other → plan ≡ now → Drove gives plan halt old new before after → Drove other now halt old new before after
drove_same {gives} {other} {plan} {now} halt old new before after same plan_is d = subst (λ (p : Plan). Drove other p halt old new before after) plan_is (subst (λ (x : Gives). Drove x plan halt old new before after) same d)

-- ---- a tale that seat 0 goes on with

-- no event is both the start of a task and that it broke off since its bench failed
not_both : (x : Event) (t s : ℕ) → x ≡ events.Started t s → Rattle.run_model.specs.Seats.is_bench_break x ≡ true → ⊥
not_both x t s is breaks = false≢true (sym (ap Rattle.run_model.specs.Seats.is_bench_break is) ∙ breaks)

-- by nothing
pub grows_none : (halt : Option Halt) (old new : List Logged) → new ≡ old → Grows halt old new
grows_none halt old new same = record { more = []; is = same ∙ sym (append-nil old); alone = alone_nil; breaks = λ b. absurd (breaks_nil 0 b) }

-- by one event, which isn't that a task broke off since its bench failed
pub grows_one : (halt : Option Halt) (event : Event) (old new : List Logged) → Marks 0 event old new → Rattle.run_model.specs.Seats.is_bench_break event ≡ false → Grows halt old new
grows_one halt event old new m calm = record {
  more = entry ∷ [];
  is = m.is;
  alone = alone_one entry refl;
  breaks = λ b. absurd (false≢true (sym calm ∙ breaks_one 0 entry b));
}
  where
    entry : Logged
    entry = record { event = event; seat = 0; moment = m.moment }

-- by a task that it started, whose job came to an end
pub grows_job : (halt : Option Halt) (t : ℕ) (old mid new : List Logged) → Marks 0 (events.Started t 0) old mid → ClosesAlone t halt mid new → Grows halt old new
grows_job halt t old mid new m c = record {
  more = starts t m ∷ closes c ∷ [];
  is = two_more m c;
  alone = alone_then (starts t m ∷ []) (closes c ∷ []) (alone_one (starts t m) refl) (alone_one (closes c) refl);
  breaks = λ b. elim (breaks_split 0 (starts t m ∷ []) (closes c ∷ []) b) [
    | inl one ↦ absurd (not_both (events.Started t 0) t 0 refl (breaks_one 0 (starts t m) one))
    | inr two ↦ c.breaks (breaks_one 0 (closes c) two)
  ];
}

-- by one turn behind others
pub grows_on : (halt : Option Halt) (old mid new : List Logged) → Grows None old mid → Grows halt mid new → Grows halt old new
grows_on halt old mid new one other = record {
  more = one.more ++ other.more;
  is = other.is ∙ ap (λ (l : List Logged). l ++ other.more) one.is ∙ append_assoc old one.more other.more;
  alone = alone_then one.more other.more one.alone other.alone;
  breaks = λ b. elim (breaks_split 0 one.more other.more b) [
    | inl first ↦ absurd (false≢true (one.breaks first))
    | inr later ↦ other.breaks later
  ];
}

-- ---- a seat is left behind a task of it that broke off

-- where the run stops for more
breaks_wider : (stops more : Type 0) (tale : List Logged) → (stops → more) → Breaks stops (Unit {0}) tale → Breaks more (Unit {0}) tale
breaks_wider stops more tale goes b = record { front = b.front; back = b.back; cut = b.cut; before = b.before; last = elim b.last [ inl none ↦ inl none | inr last ↦ inr (last.0, last.1, goes last.2, λ bench. tt) ] }

-- nothing
pub broken_none : (stops : Type 0) (old new : List Logged) → new ≡ old → Broken stops old new
broken_none stops old new same = record { more = []; is = same ∙ sym (append-nil old); breaks = record { front = []; back = []; cut = refl; before = tt; last = inl refl } }

-- one event that isn't that a task broke off
pub broken_one : (stops : Type 0) (event : Event) (old new : List Logged) → Marks 0 event old new → is_break event ≡ false → Broken stops old new
broken_one stops event old new m calm =
    let entry : Logged = record { event = event; seat = 0; moment = m.moment } in record {
      more = entry ∷ [];
      is = m.is;
      breaks = record { front = entry ∷ []; back = []; cut = refl; before = (calm, tt); last = inl refl };
    }

-- a task that was started, and whose job came to an end
pub broken_job : (halt : Option Halt) (fault : Option RunFault) (t : ℕ) (old mid new : List Logged) → Marks 0 (events.Started t 0) old mid → ClosesAlone t halt mid new → BreaksBy halt fault mid new → Broken (IsSome halt ⊎ IsSome fault) old new
broken_job halt fault t old mid new m c by = record {
  more = starts t m ∷ closes c ∷ [];
  is = two_more m c;
  breaks = at (is_break c.event) refl;
}
  where
    at : (b : Bool) → is_break c.event ≡ b → Breaks (IsSome halt ⊎ IsSome fault) (Unit {0}) (starts t m ∷ closes c ∷ [])
    at true is = record { front = starts t m ∷ []; back = closes c ∷ []; cut = refl; before = (refl, tt); last = inr (closes c, refl, by (closes c) c.marks.is is, λ bench. tt) }
    at false is = record { front = starts t m ∷ closes c ∷ []; back = []; cut = refl; before = (refl, (is, tt)); last = inl refl }

-- one turn behind others
pub broken_on : (fault : Option RunFault) (stops : Type 0) (old mid new : List Logged) → Broken (IsSome fault) old mid → Broken stops mid new → (IsSome fault → stops) → (IsSome fault → new ≡ mid) → Broken stops old new
broken_on fault stops old mid new one other goes rests = elim one.breaks.last [
  | inl none ↦ record {
    more = one.more ++ other.more;
    is = is;
    breaks = record {
      front = one.more ++ other.breaks.front;
      back = other.breaks.back;
      cut = ap (λ (l : List Logged). one.more ++ l) other.breaks.cut ∙ sym (append_assoc one.more other.breaks.front other.breaks.back);
      before = both one.more other.breaks.front (subst NoneBroke (sym (one.breaks.cut ∙ ap (λ (l : List Logged). one.breaks.front ++ l) none ∙ append-nil one.breaks.front)) one.breaks.before) other.breaks.before;
      last = other.breaks.last;
    };
  }
  | inr last ↦ record { more = one.more; is = rests last.2 ∙ one.is; breaks = breaks_wider (IsSome fault) stops one.more goes one.breaks }
]
  where
    is : new ≡ old ++ (one.more ++ other.more)
    is = other.is ∙ ap (λ (l : List Logged). l ++ other.more) one.is ∙ append_assoc old one.more other.more

    both : (a b : List Logged) → NoneBroke a → NoneBroke b → NoneBroke (a ++ b)
    both [] b x y = y
    both (e ∷ a) b x y = (x.0, both a b x.1 y)

-- where it may stop for anything
pub broken_all : (stops : Type 0) (old new : List Logged) → Broken stops old new → Broken (Unit {0}) old new
broken_all stops old new b = record { more = b.more; is = b.is; breaks = breaks_wider stops (Unit {0}) b.more (λ s. tt) b.breaks }

-- where the run goes on it stops only for a fault
pub broken_going : (fault : Option RunFault) (old new : List Logged) → Broken (IsSome (let none : Option Halt = None in none) ⊎ IsSome fault) old new → Broken (IsSome fault) old new
broken_going fault old new b = record { more = b.more; is = b.is; breaks = breaks_wider _ (IsSome fault) b.more (λ s. elim s [ inl halts ↦ absurd (false≢true halts) | inr kept ↦ kept ]) b.breaks }

-- an entry that stands last is the one that was marked
marked_last : (old new : List Logged) (a b : Logged) → new ≡ old ++ a ∷ [] → new ≡ old ++ b ∷ [] → a ≡ b
marked_last old new a b one other = (let e : a ∷ [] ≡ b ∷ [] = append_cancel_left old (a ∷ []) (b ∷ []) (sym one ∙ other) in cc)

closed_calm : (t : ℕ) (h : Option Given) → is_break (closed_by t h) ≡ false
closed_calm t None = refl
closed_calm t (Some (given.Tree tree manifest)) = refl
closed_calm t (Some (given.Fails status)) = refl
closed_calm t (Some given.TooLarge) = refl

-- a job that was closed breaks off only where a fault is kept
pub ends_stop : {D W : Type 0} (halt : Option Halt) (seat t : ℕ) (h : Option Given) (old new : RunView D W) → EndsTurn seat t h old new (Ok ending.Closed) → BreaksBy halt new.fault old.tale new.tale
ends_stop halt seat t h old new (inl m) entry is breaks =
    let closed : Logged = record { event = closed_by t h; seat = seat; moment = m.0.moment } in
    let same : closed ≡ entry = marked_last old.tale new.tale closed entry m.0.is is in
    absurd (false≢true (sym (ap (λ (e : Logged). is_break e.event) (sym same) ∙ closed_calm t h) ∙ breaks))
ends_stop halt seat t h old new (inr m) entry is breaks = inr m.1
