-- What a claim marks and hands out, what a turn of a job that is done does, and a job that is the clean build's is so for each state of the run.
use Rattle.std.proofs.Common.{◌≡◌, ◌∙◌, sym, subst, ap, refl, ℕ, Bool, true, false, List, [], ◌∷◌, ◌++◌, map, append-nil, arith, All, inl, inr}
use Rattle.std.specs.Prelude.{◌⊎◌, Result, Ok, Err, Option, Some, None, IfSome, IsSome, is_some, MatchBool}
use Rattle.std.proofs.lemmas.Bool.{false≢true}
use Rattle.std.specs.List.{slice_get}
use Rattle.std.proofs.lemmas.List.Elements.{All-cons}
use Rattle.meta_model.specs.declared.event.Cut.TheVariants as cut
use Rattle.meta_model.specs.declared.event.Event.{Event}
use Rattle.meta_model.specs.declared.event.Event.TheVariants as events
use Rattle.meta_model.specs.declared.event.Logged.{Logged}
use Rattle.meta_model.specs.declared.event.Why.TheVariants as why
use Rattle.meta_model.specs.declared.plan.Plan.{Plan}
use Rattle.tree_model.specs.declared.text.Mem.{Mem}
use Rattle.task_worker.specs.declared.given.Given.{Given}
use Rattle.task_worker.specs.declared.given.Job.{Job}
use Rattle.run_model.specs.Layouts.{layout_over}
use Rattle.run_model.specs.CleanOutputs.{AreClean}
use Rattle.run_queue.specs.declared.closing.Ending.{Ending}
use Rattle.run_queue.specs.declared.closing.Ending.TheVariants as ending
use Rattle.run_queue.specs.declared.state.Claim.{Claim}
use Rattle.run_queue.specs.declared.state.Claim.TheVariants as claim
use Rattle.run_model.specs.Opening.{Opening}
use Rattle.run_queue.specs.Seen.{RunView, Seen}
use Rattle.run_queue.specs.declared.restoring.Mending.{Mending}
use Rattle.run_queue.specs.declared.restoring.Mending.TheVariants as mending
use Rattle.run_queue.specs.Turns.{Claims, ClaimsClean, EndsTurn, HandsOn, IsCleanJob, Marks, MendsTo, closed_by}
use Rattle.run_workers.specs.declared.shared.Told.{Told}
use Rattle.run_workers.specs.Seats.{AddsBy, EndAdds, IsCleanClaim, MendAdds, closing_as}
use Rattle.run_workers.specs.Told.{tell}

pub clean_job : (o : Opening) (a b : Seen) (job : Job) → b.plan ≡ a.plan → IsCleanJob o a job → IsCleanJob o b job
clean_job o a b job same h = record {
  task = h.task;
  is_task = subst (λ (p : Plan). slice_get p.tasks job.task ≡ Some h.task) (sym same) h.is_task;
  outputs = h.outputs;
  numbers = h.numbers;
  clean = subst (λ (p : Plan). AreClean o.gives p.tasks h.outputs) (sym same) h.clean;
  script = h.script;
  layout = subst (λ (p : Plan). job.layout ≡ layout_over p.tasks h.task h.outputs) (sym same) h.layout;
  placing = h.placing;
  within = h.within;
}

pub hands : (o : Opening) (a b : Seen) (c : Claim) → b.plan ≡ a.plan → (waits : Bool) → ClaimsClean o waits a (Ok c) → IsCleanClaim o b c
hands o a b (claim.Run job) same waits h = clean_job o a b job same h
hands o a b (claim.Settled t) same waits h = tt
hands o a b (claim.Restore t) same waits h = tt
hands o a b claim.Wait same waits h = tt
hands o a b claim.Finished same waits h = tt
hands o a b claim.Stopped same waits h = tt

-- what a turn marked: one entry or none
pub record Marked (n : ℕ) (old new : List Logged) : Type 0 where
  pub added : List Logged
  pub grown : new ≡ old ++ added
  pub by : (still : Bool) → All (λ (e : Told). e.logged.seat ≡ n) (map (tell still) added)

pub all_none : (n : ℕ) → All (λ (e : Told). e.logged.seat ≡ n) []
all_none n k d lt = absurd (omega (arith, lt))

abbrev pub marked_one : (n : ℕ) (event : Event) (old new : List Logged) → Marks n event old new → Marked n old new
marked_one n event old new m =
    let e : Logged = record { event = event; seat = n; moment = m.moment } in record {
      added = e ∷ [];
      grown = m.is;
      by = λ still. All-cons (λ (x : Told). x.logged.seat ≡ n) (tell still e) [] refl (all_none n);
    }

abbrev marked_nothing : (n : ℕ) (old new : List Logged) → new ≡ old → Marked n old new
marked_nothing n old new same = record { added = []; grown = same ∙ sym (append-nil old); by = λ still. all_none n }

module _ {D W : Type 0} (n : ℕ) (old new : RunView D W) where
  abbrev pub marked_by : (c : Result Claim Mem) → Claims n old new c → Marked n old.tale new.tale
  marked_by (Ok (claim.Run job)) h = marked_one n (events.Started job.task n) old.tale new.tale h.marks
  marked_by (Ok (claim.Settled t)) (inl m) = marked_one n (events.Found t) old.tale new.tale m
  marked_by (Ok (claim.Settled t)) (inr (inl m)) = marked_one n (events.Restored t) old.tale new.tale m
  marked_by (Ok (claim.Settled t)) (inr (inr m)) = marked_one n (events.Failed t why.TooLarge) old.tale new.tale m
  marked_by (Ok (claim.Restore t)) h = marked_nothing n old.tale new.tale h
  marked_by (Ok claim.Wait) h = marked_nothing n old.tale new.tale h.0
  marked_by (Ok claim.Finished) h = marked_nothing n old.tale new.tale h.0
  marked_by (Ok claim.Stopped) h = marked_nothing n old.tale new.tale h.0
  marked_by (Err e) h = marked_nothing n old.tale new.tale h

  -- what a claim added, by its answer
  pub adds_by : (still : Bool) (c : Claim) (h : Claims n old new (Ok c)) → AddsBy n still c (map (tell still) (marked_by (Ok c) h).added)
  adds_by still (claim.Run job) h = record { moment = h.marks.moment; is = refl }
  adds_by still (claim.Settled t) (inl m) = inl (record { moment = m.moment; is = refl })
  adds_by still (claim.Settled t) (inr (inl m)) = inr (inl (record { moment = m.moment; is = refl }))
  adds_by still (claim.Settled t) (inr (inr m)) = inr (inr (record { moment = m.moment; is = refl }))
  adds_by still (claim.Restore t) h = refl
  adds_by still claim.Wait h = refl
  adds_by still claim.Finished h = refl
  adds_by still claim.Stopped h = refl

-- ---- a job that is done

module _ {D W : Type 0} (n t : ℕ) (g : Option Given) (old new : RunView D W) where
  abbrev pub marked_ended : (r : Result Ending Mem) → EndsTurn n t g old new r → Marked n old.tale new.tale
  marked_ended (Ok ending.More) h = marked_nothing n old.tale new.tale h.tale
  marked_ended (Ok ending.Wait) h = marked_nothing n old.tale new.tale h.tale
  marked_ended (Ok ending.Closed) (inl m) = marked_one n (closed_by t g) old.tale new.tale m.0
  marked_ended (Ok ending.Closed) (inr m) = marked_one n (events.Broke t cut.Fault) old.tale new.tale m.0
  marked_ended (Err e) m = marked_one n (events.Broke t cut.Memory) old.tale new.tale m.0

  no_fault : IsSome new.fault → new.fault ≡ None → ⊥
  no_fault some none = false≢true (sym (ap is_some none) ∙ some)

  pub ended_adds : (still faulty : Bool) (r : Result Ending Mem) → MatchBool faulty (IsSome new.fault) (new.fault ≡ None) → (h : EndsTurn n t g old new r) → EndAdds n t g (closing_as r faulty) (map (tell still) (marked_ended r h).added)
  ended_adds still faulty (Ok ending.More) f h = refl
  ended_adds still faulty (Ok ending.Wait) f h = refl
  ended_adds still true (Ok ending.Closed) f (inl m) = (still, inl (record { moment = m.0.moment; is = refl }))
  ended_adds still true (Ok ending.Closed) f (inr m) = (still, inr (record { moment = m.0.moment; is = refl }))
  ended_adds still false (Ok ending.Closed) f (inl m) = (still, record { moment = m.0.moment; is = refl })
  ended_adds still false (Ok ending.Closed) f (inr m) = absurd (no_fault m.1 f)
  ended_adds still faulty (Err e) f m = (still, record { moment = m.0.moment; is = refl })

-- ---- a task that is being restored

module _ {D W : Type 0} (n t : ℕ) (old new : RunView D W) where
  abbrev pub marked_mended : (r : Mending) → MendsTo n t old new r → Marked n old.tale new.tale
  marked_mended mending.More h = marked_nothing n old.tale new.tale h.0.tale
  marked_mended mending.Wait h = marked_nothing n old.tale new.tale h.0.tale
  marked_mended mending.Closed (none, inl m) = marked_one n (events.Restored t) old.tale new.tale m.0
  marked_mended mending.Closed (none, inr m) = marked_nothing n old.tale new.tale (ap (λ (v : RunView D W). v.tale) m.0)
  marked_mended mending.Stopped h = marked_nothing n old.tale new.tale h.0

  pub mended_adds : (still : Bool) (r : Mending) (h : MendsTo n t old new r) → MendAdds n t r (map (tell still) (marked_mended r h).added)
  mended_adds still mending.More h = refl
  mended_adds still mending.Wait h = refl
  mended_adds still mending.Closed (none, inl m) = inr (still, record { moment = m.0.moment; is = refl })
  mended_adds still mending.Closed (none, inr m) = inl refl
  mended_adds still mending.Stopped h = refl

pub mended_stops : {D W : Type 0} (n t : ℕ) (old new : RunView D W) (r : Mending) → MendsTo n t old new r → r ≡ mending.Stopped → IsSome new.fault
mended_stops n t old new mending.More h is = absurd (let e : mending.More ≡ mending.Stopped = is in cc)
mended_stops n t old new mending.Wait h is = absurd (let e : mending.Wait ≡ mending.Stopped = is in cc)
mended_stops n t old new mending.Closed h is = absurd (let e : mending.Closed ≡ mending.Stopped = is in cc)
mended_stops n t old new mending.Stopped h is = h.1

-- what is handed over is what was at first, or nothing any more
abbrev pub IsHanded : Option Given → Option Given → Type 0
IsHanded first now = (now ≡ first) ⊎ (now ≡ None)

pub hands_on : (t : ℕ) (first old new : Option Given) → IsHanded first old → HandsOn t old new → IsHanded first new
hands_on t first old new is (inl same) = subst (IsHanded first) (sym same) is
hands_on t first old new is (inr none) = inr none.0

-- so it has what that has
pub handed_has : (P : Given → Type 0) (first now : Option Given) → IsHanded first now → IfSome first P → IfSome now P
handed_has P first now (inl same) has = subst (λ (x : Option Given). IfSome x P) (sym same) has
handed_has P first now (inr none) has = subst (λ (x : Option Given). IfSome x P) (sym none) tt
