-- What the plan of a part, and a fault in its place, say of the part.
use Rattle.std.proofs.Common.{◌≡◌, ◌∙◌, inl, inr, sym, ap, subst, ℕ, Bool, true, false, List, [], Result, Ok, Err}
use Rattle.meta_model.specs.declared.event.Status.{Status}
use Rattle.meta_model.specs.declared.facts.Graph.{Graph}
use Rattle.meta_model.specs.declared.plan.Plan.{Plan}
use Rattle.outside_traits.specs.Store.{IsListing}
use Rattle.load_model.specs.Loading.{sources_of}
use Rattle.meta_model.specs.Threads.{AreThreads}
use Rattle.answer_model.specs.GraphStatus.{IsGraphStatus}
use Rattle.answer_model.specs.RunAsked.{Asked, threads_text}
use Rattle.answer_model.specs.Runs.{HasGraph, HasThreads}
use Rattle.answer_model.specs.Plans.{plan_under}
use Rattle.plan_model.specs.Inputs.{Files}
use Rattle.plan_model.specs.PlanRefusal.{PlanRefusal}
use Rattle.plan_model.specs.Plans.{plan_of, forced}
use Rattle.plan_model.specs.Sound.{AreClean, AreWanted, IsMadeFrom, IsSound}
use Rattle.plan_model.proofs.Planning.{ok_parts, same_ok}
use Rattle.plan_model.proofs.Soundness.{plan_is_sound, forced_is_sound}
use Rattle.plan_model.proofs.Wanted.{plan_is_wanted, forced_is_wanted}
use Rattle.multi_config.specs.declared.parts.ConfigTargets.{ConfigTargets}
use Rattle.multi_config.specs.Plans.{HasPartPlan, IsPartRefused, IsPartRun, IsPartRunRefused, asking, graph as no_graph, value as no_value, threads as no_threads, no_run, no_plan}
use Rattle.multi_config.specs.Project.{asked_part}
use Rattle.plan_model.proofs.OneGraph.{one_graph}
use Rattle.target_graph.proofs.AnyGraph.{graph_stands}
use Rattle.target_graph.proofs.Listings.{listing_once}
use Rattle.target_graph.specs.Runs.{IsNoPartRun}
use Rattle.target_plan.specs.Plans.{IsNoPartPlan}
use Rattle.target_plan.specs.Steps.{IsNoPlanOf}
use Rattle.target_plan.proofs.GoodParts.{part_has_good_names}
use Rattle.target_plan.proofs.OnePlan.{AreOne, one_number}

module _ (files : Files) (paths : List (List ℕ)) (part : ConfigTargets) (force : Bool) where
  -- the plan of a run is that of its part
  pub has_part_plan : (what : Asked) (graph : Graph) (threads : ℕ) (made : Plan) → IsPartRun (sources_of files) paths part what graph threads → plan_under force files what.set graph threads ≡ Ok made → HasPartPlan files paths part force made
  has_part_plan what graph threads made run is = record { what = what; graph = graph; threads = threads; is_run = run; is_plan = is }

  -- and why a run has none is why its part has none
  pub has_no_part_plan : (what : Asked) (graph : Graph) (threads : ℕ) (status : Status) → IsPartRun (sources_of files) paths part what graph threads → IsNoPlanOf (plan_under force files what.set graph threads) status → IsNoPartPlan files paths part force status
  has_no_part_plan what graph threads status run (inl device) = inl device
  has_no_part_plan what graph threads status run (inr why) = inr (no_plan why.0 (record { what = what; graph = graph; threads = threads; is_run = run; none = why.1 }) why.2)

  -- a part without a run has no plan
  pub part_refused : (status : Status) → IsNoPartRun (sources_of files) paths part status → IsNoPartPlan files paths part force status
  part_refused status (inl device) = inl device
  part_refused status (inr why) = inr (no_run why)

  -- the plan of a part is sound
  pub plan_of_part_is_sound : (plan : Plan) → AreClean files → HasPartPlan files paths part force plan → IsSound plan
  plan_of_part_is_sound plan clean a = by force a.is_plan
    where
      from : IsMadeFrom files a.what.set a.graph a.threads
      from = record {
        clean = clean;
        names = part_has_good_names files paths part a.what a.is_run.asked;
        targets = a.what.targets;
        is_graph = a.is_run.graph.graph;
        few = a.is_run.graph.few;
        in_range = (a.is_run.threads.number.least, a.is_run.threads.number.most);
      }

      by : (b : Bool) → plan_under b files a.what.set a.graph a.threads ≡ Ok plan → IsSound plan
      by false e = plan_is_sound files a.what.set a.graph a.threads plan from e
      by true e =
          let made = ok_parts (plan_of files a.what.set a.graph a.threads) (λ p. Ok (forced p)) plan e in
          subst IsSound (same_ok {E = PlanRefusal} (forced made.0) plan made.2) (forced_is_sound made.0 (plan_is_sound files a.what.set a.graph a.threads made.0 from made.1))

  -- each task of it is wanted
  pub plan_of_part_is_wanted : (plan : Plan) → HasPartPlan files paths part force plan → AreWanted plan
  plan_of_part_is_wanted plan a = by force a.is_plan
    where
      by : (b : Bool) → plan_under b files a.what.set a.graph a.threads ≡ Ok plan → AreWanted plan
      by false e = plan_is_wanted files a.what.set a.what.targets a.graph a.threads plan a.is_run.graph.graph e
      by true e =
          let made = ok_parts (plan_of files a.what.set a.graph a.threads) (λ p. Ok (forced p)) plan e in
          subst AreWanted (same_ok {E = PlanRefusal} (forced made.0) plan made.2) (forced_is_wanted made.0 (plan_is_wanted files a.what.set a.what.targets a.graph a.threads made.0 a.is_run.graph.graph made.1))

-- ---- a part has one plan, and no refusal beside it

module _ (files : Files) (paths others : List (List ℕ)) (part : ConfigTargets) (l : IsListing [] files paths) (k : IsListing [] files others) where
  same_asked_part : (v w : Asked) → asked_part (sources_of files) paths part ≡ Ok v → asked_part (sources_of files) others part ≡ Ok w → v ≡ w
  same_asked_part v w e f = same_ok {E = Status} v w (sym e ∙ ap (λ p. asked_part (sources_of files) p part) (listing_once [] files paths others l k) ∙ f)

  part_runs_are_one : (v w : Asked) (g h : Graph) (m n : ℕ) → IsPartRun (sources_of files) paths part v g m → IsPartRun (sources_of files) others part w h n → AreOne v w g h m n
  part_runs_are_one v w g h m n a b =
      let what = same_asked_part v w a.asked b.asked in
      let other : HasGraph v h = subst (λ x. HasGraph x h) (sym what) b.graph in
      let threads : HasThreads v n = subst (λ x. HasThreads x n) (sym what) b.threads in
      let text : a.threads.text ≡ threads.text = same_ok {E = Status} a.threads.text threads.text (sym a.threads.is ∙ threads.is) in
      record {
        what = what;
        graph = one_graph v.set.facts v.targets g h (part_has_good_names files paths part v a.asked) a.graph.graph other.graph;
        threads = one_number threads.text m n (subst (λ t. AreThreads t m) text a.threads.number) threads.number;
      }

  part_run_not_refused : (made : Asked) (graph : Graph) (number : ℕ) (status : Status) → IsPartRun (sources_of files) paths part made graph number → IsPartRunRefused (sources_of files) others part status → ⊥
  part_run_not_refused made graph number status s (asking e) =
      apart made status (sym s.asked ∙ ap (λ p. asked_part (sources_of files) p part) (listing_once [] files paths others l k) ∙ e)
    where
      apart : (w : Asked) (t : Status) → Ok w ≡ Err t → ⊥
      apart w t h = absurd cc
  part_run_not_refused made graph number status s (no_graph what e h) =
      let same = same_asked_part made what s.asked e in
      graph_stands made graph status s.graph (subst (λ w. IsGraphStatus w.set.facts w.targets status) (sym same) h)
  part_run_not_refused made graph number status s (no_value what other e g h) =
      let same = same_asked_part made what s.asked e in
      apart s.threads.text status (sym (ap threads_text (sym same) ∙ s.threads.is) ∙ h)
    where
      apart : (w : List ℕ) (t : Status) → Ok w ≡ Err t → ⊥
      apart w t h = absurd cc
  part_run_not_refused made graph number status s (no_threads what other text e g h none is) =
      let same = same_asked_part made what s.asked e in
      let texts = same_ok {E = Status} s.threads.text text (sym (ap threads_text (sym same) ∙ s.threads.is) ∙ h) in
      none number (subst (λ t. AreThreads t number) texts s.threads.number)

  pub part_plans_are_one : (force : Bool) (p q : Plan) → HasPartPlan files paths part force p → HasPartPlan files others part force q → p ≡ q
  part_plans_are_one force p q a b =
      let one = part_runs_are_one a.what b.what a.graph b.graph a.threads b.threads a.is_run b.is_run in
      same_ok {E = PlanRefusal} p q (sym a.is_plan ∙ (λ i. plan_under force files (one.what i).set (one.graph i) (one.threads i)) ∙ b.is_plan)

  pub part_plan_not_refused : (force : Bool) (p : Plan) (status : Status) → HasPartPlan files paths part force p → IsPartRefused files others part force status → ⊥
  part_plan_not_refused force p status a (no_run r) = part_run_not_refused a.what a.graph a.threads status a.is_run r
  part_plan_not_refused force p status a (no_plan refusal b is) =
      let one = part_runs_are_one a.what b.what a.graph b.graph a.threads b.threads a.is_run b.is_run in
      apart p refusal (sym a.is_plan ∙ (λ i. plan_under force files (one.what i).set (one.graph i) (one.threads i)) ∙ b.none)
    where
      apart : (p : Plan) (r : PlanRefusal) → ◌≡◌ {A = Result Plan PlanRefusal} (Ok p) (Err r) → ⊥
      apart p r e = absurd cc
