-- A run of several configurations, and what is shown of them, by their parts.
use Rattle.std.proofs.Common.{◌≡◌, ◌≢◌, ◌⊎◌, inl, inr, ◌∙◌, ap, sym, subst, refl, ℕ, true, List, [], ◌++◌, Ok, Err, Result}
use Rattle.std.specs.Prelude.{Option, flat_map}
use Rattle.outside_traits.specs.Fault.{Counts, Rose}
use Rattle.outside_traits.specs.Store.{IsListing}
use Rattle.meta_model.specs.declared.event.Logged.{Logged}
use Rattle.meta_model.specs.declared.event.Status.{Status}
use Rattle.meta_model.specs.declared.event.Status.TheVariants as status
use Rattle.meta_model.specs.declared.plan.Plan.{Plan}
use Rattle.load_model.specs.Loading.{sources_of}
use Rattle.plan_model.specs.Inputs.{Files}
use Rattle.run_model.specs.Benches.{SomeRose}
use Rattle.run_model.specs.Texts.{fault_text}
use Rattle.answer_model.specs.Answers.{IsRefusal, Says, is_refusal}
use Rattle.answer_model.specs.Run.{HasCause}
use Rattle.answer_model.specs.declared.asked.RunRequest.{RunRequest}
use Rattle.answer_model.specs.declared.asked.ShowMode.{ShowMode}
use Rattle.project_reading.specs.Answered.{IsRefusedAs, is_failed_read}
use Rattle.multi_config.specs.declared.parts.ConfigTargets.{ConfigTargets}
use Rattle.multi_config.specs.Parts.{IsUnsplit, PartEnd, RanConfigs, Standing, ran}
use Rattle.multi_config.specs.Project.{parts_asked}
use Rattle.multi_config.specs.Shown.{ShowsConfigs, shown, stands_at}
use Rattle.bitbake_top.specs.Parts.{RanParts, ShownParts}
use Rattle.bitbake_top.proofs.PartEnds.{refused_is}
use Rattle.bitbake_top.proofs.PartSteps.{parts_cause, parts_read}

-- ---- words that have no parts

module _ (layers sink : Type 0) (files : Files) (request : RunRequest) (at : Standing) where
  abbrev Asked : List (List ℕ) → List (List ℕ) → Option (List ℕ) → Result (List ConfigTargets) Status
  Asked paths targets task = parts_asked (sources_of files) paths targets task

  why : (paths targets : List (List ℕ)) (task : Option (List ℕ)) (t s : Status) → targets ≡ request.targets → task ≡ request.task → (s ≡ t) ⊎ (s ≡ status.OutOfMemory) → IsRefusedAs t (Asked paths targets task)
      → (s ≡ status.ReadFault) ⊎ IsRefusal (Asked paths request.targets request.task) s
  why paths targets task t s same_targets same_task (inr memory) lack = inr (inr memory)
  why paths targets task t s same_targets same_task (inl same) (inl memory) = inr (inr (same ∙ memory))
  why paths targets task t s same_targets same_task (inl same) (inr (inl read)) = inl (same ∙ read)
  why paths targets task t s same_targets same_task (inl same) (inr (inr is)) = inr (inl (
      subst (λ (w : List (List ℕ)). Asked paths w request.task ≡ Err s) same_targets
      (subst (λ (k : Option (List ℕ)). Asked paths targets k ≡ Err s) same_task
      (subst (λ (x : Status). Asked paths targets task ≡ Err x) (sym same) is))))

  its_cause : (mid : ℕ) (t s : Status) → (s ≡ t) ⊎ (s ≡ status.OutOfMemory) → Counts at.layers mid (is_failed_read t) → s ≡ status.ReadFault → Rose at.layers mid
  its_cause mid t s (inr memory) counts read = absurd (let h : status.OutOfMemory ≡ status.ReadFault = sym memory ∙ read in cc)
  its_cause mid t s (inl same) counts read = let h : Counts at.layers mid true = subst (λ (x : Status). Counts at.layers mid (is_failed_read x)) (sym same ∙ read) counts in h.rose

  pub refused_words : (mid : ℕ) (w : List ℕ) (n : ℕ) (targets : List (List ℕ)) (task : Option (List ℕ)) (t s : Status) (plans : List Plan) (tales : List (List Logged)) → plans ≡ [] → tales ≡ [] → targets ≡ request.targets → task ≡ request.task → is_refusal t ≡ true → (s ≡ t) ⊎ (s ≡ status.OutOfMemory)
      → Counts at.layers mid (is_failed_read t) → (layers → (paths : List (List ℕ)) → IsListing [] files paths → IsRefusedAs t (Asked paths targets task)) → (sink → Says (fault_text s) at.written w at.sink n) → IsUnsplit layers sink files request at (stands_at mid w n at) plans tales s
  refused_words mid w n targets task t s plans tales p e same_targets same_task refusal how counts lack said = record {
    no_plans = p;
    no_tales = e;
    refusal = refused_is t s refusal how;
    told = λ l paths lists. why paths targets task t s same_targets same_task how (lack l paths lists);
    cause = its_cause mid t s how counts;
    said = said;
  }

  -- memory was wanting for what the parts hand back
  pub no_room : (w : List ℕ) (n : ℕ) (s : Status) (plans : List Plan) (tales : List (List Logged)) → plans ≡ [] → tales ≡ [] → s ≡ status.OutOfMemory → (sink → Says (fault_text s) at.written w at.sink n) → IsUnsplit layers sink files request at (stands_at at.layers w n at) plans tales s
  no_room w n s plans tales p e memory said = record {
    no_plans = p;
    no_tales = e;
    refusal = subst (λ (x : Status). is_refusal x ≡ true) (sym memory) refl;
    told = λ l paths lists. inr (inr memory);
    cause = λ read. absurd (let h : status.OutOfMemory ≡ status.ReadFault = sym memory ∙ read in cc);
    said = said;
  }

  -- the parts that were found are those of the request
  pub asked_parts : (targets : List (List ℕ)) (task : Option (List ℕ)) (parts : List ConfigTargets) → targets ≡ request.targets → task ≡ request.task → (layers → (paths : List (List ℕ)) → IsListing [] files paths → Asked paths targets task ≡ Ok parts)
      → layers → (paths : List (List ℕ)) → IsListing [] files paths → Asked paths request.targets request.task ≡ Ok parts
  asked_parts targets task parts same_targets same_task is l paths lists =
      subst (λ (w : List (List ℕ)). Asked paths w request.task ≡ Ok parts) same_targets (subst (λ (k : Option (List ℕ)). Asked paths targets k ≡ Ok parts) same_task (is l paths lists))

-- ---- parts that were run

module _ (layers disk bench sink : Type 0) (files : Files) (request : RunRequest) where
  pub whole : (parts : List ConfigTargets) (before now : Standing) (first_plans plans : List Plan) (first_tales tales : List (List Logged)) (s : Status) → first_plans ≡ [] → first_tales ≡ [] → RanParts layers disk bench sink files request parts before now first_plans plans first_tales tales s
      → (layers → (paths : List (List ℕ)) → IsListing [] files paths → parts_asked (sources_of files) paths request.targets request.task ≡ Ok parts) → RanConfigs layers disk bench sink files request before now plans tales s
  whole parts before now first_plans plans first_tales tales s p e r asked = ran parts r.ends asked (record {
    reached = r.reached;
    plans_are = r.plans_are ∙ ap (λ (l : List Plan). l ++ flat_map (λ (x : PartEnd). x.plans) r.ends) p;
    tales_are = r.tales_are ∙ ap (λ (l : List (List Logged)). l ++ flat_map (λ (x : PartEnd). x.tales) r.ends) e;
    status_is = r.status_is;
  }) r.each

  pub whole_cause : (parts : List ConfigTargets) (before now : Standing) (first_plans plans : List Plan) (first_tales tales : List (List Logged)) (s : Status) → RanParts layers disk bench sink files request parts before now first_plans plans first_tales tales s
      → HasCause (Rose before.layers now.layers) now.disk (SomeRose before.benches now.benches) (Rose before.sink now.sink) s
  whole_cause parts before now first_plans plans first_tales tales s r = subst (λ (x : Status). HasCause (Rose before.layers now.layers) now.disk (SomeRose before.benches now.benches) (Rose before.sink now.sink) x) (sym r.status_is)
      (parts_cause layers disk bench sink files request parts r.ends before now r.reached r.each)

  pub whole_read : (parts : List ConfigTargets) (before now : Standing) (first_plans plans : List Plan) (first_tales tales : List (List Logged)) (s : Status) → RanParts layers disk bench sink files request parts before now first_plans plans first_tales tales s → s ≢ status.Usage
  whole_read parts before now first_plans plans first_tales tales s r e = parts_read layers disk bench sink files request parts r.ends before now r.reached r.each (sym r.status_is ∙ e)

-- ---- parts that are shown

pub whole_shown : (layers sink : Type 0) (what : ShowMode) (files : Files) (request : RunRequest) (parts : List ConfigTargets) (before now : Standing) (s : Status) → ShownParts layers sink what files parts before now s
    → (layers → (paths : List (List ℕ)) → IsListing [] files paths → parts_asked (sources_of files) paths request.targets request.task ≡ Ok parts) → ShowsConfigs layers sink what files request before now s
whole_shown layers sink what files request parts before now s r asked = shown parts r.ends asked (record { reached = r.reached; plans_are = r.no_plans; tales_are = r.no_tales; status_is = r.status_is }) r.each
