-- How a part of a run of several configurations ends.
use Rattle.std.proofs.Common.{◌≡◌, ◌≢◌, ◌⊎◌, ◌≤◌, inl, inr, ◌∙◌, ap, sym, subst, refl, arith, ℕ, true, false, List, [], ◌∷◌, ◌++◌, Some}
use Rattle.std.specs.List.{slice_get}
use Rattle.std.proofs.lemmas.List.Elements.{All-nil}
use Rattle.std.proofs.lemmas.Bool.{false≢true}
use Rattle.outside_traits.specs.Bench.{Gives}
use Rattle.outside_traits.specs.Fault.{Counts, Rose}
use Rattle.outside_traits.specs.Store.{IsListing, Store}
use Rattle.outside_traits.specs.Story.{Story}
use Rattle.meta_model.specs.declared.event.Logged.{Logged}
use Rattle.meta_model.specs.declared.event.Status.{Status}
use Rattle.meta_model.specs.declared.event.Status.TheVariants as status
use Rattle.meta_model.specs.declared.plan.Plan.{Plan}
use Rattle.plan_model.specs.Inputs.{Files}
use Rattle.plan_model.specs.Sound.{IsSound}
use Rattle.plan_model.specs.Spellings.{HasSpellings}
use Rattle.run_model.specs.Build.{AllClean}
use Rattle.run_model.specs.Texts.{fault_text}
use Rattle.run_model.specs.Written.{WritesFront}
use Rattle.answer_model.specs.Answers.{Says, is_refusal}
use Rattle.answer_model.specs.Devices.{IsUnchanged}
use Rattle.answer_model.specs.declared.asked.RunRequest.{RunRequest}
use Rattle.answer_model.specs.Run.{IsCertain, RanPrintedCall, WritesCall}
use Rattle.project_reading.specs.Answered.{is_failed_read}
use Rattle.target_plan.specs.Plans.{IsNoPartPlan}
use Rattle.target_plan.proofs.Parts.{part_plan_not_refused, part_plans_are_one, plan_of_part_is_wanted}
use Rattle.multi_config.specs.declared.parts.ConfigTargets.{ConfigTargets}
use Rattle.multi_config.specs.Configs.{config_line, store_prefix}
use Rattle.multi_config.specs.Plans.{HasPartPlan, IsPartRefused}
use Rattle.multi_config.specs.Parts.{DidFolder, HasPartBuild, IsPart, IsPartUnrun, KeepsFolder, PartEnd, Standing, ready, unready}
use Rattle.sub_disk.specs.Sub.{below}
use Rattle.config_build.specs.Below.{LeavesStory}
use Rattle.bitbake_top.specs.Parts.{RanPlan, behind_text}
use Rattle.bitbake_top.proofs.Begun.{all_of_one, found_one, refused_cause, refused_found, refused_not_ok, run_cause, run_goes_on}
use Rattle.bitbake_top.proofs.Devices.{rose_from, unchanged_rose}
use Rattle.bitbake_top.proofs.Kept.{as_entry}
use Rattle.build_resume.proofs.Statuses.{wider_cause}

-- the counts of benches that weren't used
still : (at : Standing) → (k m n : ℕ) → slice_get at.benches k ≡ Some m → slice_get at.benches k ≡ Some n → m ≤ n
still at k m n a b = let both : Some m ≡ Some n = sym a ∙ b in let same : m ≡ n = cc in omega (arith, same)

no_item : {A X : Type 0} (x : A) → ◌≡◌ {A = List A} [] (x ∷ []) → X
no_item x e = absurd cc

-- what failed besides may have failed
wider_call : (f h : Type 0) → (f → h) → (base now : List ℕ) (plans : List Plan) (tales : List (List Logged)) (s : Status) → WritesCall f base now plans tales s → WritesCall h base now plans tales s
wider_call f h w base now plans [] s (inl x) = inl x
wider_call f h w base now plans [] s (inr x) = inr (w x.0, x.1)
wider_call f h w base now [] (tale ∷ more) s x = x
wider_call f h w base now (plan ∷ plans) (tale ∷ more) s (inl x) = inl x
wider_call f h w base now (plan ∷ plans) (tale ∷ more) s (inr x) = inr (w x.0, x.1, x.2)

pub refused_is : (t s : Status) → is_refusal t ≡ true → (s ≡ t) ⊎ (s ≡ status.OutOfMemory) → is_refusal s ≡ true
refused_is t s refusal (inl same) = subst (λ (x : Status). is_refusal x ≡ true) (sym same) refusal
refused_is t s refusal (inr memory) = subst (λ (x : Status). is_refusal x ≡ true) (sym memory) refl

module _ (layers disk bench sink : Type 0) (files : Files) (request : RunRequest) (part : ConfigTargets) where
  abbrev End : List Plan → List (List Logged) → Status → PartEnd
  End plans tales s = record { part = part; plans = plans; tales = tales; status = s }

  abbrev Is : List Plan → List (List Logged) → Status → Standing → Standing → Type 0
  Is plans tales s before now = IsPart layers disk bench sink files request (End plans tales s) before now

  empty_end : (plans : List Plan) (tales : List (List Logged)) (s : Status) (before now : Standing) → plans ≡ [] → tales ≡ [] → Is [] [] s before now → Is plans tales s before now
  empty_end plans tales s before now p t is = subst (λ l. Is l tales s before now) (sym p) (subst (λ l. Is [] l s before now) (sym t) is)

  -- ---- the line of its configuration wasn't written

  pub line_failed : (at : Standing) (w : List ℕ) (n : ℕ) (plans : List Plan) (tales : List (List Logged)) → plans ≡ [] → tales ≡ [] → at.sink ≤ n → Rose at.sink n → (sink → WritesFront at.written w (config_line part.mc))
      → Is plans tales status.WriteFault at (behind_text w n at)
  line_failed at w n plans tales p t later rose front = empty_end plans tales status.WriteFault at (behind_text w n at) p t (record {
    plans = λ l paths lists. All-nil _;
    found = λ e. inr (refl, refl);
    concludes = inl (refl, inr refl);
    begun = λ some. absurd (some refl);
    unrun = λ none other. absurd (other refl);
    same_disk = λ e. (refl, refl);
    same_benches = λ e. (refl, refl);
    folder = λ d plan tale one two. no_item tale two;
    exactly = λ l d b paths lists gives all reading book may ls ds bs ss certain. (
      λ ok. absurd (let h : status.WriteFault ≡ status.Ok = ok in cc),
      λ good. absurd (unchanged_rose at.sink n ss rose),
    );
    text = λ s. inr (rose, refl, refl, refl, front s);
    printed = λ s b. refl;
    benches = All-nil _;
    broke = All-nil _;
    causes = rose;
    disk_cause = λ e. absurd (let h : status.WriteFault ≡ status.DiskFault = e in cc);
    later = (omega arith, omega arith, later);
    stay = record { gives = refl; long = refl; later = still at };
  })

  -- ---- it has no plan

  why : (t s : Status) (paths : List (List ℕ)) → IsNoPartPlan files paths part request.force t → (s ≡ t) ⊎ (s ≡ status.OutOfMemory) → IsPartUnrun files paths part request.force s
  why t s paths lack (inr memory) = inl memory
  why t s paths (inl (inl memory)) (inl same) = inl (same ∙ memory)
  why t s paths (inl (inr read)) (inl same) = inr (inl (same ∙ read))
  why t s paths (inr refused) (inl same) = inr (inr (subst (IsPartRefused files paths part request.force) (sym same) refused))

  read_rose : (before now : ℕ) (s : Status) → Counts before now (is_failed_read s) → s ≡ status.ReadFault → Rose before now
  read_rose before now s counts read = let h : Counts before now true = subst (λ (x : Status). Counts before now (is_failed_read x)) read counts in h.rose

  never : (t s : Status) (paths : List (List ℕ)) (gives : Gives) (before now : ℕ) → IsListing [] files paths → IsNoPartPlan files paths part request.force t → (s ≡ t) ⊎ (s ≡ status.OutOfMemory) → Counts before now (is_failed_read t) → IsUnchanged before now → IsCertain s
      → HasPartBuild files paths part request.force gives → ⊥
  never t s paths gives before now lists lack (inr memory) counts same certain good = subst IsCertain memory certain
  never t s paths gives before now lists (inl (inl memory)) (inl is) counts same certain good = subst IsCertain (is ∙ memory) certain
  never t s paths gives before now lists (inl (inr read)) (inl is) counts same certain good = unchanged_rose before now same (read_rose before now t counts read)
  never t s paths gives before now lists (inr refused) (inl is) counts same certain good = part_plan_not_refused files paths paths part lists lists request.force good.plan t good.planned refused

  refused_text : (base mid now : List ℕ) (count from after : ℕ) (s : Status) → count ≤ from → mid ≡ base ++ config_line part.mc → Says (fault_text s) mid now from after → WritesCall (Rose count after) (base ++ config_line part.mc) now [] [] s
  refused_text base mid now count from after s lt is (inl whole) = inl (whole ∙ ap (λ l. l ++ fault_text s) is)
  refused_text base mid now count from after s lt is (inr failed) =
      inr (rose_from count from after lt failed.0, inl (subst (λ l. WritesFront l now (fault_text s)) is failed.1))

  pub refused_part : (at : Standing) (mid now : List ℕ) (from after layers_now : ℕ) (plans : List Plan) (tales : List (List Logged)) (t s : Status) → plans ≡ [] → tales ≡ [] → is_refusal t ≡ true → (s ≡ t) ⊎ (s ≡ status.OutOfMemory) → Counts at.layers layers_now (is_failed_read t)
      → (layers → (paths : List (List ℕ)) → IsListing [] files paths → IsNoPartPlan files paths part request.force t) → at.sink ≤ from → (sink → mid ≡ at.written ++ config_line part.mc) → from ≤ after → (sink → Says (fault_text s) mid now from after)
      → Is plans tales s at (record at { layers = layers_now; written = now; sink = after })
  refused_part at mid now from after layers_now plans tales t s p e refusal how counts lack lt is on said = empty_end plans tales s at (record at { layers = layers_now; written = now; sink = after }) p e (record {
    plans = λ l paths lists. All-nil _;
    found = λ begun. absurd (refused_found t s refusal how begun);
    concludes = inl (refl, inl (refused_is t s refusal how));
    begun = λ some. absurd (some refl);
    unrun = λ none other l paths lists. why t s paths (lack l paths lists) how;
    same_disk = λ x. (refl, refl);
    same_benches = λ x. (refl, refl);
    folder = λ d plan tale one two. no_item tale two;
    exactly = λ l d b paths lists gives all reading book may ls ds bs ss certain. (
      λ ok. absurd (refused_not_ok t s refusal how ok),
      λ good. absurd (never t s paths gives at.layers layers_now lists (lack l paths lists) how counts ls certain good),
    );
    text = λ x. inl (refused_text at.written mid now at.sink from after s lt (is x) (said x));
    printed = λ x b. refl;
    benches = All-nil _;
    broke = All-nil _;
    causes = refused_cause at.disk at.layers layers_now _ _ t s refusal how counts;
    disk_cause = λ d. absurd (let h : is_refusal status.DiskFault ≡ true = subst (λ (x : Status). is_refusal x ≡ true) d (refused_is t s refusal how) in false≢true h);
    later = (counts.later, omega arith, omega (arith, lt, on));
    stay = record { gives = refl; long = refl; later = still at };
  })

  -- ---- its plan was run

  -- what is kept of the folder's story, of the plan and the tales that are handed back
  folder_kept : (plan other : Plan) (plans : List Plan) (tale : List Logged) (tales : List (List Logged)) (s : Status) (held : Store) (before now : Standing) (sub : Story) → IsSound plan → HasSpellings plan → other ≡ plan → tales ≡ tale ∷ []
      → LeavesStory disk bench before.gives plan request.options tale s held before.runs now.runs sub → KeepsFolder layers disk bench sink files request other tales s held before now sub
  folder_kept plan other plans tale tales s held before now sub sound spellings same one left =
      subst (λ (p : Plan). KeepsFolder layers disk bench sink files request p tales s held before now sub) (sym same)
      (subst (λ (l : List (List Logged)). KeepsFolder layers disk bench sink files request plan l s held before now sub) (sym one)
      (record {
        keeps = λ b gives all reading book may. (left.leaves b gives all reading book (as_entry gives reading book held plan sound spellings may)).keeps;
        differs = left.differs;
      }))

  did_also : (mc : List ℕ) (tale : List Logged) (s : Status) (before now : Story) (P Q : Story → Type 0) → ((sub : Story) → P sub → Q sub) → DidFolder mc tale s before now P → DidFolder mc tale s before now Q
  did_also mc tale s before now P Q more (unready way none ok failed) = unready way none ok failed
  did_also mc tale s before now P Q more (ready start sub way settled same goes kept) = ready start sub way settled same goes (more sub kept)

  same_one : (plan other : Plan) (plans : List Plan) (s : Status) → (plans ≡ plan ∷ []) ⊎ ((plans ≡ []) × (s ≡ status.OutOfMemory)) → plans ≡ other ∷ [] → other ≡ plan
  same_one plan other plans s (inl one) two = let both : other ∷ [] ≡ plan ∷ [] = sym two ∙ one in cc
  same_one plan other plans s (inr none) two = no_item other (sym none.0 ∙ two)

  found_plan : (plan : Plan) (plans : List Plan) (tales : List (List Logged)) (s : Status) → (plans ≡ plan ∷ []) ⊎ ((plans ≡ []) × (s ≡ status.OutOfMemory)) → is_refusal s ≡ false → ((p : Plan) × (plans ≡ p ∷ [])) ⊎ ((s ≡ status.WriteFault) × (tales ≡ []))
  found_plan plan plans tales s how begun = inl (found_one plan plans s how begun)

  unbegun_why : (s : Status) (paths : List (List ℕ)) → (s ≡ status.OutOfMemory) ⊎ (s ≡ status.WriteFault) → s ≢ status.WriteFault → IsPartUnrun files paths part request.force s
  unbegun_why s paths (inl memory) other = inl memory
  unbegun_why s paths (inr write) other = absurd (other write)

  not_rose : (count from after : ℕ) → count ≤ from → IsUnchanged count after → Rose from after → ⊥
  not_rose count from after lt same rose = let e = same.same in let b = same.below in omega (arith, lt, rose, e, b)

  pub planned_part : (a b : Standing) (base : List ℕ) (count layers_before layers_now : ℕ) (plan : Plan) (plans : List Plan) (tales : List (List Logged)) (s : Status) → IsSound plan → HasSpellings plan → RanPlan disk bench sink request.options part.mc plan a b plans tales s
      → (layers → (paths : List (List ℕ)) → IsListing [] files paths → HasPartPlan files paths part request.force plan) → layers_before ≤ layers_now → count ≤ a.sink → (sink → a.written ≡ base ++ config_line part.mc)
      → Is plans tales s (record a { layers = layers_before; written = base; sink = count }) (record b { layers = layers_now })
  planned_part a b base count layers_before layers_now plan plans tales s sound spellings r planned on lt is = record {
    plans = λ l paths lists. all_of_one _ (HasPartPlan files paths part request.force) plan plans r.plans_are (planned l paths lists);
    found = λ begun. found_plan plan plans tales s r.plans_are begun;
    concludes = r.concludes;
    begun = λ some. run_goes_on _ _ _ s r.causes;
    unrun = λ none other l paths lists. unbegun_why s paths (r.unbegun none) other;
    same_disk = r.same_disk;
    same_benches = r.same_benches;
    folder = λ d other tale one two.
        did_also part.mc tale s a.story b.story _ _ (λ sub left. folder_kept plan other plans tale tales s (below (store_prefix part.mc) a.story.held) (record a { layers = layers_before; written = base; sink = count }) (record b { layers = layers_now }) sub sound spellings (same_one plan other plans s r.plans_are one) two left)
        (r.folder d tale two);
    exactly = λ l d x paths lists gives all reading book may ls ds bs ss certain.
        let has = planned l paths lists in
        let ran = r.exactly d x gives all reading book (may plan has) (plan_of_part_is_wanted files paths part request.force plan has) (unchanged_rose a.disk b.disk ds) bs (not_rose count a.sink b.sink lt ss) certain in (
          λ ok. record { plan = plan; planned = has; clean = ran.0 ok },
          λ good. ran.1 (subst (λ (p : Plan). AllClean gives p) (part_plans_are_one files paths paths part lists lists request.force good.plan plan good.planned has) good.clean),
        );
    text = λ x. inl (wider_call (Rose a.sink b.sink) (Rose count b.sink) (rose_from count a.sink b.sink lt) (base ++ config_line part.mc) b.written plans tales s (subst (λ l. WritesCall (Rose a.sink b.sink) l b.written plans tales s) (is x) (r.text x)));
    printed = λ x y. subst (λ l. RanPrintedCall plans tales a.runs b.runs l b.written) (is x) (r.printed x y);
    benches = r.benches;
    broke = r.broke;
    causes = run_cause _ _ _ _ s (wider_cause b.disk _ _ _ _ s (λ rose. rose) (rose_from count a.sink b.sink lt) r.causes);
    disk_cause = r.disk_cause;
    later = (on, r.later.0, let more = r.later.1 in omega (arith, lt, more));
    stay = record { gives = r.stay.gives; long = r.stay.long; later = r.stay.later };
  }
