-- Of one project and the same words there is one plan, it is sound, and there is no refusal beside it.
use Rattle.std.proofs.Common.{◌≡◌, ◌∙◌, sym, ap, subst, ℕ, arith, Bool, true, false, List, [], Option, Result, Ok, Err, All}
use Rattle.std.proofs.lemmas.Fmt.{decimal_injective}
use Rattle.meta_model.specs.declared.event.Status.{Status}
use Rattle.meta_model.specs.declared.facts.Graph.{Graph}
use Rattle.meta_model.specs.declared.plan.Plan.{Plan}
use Rattle.meta_model.specs.Threads.{AreThreads}
use Rattle.outside_traits.specs.Store.{IsListing}
use Rattle.load_model.specs.Loading.{Sources, sources_of}
use Rattle.load_model.specs.Layers.{Config, config}
use Rattle.load_model.specs.Facts.{recipe_set}
use Rattle.answer_model.specs.Project.{read_config, read_recipes}
use Rattle.answer_model.specs.Said.{layer_status, set_status}
use Rattle.answer_model.specs.RunAsked.{Asked, asked, asked_under, asked_over, asked_with, moved, targets_in}
use Rattle.answer_model.specs.Runs.{IsRun, HasGraph, HasThreads}
use Rattle.target_graph.proofs.OneRun.{same_asked, run_not_refused}
use Rattle.plan_model.specs.Inputs.{Files}
use Rattle.plan_model.specs.PlanRefusal.{PlanRefusal}
use Rattle.plan_model.specs.Plans.{plan_of, forced}
use Rattle.plan_model.specs.Sound.{AreClean, AreWanted, HasGoodNames, IsMadeFrom, IsSound}
use Rattle.store_model.specs.Premises.{IsBlind}
use Rattle.plan_model.specs.Blind.{IsWhole, key_reading}
use Rattle.plan_model.proofs.Blinded.{whole_is_blind, forced_is_blind, forced_is_whole}
use Rattle.plan_model.proofs.Planning.{ok_parts, ok_as, same_ok}
use Rattle.plan_model.proofs.OneGraph.{one_graph}
use Rattle.plan_model.proofs.Soundness.{plan_is_sound, forced_is_sound}
use Rattle.plan_model.proofs.Wanted.{plan_is_wanted, forced_is_wanted}
use Rattle.plan_model.proofs.GoodConfig.{project_has_good_names}
use Rattle.answer_model.specs.Plans.{plan_under, HasPlan, IsPlanRefused, no_run, no_plan}
use Rattle.answer_model.specs.PlanLaws.{PlansAreBlind}

-- texts stand for one number
pub one_number : (text : List ℕ) (m n : ℕ) → AreThreads text m → AreThreads text n → m ≡ n
one_number text m n a b =
    let p = a.most in
    let q = b.most in
    decimal_injective m n (omega (arith, p)) (omega (arith, q)) (sym a.digits ∙ b.digits)

module _ (sources : Sources) (paths words : List (List ℕ)) (task : Option (List ℕ)) (what : Asked) (is : asked sources paths words task ≡ Ok what) where
  -- all recipes that are asked for are those of the project
  read_set : (made : Config) × (config sources paths ≡ Ok made) × (recipe_set sources made.lines made.recipes made.appends ≡ Ok what.set)
  read_set =
      let made = ok_parts (read_config sources paths) (λ m. asked_under sources m words task) what is in
      let set = ok_parts (read_recipes sources made.0) (λ s. asked_over made.0 s words task) what made.2 in
      let lines = ok_parts (moved made.0.lines) (λ l. asked_with set.0 made.0.appends l words task) what set.2 in
      let targets = ok_parts (targets_in lines.0 words task) (λ t. Ok (record { set = set.0; lines = lines.0; appends = made.0.appends; targets = t })) what lines.2 in
      let same : record { set = set.0; lines = lines.0; appends = made.0.appends; targets = targets.0 } ≡ what = same_ok {E = Status} (record { set = set.0; lines = lines.0; appends = made.0.appends; targets = targets.0 }) what targets.2 in
      (made.0, ok_as layer_status (config sources paths) made.0 made.1, ok_as set_status (recipe_set sources made.0.lines made.0.recipes made.0.appends) set.0 set.1 ∙ ap (λ (w : Asked). Ok w.set) same)

-- the recipes that are asked for have good names
good_names : (files : Files) (paths words : List (List ℕ)) (task : Option (List ℕ)) (what : Asked) → asked (sources_of files) paths words task ≡ Ok what → HasGoodNames what.set.facts
good_names files paths words task what is =
    let r = read_set (sources_of files) paths words task what is in
    project_has_good_names files paths r.0 what.set r.1 r.2

-- two runs of the same words are of the same graph and number
pub record AreOne (v w : Asked) (g h : Graph) (m n : ℕ) : Type 0 where
  pub what : v ≡ w
  pub graph : g ≡ h
  pub threads : m ≡ n

pub runs_are_one : (files : Files) (paths others words : List (List ℕ)) (task : Option (List ℕ)) (v w : Asked) (g h : Graph) (m n : ℕ) → IsListing [] files paths → IsListing [] files others
    → IsRun (sources_of files) paths words task v g m → IsRun (sources_of files) others words task w h n → AreOne v w g h m n
runs_are_one files paths others words task v w g h m n l k a b =
    let what = same_asked files paths others words task v w l k a.asked b.asked in
    let other : HasGraph v h = subst (λ x. HasGraph x h) (sym what) b.graph in
    let threads : HasThreads v n = subst (λ x. HasThreads x n) (sym what) b.threads in
    let text : a.threads.text ≡ threads.text = same_ok {E = Status} a.threads.text threads.text (sym a.threads.is ∙ threads.is) in
    record {
      what = what;
      graph = one_graph v.set.facts v.targets g h (good_names files paths words task v a.asked) a.graph.graph other.graph;
      threads = one_number threads.text m n (subst (λ t. AreThreads t m) text a.threads.number) threads.number;
    }

module _ (files : Files) (paths others words : List (List ℕ)) (task : Option (List ℕ)) (force : Bool) (l : IsListing [] files paths) (k : IsListing [] files others) where
  same_answer : (v w : Asked) (g h : Graph) (m n : ℕ) → AreOne v w g h m n → plan_under force files v.set g m ≡ plan_under force files w.set h n
  same_answer v w g h m n one = λ i. plan_under force files (one.what i).set (one.graph i) (one.threads i)

  -- words have one plan
  pub plans_are_one : (p q : Plan) → HasPlan files paths words task force p → HasPlan files others words task force q → p ≡ q
  plans_are_one p q a b =
      let one = runs_are_one files paths others words task a.what b.what a.graph b.graph a.threads b.threads l k a.is_run b.is_run in
      same_ok {E = PlanRefusal} p q (sym a.is_plan ∙ same_answer a.what b.what a.graph b.graph a.threads b.threads one ∙ b.is_plan)

  -- and words that have one aren't refused
  pub plan_not_refused : (p : Plan) (status : Status) → HasPlan files paths words task force p → IsPlanRefused files others words task force status → ⊥
  plan_not_refused p status a (no_run r) = run_not_refused files paths others words task a.what a.graph a.threads status l k a.is_run r
  plan_not_refused p status a (no_plan refusal b is) =
      let one = runs_are_one files paths others words task a.what b.what a.graph b.graph a.threads b.threads l k a.is_run b.is_run in
      apart p refusal (sym a.is_plan ∙ same_answer a.what b.what a.graph b.graph a.threads b.threads one ∙ b.none)
    where
      apart : (p : Plan) (r : PlanRefusal) → ◌≡◌ {A = Result Plan PlanRefusal} (Ok p) (Err r) → ⊥
      apart p r e = absurd (cc)

-- the plan of words is sound
pub plan_of_words_is_sound : (files : Files) (paths words : List (List ℕ)) (task : Option (List ℕ)) (force : Bool) (plan : Plan) → AreClean files → IsListing [] files paths
    → HasPlan files paths words task force plan → IsSound plan
plan_of_words_is_sound files paths words task force plan clean l a = by force a.is_plan
  where
    from : IsMadeFrom files a.what.set a.graph a.threads
    from = record {
      clean = clean;
      names = good_names files paths words task a.what a.is_run.asked;
      targets = a.what.targets;
      is_graph = a.is_run.graph.graph;
      few = a.is_run.graph.few;
      in_range = (a.is_run.threads.number.least, a.is_run.threads.number.most);
    }

    by : (b : Bool) → plan_under b files a.what.set a.graph a.threads ≡ Ok plan → IsSound plan
    by false e = plan_is_sound files a.what.set a.graph a.threads plan from e
    by true e =
        let made = ok_parts (plan_of files a.what.set a.graph a.threads) (λ p. Ok (forced p)) plan e in
        subst IsSound (same_ok {E = PlanRefusal} (forced made.0) plan made.2) (forced_is_sound made.0 (plan_is_sound files a.what.set a.graph a.threads made.0 from made.1))

-- each task of it is wanted
pub plan_of_words_is_wanted : (files : Files) (paths words : List (List ℕ)) (task : Option (List ℕ)) (force : Bool) (plan : Plan) → HasPlan files paths words task force plan → AreWanted plan
plan_of_words_is_wanted files paths words task force plan a = by force a.is_plan
  where
    by : (b : Bool) → plan_under b files a.what.set a.graph a.threads ≡ Ok plan → AreWanted plan
    by false e = plan_is_wanted files a.what.set a.what.targets a.graph a.threads plan a.is_run.graph.graph e
    by true e =
        let made = ok_parts (plan_of files a.what.set a.graph a.threads) (λ p. Ok (forced p)) plan e in
        subst AreWanted (same_ok {E = PlanRefusal} (forced made.0) plan made.2) (forced_is_wanted made.0 (plan_is_wanted files a.what.set a.what.targets a.graph a.threads made.0 a.is_run.graph.graph made.1))

-- and where nothing is left out of a key it is blind
pub plan_of_words_is_blind : PlansAreBlind
plan_of_words_is_blind gives files paths words task force plan a whole = by force a.is_plan
  where
    by : (b : Bool) → plan_under b files a.what.set a.graph a.threads ≡ Ok plan → All (IsBlind gives key_reading) plan.tasks
    by false e = whole_is_blind gives files a.what.set a.graph a.threads plan e whole
    by true e =
        let made = ok_parts (plan_of files a.what.set a.graph a.threads) (λ p. Ok (forced p)) plan e in
        let is : forced made.0 ≡ plan = same_ok {E = PlanRefusal} (forced made.0) plan made.2 in
        let first = whole_is_blind gives files a.what.set a.graph a.threads made.0 made.1 (forced_is_whole made.0 (subst IsWhole (sym is) whole)) in
        subst (λ p. All (IsBlind gives key_reading) p.tasks) is (forced_is_blind gives key_reading made.0 first)
