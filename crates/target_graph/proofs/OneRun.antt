-- Of one project and the same words there is one run, and no refusal beside it.
use Rattle.std.proofs.Common.{◌≡◌, ◌∙◌, sym, ap, subst, ℕ, List, [], Option, Result, Ok, Err}
use Rattle.outside_traits.specs.Store.{IsListing}
use Rattle.target_graph.proofs.Listings.{listing_once}
use Rattle.meta_model.specs.declared.event.Status.{Status}
use Rattle.meta_model.specs.declared.facts.Graph.{Graph}
use Rattle.meta_model.specs.Threads.{AreThreads}
use Rattle.load_model.specs.Loading.{sources_of}
use Rattle.answer_model.specs.GraphStatus.{IsGraphStatus}
use Rattle.answer_model.specs.RunAsked.{Asked, asked, threads_text}
use Rattle.answer_model.specs.Runs.{IsRun, IsRunRefused, asking, graph as no_graph, value as no_value, threads as no_threads}
use Rattle.target_graph.proofs.AnyGraph.{graph_stands}

-- an answer is one
ok_same : {A E : Type 0} (a b : A) → ◌≡◌ {A = Result A E} (Ok a) (Ok b) → a ≡ b
ok_same a b e = cc

-- the same words ask for the same
pub same_asked : (files : List ℕ → Option (List ℕ)) (paths others words : List (List ℕ)) (task : Option (List ℕ)) (v w : Asked) → IsListing [] files paths → IsListing [] files others
    → asked (sources_of files) paths words task ≡ Ok v → asked (sources_of files) others words task ≡ Ok w → v ≡ w
same_asked files paths others words task v w l m e f = ok_same v w (sym e ∙ ap (λ p. asked (sources_of files) p words task) (listing_once [] files paths others l m) ∙ f)

-- what the words have a run of isn't refused
pub run_not_refused : (files : List ℕ → Option (List ℕ)) (paths others words : List (List ℕ)) (task : Option (List ℕ)) (made : Asked) (graph : Graph) (number : ℕ) (status : Status) → IsListing [] files paths → IsListing [] files others
    → IsRun (sources_of files) paths words task made graph number → IsRunRefused (sources_of files) others words task status → ⊥
run_not_refused files paths others words task made graph number status l m s (asking e) =
    let is : asked (sources_of files) others words task ≡ Ok made = ap (λ p. asked (sources_of files) p words task) (listing_once [] files others paths m l) ∙ s.asked in
    apart made status (sym is ∙ e)
  where
    apart : (w : Asked) (t : Status) → Ok w ≡ Err t → ⊥
    apart w t h = absurd cc
run_not_refused files paths others words task made graph number status l m s (no_graph what e h) =
    let same = same_asked files paths others words task made what l m s.asked e in
    graph_stands made graph status s.graph (subst (λ w. IsGraphStatus w.set.facts w.targets status) (sym same) h)
run_not_refused files paths others words task made graph number status l m s (no_value what other e g h) =
    let same = same_asked files paths others words task made what l m s.asked e in
    apart s.threads.text status (sym (ap threads_text (sym same) ∙ s.threads.is) ∙ h)
  where
    apart : (w : List ℕ) (t : Status) → Ok w ≡ Err t → ⊥
    apart w t h = absurd cc
run_not_refused files paths others words task made graph number status l m s (no_threads what other text e g h none is) =
    let same = same_asked files paths others words task made what l m s.asked e in
    let texts = ok_same s.threads.text text (sym (ap threads_text (sym same) ∙ s.threads.is) ∙ h) in
    none number (subst (λ t. AreThreads t number) texts s.threads.number)
