-- The run of what a part asks for, and answers that follow one another.
use Rattle.std.proofs.Common.{◌≡◌, ◌∙◌, ap, sym, subst, ℕ, List, inl, inr, Option, Result, Ok, Err}
use Rattle.meta_model.specs.declared.event.Status.{Status}
use Rattle.meta_model.specs.declared.facts.Graph.{Graph}
use Rattle.load_model.specs.Loading.{sources_of}
use Rattle.answer_model.specs.RunAsked.{Asked}
use Rattle.answer_model.specs.Runs.{HasGraph}
use Rattle.project_reading.specs.Answered.{IsRefusedAs}
use Rattle.multi_config.specs.declared.parts.ConfigTargets.{ConfigTargets}
use Rattle.multi_config.specs.Plans.{IsPartRun, asking, graph as graph_refused, value as no_value_of, threads as no_threads_of}
use Rattle.multi_config.specs.Project.{asked_part, asked_under, read_named}
use Rattle.meta_model.specs.declared.facts.Target.{Target}
use Rattle.load_model.specs.Layers.{Config}
use Rattle.load_model.specs.LoadRefusal.{◌>>=◌}
use Rattle.meta_model.proofs.Passing.{goes_on}
use Rattle.project_reading.proofs.Told.{told_later, told_same}
use Rattle.target_graph.specs.Runs.{HasNoThreads, HasRun, HasNoRun, device, no_graph, no_threads, value, threads, IsNoPartRun}

module _ (files : List ℕ → Option (List ℕ)) (paths : List (List ℕ)) (part : ConfigTargets) where
  -- the run of what the part asks for is its own
  pub part_run_asked : (what other : Asked) (graph : Graph) (number : ℕ) → asked_part (sources_of files) paths part ≡ Ok what → other ≡ what → HasRun what graph number → IsPartRun (sources_of files) paths part other graph number
  part_run_asked what other graph number e same h = subst (λ w. IsPartRun (sources_of files) paths part w graph number) (sym same) (record { asked = e; graph = h.graph; threads = h.threads })

  -- what has no run, as of the part
  pub no_part_run_asked : (what : Asked) (status : Status) → asked_part (sources_of files) paths part ≡ Ok what → HasNoRun what status → IsNoPartRun (sources_of files) paths part status
  no_part_run_asked what status e (device d) = inl d
  no_part_run_asked what status e (no_graph h) = inr (graph_refused what e h)
  no_part_run_asked what status e (no_threads graph g (value h)) = inr (no_value_of what graph e g h)
  no_part_run_asked what status e (no_threads graph g (threads text h none is)) = inr (no_threads_of what graph text e g h none is)

  -- what the part asks for is refused
  pub part_asking_refused : (status : Status) → IsRefusedAs status (asked_part (sources_of files) paths part) → IsNoPartRun (sources_of files) paths part status
  part_asking_refused status (inl out) = inl (inl out)
  part_asking_refused status (inr (inl read)) = inl (inr read)
  part_asking_refused status (inr (inr e)) = inr (asking e)

-- ---- what is asked for in the configuration that was read

module _ (files : List ℕ → Option (List ℕ)) (later : List ℕ → Option (List ℕ)) (paths : List (List ℕ)) (part : ConfigTargets) (name : List ℕ) (targets : List Target) (made : Config) where
  pub part_then : (what : Asked) → name ≡ part.mc → targets ≡ part.targets → later ≡ files → read_named (sources_of files) paths name ≡ Ok made → asked_under (sources_of later) targets made ≡ Ok what → asked_part (sources_of files) paths part ≡ Ok what
  part_then what n t same named under =
      ap (λ m. read_named (sources_of files) paths m >>= asked_under (sources_of files) part.targets) (sym n)
      ∙ goes_on (read_named (sources_of files) paths name) made (asked_under (sources_of files) part.targets) named
      ∙ (λ i. asked_under (sources_of (sym same i)) (sym t i) made) ∙ under

  pub part_then_not : (status : Status) → name ≡ part.mc → targets ≡ part.targets → later ≡ files → read_named (sources_of files) paths name ≡ Ok made → IsRefusedAs status (asked_under (sources_of later) targets made) → IsRefusedAs status (asked_part (sources_of files) paths part)
  part_then_not status n t same named refused =
      told_same status (asked_part (sources_of files) paths part) (read_named (sources_of files) paths name >>= asked_under (sources_of files) part.targets) (ap (λ m. read_named (sources_of files) paths m >>= asked_under (sources_of files) part.targets) (sym n))
      (told_later status (read_named (sources_of files) paths name) (asked_under (sources_of files) part.targets) made named
      (told_same status (asked_under (sources_of files) part.targets made) (asked_under (sources_of later) targets made) (λ i. asked_under (sources_of (sym same i)) (sym t i) made) refused))

pub named_as : (files : List ℕ → Option (List ℕ)) (paths : List (List ℕ)) (part : ConfigTargets) (name : List ℕ) (status : Status) → name ≡ part.mc → IsRefusedAs status (read_named (sources_of files) paths name) → IsRefusedAs status (asked_part (sources_of files) paths part)
named_as files paths part name status n (inl out) = inl out
named_as files paths part name status n (inr (inl read)) = inr (inl read)
named_as files paths part name status n (inr (inr e)) =
    inr (inr (ap (λ m. read_named (sources_of files) paths m >>= asked_under (sources_of files) part.targets) (sym n) ∙ ap (λ r. r >>= asked_under (sources_of files) part.targets) e))
