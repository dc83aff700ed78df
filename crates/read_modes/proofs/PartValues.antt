-- The values of a part, in the configuration that was read.
use Rattle.std.proofs.Common.{◌≡◌, ◌∙◌, ap, sym, ℕ, List, inl, inr, Option, Result, Ok, Err}
use Rattle.meta_model.specs.declared.event.Status.{Status}
use Rattle.meta_model.specs.declared.facts.Target.{Target}
use Rattle.meta_model.proofs.Passing.{goes_on}
use Rattle.load_model.specs.Layers.{Config}
use Rattle.load_model.specs.LoadRefusal.{◌>>=◌}
use Rattle.load_model.specs.Loading.{sources_of}
use Rattle.project_reading.specs.Answered.{IsRefusedAs}
use Rattle.project_reading.proofs.Told.{told_later, told_same}
use Rattle.multi_config.specs.declared.parts.ConfigTargets.{ConfigTargets}
use Rattle.multi_config.specs.Project.{read_named}
use Rattle.multi_config.specs.Shown.{part_values, values_under}

module _ (files : List ℕ → Option (List ℕ)) (later : List ℕ → Option (List ℕ)) (paths : List (List ℕ)) (part : ConfigTargets) (name : List ℕ) (targets : List Target) (made : Config) where
  pub part_then : (text : List ℕ) → name ≡ part.mc → targets ≡ part.targets → later ≡ files → read_named (sources_of files) paths name ≡ Ok made → values_under (sources_of later) targets made ≡ Ok text → part_values (sources_of files) paths part ≡ Ok text
  part_then text n t same named under =
      ap (λ m. read_named (sources_of files) paths m >>= values_under (sources_of files) part.targets) (sym n)
      ∙ goes_on (read_named (sources_of files) paths name) made (values_under (sources_of files) part.targets) named
      ∙ (λ i. values_under (sources_of (sym same i)) (sym t i) made) ∙ under

  pub part_then_not : (status : Status) → name ≡ part.mc → targets ≡ part.targets → later ≡ files → read_named (sources_of files) paths name ≡ Ok made → IsRefusedAs status (values_under (sources_of later) targets made) → IsRefusedAs status (part_values (sources_of files) paths part)
  part_then_not status n t same named refused =
      told_same status (part_values (sources_of files) paths part) (read_named (sources_of files) paths name >>= values_under (sources_of files) part.targets) (ap (λ m. read_named (sources_of files) paths m >>= values_under (sources_of files) part.targets) (sym n))
      (told_later status (read_named (sources_of files) paths name) (values_under (sources_of files) part.targets) made named
      (told_same status (values_under (sources_of files) part.targets made) (values_under (sources_of later) targets made) (λ i. values_under (sources_of (sym same i)) (sym t i) made) refused))

pub named_as : (files : List ℕ → Option (List ℕ)) (paths : List (List ℕ)) (part : ConfigTargets) (name : List ℕ) (status : Status) → name ≡ part.mc → IsRefusedAs status (read_named (sources_of files) paths name) → IsRefusedAs status (part_values (sources_of files) paths part)
named_as files paths part name status n (inl out) = inl out
named_as files paths part name status n (inr (inl read)) = inr (inl read)
named_as files paths part name status n (inr (inr e)) =
    inr (inr (ap (λ m. read_named (sources_of files) paths m >>= values_under (sources_of files) part.targets) (sym n) ∙ ap (λ r. r >>= values_under (sources_of files) part.targets) e))
