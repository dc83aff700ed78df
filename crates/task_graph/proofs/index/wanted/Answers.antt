use Rattle.std.proofs.Common.{◌≡◌, ◌∙◌, sym, ap, ℕ, ◌-◌, List, arith}
use Rattle.std.specs.Prelude.{slice_get}
use Rattle.std.specs.Option.{option_map}
use Rattle.task_graph.proofs.Indexed.{first_none, first_some}
use Rattle.task_graph.proofs.index.wanted.Goals as goal

pub returns-in-None : goal.returns-in-None
returns-in-None c = sym (first_none c.args.name.now 0 c.args.facts.now.preferred (sym (c.requires c.args.name.now) ∙ sym c.get.ensures.value ∙ sym c.copied.ensures ∙ c.in-None.is))

pub returns-in-Some : goal.returns-in-Some
returns-in-Some c =
    let found = first_some c.args.name.now 0 c.in-Some.place c.args.facts.now.preferred (sym (c.requires c.args.name.now) ∙ sym c.get.ensures.value ∙ sym c.copied.ensures ∙ c.in-Some.is) in
    let place : c.in-Some.place - 0 ≡ c.in-Some.place = omega arith in
    c.preferred_pn.ensures ∙ sym (found.1 ∙ ap (λ i. option_map (λ (p : List ℕ × List ℕ). p.1) (slice_get c.args.facts.now.preferred i)) place)
