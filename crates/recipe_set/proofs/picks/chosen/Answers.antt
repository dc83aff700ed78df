use Rattle.std.proofs.Common.{◌≡◌, ◌∙◌, ap, sym, ◌++◌, map, append-nil, rules, String}
use Rattle.std.specs.BTreeMap.{IsOrdered}
use Rattle.std.specs.String.{string_cmp}
use Rattle.std.specs.Global.{Global}
use Rattle.recipe_facts.specs.Recipe.{recipe_meant}
use Rattle.recipe_set.specs.declared.choice.Pick.{Pick}
use Rattle.recipe_set.proofs.Picking.{chosen_are}
use Rattle.recipe_set.proofs.picks.chosen.Goals as goal

pub returns-clause-chosen : goal.returns-clause-chosen
returns-clause-chosen c = λ wishes recipes h.
    let value = λ (e : String Global × Pick). e.1.recipe in
    let all : c.loop-pick.made.items ≡ map value c.args.picks.entries =
    sym (append-nil c.loop-pick.made.items) ∙ ap (λ l. c.loop-pick.made.items ++ map value l) (sym c.in-None.ensures.steps.0) ∙ c.loop-pick.invariant in
    let ordered : IsOrdered string_cmp c.args.picks = search rules in
    ap (map recipe_meant) all ∙ chosen_are wishes recipes c.args.picks ordered h
