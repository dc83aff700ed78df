use Rattle.std.proofs.Common.{◌≡◌, ◌∙◌, ap, sym, Err, false, true}
use Rattle.std.specs.List.{list_any}
use Rattle.load_model.specs.Recipes.{belongs, dangling_append}
use Rattle.recipe_set.proofs.Appending.{belongs_on, dangles}
use Rattle.recipe_set.proofs.dangling.dangling.Goals as goal

pub returns-then-not-is_wanted : goal.returns-then-not-is_wanted
returns-then-not-is_wanted c =
    let paths = c.args.paths.now in
    let a = c.append-item.result in
    let away : list_any (λ path. belongs path a) paths ≡ false = sym (c.is_wanted.ensures ∙ ap (λ x. list_any (λ path. belongs path x) paths) c.as_str.ensures) ∙ c.if-not-is_wanted.true in
    dangles paths c.args.appends.now c.loop-append.append-index a c.append-item.is c.loop-append-test.true c.loop-append.invariant away ∙ ap (λ x. Err (dangling_append x)) (sym c.in_ok-copy.ensures)

pub loop-append-preserved : goal.loop-append-preserved
loop-append-preserved c =
    let paths = c.args.paths.now in
    let a = c.append-item.result in
    let there : list_any (λ path. belongs path a) paths ≡ true = sym (c.is_wanted.ensures ∙ ap (λ x. list_any (λ path. belongs path x) paths) c.as_str.ensures) ∙ c.if-not-is_wanted.false in
    belongs_on paths c.args.appends.now c.loop-append.append-index a c.append-item.is c.loop-append-test.true c.loop-append.invariant there
