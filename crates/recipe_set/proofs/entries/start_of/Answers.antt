use Rattle.std.proofs.Common.{◌≡◌, ◌∙◌, ap}
use Rattle.load_model.specs.Loading.{with_lines}
use Rattle.load_model.specs.Layers.{starting_with}
use Rattle.load_model.specs.Recipes.{file_lines, name_lines}
use Rattle.recipe_set.specs.Names.{name_meant}
use Rattle.recipe_set.proofs.Loads.{if_ok_same, start_same}
use Rattle.recipe_set.proofs.entries.start_of.Goals as goal

pub returns : goal.returns
returns c =
    let files = file_lines c.args.path.now in
    let names = name_lines (name_meant c.args.name.now) in
    let named : c.in_ok-named.named ≡ with_lines names (starting_with c.args.config.now) =
    c.in_ok-named.ensures ∙ ap (λ l. with_lines l c.new.result) (c.as_slice.ensures.value ∙ c.in_ok-lines.ensures)
    ∙ ap (with_lines names) (c.new.ensures ∙ ap starting_with c.in_ok-top.ensures) in
    if_ok_same c.at_file.result (with_lines files c.in_ok-named.named) _ (ap (with_lines files) named ∙ start_same c.args.config.now names files) c.at_file.ensures
