use Rattle.std.proofs.Common.{◌∙◌, ap, sym, subst, ◌+◌, ◌∷◌, [], drop, map}
use Rattle.std.proofs.lemmas.List.{map-append}
use Rattle.load_model.specs.Recipes.{names_of_files, file_named}
use Rattle.meta_model.specs.Passing.{behind}
use Rattle.meta_model.proofs.Passing.{one_turn}
use Rattle.recipe_set.specs.Chosen.{file_meant}
use Rattle.recipe_set.specs.Faults.{IsSetFault}
use Rattle.recipe_set.proofs.Setting.{set_exit, set_one, names_more}
use Rattle.recipe_set.proofs.files.files_named.Goals as goal

pub returns-in_err-file-clause-err : goal.returns-in_err-file-clause-err
returns-in_err-file-clause-err c =
    let fault = c.in_err-file.field-0.0 in
    set_exit c.from_residual.result fault (names_of_files c.args.paths.now) c.from_residual.ensures.1
    (set_one file_named names_of_files names_more (names_of_files c.args.paths.now) (map file_meant c.loop-path.made.items) c.args.paths.now c.loop-path.path-index c.path-item.result fault c.path-item.is c.loop-path-test.true c.loop-path.invariant
    (subst (λ p. IsSetFault fault (file_named p)) c.as_str.ensures c.in_err-file.ensures.err))

pub loop-path-preserved : goal.loop-path-preserved
loop-path-preserved c =
    one_turn file_named names_of_files names_more (names_of_files c.args.paths.now) (map file_meant c.loop-path.made.items) c.args.paths.now c.loop-path.path-index c.path-item.result (file_meant c.in_ok-file.file) c.path-item.is c.loop-path-test.true c.loop-path.invariant
    (ap file_named (sym c.as_str.ensures) ∙ c.in_ok-file.ensures.ok)
    ∙ ap (λ m. behind m (names_of_files (drop (c.loop-path.path-index + 1) c.args.paths.now))) (sym (ap (map file_meant) c.in_ok-put.ensures ∙ map-append file_meant c.loop-path.made.items (c.in_ok-file.file ∷ [])))
