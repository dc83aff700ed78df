use Rattle.std.proofs.Common.{◌∙◌, ap, ◌∷◌, ◌++◌, codes}
use Rattle.std.specs.Option.{option_copied, option_map}
use Rattle.std.specs.Prelude.{option_to_list}
use Rattle.std.proofs.lemmas.Result.{IfOk-weaker}
use Rattle.load_model.specs.Paths.{paths_in}
use Rattle.load_model.specs.Loading.{sources_of, first_found}
use Rattle.class_inherit.specs.Faults.{where_is}
use Rattle.class_inherit.specs.Reading.{found_meant}
use Rattle.class_inherit.proofs.Searching.{search_found, search_fault}
use Rattle.class_inherit.proofs.search.search.Goals as goal

pub returns-in-Ok-clause-ok : goal.returns-in-Ok-clause-ok
returns-in-Ok-clause-ok g c =
    let files = g.L.Layers.files c.args.layers.now in
    let first = option_to_list (option_copied c.args.first) in
    IfOk-weaker c.first_from.result _ _
    (λ found h told. search_found (sources_of files) c.args.kind c.args.reading.now.lines first c.in-Ok.folders c.args.word.now (where_is c.args.place.now) c.is_absolute.result (option_map found_meant found)
    c.is_absolute.ensures c.if-is_absolute.false c.in-Ok.ensures.ok (h told ∙ ap (λ fs. first_found (sources_of files) c.args.kind (paths_in (first ++ (codes "." ∷ fs)) c.args.word.now)) c.as_slice.ensures))
    c.first_from.ensures.ok

pub returns-in-Err-clause-err : goal.returns-in-Err-clause-err
returns-in-Err-clause-err g c = λ told.
    search_fault (sources_of (g.L.Layers.files c.args.layers.now)) c.args.kind c.args.reading.now.lines (option_to_list (option_copied c.args.first)) c.args.word.now (where_is c.args.place.now) c.is_absolute.result c.refused_value.result c.in-Err.fault
    c.is_absolute.ensures c.if-is_absolute.false c.in-Err.ensures.err c.refused_value.ensures.said
