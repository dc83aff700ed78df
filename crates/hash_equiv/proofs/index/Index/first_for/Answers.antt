use Rattle.std.proofs.Common.{◌∙◌, ap, bytes_eq}
use Rattle.std.specs.Prelude.{find}
use Rattle.std.specs.Option.{option_map}
use Rattle.std.specs.Map.{values_of}
use Rattle.store_model.specs.Rows.{is_row_for}
use Rattle.hash_equiv.specs.Index.{rows_at}
use Rattle.hash_equiv.proofs.Rowing.{find_kept, of_that_pn}
use Rattle.hash_equiv.proofs.index.Index.first_for.Goals as goal

pub returns : goal.returns
returns c =
    let pn = c.args.pn.now in
    let p = is_row_for pn c.args.task.now c.args.manifest.now in
    let rows = values_of c.self.inside.rows.entries in
    c.first_at.ensures
    ∙ ap (λ places. option_map (λ r. r.unihash) (find p (rows_at rows places))) c.places_for-places.ensures
    ∙ ap (λ found. option_map (λ r. r.unihash) (find p found)) (c.self.invariant.found pn)
    ∙ ap (option_map (λ r. r.unihash)) (find_kept p (λ r. bytes_eq r.pn pn) (of_that_pn pn c.args.task.now c.args.manifest.now) rows)
    ∙ ap (λ all. option_map (λ r. r.unihash) (find p all)) c.self.view_is
