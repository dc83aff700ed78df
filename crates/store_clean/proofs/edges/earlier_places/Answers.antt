use Rattle.std.proofs.Common.{[], get_or}
use Rattle.std.proofs.lemmas.List.{get_or_default}
use Rattle.store_clean.proofs.Tabled.{places_all, places_noted}
use Rattle.store_clean.proofs.edges.earlier_places.Goals as goal

pub loop-name-preserved : goal.loop-name-preserved
loop-name-preserved c names table =
    let name = get_or c.args.needs.now c.loop-name.name-index (record { bytes = [] }) in
    places_noted names c.args.own c.args.needs.now c.loop-name.name-index name c.loop-name-test.true (get_or_default c.args.needs.now c.loop-name.name-index (record { bytes = [] }) name c.loop-name-test.true) c.loop-name.places c.note_earlier.new.places (c.loop-name.invariant names table) (c.in_ok-note_earlier.ensures names table)

pub returns : goal.returns
returns c names table = places_all names c.args.own c.args.needs.now c.loop-name.name-index c.loop-name.places c.loop-name-test.false (c.loop-name.invariant names table)
