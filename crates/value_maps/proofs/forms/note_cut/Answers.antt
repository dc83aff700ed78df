use Rattle.std.proofs.Common.{◌<◌, slice_index, arith}
use Rattle.std.proofs.lemmas.Str.{lead_after_ascii}
use Rattle.value_maps.proofs.forms.note_cut.Goals as goal

pub range_from-requires : goal.range_from-requires
range_from-requires c some =
    let low : slice_index c.args.name.now c.args.place < 128 = omega (arith, c.requires.colon) in
    (omega (arith, c.requires.within), λ more. lead_after_ascii c.args.name.now c.args.place c.utf8.name low more)
