use Rattle.std.proofs.Common.{codes, refl}
use lib.Utf8.{encode}
use Rattle.bb_parser.proofs.Cuts.{prefix-cut}
use Rattle.bb_parser.proofs.scan.begins_form.Goals as goal

pub range_from-requires : goal.range_from-requires
unfolding encode
range_from-requires c = λ _. prefix-cut c.args.text.now (codes "${") c.requires (codes "${", (refl, refl)) c.utf8.text
