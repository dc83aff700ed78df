use Rattle.std.proofs.Common.{◌∙◌, sym}
use Rattle.store_opening.proofs.Reopened.{rows_one_way}
use Rattle.why_text.proofs.laws.judged_as_opened.Goals as goal

pub returns : goal.returns
returns c before after rows others opened judged =
    judged.rows_are ∙ rows_one_way before judged.candidates opened.candidates judged.places opened.places judged.found opened.found judged.believed opened.believed ∙ sym opened.rows_are
