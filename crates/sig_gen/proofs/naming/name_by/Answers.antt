use Rattle.sig_gen.proofs.ShortLaws.{text_names}
use Rattle.sig_gen.proofs.naming.name_by.Goals as goal

pub returns : goal.returns
returns c = text_names c.of.result c.short.result.now c.args.text.now c.of.ensures c.short.ensures.short
