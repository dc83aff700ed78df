use Rattle.sig_gen.proofs.ShortLaws.{short_is_whole}
use Rattle.sig_gen.proofs.record.short_is_whole.Goals as goal

pub returns : goal.returns
returns c = short_is_whole
