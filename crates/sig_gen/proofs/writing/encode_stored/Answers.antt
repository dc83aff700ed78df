use Rattle.sig_gen.proofs.ShortLaws.{record_spelled, record_written}
use Rattle.sig_gen.proofs.writing.encode_stored.Goals as goal

pub returns-clause-bytes : goal.returns-clause-bytes
returns-clause-bytes c = record_written c.args.stored.now c.short.result.now c.in_ok-text.text c.encode_short_stored.result c.short.ensures.short c.in_ok-text.ensures.text c.encode_short_stored.ensures.bytes

pub returns-clause-spells : goal.returns-clause-spells
returns-clause-spells c =
    record_spelled c.args.stored.now c.short.result.now c.in_ok-text.text c.encode_short_stored.result c.short.ensures.short c.in_ok-text.ensures.text c.encode_short_stored.ensures.bytes c.encode_short_stored.ensures.few
    c.encode_short_stored.ensures.lines c.encode_short_stored.ensures.unihash c.in_ok-text.ensures.spells
