use Rattle.store_model.specs.Stored.{SpellsKey}
use Rattle.sig_gen.proofs.Records.{only_bad}
use Rattle.sig_gen.proofs.ShortLaws.{key_found, key_only}
use Rattle.sig_gen.proofs.record.decode_key.Goals as goal

pub returns-clause-found : goal.returns-clause-found
returns-clause-found c = key_found c.args.bytes.now c.key_in.result c.key_in.ensures.lines c.key_in.ensures.excluded

pub returns-clause-only : goal.returns-clause-only
returns-clause-only c = key_only c.args.bytes.now c.key_in.result c.key_in.ensures.lines c.key_in.ensures.excluded

pub returns-clause-bad : goal.returns-clause-bad
returns-clause-bad c = only_bad (SpellsKey c.args.bytes.now) c.key_in.result (key_only c.args.bytes.now c.key_in.result c.key_in.ensures.lines c.key_in.ensures.excluded)
