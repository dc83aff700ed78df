use Rattle.store_upgrade.proofs.Framing.{has_word, text_by}
use Rattle.store_upgrade.proofs.text.text_of.Goals as goal

pub returns-in-Some : goal.returns-in-Some
returns-in-Some c = text_by c.args.bytes.now c.in-Some.rest.now c.framed_in.result.now c.args.stored.now c.args.behind c.requires.spells c.requires.behind c.in-Some.ensures.some c.framed_in.ensures

pub returns-in-None : goal.returns-in-None
returns-in-None c = absurd (has_word c.args.bytes.now c.args.stored.now c.requires.spells c.in-None.ensures.none)
