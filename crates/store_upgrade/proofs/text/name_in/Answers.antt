use Rattle.store_upgrade.proofs.Framing.{first_named}
use Rattle.store_upgrade.proofs.text.name_in.Goals as goal

pub returns : goal.returns
returns c = first_named c.args.stored.now.sig c.of.result c.text_of.result.now c.of.ensures c.text_of.ensures
