use Rattle.std.proofs.Common.{◌∙◌, bytes_eq}
use Rattle.datastore.proofs.Orders.{first_name}
use Rattle.datastore.proofs.order.first_of.Goals as goal

pub returns : goal.returns
returns c = λ b. c.in_ok-put_name.ensures b ∙ first_name c.new-made.result (bytes_eq c.args.name.now b) b c.new-made.ensures.empty
