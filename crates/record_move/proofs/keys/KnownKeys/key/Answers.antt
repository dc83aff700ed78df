use Rattle.std.proofs.Common.{◌∙◌, ap}
use Rattle.record_move.specs.Known.{key_named}
use Rattle.record_move.proofs.Keeping.{found_by_name}
use Rattle.record_move.proofs.keys.KnownKeys.key.Goals as goal

pub returns : goal.returns
returns c =
    let name = c.args.name.now in
    c.get.ensures.value ∙ found_by_name name c.self.inside.by_name.entries c.self.invariant ∙ ap (λ keys. key_named keys name) c.self.view_is
