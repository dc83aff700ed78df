use Rattle.std.proofs.Common.{◌≡◌, ◌∙◌, sym, Some, None}
use Rattle.value_maps.specs.Maps.{named_at}
use Rattle.value_maps.proofs.Naming.{left_is, none_left}
use Rattle.value_maps.proofs.maps.Maps.is_left.Goals as goal

pub returns-in-Some : goal.returns-in-Some
returns-in-Some c = λ list keeps.
    let found : named_at c.args.self.now c.args.name.now ≡ Some c.in-Some.named.now = sym c.in-Some.ensures in
    c.is_left.ensures.left ∙ left_is list c.args.self.now c.args.name.now c.in-Some.named.now keeps found c.is_left.ensures.ordered

pub returns-in-None : goal.returns-in-None
returns-in-None c = λ list keeps.
    let found : named_at c.args.self.now c.args.name.now ≡ None = sym c.in-None.ensures in
    sym (none_left list c.args.self.now c.args.name.now keeps found)
