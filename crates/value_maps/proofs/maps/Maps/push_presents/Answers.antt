use Rattle.std.proofs.Common.{◌∙◌, ap, ◌++◌, ◌∷◌, [], filter, take, append_assoc, if◌then◌else◌}
use Rattle.value_maps.specs.Found.{is_present}
use Rattle.value_maps.proofs.Naming.{filter_turn}
use Rattle.value_maps.proofs.maps.Maps.push_presents.Goals as goal

pub loop-rest-preserved : goal.loop-rest-preserved
loop-rest-preserved c =
    let test = is_present c.args.self.now c.args.active.now c.args.name.now in
    let before = c.args.list.now in
    let xs = c.args.rests.now in
    let i = c.loop-rest.rest-index in
    let x = c.rest-item.result in
    c.in_ok-push_present.ensures ∙ ap (λ m. m ++ (if test x then x ∷ [] else [])) c.loop-rest.invariant ∙ append_assoc before (filter test (take i xs)) (if test x then x ∷ [] else [])
    ∙ ap (λ l. before ++ l) (filter_turn test xs i x c.rest-item.is c.loop-rest-test.true)
