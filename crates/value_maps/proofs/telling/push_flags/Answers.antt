use Rattle.std.proofs.Common.{◌∙◌, ap, ◌++◌, take, flat_map, append_assoc}
use Rattle.value_maps.specs.Telling.{told_kept}
use Rattle.value_maps.proofs.Lines.{flat_turn}
use Rattle.value_maps.proofs.telling.push_flags.Goals as goal

pub loop-name-preserved : goal.loop-name-preserved
loop-name-preserved c =
    let told = told_kept c.args.target.now c.args.flags.now in
    let before = c.args.lines.now.items in
    let names = c.args.names.now in
    let i = c.loop-name.name-index in
    let x = c.name-item.result in
    c.in_ok-push_kept.ensures ∙ ap (λ m. m ++ told x) c.loop-name.invariant ∙ append_assoc before (flat_map told (take i names)) (told x)
    ∙ ap (λ l. before ++ l) (flat_turn told names i x c.name-item.is c.loop-name-test.true)
