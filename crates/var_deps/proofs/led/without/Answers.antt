use Rattle.std.proofs.Common.{◌++◌, ◌∙◌, ap, sym}
use Rattle.var_deps.specs.Led.{kept_more}
use Rattle.var_deps.proofs.Starting.{without_more}
use Rattle.var_deps.proofs.led.without.Goals as goal

pub loop-name-preserved : goal.loop-name-preserved
loop-name-preserved c =
    let omitted = c.args.ignored.now ++ c.args.excluded.now in
    c.in_ok-keep.ensures ∙ ap (kept_more omitted c.in-Some.name) c.loop-name.invariant ∙ sym (without_more omitted c.loop-name.yielded c.in-Some.name)
