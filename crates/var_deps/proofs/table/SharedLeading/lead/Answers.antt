use Rattle.std.proofs.Common.{sym}
use Rattle.var_deps.specs.Leaders.{shared_led}
use Rattle.var_deps.proofs.Tabling.{itself, led_kept, on_ok_pushed, same_led}
use Rattle.var_deps.proofs.table.SharedLeading.lead.Goals as goal

pub returns-in-Some-clause-led : goal.returns-in-Some-clause-led
returns-in-Some-clause-led c =
    let old = c.args.self.now in
    let name = c.args.name.now in
    on_ok_pushed c.push_all.result c.push_all.new.list.items c.args.list.now.items c.as_slice.result.now (shared_led old name)
    (led_kept old old name c.in-Some.known.now c.as_slice.result.now c.requires (itself old) (sym c.in-Some.ensures.value) c.as_slice.ensures.value) c.push_all.ensures

pub returns-in-Some-get-clause-led : goal.returns-in-Some-get-clause-led
returns-in-Some-get-clause-led c =
    let old = c.args.self.now in
    let name = c.args.name.now in
    on_ok_pushed c.push_all-in-Some-get.result c.push_all-in-Some-get.new.list.items c.args.list.now.items c.as_slice-in-Some-get.result.now (shared_led old name)
    (led_kept old c.learn.new.self name c.in-Some-get.known.now c.as_slice-in-Some-get.result.now c.learn.ensures.right c.learn.ensures.same (sym c.in-Some-get.ensures.value) c.as_slice-in-Some-get.ensures.value) c.push_all-in-Some-get.ensures

pub returns-in_err-learn-clause-same : goal.returns-in_err-learn-clause-same
returns-in_err-learn-clause-same c = same_led c.args.self.now c.learn.new.self c.learn.ensures.same

pub returns-in-Some-get-clause-same : goal.returns-in-Some-get-clause-same
returns-in-Some-get-clause-same c = same_led c.args.self.now c.learn.new.self c.learn.ensures.same
