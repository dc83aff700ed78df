use Rattle.std.proofs.Common.{◌≡◌, refl, ◌∙◌, ap, sym, false, true, bytes_eq}
use Rattle.var_deps.specs.Leaders.{shared_led, stays_itself, task_led}
use Rattle.var_deps.proofs.Tabling.{on_ok_pushed, own_task, other_shared, ready_still, stays_led}
use Rattle.var_deps.proofs.table.TableLeading.lead.Goals as goal

pub returns-then-eq-clause-led : goal.returns-then-eq-clause-led
returns-then-eq-clause-led c =
    let t = c.args.self.now in
    let name = c.args.name.now in
    let own : bytes_eq name t.task ≡ true = ap (bytes_eq name) (sym c.as_str.ensures) ∙ sym c.if-eq.ensures in
    let led : c.as_slice.result.now ≡ task_led t name = own_task t name c.as_slice.result.now own (c.as_slice.ensures.value ∙ c.requires.own.led) in
    on_ok_pushed c.push_all.result c.push_all.new.list.items c.args.list.now.items c.as_slice.result.now (task_led t name) led c.push_all.ensures

pub returns-clause-ready : goal.returns-clause-ready
returns-clause-ready c = ready_still c.args.self.now c.lead.new.self c.requires c.lead.ensures.ready c.lead.ensures.stays

pub returns-clause-led : goal.returns-clause-led
returns-clause-led c =
    let t = c.args.self.now in
    let name = c.args.name.now in
    let other : bytes_eq name t.task ≡ false = ap (bytes_eq name) (sym c.as_str.ensures) ∙ sym c.if-eq.ensures in
    on_ok_pushed c.lead.result c.lead.new.list.items c.args.list.now.items (shared_led t.shared name) (task_led t name) (other_shared t name other) c.lead.ensures.led

pub returns-clause-same : goal.returns-clause-same
returns-clause-same c = stays_led c.args.self.now c.lead.new.self c.lead.ensures.stays

pub returns-then-eq-clause-stays : goal.returns-then-eq-clause-stays
returns-then-eq-clause-stays c = stays_itself c.args.self.now

pub returns-clause-stays : goal.returns-clause-stays
returns-clause-stays c = record { shared = c.lead.ensures.stays; task = refl; sstate = refl }
