use Rattle.std.proofs.Common.{◌≡◌, refl, subst, false, unwrap_or, is_some, Ok}
use Rattle.var_expand.specs.Faults.{IsFaultOf}
use Rattle.var_deps.specs.Reading.{view_by, led_behind}
use Rattle.var_deps.specs.Known.{read_led}
use Rattle.var_deps.specs.Led.{led_of}
use Rattle.var_deps.proofs.Knowing.{known_read, known_refused}
use Rattle.var_deps.proofs.line.know.Goals as goal

pub returns-in_ok-line-in-Ok : goal.returns-in_ok-line-in-Ok
returns-in_ok-line-in-Ok c =
    let view = view_by c.args.seen.now.store.now c.args.seen.now.task c.args.ignored.now (unwrap_or c.args.sstate false) c.args.name.now in
    let name = c.args.name.now in
    let led = led_of c.in-Ok.led in
    known_read view (is_some c.args.sstate) name c.in-Ok.found led (record { led = c.in-Ok.led.names; line = c.in_ok-line-in-Ok.line }) c.in-Ok.ensures.found
    (subst (λ own. led_behind view own name c.in-Ok.found ≡ Ok led) c.is_some.ensures c.in-Ok.ensures.led) refl (c.in_ok-line-in-Ok.ensures led refl)

pub returns-in_ok-refused-in-Err : goal.returns-in_ok-refused-in-Err
returns-in_ok-refused-in-Err c =
    let view = view_by c.args.seen.now.store.now c.args.seen.now.task c.args.ignored.now (unwrap_or c.args.sstate false) c.args.name.now in
    let name = c.args.name.now in
    known_refused view (is_some c.args.sstate) name c.in-Err.fault (record { led = c.new.result; line = c.in_ok-refused-in-Err.field-0 }) c.new.ensures.items c.in_ok-refused-in-Err.ensures.refused
    (subst (λ own. IsFaultOf c.in-Err.fault (read_led view own name)) c.is_some.ensures c.in-Err.ensures.err) (λ meant h. c.in_ok-refused-in-Err.ensures.line name meant h)
