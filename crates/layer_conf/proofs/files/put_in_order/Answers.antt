use Rattle.std.proofs.Common.{sym, ◌∙◌}
use Rattle.name_walk.proofs.Places.{is_there, is_new}
use Rattle.layer_conf.proofs.Globbing.{into_there}
use Rattle.layer_conf.proofs.files.put_in_order.Goals as goal

pub returns-in-Ok : goal.returns-in-Ok
returns-in-Ok c =
    into_there c.args.path c.args.made.now.items c.requires
    (is_there c.args.made.now.items c.as_slice.result.now c.args.path c.as_str.result.now c.in-Ok.field-0 c.as_slice.ensures.value c.as_str.ensures c.in-Ok.ensures.range c.in-Ok.ensures.place)

pub returns-in_ok-insert-in-Err : goal.returns-in_ok-insert-in-Err
returns-in_ok-insert-in-Err c =
    let new = is_new c.args.made.now.items c.as_slice.result.now c.args.path c.as_str.result.now c.in-Err.place c.as_slice.ensures.value c.as_str.ensures c.requires c.in-Err.ensures.range c.in-Err.ensures.place in
    c.in_ok-insert-in-Err.ensures.items ∙ sym new.1
