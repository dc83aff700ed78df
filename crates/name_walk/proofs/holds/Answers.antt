use Rattle.std.proofs.Common.{refl, sym}
use Rattle.name_walk.proofs.Places.{is_there, is_new}
use Rattle.name_walk.proofs.holds.Goals as goal

pub returns-in-Ok : goal.returns-in-Ok
returns-in-Ok c = sym (is_there c.args.names.now c.args.names.now c.args.name.now c.args.name.now c.in-Ok.field-0 refl refl c.in-Ok.ensures.range c.in-Ok.ensures.place)

pub returns-in-Err : goal.returns-in-Err
returns-in-Err c = sym (is_new c.args.names.now c.args.names.now c.args.name.now c.args.name.now c.in-Err.field-0 refl refl c.requires c.in-Err.ensures.range c.in-Err.ensures.place).0
