use Rattle.std.proofs.Common.{refl, length, nat_eq}
use Rattle.name_walk.proofs.Places.{is_new}
use Rattle.script_gen.proofs.Lines.{goes_if}
use Rattle.script_gen.proofs.of_key.goes_last.Goals as goal

pub returns-in-Err : goal.returns-in-Err
returns-in-Err c =
    let names = c.args.names.now in
    let new = is_new names names c.args.name.now c.args.name.now c.in-Err.place refl refl c.requires c.in-Err.ensures.range c.in-Err.ensures.place in
    goes_if names c.args.name.now c.in-Err.place c.requires new.1 (nat_eq c.in-Err.place (length names)) refl
