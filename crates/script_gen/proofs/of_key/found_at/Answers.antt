use Rattle.std.proofs.Common.{◌∙◌, ap, sym, refl}
use Rattle.meta_model.specs.declared.value.KeyLine.{KeyLine}
use Rattle.name_walk.proofs.Places.{is_new}
use Rattle.script_gen.proofs.Lines.{found_there, found_away}
use Rattle.script_gen.proofs.of_key.found_at.Goals as goal

pub returns-in-Ok : goal.returns-in-Ok
returns-in-Ok c = c.as_ref.ensures.value ∙ ap (λ (l : KeyLine). l.value) (sym c.index-lines-place.is) ∙ found_there c.args.lines.now c.args.names.now c.args.name.now c.in-Ok.place c.index-lines-place.result c.requires.names c.requires.ordered c.in-Ok.ensures.range c.in-Ok.ensures.place c.index-lines-place.is

pub returns-in-Err : goal.returns-in-Err
returns-in-Err c =
    let names = c.args.names.now in
    let new = is_new names names c.args.name.now c.args.name.now c.in-Err.field-0 refl refl c.requires.ordered c.in-Err.ensures.range c.in-Err.ensures.place in
    found_away c.args.lines.now names c.args.name.now c.requires.names new.0
