use Rattle.std.proofs.Common.{◌∙◌, ap, sym}
use Rattle.store_opening.specs.Survey.{HeldFile}
use Rattle.store_opening.proofs.Keyed.{key_read, key_stands, key_unknown}
use Rattle.store_opening.proofs.Surveyed.{none_weaker, some_weaker}
use Rattle.store_opening.proofs.keys.key_in.Goals as goal

pub returns-in-Some-clause-some : goal.returns-in-Some-clause-some
returns-in-Some-clause-some c =
    some_weaker c.plain.result
    (λ bytes is. key_read c.args.files.now c.args.table.now.entries c.args.name.now c.in-Some.place c.index-files-place.result bytes.now c.requires c.in-Some.ensures.some c.index-files-place.is (ap (λ (f : HeldFile). f.1) c.index-files-place.is ∙ is))
    c.plain.ensures.some

pub returns-in-Some-clause-none : goal.returns-in-Some-clause-none
returns-in-Some-clause-none c =
    none_weaker c.plain.result
    (λ never key is. key_stands c.args.files.now c.args.table.now.entries c.args.name.now c.in-Some.place c.index-files-place.result c.requires c.in-Some.ensures.some c.index-files-place.is (λ bytes plain. never bytes (sym (ap (λ (f : HeldFile). f.1) c.index-files-place.is) ∙ plain)))
    c.plain.ensures.none

pub returns-in-None-clause-none : goal.returns-in-None-clause-none
returns-in-None-clause-none c = λ key is. key_unknown c.args.files.now c.args.table.now.entries c.args.name.now key c.requires c.in-None.ensures.none is
