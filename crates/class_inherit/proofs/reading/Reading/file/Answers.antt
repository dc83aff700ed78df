use Rattle.std.proofs.Common.{ap, None}
use Rattle.std.specs.Option.{option_map}
use Rattle.std.proofs.lemmas.Result.{IfOk-weaker}
use Rattle.class_inherit.specs.Reading.{contents_meant}
use Rattle.class_inherit.proofs.Told.{if_err}
use Rattle.class_inherit.proofs.Firsts.{there_reads, there_fault}
use Rattle.class_inherit.proofs.reading.Reading.file.Goals as goal

pub returns-in-Ok-Some-clause-ok : goal.returns-in-Ok-Some-clause-ok
returns-in-Ok-Some-clause-ok g c =
    IfOk-weaker c.read_first.result _ _
    (λ made h told. there_reads None (g.L.Layers.files c.args.layers.now) (g.L.Layers.files c.contents_at.new.layers) c.args.kind c.args.path.now c.args.self made (option_map contents_meant c.in-Ok-Some.field-0) (contents_meant c.in-Ok-Some.contents)
    (c.in-Ok-Some.ensures.ok told) (ap (option_map contents_meant) c.in-Ok-Some.field-0-is) c.in-Ok-Some.ensures.same (h told))
    c.read_first.ensures.ok

pub returns-in-Ok-Some-clause-err : goal.returns-in-Ok-Some-clause-err
returns-in-Ok-Some-clause-err g c =
    if_err c.read_first.result _ _
    (λ fault h told. there_fault None (g.L.Layers.files c.args.layers.now) (g.L.Layers.files c.contents_at.new.layers) c.args.kind c.args.path.now c.args.self (option_map contents_meant c.in-Ok-Some.field-0) (contents_meant c.in-Ok-Some.contents) fault
    (c.in-Ok-Some.ensures.ok told) (ap (option_map contents_meant) c.in-Ok-Some.field-0-is) c.in-Ok-Some.ensures.same (h told))
    c.read_first.ensures.err
