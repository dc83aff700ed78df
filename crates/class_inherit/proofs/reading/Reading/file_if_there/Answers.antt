use Rattle.std.proofs.Common.{ap}
use Rattle.std.specs.Option.{option_map}
use Rattle.class_inherit.specs.Reading.{contents_meant}
use Rattle.class_inherit.proofs.Firsts.{there_reads, there_fault}
use Rattle.class_inherit.proofs.reading.Reading.file_if_there.Goals as goal

pub returns-in-Ok-clause-ok : goal.returns-in-Ok-clause-ok
returns-in-Ok-clause-ok g c = λ told.
    there_reads c.args.layer.now (g.L.Layers.files c.args.layers.now) (g.L.Layers.files c.contents_at.new.layers) c.args.kind c.args.path.now c.args.self c.in-Ok.reading (option_map contents_meant c.in-Ok-Some.field-0) (contents_meant c.in-Ok-Some.contents)
    (c.in-Ok-Some.ensures.ok told) (ap (option_map contents_meant) c.in-Ok-Some.field-0-is) c.in-Ok-Some.ensures.same (c.in-Ok.ensures.ok told)

pub returns-in-Err-read_first-clause-err : goal.returns-in-Err-read_first-clause-err
returns-in-Err-read_first-clause-err g c = λ told.
    there_fault c.args.layer.now (g.L.Layers.files c.args.layers.now) (g.L.Layers.files c.contents_at.new.layers) c.args.kind c.args.path.now c.args.self (option_map contents_meant c.in-Ok-Some.field-0) (contents_meant c.in-Ok-Some.contents) c.in-Err-read_first.fault
    (c.in-Ok-Some.ensures.ok told) (ap (option_map contents_meant) c.in-Ok-Some.field-0-is) c.in-Ok-Some.ensures.same (c.in-Err-read_first.ensures.err told)
