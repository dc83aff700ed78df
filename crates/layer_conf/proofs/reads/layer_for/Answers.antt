use Rattle.std.proofs.Common.{subst}
use Rattle.meta_model.specs.declared.line.Kind.TheVariants.{Conf}
use Rattle.load_model.specs.Loading.{sources_of, entries}
use Rattle.class_inherit.specs.Faults.{IsLoadFault}
use Rattle.class_inherit.specs.Reading.{sources_for}
use Rattle.layer_conf.proofs.Layering.{layer_fault}
use Rattle.layer_conf.proofs.reads.layer_for.Goals as goal

pub returns-in-Err-clause-err : goal.returns-in-Err-clause-err
returns-in-Err-clause-err g c = λ told.
    let sources = sources_of (g.L.Layers.files c.args.layers.now) in
    let fault = c.in-Err.fault in
    layer_fault sources c.args.word.now c.args.path.now c.args.reading fault c.load_told.result c.load_told.ensures.told
    (subst (λ l. IsLoadFault fault (entries (sources_for l (g.L.Layers.files c.args.layers.now)) Conf c.args.path.now c.args.reading)) c.requires (c.in-Err.ensures.err told))
    (c.in-Err.ensures.refused told)
