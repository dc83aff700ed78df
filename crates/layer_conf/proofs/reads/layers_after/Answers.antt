use Rattle.std.proofs.Common.{◌∙◌, ap, sym, subst}
use Rattle.outside_traits.specs.Fault.{Counts}
use Rattle.load_model.specs.Loading.{sources_of}
use Rattle.load_model.specs.Layers.{layer_at, layer_file, layers_after}
use Rattle.layer_conf.specs.Faults.{IsLayerFault, is_failure}
use Rattle.layer_conf.proofs.Layering.{layers_go_on, layers_fault}
use Rattle.layer_conf.proofs.reads.layers_after.Goals as goal

pub returns-in-Err-clause-err : goal.returns-in-Err-clause-err
returns-in-Err-clause-err g c = λ told.
    let sources = sources_of (g.L.Layers.files c.args.layers.now) in
    let words = c.args.words.now in
    let word = c.word-item.result in
    let fault = c.in-Err.fault in
    layers_fault sources words c.loop-word.word-index word c.loop-word.reading (layers_after sources words c.args.first) fault c.word-item.is c.loop-word-test.true (c.loop-word.invariant.read told)
    (subst (λ f. IsLayerFault fault (layer_at (sources_of f) word (layer_file word) c.loop-word.reading)) c.loop-word.invariant.same (c.in-Err.ensures.err told))

pub returns-in-Err-clause-cause : goal.returns-in-Err-clause-cause
returns-in-Err-clause-cause g c = subst (λ n. Counts n (g.L.Layers.faults c.layer_at.new.layers) (is_failure c.in-Err.fault)) c.loop-word.invariant.faults c.in-Err.ensures.cause

pub loop-word-preserved : goal.loop-word-preserved
loop-word-preserved g c =
    let sources = sources_of (g.L.Layers.files c.args.layers.now) in
    let words = c.args.words.now in
    let word = c.word-item.result in
    let inv = c.loop-word.invariant in
    record {
      same = c.in-Ok.ensures.same ∙ inv.same;
      faults = c.in-Ok.ensures.cause.stayed ∙ inv.faults;
      read = λ told. layers_go_on sources words c.loop-word.word-index word c.loop-word.reading c.in-Ok.next (layers_after sources words c.args.first) c.word-item.is c.loop-word-test.true (inv.read told)
          (ap (λ f. layer_at (sources_of f) word (layer_file word) c.loop-word.reading) (sym inv.same) ∙ c.in-Ok.ensures.ok told);
    }
