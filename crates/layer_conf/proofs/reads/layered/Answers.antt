use Rattle.std.proofs.Common.{◌≡◌, ◌∙◌, ap, sym, subst, Ok, codes, map}
use Rattle.std.proofs.lemmas.Result.{IfOk-weaker, IfErr-weaker}
use Rattle.datastore.specs.Faults.{IsDataFault}
use Rattle.load_model.specs.LoadRefusal.{refused_as}
use Rattle.load_model.specs.Loading.{sources_of}
use Rattle.load_model.specs.Layers.{no_list, words_of, layer_named, layered_from, layered_over}
use Rattle.meta_model.proofs.Passing.{goes_on}
use Rattle.layer_conf.specs.Faults.{IsLayerFault}
use Rattle.layer_conf.specs.Config.{configured_meant}
use Rattle.layer_conf.proofs.Layering.{layer_same, layer_on, data_fault}
use Rattle.layer_conf.proofs.reads.layered.Goals as goal

pub returns-in-Ok-clause-ok : goal.returns-in-Ok-clause-ok
returns-in-Ok-clause-ok g c =
    let sources = sources_of (g.L.Layers.files c.args.layers.now) in
    let first = c.args.first in
    let words = c.in-Ok.words in
    let given = c.as_slice.result.now in
    let same : layered_from sources first ≡ layered_over sources first (map layer_named given) =
    goes_on (refused_as no_list (words_of first.lines (codes "BBLAYERS"))) words (λ l. layered_over sources first (map layer_named l)) (ap (λ l. refused_as no_list (words_of l (codes "BBLAYERS"))) (sym c.store.ensures) ∙ ap (refused_as no_list) c.in-Ok.ensures.ok)
    ∙ ap (λ l. layered_over sources first (map layer_named l)) (sym c.as_slice.ensures) in
    IfOk-weaker c.with_words.result (λ made. g.L.Layers.tells → layered_over sources first (map layer_named given) ≡ Ok (configured_meant made)) (λ made. g.L.Layers.tells → layered_from sources first ≡ Ok (configured_meant made)) (λ made h told. same ∙ h told) c.with_words.ensures.ok

pub returns-in-Ok-clause-err : goal.returns-in-Ok-clause-err
returns-in-Ok-clause-err g c =
    let sources = sources_of (g.L.Layers.files c.args.layers.now) in
    let first = c.args.first in
    let words = c.in-Ok.words in
    let given = c.as_slice.result.now in
    let same : layered_from sources first ≡ layered_over sources first (map layer_named given) =
    goes_on (refused_as no_list (words_of first.lines (codes "BBLAYERS"))) words (λ l. layered_over sources first (map layer_named l)) (ap (λ l. refused_as no_list (words_of l (codes "BBLAYERS"))) (sym c.store.ensures) ∙ ap (refused_as no_list) c.in-Ok.ensures.ok)
    ∙ ap (λ l. layered_over sources first (map layer_named l)) (sym c.as_slice.ensures) in
    IfErr-weaker c.with_words.result (λ fault. g.L.Layers.tells → IsLayerFault fault (layered_over sources first (map layer_named given))) (λ fault. g.L.Layers.tells → IsLayerFault fault (layered_from sources first)) (λ fault h told. layer_same fault (layered_from sources first) (layered_over sources first (map layer_named given)) same (h told)) c.with_words.ensures.err

pub returns-in-Err-clause-err : goal.returns-in-Err-clause-err
returns-in-Err-clause-err g c = λ told.
    let sources = sources_of (g.L.Layers.files c.args.layers.now) in
    let first = c.args.first in
    let fault = c.in-Err.fault in
    layer_on c.data_told.result (refused_as no_list (words_of first.lines (codes "BBLAYERS"))) (λ l. layered_over sources first (map layer_named l))
    (data_fault fault c.data_told.result (words_of first.lines (codes "BBLAYERS")) c.data_told.ensures.told (subst (λ l. IsDataFault fault (words_of l (codes "BBLAYERS"))) c.store.ensures c.in-Err.ensures.err))
