use Rattle.std.proofs.Common.{◌≡◌, ◌∙◌, ap, sym, subst, Ok, IfSome, is_some}
use Rattle.std.proofs.lemmas.Result.{IfOk-weaker, IfErr-weaker}
use Rattle.meta_model.specs.declared.line.Kind.TheVariants.{Conf}
use Rattle.load_model.specs.Loading.{sources_of, entries}
use Rattle.load_model.specs.Layers.{starting_with, configured, flat, layered_from}
use Rattle.layer_conf.specs.Faults.{IsLayerFault}
use Rattle.layer_conf.specs.Config.{configured_meant}
use Rattle.layer_conf.proofs.Layering.{first_file, layer_same, configured_layered, configured_flat, configured_fault}
use Rattle.layer_conf.proofs.reads.read_configured.Goals as goal

pub returns-in-Ok-Some-clause-ok : goal.returns-in-Ok-Some-clause-ok
returns-in-Ok-Some-clause-ok g c =
    let files = g.L.Layers.files c.args.layers.now in
    let sources = sources_of files in
    let first = c.in-Ok-Some.first in
    let start = c.new-start.ensures ∙ ap starting_with c.in-Ok.ensures in
    IfOk-weaker c.layered.result (λ made. g.L.Layers.tells → layered_from (sources_of (g.L.Layers.files c.file_if_there.new.layers)) first ≡ Ok (configured_meant made)) (λ made. g.L.Layers.tells → configured sources ≡ Ok (configured_meant made))
    (λ made h told. configured_layered sources c.new-start.result first start
    (c.in-Ok-Some.ensures.there told ∙ ap is_some c.in-Ok-Some.field-0-is)
    (subst (λ o. IfSome o (λ reading. entries sources Conf first_file c.new-start.result ≡ Ok reading)) c.in-Ok-Some.field-0-is (c.in-Ok-Some.ensures.ok told))
    ∙ ap (λ f. layered_from (sources_of f) first) (sym c.in-Ok-Some.ensures.same) ∙ h told)
    c.layered.ensures.ok

pub returns-in-Ok-Some-clause-err : goal.returns-in-Ok-Some-clause-err
returns-in-Ok-Some-clause-err g c =
    let files = g.L.Layers.files c.args.layers.now in
    let sources = sources_of files in
    let first = c.in-Ok-Some.first in
    let start = c.new-start.ensures ∙ ap starting_with c.in-Ok.ensures in
    IfErr-weaker c.layered.result (λ fault. g.L.Layers.tells → IsLayerFault fault (layered_from (sources_of (g.L.Layers.files c.file_if_there.new.layers)) first)) (λ fault. g.L.Layers.tells → IsLayerFault fault (configured sources))
    (λ fault h told. layer_same fault (configured sources) (layered_from (sources_of (g.L.Layers.files c.file_if_there.new.layers)) first)
    (configured_layered sources c.new-start.result first start
    (c.in-Ok-Some.ensures.there told ∙ ap is_some c.in-Ok-Some.field-0-is)
    (subst (λ o. IfSome o (λ reading. entries sources Conf first_file c.new-start.result ≡ Ok reading)) c.in-Ok-Some.field-0-is (c.in-Ok-Some.ensures.ok told))
    ∙ ap (λ f. layered_from (sources_of f) first) (sym c.in-Ok-Some.ensures.same)) (h told))
    c.layered.ensures.err

pub returns-in-Ok-None-clause-ok : goal.returns-in-Ok-None-clause-ok
returns-in-Ok-None-clause-ok g c =
    let files = g.L.Layers.files c.args.layers.now in
    let sources = sources_of files in
    IfOk-weaker c.flat.result (λ made. g.L.Layers.tells → flat (sources_of (g.L.Layers.files c.file_if_there.new.layers)) ≡ Ok (configured_meant made)) (λ made. g.L.Layers.tells → configured sources ≡ Ok (configured_meant made))
    (λ made h told. configured_flat sources (c.in-Ok-None.ensures.there told ∙ ap is_some c.in-Ok-None.field-0-is) ∙ ap (λ f. flat (sources_of f)) (sym c.in-Ok-None.ensures.same) ∙ h told)
    c.flat.ensures.ok

pub returns-in-Ok-None-clause-err : goal.returns-in-Ok-None-clause-err
returns-in-Ok-None-clause-err g c =
    let files = g.L.Layers.files c.args.layers.now in
    let sources = sources_of files in
    IfErr-weaker c.flat.result (λ fault. g.L.Layers.tells → IsLayerFault fault (flat (sources_of (g.L.Layers.files c.file_if_there.new.layers)))) (λ fault. g.L.Layers.tells → IsLayerFault fault (configured sources))
    (λ fault h told. layer_same fault (configured sources) (flat (sources_of (g.L.Layers.files c.file_if_there.new.layers)))
    (configured_flat sources (c.in-Ok-None.ensures.there told ∙ ap is_some c.in-Ok-None.field-0-is) ∙ ap (λ f. flat (sources_of f)) (sym c.in-Ok-None.ensures.same)) (h told))
    c.flat.ensures.err

pub returns-in-Err-file_if_there-clause-err : goal.returns-in-Err-file_if_there-clause-err
returns-in-Err-file_if_there-clause-err g c = λ told.
    let sources = sources_of (g.L.Layers.files c.args.layers.now) in
    let start = c.new-start.ensures ∙ ap starting_with c.in-Ok.ensures in
    configured_fault sources c.new-start.result c.in-Err-file_if_there.fault c.load_told.result start c.load_told.ensures.told (c.in-Err-file_if_there.ensures.err told) (c.in-Err-file_if_there.ensures.refused told)
