use Rattle.std.proofs.Common.{◌∙◌, ap, sym, subst, refl, ℕ, [], Ok}
use Rattle.plan_model.specs.Inputs.{Files}
use Rattle.multi_config.specs.Parts.{Standing}
use Rattle.multi_config.specs.Shown.{stands_at, unsplit}
use Rattle.bitbake_top.specs.Parts.{ArePartsOf, ShownParts}
use Rattle.bitbake_top.proofs.Configs.{asked_parts, refused_words, whole_shown}
use Rattle.bitbake_top.proofs.shown.show_configs.Goals as goal

pub returns-in-Ok-clause-shows : goal.returns-in-Ok-clause-shows
returns-in-Ok-clause-shows g c at =
    let files = g.L.Layers.files c.args.layers.now in
    let request = c.args.request.now in
    let parts = c.as_slice-in-Ok.result.now in
    let now : Standing = stands_at (g.L.Layers.faults c.show_from.new.layers) (g.W.Sink.written c.show_from.new.sink) (g.W.Sink.faults c.show_from.new.sink) at in
    let asked : ArePartsOf g.L.Layers.tells files request parts =
    asked_parts g.L.Layers.tells g.W.Sink.tells files request at c.as_slice.result.now _ parts c.as_slice.ensures c.as_ref.ensures.value (λ l paths lists. c.in-Ok.ensures.ok l paths lists ∙ ap Ok (sym c.as_slice-in-Ok.ensures.value)) in
    whole_shown g.L.Layers.tells g.W.Sink.tells c.args.what files request parts
    (stands_at (g.L.Layers.faults c.args.layers.now) (g.W.Sink.written c.args.sink.now) (g.W.Sink.faults c.args.sink.now) at) now c.show_from.result
    (subst (λ (n : ℕ). ShownParts g.L.Layers.tells g.W.Sink.tells c.args.what files parts (stands_at n (g.W.Sink.written c.args.sink.now) (g.W.Sink.faults c.args.sink.now) at) now c.show_from.result) c.in-Ok.ensures.cause.stayed
    (subst (λ (f : Files). ShownParts g.L.Layers.tells g.W.Sink.tells c.args.what f parts (stands_at (g.L.Layers.faults c.find_parts.new.layers) (g.W.Sink.written c.args.sink.now) (g.W.Sink.faults c.args.sink.now) at) now c.show_from.result) c.in-Ok.ensures.same (c.show_from.ensures.parts at))) asked

pub returns-in-Err-clause-shows : goal.returns-in-Err-clause-shows
returns-in-Err-clause-shows g c at =
    unsplit (refused_words g.L.Layers.tells g.W.Sink.tells (g.L.Layers.files c.args.layers.now) c.args.request.now
    (stands_at (g.L.Layers.faults c.args.layers.now) (g.W.Sink.written c.args.sink.now) (g.W.Sink.faults c.args.sink.now) at)
    (g.L.Layers.faults c.find_parts.new.layers) (g.W.Sink.written c.refuse.new.sink) (g.W.Sink.faults c.refuse.new.sink) c.as_slice.result.now _ c.in-Err.status c.refuse.result [] []
    refl refl c.as_slice.ensures c.as_ref.ensures.value c.in-Err.ensures.refusal c.refuse.ensures.status c.in-Err.ensures.cause c.in-Err.ensures.err c.refuse.ensures.said)
