use Rattle.std.proofs.Common.{◌∙◌, ap, subst, ◌++◌, ℕ, List}
use Rattle.run_model.specs.Written.{WritesFront}
use Rattle.bitbake_top.proofs.Drying.{dry_printed, dry_refused, one_text}
use Rattle.bitbake_top.proofs.dry.dry.Goals as goal

pub returns-in-Ok-clause-dry : goal.returns-in-Ok-clause-dry
returns-in-Ok-clause-dry g c told paths lists =
    dry_printed c.print.result (g.L.Layers.files c.args.layers.now) paths c.args.request.now _ c.print.ensures.status (c.in-Ok.ensures.ok told paths lists)

pub returns-in-Ok-clause-text : goal.returns-in-Ok-clause-text
returns-in-Ok-clause-text g c told tells paths lists plan is ok =
    c.print.ensures.whole ok tells
    ∙ ap (λ (text : List ℕ). g.W.Sink.written c.args.sink.now ++ text) (c.as_str.ensures ∙ one_text (g.L.Layers.files c.args.layers.now) paths c.args.request.now _ plan lists (c.in-Ok.ensures.ok told paths lists) is)

pub returns-in-Ok-clause-text_front : goal.returns-in-Ok-clause-text_front
returns-in-Ok-clause-text_front g c told tells paths lists plan is failed =
    subst (λ (text : List ℕ). WritesFront (g.W.Sink.written c.args.sink.now) (g.W.Sink.written c.print.new.sink) text)
    (c.as_str.ensures ∙ one_text (g.L.Layers.files c.args.layers.now) paths c.args.request.now _ plan lists (c.in-Ok.ensures.ok told paths lists) is) (c.print.ensures.front tells)

pub returns-in-Err-clause-dry : goal.returns-in-Err-clause-dry
returns-in-Err-clause-dry g c told paths lists =
    dry_refused c.in-Err.status c.refuse.result (g.L.Layers.files c.args.layers.now) paths c.args.request.now c.in-Err.ensures.refusal (c.in-Err.ensures.err told paths lists) c.refuse.ensures.status
