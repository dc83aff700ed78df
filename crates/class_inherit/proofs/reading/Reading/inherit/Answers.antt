use Rattle.std.proofs.Common.{refl, ℕ, List, true, codes}
use Rattle.std.proofs.lemmas.Result.{IfOk-weaker}
use Rattle.load_model.specs.LoadRefusal.{asked_at, nowhere}
use Rattle.load_model.specs.Layers.{words_of}
use Rattle.load_model.specs.Loading.{sources_of, read_first, classes_after}
use Rattle.load_model.specs.Recipes.{with_inherit}
use Rattle.class_inherit.proofs.Told.{if_err}
use Rattle.class_inherit.proofs.Loading.{then_fault, named_reads, named_fault}
use Rattle.class_inherit.proofs.reading.Reading.inherit.Goals as goal

pub returns-in-Ok-clause-ok : goal.returns-in-Ok-clause-ok
returns-in-Ok-clause-ok g c =
    let sources = sources_of (g.L.Layers.files c.args.layers.now) in
    let asked = asked_at nowhere (words_of c.args.self.lines (codes "INHERIT")) in
    let go = λ (ws : List (List ℕ)). classes_after (read_first sources) sources nowhere true ws c.args.self in
    IfOk-weaker c.read_inherited.result _ _ (λ made h told. named_reads asked go (with_inherit sources c.args.self) c.in-Ok.names c.as_slice.result.now made refl c.in-Ok.ensures.ok c.as_slice.ensures (h told)) c.read_inherited.ensures.ok

pub returns-in-Ok-clause-err : goal.returns-in-Ok-clause-err
returns-in-Ok-clause-err g c =
    let sources = sources_of (g.L.Layers.files c.args.layers.now) in
    let asked = asked_at nowhere (words_of c.args.self.lines (codes "INHERIT")) in
    let go = λ (ws : List (List ℕ)). classes_after (read_first sources) sources nowhere true ws c.args.self in
    if_err c.read_inherited.result _ _ (λ fault h told. named_fault asked go (with_inherit sources c.args.self) c.in-Ok.names c.as_slice.result.now fault refl c.in-Ok.ensures.ok c.as_slice.ensures (h told)) c.read_inherited.ensures.err

pub returns-in-Err-clause-err : goal.returns-in-Err-clause-err
returns-in-Err-clause-err g c = λ told.
    let sources = sources_of (g.L.Layers.files c.args.layers.now) in
    then_fault c.in-Err.fault (asked_at nowhere (words_of c.args.self.lines (codes "INHERIT"))) (λ (ws : List (List ℕ)). classes_after (read_first sources) sources nowhere true ws c.args.self) (with_inherit sources c.args.self) refl c.in-Err.ensures.err
