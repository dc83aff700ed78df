use Rattle.std.proofs.Common.{sym, ◌∙◌, ap, ◌+◌, drop}
use Rattle.task_model.specs.Scripts.{all_places}
use Rattle.script_gen.specs.Steps.{place_in}
use Rattle.meta_model.specs.Passing.{behind}
use Rattle.meta_model.proofs.Passing.{one_turn}
use Rattle.script_gen.proofs.Passing.{out}
use Rattle.script_gen.proofs.Turns.{one_fault}
use Rattle.script_gen.proofs.Parts.{places_in_turn}
use Rattle.script_gen.proofs.place_pairs.all_places.Goals as goal

pub returns-in_err-place_in-clause-err : goal.returns-in_err-place_in-clause-err
returns-in_err-place_in-clause-err c =
    let f = c.args.flag.now in
    let words = c.args.words.now in
    let fault = c.in_err-place_in.field-0.0 in
    out c.from_residual.result fault (all_places f words) c.from_residual.ensures.1
    (one_fault (place_in f) (all_places f) (places_in_turn f) (all_places f words) c.loop-word.list words c.loop-word.word-index c.word-item.result fault c.word-item.is c.loop-word-test.true c.loop-word.invariant c.in_err-place_in.ensures.err)

pub loop-word-preserved : goal.loop-word-preserved
loop-word-preserved c =
    let f = c.args.flag.now in
    let words = c.args.words.now in
    one_turn (place_in f) (all_places f) (places_in_turn f) (all_places f words) c.loop-word.list words c.loop-word.word-index c.word-item.result c.in_ok-place_in.field-0 c.word-item.is c.loop-word-test.true c.loop-word.invariant c.in_ok-place_in.ensures.ok
    ∙ ap (λ l. behind l (all_places f (drop (c.loop-word.word-index + 1) words))) (sym c.in_ok-push.ensures.ok)
