use Rattle.std.proofs.Common.{◌≡◌, sym, subst, ℕ, List, Some, Ok, All, arith}
use Rattle.std.proofs.lemmas.Result.{err_from_is_err_and}
use Rattle.std.proofs.lemmas.List.{take_all}
use Rattle.std.proofs.lemmas.List.Elements.{All-more}
use Rattle.meta_model.specs.Needs.{Task}
use Rattle.meta_model.specs.GraphRefusal.{word_task}
use Rattle.task_graph.specs.Context.{number_of_word}
use Rattle.task_graph.proofs.Resolving.{mapped_more}
use Rattle.task_graph.proofs.Refusals.{word_refused, word_number}
use Rattle.task_graph.proofs.context.push_words.Goals as goal

pub returns-in_err-number-clause-err : goal.returns-in_err-number-clause-err
returns-in_err-number-clause-err c =
    let p = err_from_is_err_and c.from_residual.result c.from_residual.ensures.1 in
    rw (p.1, p.2) (word_refused c.args.facts.now c.args.words.now c.loop-word.word-index c.word-item.result c.loop-word-test.true c.word-item.is c.in_err-number.field-0.0 c.in_err-number.ensures.err)

pub loop-word-preserved : goal.loop-word-preserved
loop-word-preserved c = record {
  pushed = mapped_more (number_of_word c.args.facts.now c.args.context.now.table) c.args.words.now c.loop-word.word-index c.word-item.result c.args.out.now.items c.loop-word.out.items c.push.new.self.items (Some c.in_ok-number.number) c.loop-word-test.true c.word-item.is
      (sym (word_number c.args.facts.now c.args.context.now.table c.word-item.result c.in_ok-number.number c.in_ok-number.ensures.ok)) c.loop-word.invariant.pushed c.in_ok-push.ensures.items;
  resolved = All-more (λ (w : List ℕ × List ℕ). (b : Task) × (word_task c.args.facts.now w ≡ Ok b)) c.args.words.now c.loop-word.word-index c.word-item.result c.loop-word-test.true c.loop-word.invariant.resolved
      (subst (λ (w : List ℕ × List ℕ). (b : Task) × (word_task c.args.facts.now w ≡ Ok b)) c.word-item.is (c.in_ok-number.ensures.ok.0, c.in_ok-number.ensures.ok.1));
}

pub returns-clause-resolved : goal.returns-clause-resolved
returns-clause-resolved c =
    subst (λ (l : List (List ℕ × List ℕ)). All (λ (w : List ℕ × List ℕ). (b : Task) × (word_task c.args.facts.now w ≡ Ok b)) l)
    (take_all c.loop-word.word-index c.args.words.now (omega (arith, c.loop-word-test.false))) c.loop-word.invariant.resolved
