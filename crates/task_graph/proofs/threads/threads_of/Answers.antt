use Rattle.std.proofs.Common.{◌≡◌, ◌∙◌, sym, ap, arith}
use Rattle.meta_model.specs.Text.{is_blank, without_end}
use Rattle.meta_model.specs.Threads.{trimmed}
use Rattle.task_graph.proofs.Digits.{digits_more}
use Rattle.task_graph.proofs.threads.threads_of.Goals as goal

pub loop-threads-preserved : goal.loop-threads-preserved
loop-threads-preserved c =
    let same : c.as_bytes-digits.result.now ≡ trimmed c.args.text.now = c.as_bytes-digits.ensures.value ∙ (c.unblanked.ensures ∙ ap (without_end is_blank) c.skipped.ensures) in
    digits_more (trimmed c.args.text.now) c.as_bytes-digits.result.now c.as_bytes.result.now c.loop-threads.threads-counter
    (c.as_bytes.ensures.value ∙ c.in_ok-to_string.ensures.ok) (sym c.if-eq.ensures) same c.loop-threads.invariant

pub returns-clause-err : goal.returns-clause-err
returns-clause-err c = (c.in_ok-from_str.ensures, λ threads is. c.loop-threads.invariant threads is.least (omega (arith, is.most)) is.digits)
