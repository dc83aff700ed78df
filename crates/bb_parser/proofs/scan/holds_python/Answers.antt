use Rattle.std.proofs.Common.{◌∙◌}
use Rattle.bb_parser.proofs.Python.{not_begun, form_begun}
use Rattle.bb_parser.proofs.scan.holds_python.Goals as goal
use Rattle.bb_parser.proofs.scan.holds_python.Goals.{else-starts_with-via-then-starts_with+else-not-begins_form, else-starts_with-via-else-starts_with}

pub loop-at-preserved : goal.loop-at-preserved
loop-at-preserved c =
    let text = c.args.text.now in
    let bytes = c.as_bytes-bytes.result.now in
    let at = c.loop-at.at in
    c.loop-at.invariant ∙ elim c.else-starts_with.branch [
      | else-starts_with-via-then-starts_with+else-not-begins_form w ↦ form_begun text bytes w.range_from.result.now at w.begins_form.result c.as_bytes-bytes.ensures.value c.loop-at-test.true w.range_from.ensures.value w.begins_form.ensures w.if-not-begins_form.false
      | else-starts_with-via-else-starts_with w ↦ not_begun text bytes at c.starts_with.result c.as_bytes-bytes.ensures.value c.loop-at-test.true c.starts_with.ensures.value w.if-starts_with.false
    ]
