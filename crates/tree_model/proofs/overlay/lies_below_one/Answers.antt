use Rattle.std.proofs.Common.{◌-◌, ◌∙◌, ap, sym, arith}
use Rattle.tree_model.proofs.BelowLemmas.{below_cases, none_below, none_in_front, pred_at}
use Rattle.tree_model.proofs.overlay.lies_below_one.Goals as goal
use Rattle.tree_model.proofs.overlay.lies_below_one.Goals.{then-place-bytes-via-then-place-bytes, then-place-bytes-via-else-place-bytes+then-bytes-place-ne47}

pub returns-then-start-eq0 : goal.returns-then-start-eq0
returns-then-start-eq0 c = none_in_front c.args.entries.now c.args.path.now c.args.start c.requires.start c.if-start-eq0.true

pub returns-then-place-bytes : goal.returns-then-place-bytes
returns-then-place-bytes c =
    none_below c.args.entries.now c.as_bytes-bytes.result.now c.as_bytes.result.now c.args.path.now c.args.start c.common_length-place.result c.requires.tree c.requires.start
    (pred_at c.args.entries.now (c.args.start - 1) c.index-entries-start.result c.as_str.result.now c.as_bytes.result.now (let w = c.requires.start.within in omega arith) c.index-entries-start.is (c.as_str.ensures ∙ sym (ap (λ x. x.0) c.index-entries-start.is)) c.as_bytes.ensures.value)
    c.common_length-place.ensures c.as_bytes-bytes.ensures.value
    (λ l. elim c.then-place-bytes.branch [ then-place-bytes-via-then-place-bytes w ↦ omega (arith, l.within) | then-place-bytes-via-else-place-bytes+then-bytes-place-ne47 w ↦ w.if-bytes-place-ne47.true l.slash ])

pub returns : goal.returns
returns c =
    below_cases c.args.entries.now c.as_bytes-bytes.result.now c.as_bytes.result.now c.args.path.now c.args.start c.common_length-place.result c.holds_path.result c.requires.tree c.requires.start
    (pred_at c.args.entries.now (c.args.start - 1) c.index-entries-start.result c.as_str.result.now c.as_bytes.result.now (let w = c.requires.start.within in omega arith) c.index-entries-start.is (c.as_str.ensures ∙ sym (ap (λ x. x.0) c.index-entries-start.is)) c.as_bytes.ensures.value)
    c.common_length-place.ensures c.as_bytes-bytes.ensures.value (omega arith) c.if-bytes-place-ne47.false c.holds_path.ensures
