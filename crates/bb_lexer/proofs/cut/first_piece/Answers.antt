use Rattle.std.proofs.Common.{◌≡◌, ◌<◌, ℕ, List, get_or, take, sym, ◌∙◌, ap, ◌==◌, arith, position, Some, None}
use Rattle.std.specs.declared.option.Option.{Option}
use Rattle.std.proofs.Math.Nat.{sub-zero}
use Rattle.std.specs.List.{slice_range}
use Rattle.std.proofs.lemmas.Str.{IsCharBoundary-before_ascii, IsCharBoundary-after_ascii}
use Rattle.meta_model.specs.Text.{newline}
use Rattle.bb_lexer.proofs.Ends.{pieces-newline, pieces-last, newline_there}
use Rattle.bb_lexer.proofs.cut.first_piece.Goals as goal

-- what was looked for in the text's bytes was looked for in the text
in_text : (bytes text : List ℕ) (r s : Option ℕ) → bytes ≡ text → r ≡ position (λ b. b == newline) bytes → r ≡ s → position (λ b. b == newline) text ≡ s
in_text bytes text r s same is found = ap (position (λ b. b == newline)) (sym same) ∙ sym is ∙ found

-- a range from the start is a front
front_range : (s : List ℕ) (n : ℕ) → slice_range s 0 n ≡ take n s
front_range s n = rw sub-zero

pub range-requires-clause-end_boundary : goal.range-requires-clause-end_boundary
range-requires-clause-end_boundary c =
    let there = newline_there c.args.text.now c.in-Some.end (in_text c.as_bytes.result.now c.args.text.now c.newline_at.result (Some c.in-Some.end) c.as_bytes.ensures.value c.newline_at.ensures c.in-Some.is) in
    let low : get_or c.args.text.now c.in-Some.end 0 < 128 = omega (arith, there.1) in
    IsCharBoundary-before_ascii c.args.text.now c.in-Some.end there.0 low

pub range_from-requires : goal.range_from-requires
range_from-requires c = λ positive.
    let there = newline_there c.args.text.now c.in-Some.end (in_text c.as_bytes.result.now c.args.text.now c.newline_at.result (Some c.in-Some.end) c.as_bytes.ensures.value c.newline_at.ensures c.in-Some.is) in
    let low : get_or c.args.text.now c.in-Some.end 0 < 128 = omega (arith, there.1) in
    IsCharBoundary-after_ascii c.args.text.now c.in-Some.end c.utf8.text there.0 low

pub returns-in-Some-clause-cut : goal.returns-in-Some-clause-cut
returns-in-Some-clause-cut c = rw (c.range.ensures.value ∙ front_range c.args.text.now c.in-Some.end, c.range_from.ensures.value) (pieces-newline c.args.text.now c.in-Some.end (in_text c.as_bytes.result.now c.args.text.now c.newline_at.result (Some c.in-Some.end) c.as_bytes.ensures.value c.newline_at.ensures c.in-Some.is))

pub returns-in-None-clause-cut : goal.returns-in-None-clause-cut
returns-in-None-clause-cut c = pieces-last c.args.text.now c.requires (in_text c.as_bytes.result.now c.args.text.now c.newline_at.result None c.as_bytes.ensures.value c.newline_at.ensures c.in-None.is)
