use Rattle.std.proofs.Common.{◌≡◌, ◌∙◌, ℕ, ◌-◌, length, take, drop, get_or, ap, refl, arith}
use Rattle.std.proofs.lemmas.Str.{IsCharBoundary-after_ascii}
use Rattle.bb_parser.proofs.QuoteFacts.{quoted-is, quoted-short, quoted-not_quote, quoted-unequal, quote_of_two}
use Rattle.bb_parser.proofs.quotes.quoted_text.Goals as goal

pub returns-then-bytes-lt2 : goal.returns-then-bytes-lt2
returns-then-bytes-lt2 c = quoted-short c.args.line.now (rw c.as_bytes-bytes.ensures.value at c.if-bytes-lt2.true)

pub returns-then-quote-ne39 : goal.returns-then-quote-ne39
returns-then-quote-ne39 c = let v = c.as_bytes-bytes.ensures.value in
    quoted-not_quote c.args.line.now (rw v at c.if-bytes-lt2.false) (rw v at c.if-quote-ne34.true) (rw v at c.if-quote-ne39.true)

pub returns-then-bytes-quote : goal.returns-then-bytes-quote
returns-then-bytes-quote c = let v = c.as_bytes-bytes.ensures.value in
    quoted-unequal c.args.line.now (rw v at c.if-bytes-lt2.false) (rw v at c.if-bytes-quote.true)

pub range-text-requires-clause-start_boundary : goal.range-text-requires-clause-start_boundary
range-text-requires-clause-start_boundary c = λ _. let v = c.as_bytes-bytes.ensures.value in
    let q = rw v at (quote_of_two _ c.else-quote-ne34.either) in
    let h = rw v at c.if-bytes-lt2.false in
    IsCharBoundary-after_ascii c.args.line.now 0 c.utf8.line (omega (arith, h)) q.1

pub returns : goal.returns
returns c = let v = c.as_bytes-bytes.ensures.value in
    let line = c.args.line.now in
    let q = rw v at (quote_of_two _ c.else-quote-ne34.either) in
    let h = rw v at c.if-bytes-lt2.false in
    let n : (length line - 1) - 1 ≡ length line - 2 = omega arith in
    let t : c.range-text.result.now ≡ take (length line - 2) (drop 1 line) = c.range-text.ensures.value ∙ ap (λ (m : ℕ). take m (drop 1 line)) n in
    let i = rw (v, c.as_bytes.ensures.value, t) at c.times.ensures in
    rw (t, i) (quoted-is line (get_or line 0 0) h refl q.0 (rw v at c.if-bytes-quote.false))
