use Rattle.std.proofs.lemmas.List.{take_all}
use Rattle.bb_parser.proofs.WritableFacts.{words_text-pushed}
use Rattle.bb_parser.proofs.lines_written.push_words.Goals as goal

pub loop-word-preserved : goal.loop-word-preserved
loop-word-preserved c =
    let ws = c.args.words.now in
    let i = c.loop-word.word-index in
    let a = c.push_str-in-loop-word.new.self in
    let w = c.word-item.result in
    let v = c.loop-word.invariant in
    words_text-pushed c.args.line.now ws i w c.loop-word.line c.push_str.new.self a c.as_str.result.now c.loop-word-test.true c.word-item.is v c.in_ok-push_str.ensures.ok c.in_ok-push_str-2.ensures.ok c.as_str.ensures

pub returns : goal.returns
returns c = rw (take_all _ _ c.loop-word-test.false) at c.loop-word.invariant
