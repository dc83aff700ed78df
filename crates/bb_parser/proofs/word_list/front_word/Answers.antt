use Rattle.std.proofs.Common.{refl}
use Rattle.std.proofs.lemmas.List.{take_rest}
use Rattle.bb_parser.proofs.WordFacts.{first_word-is}
use Rattle.bb_parser.proofs.word_list.front_word.Goals as goal

pub returns : goal.returns
returns c = let t = take_rest c.args.line.now c.white_end.result in
    let h = rw t at c.word_end.ensures.end in
    rw (first_word-is c.args.line.now, t, h, c.white_end.ensures.rest) refl
