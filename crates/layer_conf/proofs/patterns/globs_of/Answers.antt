use Rattle.std.proofs.lemmas.List.{take_all}
use Rattle.std.proofs.Common.{◌∙◌, ap, ◌++◌}
use Rattle.std.specs.Option.{option_to_list}
use Rattle.load_model.specs.Paths.{path_named}
use Rattle.layer_conf.proofs.Globbing.{globs_more}
use Rattle.layer_conf.proofs.patterns.globs_of.Goals as goal

pub loop-word-preserved : goal.loop-word-preserved
loop-word-preserved c =
    globs_more c.args.words.now c.loop-word.made.items c.push_path.new.made.items c.loop-word.word-index c.word-item.result c.word-item.is c.loop-word-test.true c.loop-word.invariant
    (c.in_ok-push_path.ensures ∙ ap (λ w. c.loop-word.made.items ++ option_to_list (path_named w)) c.as_str.ensures)

pub returns : goal.returns
returns c = rw (take_all _ _ c.loop-word-test.false) at c.loop-word.invariant
