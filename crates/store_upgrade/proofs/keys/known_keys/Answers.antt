use Rattle.std.proofs.Common.{List, subst, sym, false}
use Rattle.std.specs.Prelude.{Contains}
use Rattle.std.proofs.lemmas.List.{take_all}
use Rattle.tree_model.specs.declared.entry.Entry.TheVariants.{File}
use Rattle.store_opening.specs.Survey.{HeldFile}
use Rattle.store_upgrade.proofs.Knowing.{known_more}
use Rattle.store_upgrade.proofs.keys.known_keys.Goals as goal

pub loop-file-preserved : goal.loop-file-preserved
loop-file-preserved c =
    known_more c.args.files.now c.loop-file.file-index c.file-item.result c.loop-file.keys c.know_file.new.keys c.loop-file-test.true c.file-item.is c.loop-file.invariant
    (λ bytes is. c.in_ok-know_file.ensures.known bytes is) c.in_ok-know_file.ensures.kept

pub returns-clause-known : goal.returns-clause-known
returns-clause-known c path bytes has =
    c.loop-file.invariant path bytes (subst (λ (l : List HeldFile). Contains l (path, File false bytes)) (sym (take_all c.loop-file.file-index c.args.files.now c.loop-file-test.false)) has)
