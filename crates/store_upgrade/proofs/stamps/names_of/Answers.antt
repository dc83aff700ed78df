use Rattle.std.proofs.Common.{◌∙◌, ◌∷◌, [], sym, ap, List, Option}
use Rattle.std.proofs.lemmas.List.{take_all}
use Rattle.std.specs.Option.{option_or}
use Rattle.tree_model.specs.declared.hash.Hash.{Hash}
use Rattle.record_move.specs.declared.records.MovedRecord.{MovedRecord}
use Rattle.store_upgrade.specs.Stamps.{renewed}
use Rattle.store_upgrade.proofs.Copied.{at_itself, at_place}
use Rattle.store_upgrade.proofs.Stamped.{renewed_more}
use Rattle.store_upgrade.proofs.stamps.names_of.Goals as goal

pub loop-one-preserved : goal.loop-one-preserved
loop-one-preserved c q =
    c.in_ok-note_name.ensures q ∙ ap (λ (o : Option Hash). option_or o (renewed (at_place c.args.moved.now c.loop-one.one-index ∷ []) q)) (c.loop-one.invariant q)
    ∙ sym (renewed_more c.args.moved.now c.loop-one.one-index (at_place c.args.moved.now c.loop-one.one-index) q c.loop-one-test.true (at_itself c.args.moved.now c.loop-one.one-index c.loop-one-test.true))

pub returns : goal.returns
returns c q = c.loop-one.invariant q ∙ ap (λ (l : List MovedRecord). renewed l q) (take_all c.loop-one.one-index c.args.moved.now c.loop-one-test.false)
