use Rattle.std.proofs.Common.{◌≡◌, ◌++◌, ◌∷◌, [], ◌⊎◌, ℕ, List, subst}
use Rattle.store_model.specs.Opened.{IsKeyPlace}
use Rattle.store_opening.proofs.Doomed.{keys_all, keys_more, keys_none}
use Rattle.store_opening.proofs.keys.survey_keys.Goals as goal

pub loop-file-init : goal.loop-file-init
loop-file-init c = λ held are. keys_none held c.args.doomed.now.items

pub loop-file-preserved : goal.loop-file-preserved
loop-file-preserved c = λ held are.
    keys_more held c.args.files.now c.loop-file.file-index c.file-item.result c.args.doomed.now.items c.loop-file.doomed.items c.doom_misplaced.new.doomed.items are c.loop-file-test.true c.file-item.is (c.loop-file.invariant held are)
    (subst (λ (p : List ℕ). (IsKeyPlace p × (c.doom_misplaced.new.doomed.items ≡ c.loop-file.doomed.items)) ⊎ ((IsKeyPlace p → ⊥) × (c.doom_misplaced.new.doomed.items ≡ c.loop-file.doomed.items ++ p ∷ []))) c.as_str.ensures c.in_ok-doom_misplaced.ensures)

pub returns : goal.returns
returns c = λ held are. keys_all held c.args.files.now c.loop-file.file-index c.args.doomed.now.items c.loop-file.doomed.items c.loop-file-test.false are (c.loop-file.invariant held are)
