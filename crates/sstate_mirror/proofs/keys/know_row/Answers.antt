use Rattle.std.proofs.Common.{◌≡◌, ◌∙◌, subst, List, ℕ, Some}
use Rattle.std.specs.Prelude.{OnOk}
use Rattle.record_move.specs.Known.{digest, key_named}
use Rattle.store_upgrade.proofs.Knowing.{all_kept, kept_after, known_after}
use Rattle.sstate_mirror.proofs.keys.know_row.Goals as goal

pub returns-clause-known : goal.returns-clause-known
returns-clause-known c =
    subst (λ (k : List ℕ). OnOk c.add.result (key_named c.add.new.self (digest k) ≡ Some k)) (c.in_ok-from_slice.ensures ∙ c.key.ensures)
    (known_after c.args.keys.now c.add.new.self c.in_ok-from_slice.field-0 c.add.result c.add.ensures.added c.add.ensures.known)

pub returns-clause-kept : goal.returns-clause-kept
returns-clause-kept c = all_kept c.args.keys.now c.add.new.self c.add.result (λ bytes was. kept_after c.args.keys.now c.add.new.self c.in_ok-from_slice.field-0 bytes c.add.result c.add.ensures.added c.add.ensures.known was)
