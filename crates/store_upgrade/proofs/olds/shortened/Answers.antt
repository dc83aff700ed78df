use Rattle.std.proofs.Common.{◌≡◌, Err, Some}
use Rattle.store_model.specs.Spelling.{short_stored_of}
use Rattle.store_upgrade.proofs.Olden.{in_order_of, short_of_old}
use Rattle.store_upgrade.proofs.olds.shortened.Goals as goal

pub returns-in-Ok : goal.returns-in-Ok
returns-in-Ok c =
    let spells = c.in_ok-bytes.ensures.spells (in_order_of c.args.old.now c.requires) in
    let same : Some (short_stored_of c.args.old.now.stored) ≡ Some c.in-Ok.short = c.in-Ok.ensures.only (short_stored_of c.args.old.now.stored) (short_of_old c.in_ok-bytes.bytes c.as_slice.result.now c.args.old.now c.as_slice.ensures spells) in
    cc

pub unreachable-requires : goal.unreachable-requires
unreachable-requires c =
    let spells = c.in_ok-bytes.ensures.spells (in_order_of c.args.old.now c.requires) in
    c.in-Err-BadRecord.ensures.bad (λ i. Err (c.in-Err-BadRecord.field-0-is i)) (short_stored_of c.args.old.now.stored) (short_of_old c.in_ok-bytes.bytes c.as_slice.result.now c.args.old.now c.as_slice.ensures spells)
