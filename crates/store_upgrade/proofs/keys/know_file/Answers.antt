use Rattle.store_upgrade.proofs.Knowing.{all_kept, kept_after, known_after, known_of}
use Rattle.store_upgrade.proofs.keys.know_file.Goals as goal

pub returns-in_ok-copy-in-File-false-default-clause-known : goal.returns-in_ok-copy-in-File-false-default-clause-known
returns-in_ok-copy-in-File-false-default-clause-known c =
    known_of c.args.entry.now c.in-File-false-default.exec c.in-File-false-default.bytes c.in_ok-copy-in-File-false-default.field-0 c.add.new.self c.add.result c.in-File-false-default.is c.in_ok-copy-in-File-false-default.ensures
    (known_after c.args.keys.now c.add.new.self c.in_ok-copy-in-File-false-default.field-0 c.add.result c.add.ensures.added c.add.ensures.known)

pub returns-in_ok-copy-in-File-false-default-clause-kept : goal.returns-in_ok-copy-in-File-false-default-clause-kept
returns-in_ok-copy-in-File-false-default-clause-kept c = all_kept c.args.keys.now c.add.new.self c.add.result (λ bytes was. kept_after c.args.keys.now c.add.new.self c.in_ok-copy-in-File-false-default.field-0 bytes c.add.result c.add.ensures.added c.add.ensures.known was)
