use Rattle.std.proofs.lemmas.Result.{on_ok_weaker}
use Rattle.record_move.proofs.Keeping.{known_now}
use Rattle.record_move.proofs.moving.know_key.Goals as goal

pub returns-clause-known : goal.returns-clause-known
returns-clause-known c =
    on_ok_weaker c.add.result (λ p. p.0) (known_now c.args.keys.now c.add.new.self c.in_ok-encode_key.field-0 c.args.sig.now.key c.add.result c.in_ok-encode_key.ensures.bytes c.add.ensures.added c.add.ensures.known)

pub returns-clause-more : goal.returns-clause-more
returns-clause-more c =
    on_ok_weaker c.add.result (λ p. p.1) (known_now c.args.keys.now c.add.new.self c.in_ok-encode_key.field-0 c.args.sig.now.key c.add.result c.in_ok-encode_key.ensures.bytes c.add.ensures.added c.add.ensures.known)
