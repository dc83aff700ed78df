use Rattle.std.proofs.lemmas.Result.{err_from_is_err_and}
use Rattle.record_move.proofs.Stepping.{clear_made, goes_on, key_refused, other_refused, well_made}
use Rattle.record_move.proofs.moving.move_one.Goals as goal

pub returns-in_err-stands-clause-err : goal.returns-in_err-stands-clause-err
returns-in_err-stands-clause-err c =
    let p = err_from_is_err_and c.from_residual-in_err-stands.result c.from_residual-in_err-stands.ensures.1 in
    rw (p.1, p.2) (λ from start move line going is. other_refused from start move c.args.moving.now c.args.old line going is c.in_ok-sig.sig c.in_ok-sig.ensures c.in_err-stands.field-0.0 c.in_err-stands.ensures.err)

pub returns-in_err-know_key-clause-err : goal.returns-in_err-know_key-clause-err
returns-in_err-know_key-clause-err c =
    let p = err_from_is_err_and c.from_residual-in_err-know_key.result c.from_residual-in_err-know_key.ensures.1 in
    rw (p.1, p.2) (λ from start move line going is. key_refused from start move c.args.moving.now c.args.old line going is c.in_ok-sig.sig c.in_ok-sig.ensures c.in_err-know_key.field-0.0 c.in_err-know_key.ensures.err)

pub returns-clause-going : goal.returns-clause-going
returns-clause-going c = λ from start move line going is.
    let s = goes_on from start move c.args.moving.now c.args.old line going is c.in_ok-sig.sig c.in_ok-sig.ensures c.stand_for.new.rows c.stand_for.new.adding c.note.new.names.entries c.note.new.records.items c.in_ok-stands.stands.name c.in_ok-stands.stands.unihash
    c.in_ok-stands.ensures.stands c.in_ok-stands.ensures.name c.in_ok-note.ensures.names c.in_ok-note.ensures.records in
    record { told = s.told; names = s.names_are; rounds = s.rounds_are }

pub returns-clause-clear : goal.returns-clause-clear
returns-clause-clear c = λ from start move line going is spelled well.
    clear_made from start move c.args.moving.now c.args.old line going is c.in_ok-sig.sig c.in_ok-sig.ensures c.stand_for.new.rows c.stand_for.new.adding c.in_ok-stands.stands.unihash c.know_key.new.keys
    c.in_ok-stands.ensures.stands c.in_ok-know_key.ensures.more c.in_ok-know_key.ensures.known c.in_ok-stands.ensures.sound spelled well

pub returns-clause-well : goal.returns-clause-well
returns-clause-well c = λ from start move line going is spelled well.
    well_made from start move c.args.moving.now c.args.old line going is c.in_ok-sig.sig c.in_ok-sig.ensures c.stand_for.new.rows c.stand_for.new.adding c.in_ok-stands.stands.unihash c.know_key.new.keys
    c.in_ok-stands.ensures.stands c.in_ok-know_key.ensures.more c.in_ok-know_key.ensures.known c.in_ok-stands.ensures.sound spelled well
