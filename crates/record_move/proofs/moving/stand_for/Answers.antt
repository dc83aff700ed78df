use Rattle.std.proofs.Common.{◌∙◌, sym, refl, subst, inl, inr}
use Rattle.std.proofs.lemmas.Result.{err_from_is_err_and}
use Rattle.record_move.specs.Adding.{IsStanding}
use Rattle.record_move.proofs.Standing.{has_stood, is_added}
use Rattle.record_move.proofs.moving.stand_for.Goals as goal

pub returns-in_err-unihash-clause-err : goal.returns-in_err-unihash-clause-err
returns-in_err-unihash-clause-err c =
    let text = c.in_ok-text.ensures.text in
    let name = c.name_by-name.ensures c.args.sig text in
    let p = err_from_is_err_and c.from_residual-in_err-unihash.result c.from_residual-in_err-unihash.ensures.1 in
    rw (p.1, p.2, sym name, sym text) c.in_err-unihash.ensures.err

pub returns-in-Some-clause-name : goal.returns-in-Some-clause-name
returns-in-Some-clause-name c = c.name_by-name.ensures c.args.sig c.in_ok-text.ensures.text

pub returns-in-Some-clause-stands : goal.returns-in-Some-clause-stands
returns-in-Some-clause-stands c = λ rounds.
    let text = c.in_ok-text.ensures.text in
    let name = c.name_by-name.ensures c.args.sig text in
    inl (has_stood c.args.rows.now c.name_by-name.result c.in_ok-text.text c.args.sig c.in-Some.unihash name text (subst (IsStanding c.args.rows.now c.name_by-name.result c.in_ok-text.text) c.in-Some.is c.in_ok-unihash.ensures.ok), refl, refl, refl)

pub returns-in_ok-unihash-in-None-clause-name : goal.returns-in_ok-unihash-in-None-clause-name
returns-in_ok-unihash-in-None-clause-name c = c.name_by-name.ensures c.args.sig c.in_ok-text.ensures.text

pub returns-in_ok-unihash-in-None-clause-stands : goal.returns-in_ok-unihash-in-None-clause-stands
returns-in_ok-unihash-in-None-clause-stands c = λ rounds.
    let text = c.in_ok-text.ensures.text in
    let name = c.name_by-name.ensures c.args.sig text in
    inr (is_added c.args.rows.now c.add.new.rows c.args.adding.now.added.items c.add.new.adding.added.items c.add.new.adding.rounds.entries c.name_by-name.result c.in_ok-text.text c.args.sig c.args.manifest c.in_ok-unihash-in-None.unihash name text
    (subst (IsStanding c.args.rows.now c.name_by-name.result c.in_ok-text.text) c.in-None.is c.in_ok-unihash.ensures.ok) c.in_ok-unihash-in-None.ensures.unihash c.in_ok-unihash-in-None.ensures.rows (c.in_ok-unihash-in-None.ensures.adds rounds))
