use Rattle.std.proofs.Common.{◌∙◌, sym}
use Rattle.std.proofs.lemmas.Bool.{false≢true}
use Rattle.build_store.specs.View.{signed_as}
use Rattle.build_store.proofs.Positions.{none_open, not_open, stands_at}
use Rattle.build_store.proofs.listed.place_signed.Goals as goal

pub returns-then-is_signed-clause-stands : goal.returns-then-is_signed-clause-stands
returns-then-is_signed-clause-stands c =
    let both = c.is_signed.ensures.is c.if-is_signed.true in
    stands_at (signed_as c.args.shared c.args.task.now c.args.sig.now) c.args.open_ones.now c.in-Some.place c.index-open_ones-place.result (sym c.in-Some.ensures) c.index-open_ones-place.is (both.0 ∙ c.in_ok-own-in-Some.ensures.text) both.1

pub returns-else-is_signed-clause-none : goal.returns-else-is_signed-clause-none
returns-else-is_signed-clause-none c =
    not_open (signed_as c.args.shared c.args.task.now c.args.sig.now) c.args.open_ones.now c.in-Some.place c.index-open_ones-place.result (sym c.in-Some.ensures) c.index-open_ones-place.is
    (λ sig shared. false≢true (sym c.if-is_signed.false ∙ c.is_signed.ensures.tells (sig ∙ sym c.in_ok-own-in-Some.ensures.text) shared))

pub returns-in-None-clause-none : goal.returns-in-None-clause-none
returns-in-None-clause-none c = none_open (signed_as c.args.shared c.args.task.now c.args.sig.now) c.args.open_ones.now (sym c.in-None.ensures)
