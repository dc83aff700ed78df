use Rattle.std.proofs.Common.{refl, sym, ◌∙◌, codes}
use lib.Utf8.{encode}
use Rattle.bb_parser.proofs.Cuts.{prefix-cut}
use Rattle.bb_parser.proofs.names.operator_at.Goals as goal

pub returns-then-starts_with-clause-cut : goal.returns-then-starts_with-clause-cut
unfolding encode
returns-then-starts_with-clause-cut c = prefix-cut c.args.text.now (codes "??=") (sym c.starts_with.ensures.value ∙ c.if-starts_with.true) (codes "??=", (refl, refl))

pub returns-then-starts_with-2-clause-cut : goal.returns-then-starts_with-2-clause-cut
unfolding encode
returns-then-starts_with-2-clause-cut c = prefix-cut c.args.text.now (codes ":=") (sym c.starts_with-2.ensures.value ∙ c.if-starts_with-2.true) (codes ":=", (refl, refl))

pub returns-then-starts_with-3-clause-cut : goal.returns-then-starts_with-3-clause-cut
unfolding encode
returns-then-starts_with-3-clause-cut c = prefix-cut c.args.text.now (codes "?=") (sym c.starts_with-3.ensures.value ∙ c.if-starts_with-3.true) (codes "?=", (refl, refl))

pub returns-then-starts_with-4-clause-cut : goal.returns-then-starts_with-4-clause-cut
unfolding encode
returns-then-starts_with-4-clause-cut c = prefix-cut c.args.text.now (codes "+=") (sym c.starts_with-4.ensures.value ∙ c.if-starts_with-4.true) (codes "+=", (refl, refl))

pub returns-then-starts_with-5-clause-cut : goal.returns-then-starts_with-5-clause-cut
unfolding encode
returns-then-starts_with-5-clause-cut c = prefix-cut c.args.text.now (codes "=+") (sym c.starts_with-5.ensures.value ∙ c.if-starts_with-5.true) (codes "=+", (refl, refl))

pub returns-then-starts_with-6-clause-cut : goal.returns-then-starts_with-6-clause-cut
unfolding encode
returns-then-starts_with-6-clause-cut c = prefix-cut c.args.text.now (codes ".=") (sym c.starts_with-6.ensures.value ∙ c.if-starts_with-6.true) (codes ".=", (refl, refl))

pub returns-then-starts_with-7-clause-cut : goal.returns-then-starts_with-7-clause-cut
unfolding encode
returns-then-starts_with-7-clause-cut c = prefix-cut c.args.text.now (codes "=.") (sym c.starts_with-7.ensures.value ∙ c.if-starts_with-7.true) (codes "=.", (refl, refl))

pub returns-then-starts_with-8-clause-cut : goal.returns-then-starts_with-8-clause-cut
unfolding encode
returns-then-starts_with-8-clause-cut c = prefix-cut c.args.text.now (codes "=") (sym c.starts_with-8.ensures.value ∙ c.if-starts_with-8.true) (codes "=", (refl, refl))
