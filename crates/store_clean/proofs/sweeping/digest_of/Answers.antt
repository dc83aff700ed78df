use Rattle.std.proofs.Common.{drop, refl, subst, sym, take}
use Rattle.store_opening.proofs.Surveyed.{none_weaker, some_weaker}
use Rattle.store_clean.specs.Steps.{IsEnd}
use Rattle.store_clean.proofs.Swept.{digest_no_end, digest_other, digest_short, digest_some, rest_is}
use Rattle.store_clean.proofs.sweeping.digest_of.Goals as goal

pub returns-then-path-lt64-clause-none : goal.returns-then-path-lt64-clause-none
returns-then-path-lt64-clause-none c name h at = digest_short c.args.path.now name c.if-path-lt64.true h at

pub returns-then-not-is_end-clause-none : goal.returns-then-not-is_end-clause-none
returns-then-not-is_end-clause-none c name h at = digest_no_end c.args.path.now (drop 64 c.args.path.now) name refl (λ e. c.if-not-is_end.ensures (subst IsEnd (sym (rest_is c.args.path.now)) e)) h at

pub returns-clause-some : goal.returns-clause-some
returns-clause-some c = some_weaker c.name_by.result (λ name is. digest_some c.args.path.now (take 64 c.args.path.now) (drop 64 c.args.path.now) name refl refl (subst IsEnd (rest_is c.args.path.now) c.if-not-is_end.ensures) is) c.name_by.ensures.some

pub returns-clause-none : goal.returns-clause-none
returns-clause-none c = none_weaker c.name_by.result (λ never name h at. digest_other c.args.path.now (take 64 c.args.path.now) name refl (λ k e. never name k e) h at) c.name_by.ensures.none
