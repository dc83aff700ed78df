use Rattle.std.proofs.Common.{sym, subst}
use Rattle.std.specs.Str.{IsUtf8}
use Rattle.stamp_store.proofs.Digits.{digits_utf8}
use Rattle.store_clean.proofs.stamps.name_by.Goals as goal

pub returns-in-Err-clause-none : goal.returns-in-Err-clause-none
returns-in-Err-clause-none c hash is same = c.in-Err.ensures.cases.0 (subst IsUtf8 (sym same) (digits_utf8 hash))
