use Rattle.std.proofs.Common.{◌∙◌, sym}
use Rattle.std.proofs.lemmas.Result.{err_from_is_err_and}
use Rattle.store_model.specs.Stored.{SpellsShort}
use Rattle.sig_gen.proofs.Records.{only_bad}
use Rattle.sig_gen.proofs.ShortLaws.{short_fails_at, short_no_paths, short_stored_again, short_stored_takes, spells_short}
use Rattle.sig_gen.proofs.record.decode_short_stored.Goals as goal

pub returns-in_err-read-clause-only : goal.returns-in_err-read-clause-only
returns-in_err-read-clause-only c = λ stored h.
    let p = err_from_is_err_and c.from_residual.result c.from_residual.ensures.1 in
    rw (p.1, p.2) (short_fails_at c.in_err-read.field-0.0 c.args.bytes.now c.in_err-read.ensures stored h)

pub are_paths-requires : goal.are_paths-requires
are_paths-requires c = rw c.lines.ensures ((short_stored_takes c.args.bytes.now _ c.in_ok-read.ensures).lines.1)

pub returns-then-are_paths-clause-found : goal.returns-then-are_paths-clause-found
returns-then-are_paths-clause-found c = spells_short c.args.bytes.now _ (short_stored_takes c.args.bytes.now _ c.in_ok-read.ensures) (rw c.lines.ensures at c.if-are_paths.ensures)

pub returns-then-are_paths-clause-only : goal.returns-then-are_paths-clause-only
returns-then-are_paths-clause-only c = λ stored h. sym (short_stored_again c.args.bytes.now stored h) ∙ c.in_ok-read.ensures

pub returns-else-are_paths-clause-only : goal.returns-else-are_paths-clause-only
returns-else-are_paths-clause-only c = λ stored h. short_no_paths c.args.bytes.now _ c.in_ok-read.ensures (rw c.lines.ensures at c.if-are_paths.ensures) stored h

pub returns-in_err-read-clause-bad : goal.returns-in_err-read-clause-bad
returns-in_err-read-clause-bad c = only_bad (SpellsShort c.args.bytes.now) c.from_residual.result (returns-in_err-read-clause-only c)

pub returns-else-are_paths-clause-bad : goal.returns-else-are_paths-clause-bad
returns-else-are_paths-clause-bad c = λ is stored h. let none = returns-else-are_paths-clause-only c stored h in cc none
