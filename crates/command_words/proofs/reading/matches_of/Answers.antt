use Rattle.std.proofs.Common.{◌∙◌, sym, map}
use Rattle.std.proofs.lemmas.Result.{err_from_is_err_and}
use Rattle.clap.specs.Simple.{app_of}
use Rattle.command_words.proofs.NumberLemmas.{sample_found}
use Rattle.command_words.proofs.ParseLemmas.{refused_at_err, rows_found, taken_at_ok}
use Rattle.command_words.proofs.reading.matches_of.Goals as goal

pub returns-clause-taken : goal.returns-clause-taken
returns-clause-taken c = taken_at_ok (app_of c.in_ok-command.command) (map (λ word. word.now) c.args.words.now) c.in_ok-command.ensures c.in_ok-try_get_matches_from.ensures.kinds

pub returns-clause-rows : goal.returns-clause-rows
returns-clause-rows c = rows_found (app_of c.in_ok-command.command) (map (λ word. word.now) c.args.words.now) c.in_ok-try_get_matches_from.field-0
    c.in_ok-command.ensures c.in_ok-try_get_matches_from.ensures.matches

pub returns-clause-number : goal.returns-clause-number
returns-clause-number c = sample_found c.in_ok-command.command c.in_ok-try_get_matches_from.field-0 c.in_ok-command.ensures c.in_ok-try_get_matches_from.ensures.parsed

pub returns-in_err-try_get_matches_from-clause-usage : goal.returns-in_err-try_get_matches_from-clause-usage
returns-in_err-try_get_matches_from-clause-usage c =
    let error = c.in_err-try_get_matches_from.field-0.0 in
    let given = err_from_is_err_and c.from_residual-in_err-try_get_matches_from.result c.from_residual-in_err-try_get_matches_from.ensures.1 in
    rw given.1 (λ usage. refused_at_err (app_of c.in_ok-command.command) (map (λ word. word.now) c.args.words.now) error
    c.in_ok-command.ensures c.in_err-try_get_matches_from.ensures.kinds (sym given.2 ∙ usage))
