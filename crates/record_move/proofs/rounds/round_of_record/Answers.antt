use Rattle.std.proofs.Common.{arith}
use Rattle.record_move.specs.Named.{value_at}
use Rattle.record_move.proofs.Numbering.{behind_few, fold_few}
use Rattle.record_move.proofs.rounds.round_of_record.Goals as goal

pub returns-clause-few : goal.returns-clause-few
returns-clause-few c = λ n few.
    let one = fold_few c.args.rounds.now.entries c.as_slice.result.now 0 n few (omega arith) in
    let two = behind_few (value_at c.args.rounds.now.entries c.args.stored.now.unihash) n (few c.args.stored.now.unihash) in
    omega (arith, one, two, c.round_behind_all.ensures, c.round_behind.ensures, c.max.ensures)
