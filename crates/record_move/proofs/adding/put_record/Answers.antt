use Rattle.record_move.proofs.Numbering.{record_added}
use Rattle.record_move.proofs.adding.put_record.Goals as goal

pub returns-clause-adds : goal.returns-clause-adds
returns-clause-adds c = λ rounds.
    record_added c.args.adding.now.added.items c.args.name c.args.stored c.round_of_record-round.result c.push.new.self.items c.args.adding.now.rounds.entries c.put_first.new.map.entries rounds
    (c.round_of_record-round.ensures.round c.args.adding.now.added.items rounds) c.in_ok-push.ensures.items c.in_ok-put_first.ensures
