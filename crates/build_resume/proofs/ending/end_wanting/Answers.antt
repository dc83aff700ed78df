use Rattle.build_resume.proofs.Statuses.{wrote, wrote_want}
use Rattle.build_resume.proofs.ending.end_wanting.Goals as goal

pub returns-clause-text : goal.returns-clause-text
returns-clause-text g c told plan tale base is =
    wrote_want c.write_all-written.result g.W.Sink.tells (g.W.Sink.written c.args.sink.now) (g.W.Sink.written c.write_all-written.new.sink) (g.W.Sink.faults c.args.sink.now) (g.W.Sink.faults c.write_all-written.new.sink) plan tale base
    c.write_all-written.ensures.ok c.write_all-written.ensures.err c.write_all-written.ensures.cause told is

pub returns-clause-stays : goal.returns-clause-stays
returns-clause-stays g c told front is =
    wrote c.write_all-written.result g.W.Sink.tells (g.W.Sink.written c.args.sink.now) (g.W.Sink.written c.write_all-written.new.sink) _ c.write_all-written.ensures.ok c.write_all-written.ensures.err told front is
