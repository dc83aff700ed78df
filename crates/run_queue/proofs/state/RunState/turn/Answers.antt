use Rattle.run_queue.proofs.Tried.{told_by_look, turns_clean_from, turns_restore_from}
use Rattle.run_queue.proofs.Trying.{turn_falls}
use Rattle.run_queue.proofs.state.RunState.turn.Goals as goal

pub returns-then-branch-clause-clean : goal.returns-then-branch-clause-clean
returns-then-branch-clause-clean g c tells o run =
    turns_clean_from c.args.self.now c.look.new.self (told_by_look c.args.self.now c.look.new.self c.in_ok-look.ensures.looks) g.D.Disk.story g.W.Sink.written o c.act.result
    (c.act.ensures.clean tells o (c.in_ok-look.ensures.run tells o run))

pub returns-then-branch-clause-falls : goal.returns-then-branch-clause-falls
returns-then-branch-clause-falls g c =
    turn_falls c.args.self.now c.look.new.self c.act.new.self c.in_ok-look.ensures.looks c.in_ok-look.ensures.remembers c.kept.ensures.long c.kept.ensures.current c.act.result c.act.ensures.gives_up

pub returns-then-branch-clause-run : goal.returns-then-branch-clause-run
returns-then-branch-clause-run g c tells o run = c.act.ensures.run tells o (c.in_ok-look.ensures.run tells o run)

pub returns-then-branch-clause-restores : goal.returns-then-branch-clause-restores
returns-then-branch-clause-restores g c =
    turns_restore_from c.args.self.now c.look.new.self c.act.new.self (told_by_look c.args.self.now c.look.new.self c.in_ok-look.ensures.looks) c.act.result c.act.ensures.restores
