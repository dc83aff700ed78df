use Rattle.std.proofs.Common.{◌≡◌, sym, ap, arith, Bool, true, false, not, length}
use Rattle.std.specs.Bool.{MatchBool}
use Rattle.run_workers.proofs.Sinces.{lines_first, since_first}
use Rattle.run_workers.proofs.shared.Shared.new.Goals as goal

when_not : (b : Bool) (A B : Type 0) → MatchBool b A B → not b ≡ true → B
when_not true A B m e = absurd cc
when_not false A B m e = m

when_so : (b : Bool) (A B : Type 0) → MatchBool b A B → not b ≡ false → A
when_so true A B m e = m
when_so false A B m e = absurd cc

pub invariant_of-result : goal.invariant_of-result
invariant_of-result g c = record {
  since = since_first g.D.Disk.tells g.W.Sink.tells g.K.Began.alike g.D.Disk.story g.W.Sink.written g.W.Sink.faults g.K.Began.first g.K.Began.faults g.K.Began.gives c.args.state c.requires.first c.requires.faults;
  within = omega arith;
  whole = λ w. (when_not _ _ _ c.has_fault-whole.ensures w, ap length (sym c.requires.none));
  faulty = λ w. when_so _ _ _ c.has_fault-whole.ensures w;
  lines = lines_first g.D.Disk.tells g.W.Sink.tells g.K.Began.alike g.D.Disk.story g.W.Sink.written g.W.Sink.faults g.K.Began.first g.K.Began.faults g.K.Began.gives c.args.state c.requires.first;
}
