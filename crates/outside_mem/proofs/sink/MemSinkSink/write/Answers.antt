use Rattle.std.proofs.Common.{◌≡◌, ◌+◌, length, false, nat_lt, sym, ◌∙◌, arith}
use Rattle.std.specs.Prelude.{◌||◌}
use Rattle.std.proofs.lemmas.Bool.Decides.{nat_tests}
use Rattle.outside_mem.specs.Plan.{next_fails}
use Rattle.outside_mem.specs.Told.{room, sink_plan, text_of}
use Rattle.outside_mem.proofs.sink.MemSinkSink.write.Goals as goal

pub returns-clause-fails : goal.returns-clause-fails
returns-clause-fails c =
    let planned : next_fails (sink_plan c.args.self.now) ≡ false = sym c.next_fails-planned.ensures.fails ∙ c.if-planned.false in
    let fits : nat_lt room (length (text_of c.args.self.now) + length c.args.piece.now) ≡ false = grind (arith, nat_tests) in
    λ i. sym planned i || sym fits i
