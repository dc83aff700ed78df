use Rattle.std.proofs.Common.{arith}
use Rattle.build_store.proofs.KnownKeys.{of_rows_more, rows_known_more}
use Rattle.build_store.proofs.keys.keys_of.Goals as goal

pub loop-place-preserved : goal.loop-place-preserved
loop-place-preserved c = record {
  knows = rows_known_more c.args.index.now c.loop-place.place c.loop-place.keys c.know_at.new.keys (omega arith) c.in_ok-know_at.ensures c.loop-place.invariant.knows;
  of = of_rows_more c.args.index.now c.loop-place.place c.loop-place.keys c.know_at.new.keys (omega arith) c.in_ok-know_at.ensures c.loop-place.invariant.of;
}
