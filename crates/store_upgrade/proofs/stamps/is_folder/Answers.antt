use Rattle.std.proofs.Common.{arith}
use Rattle.store_opening.proofs.Slashes.{none_more, slash_more}
use Rattle.store_upgrade.proofs.stamps.is_folder.Goals as goal
use Rattle.store_upgrade.proofs.stamps.is_folder.Goals.{else-byte-eq47, then-byte-eq47}

pub loop-byte-preserved : goal.loop-byte-preserved
loop-byte-preserved c = elim c.if-byte-eq47.branch [
  | then-byte-eq47 w ↦
      let more = slash_more c.as_bytes-bytes.result.now c.loop-byte.byte-index c.loop-byte-test.true w.if-byte-eq47.true in
      let is = w.slashes-is in
      record { few = let few = c.loop-byte.invariant.few in omega (arith, is, few); counted = let counted = c.loop-byte.invariant.counted in omega (arith, is, counted, more) }
  | else-byte-eq47 w ↦
      let more = none_more c.as_bytes-bytes.result.now c.loop-byte.byte-index c.loop-byte-test.true w.if-byte-eq47.false in
      let is = w.slashes-is in
      record { few = let few = c.loop-byte.invariant.few in omega (arith, is, few); counted = let counted = c.loop-byte.invariant.counted in omega (arith, is, counted, more) }
]
