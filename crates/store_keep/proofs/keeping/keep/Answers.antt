use Rattle.std.proofs.Common.{refl, ◌∙◌, ap}
use Rattle.store_keep.specs.Tries.{marked_in}
use Rattle.store_keep.proofs.Closures.{closed_of}
use Rattle.store_keep.proofs.Trying.{kept_more}
use Rattle.store_keep.proofs.keeping.keep.Goals as goal

pub loop-place-init : goal.loop-place-init
loop-place-init c = record {
  kept = record { first = c.closure-marks.result.items; closure = c.closure-marks.ensures; tried = refl };
  long = c.closure-marks.ensures.long ∙ c.requires.long;
  count = c.count_of-count.ensures ∙ ap marked_in c.deref.ensures.value;
  closed = closed_of c.args.edges.now c.args.roots.items c.closure-marks.result.items c.closure-marks.ensures;
}

pub loop-place-preserved : goal.loop-place-preserved
loop-place-preserved c = record {
  kept = kept_more c.args.edges.now c.args.roots.items c.args.order.now c.args.limit c.loop-place.place-index _ 0 c.loop-place.kept.marks.items c.try_record.new.kept.marks.items c.loop-place-test.true refl c.loop-place.invariant.kept c.in_ok-try_record.ensures.tried;
  long = c.in_ok-try_record.ensures.long;
  count = c.in_ok-try_record.ensures.count;
  closed = c.in_ok-try_record.ensures.closed;
}
