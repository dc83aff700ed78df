use Rattle.std.proofs.Common.{arith, ◌<◌, ◌-◌, length}
use Rattle.tree_model.proofs.EditLemmas.{begin_more, paths_more, run_stops, run_ends, listing_from_run, listing_same, length_later}
use Rattle.tree_model.proofs.edit.listing_of.Goals as goal

pub returns-then-not-begins_with : goal.returns-then-not-begins_with
returns-then-not-begins_with c =
    let n = length_later c.args.entries.now c.start_of-start.result in
    listing_same c.args.entries.now c.args.prefix.now c.loop-entry.paths _ c.loop-entry.invariant.paths
    (listing_from_run c.args.entries.now c.args.prefix.now c.start_of-start.result c.loop-entry.entry-index c.requires c.start_of-start.ensures
    (run_stops c.args.entries.now c.args.prefix.now c.as_str.result.now c.start_of-start.result c.loop-entry.entry-index c.entry-item.result c.start_of-start.ensures.within (omega (arith, c.loop-entry-test.true, n)) c.entry-item.is c.as_str.ensures c.if-not-begins_with.ensures c.loop-entry.invariant.begin))

pub loop-entry-preserved : goal.loop-entry-preserved
loop-entry-preserved c =
    let n = length_later c.args.entries.now c.start_of-start.result in
    let lt : c.loop-entry.entry-index < length c.args.entries.now - c.start_of-start.result = omega (arith, c.loop-entry-test.true, n) in record {
      paths = paths_more c.args.entries.now c.start_of-start.result c.loop-entry.entry-index c.entry-item.result c.loop-entry.paths c.push.new.self c.in_ok-copy.field-0 c.start_of-start.ensures.within lt c.entry-item.is c.in_ok-copy.ensures c.loop-entry.invariant.paths c.in_ok-push.ensures.ok;
      begin = begin_more c.args.entries.now c.args.prefix.now c.as_str.result.now c.start_of-start.result c.loop-entry.entry-index c.entry-item.result c.start_of-start.ensures.within lt c.entry-item.is c.as_str.ensures c.if-not-begins_with.ensures c.loop-entry.invariant.begin;
    }

pub returns : goal.returns
returns c =
    let n = length_later c.args.entries.now c.start_of-start.result in
    listing_same c.args.entries.now c.args.prefix.now c.loop-entry.paths _ c.loop-entry.invariant.paths
    (listing_from_run c.args.entries.now c.args.prefix.now c.start_of-start.result c.loop-entry.entry-index c.requires c.start_of-start.ensures
    (run_ends c.args.entries.now c.args.prefix.now c.start_of-start.result c.loop-entry.entry-index c.start_of-start.ensures.within (omega (arith, c.loop-entry-test.false, n)) (omega (arith, c.loop-entry.auto.entry-index-end, n)) c.loop-entry.invariant.begin))
