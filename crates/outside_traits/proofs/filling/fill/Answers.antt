use Rattle.std.proofs.Common.{◌∙◌, arith, ap, refl}
use Rattle.std.specs.Prelude.{Contains}
use Rattle.tree_model.specs.Path.{inside}
use Rattle.outside_traits.proofs.Listing.{listed_true}
use Rattle.outside_traits.proofs.Steps.{filling_start, filling_lays, filling_free, filling_listed, filling_more, filling_end}
use Rattle.outside_traits.proofs.filling.fill.Goals as goal

pub loop-path-init : goal.loop-path-init
loop-path-init g c = record { faults = refl; filling = λ told. filling_start (c.requires.cleared told) }

pub put_entry-requires-clause-free : goal.put_entry-requires-clause-free
put_entry-requires-clause-free g c told =
    let path_is = c.as_str-in-loop-path-2.ensures ∙ c.in_ok-full.ensures ∙ ap (inside c.args.folder.now) c.as_str.ensures in
    rw path_is (filling_free c.loop-path-item.result (omega arith) c.requires.tree c.loop-path-item.is (c.loop-path.invariant.filling told))

pub put_entry-requires-clause-told : goal.put_entry-requires-clause-told
put_entry-requires-clause-told g c told some =
    let path_is = c.as_str-in-loop-path-2.ensures ∙ c.in_ok-full.ensures ∙ ap (inside c.args.folder.now) c.as_str.ensures in
    let asked_is = c.as_str-in-loop-path.ensures ∙ c.in_ok-full.ensures ∙ ap (inside c.args.folder.now) c.as_str.ensures in
    let listed = filling_listed c.loop-path-item.result (omega arith) c.requires.tree c.loop-path-item.is (c.loop-path.invariant.filling told) (c.requires.cleared told) (rw path_is at some) in
    listed_true c.is_listed-may_be_held.result (Contains c.args.listed.now c.as_str-in-loop-path.result.now) (c.is_listed-may_be_held.ensures (c.requires.cleared told).ascending) (rw asked_is listed)

pub returns-in_err-put_entry-clause-lays : goal.returns-in_err-put_entry-clause-lays
returns-in_err-put_entry-clause-lays g c told =
    let path_is = c.as_str-in-loop-path-2.ensures ∙ c.in_ok-full.ensures ∙ ap (inside c.args.folder.now) c.as_str.ensures in
    filling_lays c.loop-path-item.result (omega arith) c.requires.tree c.loop-path-item.is (c.loop-path.invariant.filling told) (rw path_is at (c.put_entry.ensures.puts told))

pub loop-path-preserved : goal.loop-path-preserved
loop-path-preserved g c = record {
  faults = c.in_ok-put_entry.ensures.cause.stayed ∙ c.loop-path.invariant.faults;
  filling = λ told.
      let path_is = c.as_str-in-loop-path-2.ensures ∙ c.in_ok-full.ensures ∙ ap (inside c.args.folder.now) c.as_str.ensures in
      filling_more c.loop-path-item.result (omega arith) c.requires.tree c.loop-path-item.is (c.loop-path.invariant.filling told)
      (rw path_is at (c.put_entry.ensures.puts told)) (rw path_is at (c.in_ok-put_entry.ensures.held told));
}

pub returns-clause-held : goal.returns-clause-held
returns-clause-held g c told = filling_end c.loop-path.path-index (omega arith) c.requires.tree (c.loop-path.invariant.filling told)
