use Rattle.std.proofs.Common.{◌≡◌, ◌≢◌, ◌+◌, ◌∙◌, get_or, subst, sym, take}
use Rattle.std.specs.Prelude.{Contains}
use Rattle.std.proofs.lemmas.List.{get_or_default}
use Rattle.outside_traits.proofs.Runs.{passes_so}
use Rattle.store_clean.specs.Cleared.{gone_path}
use Rattle.store_clean.specs.Steps.{TakesAway}
use Rattle.store_clean.proofs.Down.{above_gone, below_gone}
use Rattle.store_clean.proofs.Lists.{taken_all}
use Rattle.store_clean.proofs.Runs.{free_kept, gone_more, not_taken, not_touched, settled_by, taken_within, takes_first, takes_more}
use Rattle.store_clean.proofs.taking.take_all.Goals as goal

pub take_one-requires-clause-settled : goal.take_one-requires-clause-settled
take_one-requires-clause-settled g c told some =
    let q = c.as_str.result.now in
    let ne : q ≢ gone_path = λ e. c.requires.apart told (subst (Contains c.args.paths.now) (sym c.as_str.ensures ∙ e) (c.loop-path.path-index, c.loop-path-test.true, sym c.path-item.is)) in
    settled_by (g.D.Disk.story c.args.disk.now) (g.D.Disk.story c.loop-path.disk) (TakesAway (Contains (take c.loop-path.path-index c.args.paths.now))) q (c.requires.durable told) (c.loop-path.invariant.run told)
    (not_touched c.args.paths.now c.loop-path.path-index q (not_taken c.args.paths.now c.loop-path.path-index (g.D.Disk.story c.loop-path.disk).held q (c.loop-path.invariant.gone told) ne some) ne) some

pub take_one-requires-clause-apart : goal.take_one-requires-clause-apart
take_one-requires-clause-apart g c told = λ e. c.requires.apart told (subst (Contains c.args.paths.now) (sym c.as_str.ensures ∙ e) (c.loop-path.path-index, c.loop-path-test.true, sym c.path-item.is))

pub take_one-requires-clause-free : goal.take_one-requires-clause-free
take_one-requires-clause-free g c told = free_kept (Contains (take c.loop-path.path-index c.args.paths.now)) (g.D.Disk.story c.args.disk.now).held (g.D.Disk.story c.loop-path.disk).held (c.loop-path.invariant.run told).held above_gone below_gone (c.requires.free told)

pub loop-path-preserved : goal.loop-path-preserved
loop-path-preserved g c =
    let path = c.as_str.result.now in
    let is : path ≡ get_or c.args.paths.now c.loop-path.path-index path = c.as_str.ensures ∙ c.path-item.is ∙ get_or_default c.args.paths.now c.loop-path.path-index c.path-item.result path c.loop-path-test.true in
    record {
      faults = c.in_ok-take_one.ensures.cause.stayed ∙ c.loop-path.invariant.faults;
      run = λ told. takes_more c.args.paths.now c.loop-path.path-index path c.loop-path-test.true is ((g.D.Disk.story c.loop-path.disk).held path) (g.D.Disk.story c.args.disk.now) (g.D.Disk.story c.loop-path.disk) (g.D.Disk.story c.take_one.new.disk) (c.loop-path.invariant.run told) (c.take_one.ensures.moves told);
      gone = λ told. gone_more c.args.paths.now c.loop-path.path-index path c.loop-path-test.true is ((g.D.Disk.story c.loop-path.disk).held path) (g.D.Disk.story c.loop-path.disk).held (g.D.Disk.story c.take_one.new.disk).held (c.take_one.ensures.moves told).held (c.in_ok-take_one.ensures.gone told) (c.loop-path.invariant.gone told);
    }

pub returns-in_err-take_one-clause-takes : goal.returns-in_err-take_one-clause-takes
returns-in_err-take_one-clause-takes g c told =
    let path = c.as_str.result.now in
    let is : path ≡ get_or c.args.paths.now c.loop-path.path-index path = c.as_str.ensures ∙ c.path-item.is ∙ get_or_default c.args.paths.now c.loop-path.path-index c.path-item.result path c.loop-path-test.true in
    passes_so (TakesAway (Contains c.args.paths.now))
    (takes_more c.args.paths.now c.loop-path.path-index path c.loop-path-test.true is ((g.D.Disk.story c.loop-path.disk).held path) (g.D.Disk.story c.args.disk.now) (g.D.Disk.story c.loop-path.disk) (g.D.Disk.story c.take_one.new.disk) (c.loop-path.invariant.run told) (c.take_one.ensures.moves told))
    (λ i j takes. takes_first c.args.paths.now (c.loop-path.path-index + 1) i j (λ q has. taken_within c.args.paths.now (c.loop-path.path-index + 1) q has) takes)

pub returns-clause-gone : goal.returns-clause-gone
returns-clause-gone g c told q has = c.loop-path.invariant.gone told q (taken_all c.args.paths.now c.loop-path.path-index q c.loop-path-test.false has) (λ e. c.requires.apart told (subst (Contains c.args.paths.now) e has))
