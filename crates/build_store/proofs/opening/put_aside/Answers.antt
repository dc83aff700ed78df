use Rattle.std.proofs.Common.{◌≡◌, ◌∙◌, refl, sym, subst}
use Rattle.outside_traits.specs.Store.{IsFree, Store}
use Rattle.outside_traits.proofs.Calls.{reads_passes, same_so}
use Rattle.stamp_store.specs.Stamp.{TakesAway, old_path, stamp_path}
use Rattle.stamp_store.proofs.Aside.{places_differ, renamed_aside, takes_nothing}
use Rattle.store_opening.specs.Paths.{IsLaidOut}
use Rattle.build_store.proofs.EndingRuns.{moved_gone}
use Rattle.build_store.proofs.Free.{free_old}
use Rattle.outside_traits.specs.Passes.{Same}
use Rattle.outside_traits.proofs.Runs.{passes_none}
use Rattle.build_store.proofs.opening.put_aside.Goals as goal

pub returns-in_err-read-clause-images : goal.returns-in_err-read-clause-images
returns-in_err-read-clause-images g c told = same_so (TakesAway c.args.folder.now) (takes_nothing c.args.folder.now) (reads_passes (c.read.ensures.told told))

pub returns-then-is_none-clause-images : goal.returns-then-is_none-clause-images
returns-then-is_none-clause-images g c told = same_so (TakesAway c.args.folder.now) (takes_nothing c.args.folder.now) (reads_passes (c.read.ensures.told told))

pub returns-then-is_none-clause-same : goal.returns-then-is_none-clause-same
returns-then-is_none-clause-same g c told = reads_passes (c.read.ensures.told told)

pub rename-requires-clause-free : goal.rename-requires-clause-free
rename-requires-clause-free g c told =
    let aside : c.as_str-3.result.now ≡ old_path c.args.folder.now = c.as_str-3.ensures ∙ c.in_ok-aside.ensures in
    let laid = subst (λ (h : Store). IsLaidOut h) (sym (reads_passes (c.read.ensures.told told)).held) (c.requires.laid_out told) in
    subst (IsFree (g.D.Disk.story c.read.new.self).held) (sym aside) (free_old (g.D.Disk.story c.read.new.self).held c.args.folder.now c.requires.parts laid)

pub returns-in_err-rename-clause-images : goal.returns-in_err-rename-clause-images
returns-in_err-rename-clause-images g c told =
    let at : c.as_str-2.result.now ≡ stamp_path c.args.folder.now = c.as_str-2.ensures ∙ c.in_ok-path.ensures in
    let aside : c.as_str-3.result.now ≡ old_path c.args.folder.now = c.as_str-3.ensures ∙ c.in_ok-aside.ensures in
    renamed_aside c.args.folder.now (g.met.D.Disk.sound c.read.new.self told) (reads_passes (c.read.ensures.told told)) (rw (at, aside) at (c.rename.ensures.told told))

pub returns-clause-images : goal.returns-clause-images
returns-clause-images g c told =
    let at : c.as_str-2.result.now ≡ stamp_path c.args.folder.now = c.as_str-2.ensures ∙ c.in_ok-path.ensures in
    let aside : c.as_str-3.result.now ≡ old_path c.args.folder.now = c.as_str-3.ensures ∙ c.in_ok-aside.ensures in
    renamed_aside c.args.folder.now (g.met.D.Disk.sound c.read.new.self told) (reads_passes (c.read.ensures.told told)) (rw (at, aside) at (c.rename.ensures.told told))

pub returns-clause-gone : goal.returns-clause-gone
returns-clause-gone g c told =
    let at : c.as_str-2.result.now ≡ stamp_path c.args.folder.now = c.as_str-2.ensures ∙ c.in_ok-path.ensures in
    let aside : c.as_str-3.result.now ≡ old_path c.args.folder.now = c.as_str-3.ensures ∙ c.in_ok-aside.ensures in
    moved_gone (stamp_path c.args.folder.now) (old_path c.args.folder.now) (g.D.Disk.story c.read.new.self) (g.D.Disk.story c.rename.new.self) (g.D.Disk.story c.rename.new.self) (places_differ c.args.folder.now) (rw (at, aside) at (c.in_ok-rename.ensures.told told))
    (passes_none (g.D.Disk.story c.rename.new.self) Same (λ i. refl))
