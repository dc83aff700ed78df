use Rattle.std.proofs.Common.{◌≡◌, ◌∙◌, sym, ap, subst, refl, List, ℕ}
use Rattle.outside_traits.specs.Passes.{Same}
use Rattle.outside_traits.specs.Store.{IsOpen, Store}
use Rattle.outside_traits.proofs.Calls.{ends_passes}
use Rattle.outside_traits.proofs.Held.{removes_ok}
use Rattle.outside_traits.proofs.Runs.{passes_none}
use Rattle.stamp_store.specs.Stamp.{old_path}
use Rattle.store_model.specs.Publication.{work_at}
use Rattle.store_opening.specs.Paths.{IsLaidOut}
use Rattle.build_store.specs.Noting.{AreNoted}
use Rattle.build_store.proofs.AsideRuns.{begun_on, gone_behind, on_ok_both, opens_behind, opens_same, out_aside, out_gone}
use Rattle.build_store.proofs.OpeningRuns.{any_of, aside_opens, room_laid, room_opens, room_swept}
use Rattle.build_store.proofs.Phasing.{laid_aside}
use Rattle.build_store.proofs.Sweeps.{on_ok_of}
use Rattle.build_store.proofs.opening.take_out.Goals as goal

pub returns-in_err-aside-clause-opens : goal.returns-in_err-aside-clause-opens
returns-in_err-aside-clause-opens g c told = λ p folder object items is. opens_same p (passes_none (g.D.Disk.story c.args.disk.now) Same (λ i. refl))

pub returns-in_err-end_sync-clause-opens : goal.returns-in_err-end_sync-clause-opens
returns-in_err-end_sync-clause-opens g c told = λ p folder object items is. opens_same p (ends_passes (g.met.D.Disk.sound c.args.disk.now told) (c.end_sync.ensures.told told))

pub returns-in_err-end_sync-clause-laid_out : goal.returns-in_err-end_sync-clause-laid_out
returns-in_err-end_sync-clause-laid_out g c told = subst (λ (h : Store). IsLaidOut h) (sym (ends_passes (g.met.D.Disk.sound c.args.disk.now told) (c.end_sync.ensures.told told)).held) (c.requires.laid_out told)

pub returns-in_err-remove-clause-opens : goal.returns-in_err-remove-clause-opens
returns-in_err-remove-clause-opens g c told = λ p folder object items is.
    let aside : c.as_str.result.now ≡ old_path p.folder = c.as_str.ensures ∙ c.in_ok-aside.ensures ∙ ap old_path (sym folder) in
    opens_behind p (ends_passes (g.met.D.Disk.sound c.args.disk.now told) (c.end_sync.ensures.told told)) (aside_opens p (out_aside p.folder (rw aside at (c.remove.ensures.told told))))

pub returns-in_err-remove-clause-laid_out : goal.returns-in_err-remove-clause-laid_out
returns-in_err-remove-clause-laid_out g c told =
    let aside : c.as_str.result.now ≡ old_path c.args.folder.now = c.as_str.ensures ∙ c.in_ok-aside.ensures in
    laid_aside c.args.folder.now (g.D.Disk.story c.end_sync.new.self).held (g.D.Disk.story c.remove.new.self).held c.requires.parts (out_aside c.args.folder.now (rw aside at (c.remove.ensures.told told))).held
    (subst (λ (h : Store). IsLaidOut h) (sym (ends_passes (g.met.D.Disk.sound c.args.disk.now told) (c.end_sync.ensures.told told)).held) (c.requires.laid_out told))

pub returns-clause-half : goal.returns-clause-half
returns-clause-half g c told =
    on_ok_both c.make_way.result (c.make_way.ensures.work told) (c.make_way.ensures.shared told) (λ work shared. λ p folder object is_tree items is.
    let aside : c.as_str.result.now ≡ old_path p.folder = c.as_str.ensures ∙ c.in_ok-aside.ensures ∙ ap old_path (sym folder) in
    let same = (ends_passes (g.met.D.Disk.sound c.args.disk.now told) (c.end_sync.ensures.told told)).held in
    let gone = gone_behind p items c.args.ticket is (c.in_ok-end_sync.ensures.told told) in
    begun_on p items is_tree (g.met.D.Disk.sound c.remove.new.self told) (out_aside p.folder (rw aside at (c.remove.ensures.told told))) (out_gone p.folder gone (rw aside at (c.remove.ensures.told told)))
    (c.make_way.ensures.way told p folder object)
    (subst (λ (f : List ℕ). IsOpen (work_at f) (g.D.Disk.story c.make_way.new.disk).held) (sym folder) work)
    (λ unihash some. shared unihash (sym object ∙ some))
    (subst (AreNoted p items) (sym same) is.noted))

pub returns-clause-swept : goal.returns-clause-swept
returns-clause-swept g c told =
    let p = any_of c.args.folder.now c.args.object.now in
    let aside : c.as_str.result.now ≡ old_path c.args.folder.now = c.as_str.ensures ∙ c.in_ok-aside.ensures in
    on_ok_of c.make_way.result (room_swept p (c.make_way.ensures.way told p refl refl) ∙ removes_ok (rw aside at (c.in_ok-remove.ensures.told told)))

pub returns-clause-opens : goal.returns-clause-opens
returns-clause-opens g c told = λ p folder object items is.
    let aside : c.as_str.result.now ≡ old_path p.folder = c.as_str.ensures ∙ c.in_ok-aside.ensures ∙ ap old_path (sym folder) in
    let gone = gone_behind p items c.args.ticket is (c.in_ok-end_sync.ensures.told told) in
    opens_behind p (ends_passes (g.met.D.Disk.sound c.args.disk.now told) (c.end_sync.ensures.told told))
    (room_opens p (g.met.D.Disk.sound c.remove.new.self told) (out_aside p.folder (rw aside at (c.remove.ensures.told told))) (out_gone p.folder gone (rw aside at (c.remove.ensures.told told))) (c.make_way.ensures.way told p folder object))

pub returns-clause-laid_out : goal.returns-clause-laid_out
returns-clause-laid_out g c told =
    let p = any_of c.args.folder.now c.args.object.now in
    let aside : c.as_str.result.now ≡ old_path c.args.folder.now = c.as_str.ensures ∙ c.in_ok-aside.ensures in
    room_laid p (c.make_way.ensures.way told p refl refl)
    (laid_aside c.args.folder.now (g.D.Disk.story c.end_sync.new.self).held (g.D.Disk.story c.remove.new.self).held c.requires.parts (out_aside c.args.folder.now (rw aside at (c.remove.ensures.told told))).held
    (subst (λ (h : Store). IsLaidOut h) (sym (ends_passes (g.met.D.Disk.sound c.args.disk.now told) (c.end_sync.ensures.told told)).held) (c.requires.laid_out told)))
