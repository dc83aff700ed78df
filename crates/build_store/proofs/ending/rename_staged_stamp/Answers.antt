use Rattle.std.proofs.Common.{◌≡◌, ◌∙◌, sym, subst, refl}
use Rattle.std.proofs.lemmas.Result.{IfOk-weaker}
use Rattle.outside_traits.specs.Passes.{Same}
use Rattle.outside_traits.specs.Store.{IsFree, Store}
use Rattle.outside_traits.proofs.Calls.{ends_passes, renames_passes}
use Rattle.outside_traits.proofs.Runs.{passes_none}
use Rattle.stamp_store.specs.Stamp.{stamp_path, staged_path}
use Rattle.store_opening.specs.Paths.{IsLaidOut}
use Rattle.build_store.proofs.EndingRuns.{finishes_by_same, stamp_may_move, stamp_moves, stamp_next}
use Rattle.build_store.proofs.Phasing.{laid_stamped}
use Rattle.build_store.proofs.Sweeps.{moved_only, on_ok_of}
use Rattle.build_store.proofs.ending.rename_staged_stamp.Goals as goal

pub returns-in_err-end_sync-clause-finishes : goal.returns-in_err-end_sync-clause-finishes
returns-in_err-end_sync-clause-finishes g c told = λ p own is. finishes_by_same p (ends_passes (g.met.D.Disk.sound c.args.disk.now told) (c.end_sync.ensures.told told))

pub rename-requires-clause-settled : goal.rename-requires-clause-settled
rename-requires-clause-settled g c told =
    let from_is : c.as_str.result.now ≡ staged_path c.args.folder.now = c.as_str.ensures ∙ c.in_ok-from.ensures in
    stamp_may_move c.args.folder.now c.as_str.result.now (g.D.Disk.story c.args.disk.now) (g.D.Disk.story c.end_sync.new.self) c.args.ticket (g.met.D.Disk.sound c.args.disk.now told) from_is (c.requires.at told) (c.in_ok-end_sync.ensures.told told)

pub rename-requires-clause-free : goal.rename-requires-clause-free
rename-requires-clause-free g c told =
    let to_is : c.as_str-2.result.now ≡ stamp_path c.args.folder.now = c.as_str-2.ensures ∙ c.in_ok-to.ensures in
    let same = (ends_passes (g.met.D.Disk.sound c.args.disk.now told) (c.end_sync.ensures.told told)).held in
    subst (IsFree (g.D.Disk.story c.end_sync.new.self).held) (sym to_is) (subst (λ (h : Store). IsFree h (stamp_path c.args.folder.now)) (sym same) (c.requires.free told))

pub returns-in_err-rename-clause-finishes : goal.returns-in_err-rename-clause-finishes
returns-in_err-rename-clause-finishes g c told = λ p own is.
    let from_is : c.as_str.result.now ≡ staged_path c.args.folder.now = c.as_str.ensures ∙ c.in_ok-from.ensures in
    let to_is : c.as_str-2.result.now ≡ stamp_path c.args.folder.now = c.as_str-2.ensures ∙ c.in_ok-to.ensures in
    stamp_moves p c.args.folder.now c.as_str.result.now c.as_str-2.result.now (g.D.Disk.story c.args.disk.now) (g.D.Disk.story c.end_sync.new.self) (g.D.Disk.story c.rename.new.self) (g.D.Disk.story c.rename.new.self) c.args.ticket
    (g.met.D.Disk.sound c.args.disk.now told) own from_is to_is (c.in_ok-end_sync.ensures.told told) (c.rename.ensures.told told) (passes_none (g.D.Disk.story c.rename.new.self) Same (λ i. refl)) is

pub returns-in_err-rename-clause-laid_out : goal.returns-in_err-rename-clause-laid_out
returns-in_err-rename-clause-laid_out g c told =
    let from_is : c.as_str.result.now ≡ staged_path c.args.folder.now = c.as_str.ensures ∙ c.in_ok-from.ensures in
    let to_is : c.as_str-2.result.now ≡ stamp_path c.args.folder.now = c.as_str-2.ensures ∙ c.in_ok-to.ensures in
    let same = (ends_passes (g.met.D.Disk.sound c.args.disk.now told) (c.end_sync.ensures.told told)).held in
    let laid = subst (λ (h : Store). IsLaidOut h) (sym same) (c.requires.laid_out told) in
    let moved = rw (from_is, to_is) at (renames_passes (g.met.D.Disk.sound c.end_sync.new.self told) (c.rename.ensures.told told)) in
    laid_stamped c.args.folder.now _ (g.D.Disk.story c.end_sync.new.self).held (g.D.Disk.story c.rename.new.self).held c.requires.parts moved.held laid

pub returns-clause-at : goal.returns-clause-at
returns-clause-at g c told =
    let from_is : c.as_str.result.now ≡ staged_path c.args.folder.now = c.as_str.ensures ∙ c.in_ok-from.ensures in
    let to_is : c.as_str-2.result.now ≡ stamp_path c.args.folder.now = c.as_str-2.ensures ∙ c.in_ok-to.ensures in
    IfOk-weaker c.take_ticket.result _ _ (λ next ticket. λ p own is.
    stamp_next p c.args.folder.now c.as_str.result.now c.as_str-2.result.now (g.D.Disk.story c.args.disk.now) (g.D.Disk.story c.end_sync.new.self) (g.D.Disk.story c.rename.new.self) (g.D.Disk.story c.take_ticket.new.disk) c.args.ticket next
    (g.met.D.Disk.sound c.args.disk.now told) own from_is to_is (c.in_ok-end_sync.ensures.told told) (c.in_ok-rename.ensures.told told) (c.take_ticket.ensures.same told) ticket is) (c.take_ticket.ensures.ticket told)

pub returns-clause-finishes : goal.returns-clause-finishes
returns-clause-finishes g c told = λ p own is.
    let from_is : c.as_str.result.now ≡ staged_path c.args.folder.now = c.as_str.ensures ∙ c.in_ok-from.ensures in
    let to_is : c.as_str-2.result.now ≡ stamp_path c.args.folder.now = c.as_str-2.ensures ∙ c.in_ok-to.ensures in
    stamp_moves p c.args.folder.now c.as_str.result.now c.as_str-2.result.now (g.D.Disk.story c.args.disk.now) (g.D.Disk.story c.end_sync.new.self) (g.D.Disk.story c.rename.new.self) (g.D.Disk.story c.take_ticket.new.disk) c.args.ticket
    (g.met.D.Disk.sound c.args.disk.now told) own from_is to_is (c.in_ok-end_sync.ensures.told told) (c.in_ok-rename.ensures.told told) (c.take_ticket.ensures.same told) is

pub returns-clause-moves : goal.returns-clause-moves
returns-clause-moves g c told =
    let from_is : c.as_str.result.now ≡ staged_path c.args.folder.now = c.as_str.ensures ∙ c.in_ok-from.ensures in
    let to_is : c.as_str-2.result.now ≡ stamp_path c.args.folder.now = c.as_str-2.ensures ∙ c.in_ok-to.ensures in
    on_ok_of c.take_ticket.result (moved_only (staged_path c.args.folder.now) (stamp_path c.args.folder.now) c.as_str.result.now c.as_str-2.result.now (g.D.Disk.story c.args.disk.now) (g.D.Disk.story c.end_sync.new.self) (g.D.Disk.story c.rename.new.self) (g.D.Disk.story c.take_ticket.new.disk) c.args.ticket
    (g.met.D.Disk.sound c.args.disk.now told) (g.met.D.Disk.sound c.end_sync.new.self told) from_is to_is (c.in_ok-end_sync.ensures.told told) (c.in_ok-rename.ensures.told told) (c.take_ticket.ensures.same told))
