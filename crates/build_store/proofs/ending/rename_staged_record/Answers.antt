use Rattle.std.proofs.Common.{◌≡◌, ◌∙◌, sym, subst, refl, List, ℕ, arith, length, ◌≤◌}
use Rattle.std.proofs.lemmas.Result.{IfOk-weaker}
use Rattle.tree_model.specs.Path.{IsClean}
use Rattle.outside_traits.specs.Passes.{Same}
use Rattle.outside_traits.specs.Store.{IsFree, Store}
use Rattle.outside_traits.proofs.Calls.{ends_passes}
use Rattle.outside_traits.proofs.Runs.{passes_none}
use Rattle.store_model.specs.Paths.{record_path}
use Rattle.store_opening.specs.Paths.{IsLaidOut, staged_record_path}
use Rattle.build_store.proofs.Written.{record_clean, record_short}
use Rattle.build_store.proofs.EndingRuns.{finishes_by_same, record_may_move, record_moves, record_next}
use Rattle.build_store.proofs.Free.{free_record}
use Rattle.build_store.proofs.Sweeps.{moved_only, on_ok_of}
use Rattle.build_store.proofs.ending.rename_staged_record.Goals as goal

pub returns-in_err-end_sync-clause-finishes : goal.returns-in_err-end_sync-clause-finishes
returns-in_err-end_sync-clause-finishes g c told = λ p own new is. finishes_by_same p (ends_passes (g.met.D.Disk.sound c.args.disk.now told) (c.end_sync.ensures.told told))

pub rename-requires-clause-settled : goal.rename-requires-clause-settled
rename-requires-clause-settled g c told =
    let from_is : c.as_str.result.now ≡ staged_record_path c.args.name.now = c.as_str.ensures ∙ c.in_ok-from.ensures in
    record_may_move c.args.name.now c.as_str.result.now (g.D.Disk.story c.args.disk.now) (g.D.Disk.story c.end_sync.new.self) c.args.ticket (g.met.D.Disk.sound c.args.disk.now told) from_is (c.requires.at told) (c.in_ok-end_sync.ensures.told told)

pub rename-requires-clause-clean : goal.rename-requires-clause-clean
rename-requires-clause-clean g c =
    let to_is : c.as_str-2.result.now ≡ record_path c.args.name.now = c.as_str-2.ensures ∙ c.in_ok-to.ensures in
    subst IsClean (sym to_is) (record_clean c.args.name.now c.requires.name)

pub rename-requires-clause-within_reach : goal.rename-requires-clause-within_reach
rename-requires-clause-within_reach g c =
    let to_is : c.as_str-2.result.now ≡ record_path c.args.name.now = c.as_str-2.ensures ∙ c.in_ok-to.ensures in
    let short : length c.as_str-2.result.now ≤ 3600 = subst (λ (l : List ℕ). length l ≤ 3600) (sym to_is) (record_short c.args.name.now c.requires.name) in
    let reach = c.requires.reach in
    omega (arith, short, reach)

pub rename-requires-clause-free : goal.rename-requires-clause-free
rename-requires-clause-free g c told =
    let to_is : c.as_str-2.result.now ≡ record_path c.args.name.now = c.as_str-2.ensures ∙ c.in_ok-to.ensures in
    let same = (ends_passes (g.met.D.Disk.sound c.args.disk.now told) (c.end_sync.ensures.told told)).held in
    let laid = subst (λ (h : Store). IsLaidOut h) (sym same) (c.requires.laid_out told) in
    subst (IsFree (g.D.Disk.story c.end_sync.new.self).held) (sym to_is) (free_record (g.D.Disk.story c.end_sync.new.self).held c.args.name.now c.requires.name laid)

pub returns-in_err-rename-clause-finishes : goal.returns-in_err-rename-clause-finishes
returns-in_err-rename-clause-finishes g c told = λ p own new is.
    let from_is : c.as_str.result.now ≡ staged_record_path c.args.name.now = c.as_str.ensures ∙ c.in_ok-from.ensures in
    let to_is : c.as_str-2.result.now ≡ record_path c.args.name.now = c.as_str-2.ensures ∙ c.in_ok-to.ensures in
    record_moves p c.args.name.now c.as_str.result.now c.as_str-2.result.now (g.D.Disk.story c.args.disk.now) (g.D.Disk.story c.end_sync.new.self) (g.D.Disk.story c.rename.new.self) (g.D.Disk.story c.rename.new.self) c.args.ticket
    (g.met.D.Disk.sound c.args.disk.now told) own from_is to_is (c.in_ok-end_sync.ensures.told told) (c.rename.ensures.told told) (passes_none (g.D.Disk.story c.rename.new.self) Same (λ i. refl)) new is

pub returns-clause-at : goal.returns-clause-at
returns-clause-at g c told =
    let from_is : c.as_str.result.now ≡ staged_record_path c.args.name.now = c.as_str.ensures ∙ c.in_ok-from.ensures in
    let to_is : c.as_str-2.result.now ≡ record_path c.args.name.now = c.as_str-2.ensures ∙ c.in_ok-to.ensures in
    IfOk-weaker c.take_ticket.result _ _ (λ next ticket. λ p own is.
    record_next p c.args.name.now c.as_str.result.now c.as_str-2.result.now (g.D.Disk.story c.args.disk.now) (g.D.Disk.story c.end_sync.new.self) (g.D.Disk.story c.rename.new.self) (g.D.Disk.story c.take_ticket.new.disk) c.args.ticket next
    (g.met.D.Disk.sound c.args.disk.now told) own from_is to_is (c.in_ok-end_sync.ensures.told told) (c.in_ok-rename.ensures.told told) (c.take_ticket.ensures.same told) ticket is) (c.take_ticket.ensures.ticket told)

pub returns-clause-finishes : goal.returns-clause-finishes
returns-clause-finishes g c told = λ p own new is.
    let from_is : c.as_str.result.now ≡ staged_record_path c.args.name.now = c.as_str.ensures ∙ c.in_ok-from.ensures in
    let to_is : c.as_str-2.result.now ≡ record_path c.args.name.now = c.as_str-2.ensures ∙ c.in_ok-to.ensures in
    record_moves p c.args.name.now c.as_str.result.now c.as_str-2.result.now (g.D.Disk.story c.args.disk.now) (g.D.Disk.story c.end_sync.new.self) (g.D.Disk.story c.rename.new.self) (g.D.Disk.story c.take_ticket.new.disk) c.args.ticket
    (g.met.D.Disk.sound c.args.disk.now told) own from_is to_is (c.in_ok-end_sync.ensures.told told) (c.in_ok-rename.ensures.told told) (c.take_ticket.ensures.same told) new is

pub returns-clause-moves : goal.returns-clause-moves
returns-clause-moves g c told =
    let from_is : c.as_str.result.now ≡ staged_record_path c.args.name.now = c.as_str.ensures ∙ c.in_ok-from.ensures in
    let to_is : c.as_str-2.result.now ≡ record_path c.args.name.now = c.as_str-2.ensures ∙ c.in_ok-to.ensures in
    on_ok_of c.take_ticket.result (moved_only (staged_record_path c.args.name.now) (record_path c.args.name.now) c.as_str.result.now c.as_str-2.result.now (g.D.Disk.story c.args.disk.now) (g.D.Disk.story c.end_sync.new.self) (g.D.Disk.story c.rename.new.self) (g.D.Disk.story c.take_ticket.new.disk) c.args.ticket
    (g.met.D.Disk.sound c.args.disk.now told) (g.met.D.Disk.sound c.end_sync.new.self told) from_is to_is (c.in_ok-end_sync.ensures.told told) (c.in_ok-rename.ensures.told told) (c.take_ticket.ensures.same told))
