use Rattle.std.proofs.Common.{◌∙◌, ◌≤◌, sym, ap, [], arith, length}
use Rattle.std.specs.Prelude.{option_copied}
use Rattle.std.proofs.lemmas.Result.{on_ok_weaker}
use Rattle.outside_traits.proofs.Calls.{removes_passes}
use Rattle.build_store.specs.Items.{Item, removal}
use Rattle.build_store.proofs.ItemRuns.{gone_half, gone_keeps, gone_works, put_fine, put_free, put_half, put_keeps, put_works, removed_gone}
use Rattle.build_store.proofs.working.do_item.Goals as goal

abbrev any : Item
any = removal []

pub put_entry-requires-clause-clean : goal.put_entry-requires-clause-clean
put_entry-requires-clause-clean g c =
    let e = ap option_copied (sym c.in-Some.is) ∙ c.entry_of.ensures any in
    (put_fine c.args.one.now c.args.item c.requires.within any c.as_str.result.now (c.as_str.ensures ∙ c.in_ok-path.ensures any) c.in-Some.entry.now e c.requires.fit).0

pub put_entry-requires-clause-within_reach : goal.put_entry-requires-clause-within_reach
put_entry-requires-clause-within_reach g c =
    let e = ap option_copied (sym c.in-Some.is) ∙ c.entry_of.ensures any in
    let short : length c.as_str.result.now ≤ 3600 = (put_fine c.args.one.now c.args.item c.requires.within any c.as_str.result.now (c.as_str.ensures ∙ c.in_ok-path.ensures any) c.in-Some.entry.now e c.requires.fit).1 in
    let reach = c.requires.reach in
    omega (arith, short, reach)

pub put_entry-requires-clause-free : goal.put_entry-requires-clause-free
put_entry-requires-clause-free g c told =
    let e = ap option_copied (sym c.in-Some.is) ∙ c.entry_of.ensures any in
    put_free c.args.one.now c.args.item c.requires.within any c.as_str.result.now (c.as_str.ensures ∙ c.in_ok-path.ensures any) c.in-Some.entry.now e (g.D.Disk.story c.args.disk.now) c.requires.fit (c.requires.half told)

pub returns-in-Some-clause-half : goal.returns-in-Some-clause-half
returns-in-Some-clause-half g c told =
    let e = ap option_copied (sym c.in-Some.is) ∙ c.entry_of.ensures any in
    on_ok_weaker c.put_entry.result (λ made. put_half c.args.one.now c.args.item c.requires.within any c.as_str.result.now (c.as_str.ensures ∙ c.in_ok-path.ensures any) c.in-Some.entry.now e (g.D.Disk.story c.args.disk.now) (g.D.Disk.story c.put_entry.new.disk) (c.requires.half told) (c.put_entry.ensures.puts told) made) (c.put_entry.ensures.held told)

pub returns-in-Some-clause-works : goal.returns-in-Some-clause-works
returns-in-Some-clause-works g c told =
    let e = ap option_copied (sym c.in-Some.is) ∙ c.entry_of.ensures any in
    put_works c.args.one.now c.args.item c.requires.within any c.as_str.result.now (c.as_str.ensures ∙ c.in_ok-path.ensures any) c.in-Some.entry.now e (g.D.Disk.story c.args.disk.now) (g.D.Disk.story c.put_entry.new.disk) (c.put_entry.ensures.puts told)

pub returns-in-Some-clause-keeps : goal.returns-in-Some-clause-keeps
returns-in-Some-clause-keeps g c told =
    let e = ap option_copied (sym c.in-Some.is) ∙ c.entry_of.ensures any in
    put_keeps c.args.one.now c.args.item c.requires.within any c.as_str.result.now (c.as_str.ensures ∙ c.in_ok-path.ensures any) c.in-Some.entry.now e (g.D.Disk.story c.args.disk.now) (g.D.Disk.story c.put_entry.new.disk) (c.requires.half told) (c.put_entry.ensures.puts told)

pub returns-clause-half : goal.returns-clause-half
returns-clause-half g c told =
    let e = ap option_copied (sym c.in-None.is) ∙ c.entry_of.ensures any in
    on_ok_weaker c.remove.result (λ made. gone_half c.args.one.now c.args.item c.requires.within any c.as_str-in-None.result.now (c.as_str-in-None.ensures ∙ c.in_ok-path.ensures any) e (g.D.Disk.story c.args.disk.now) (g.D.Disk.story c.remove.new.self) (c.requires.half told) (removes_passes (c.remove.ensures.told told)) made) (removed_gone c.remove.result (c.remove.ensures.told told))

pub returns-clause-works : goal.returns-clause-works
returns-clause-works g c told =
    let e = ap option_copied (sym c.in-None.is) ∙ c.entry_of.ensures any in
    gone_works c.args.one.now c.args.item c.requires.within any c.as_str-in-None.result.now (c.as_str-in-None.ensures ∙ c.in_ok-path.ensures any) e (g.D.Disk.story c.args.disk.now) (g.D.Disk.story c.remove.new.self) (removes_passes (c.remove.ensures.told told))

pub returns-clause-keeps : goal.returns-clause-keeps
returns-clause-keeps g c told =
    let e = ap option_copied (sym c.in-None.is) ∙ c.entry_of.ensures any in
    gone_keeps c.args.one.now c.args.item c.requires.within any c.as_str-in-None.result.now (c.as_str-in-None.ensures ∙ c.in_ok-path.ensures any) e (g.D.Disk.story c.args.disk.now) (g.D.Disk.story c.remove.new.self) (c.requires.half told) (removes_passes (c.remove.ensures.told told))
