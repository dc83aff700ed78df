use Rattle.std.proofs.Common.{◌∙◌, ap, sym}
use Rattle.tree_model.specs.Path.{inside}
use Rattle.outside_traits.specs.Store.{Store}
use Rattle.outside_traits.proofs.Calls.{lists_passes, then_same}
use Rattle.outside_traits.proofs.Held.{lists_held}
use Rattle.outside_traits.proofs.Readings.{listed_held, listing_on, reads_result, stands_tree, stands_under}
use Rattle.outside_traits.proofs.reading.read_tree.Goals as goal

pub read_entries-requires : goal.read_entries-requires
read_entries-requires g c told =
    listed_held (listing_on (c.as_str-2.ensures ∙ sym c.as_str.ensures) (lists_held (c.list.ensures.told told)) c.as_slice.ensures (c.in_ok-paths.ensures.told told).answers.0)

pub returns-clause-found : goal.returns-clause-found
returns-clause-found g c told =
    let same = lists_held (c.list.ensures.told told) in
    let listing = listing_on (c.as_str-2.ensures ∙ sym c.as_str.ensures) same c.as_slice.ensures (c.in_ok-paths.ensures.told told).answers.0 in
    let prefix_is = c.as_str-2.ensures ∙ c.in_ok-prefix.ensures in
    let content = (g.met.D.Disk.sound c.list.new.self told).content 0 in
    let stands = c.in_ok-entries.ensures.entries told in
    let entries = c.in_ok-entries.entries.items in
    let folder = c.args.folder.now in
    let is_tree = stands_tree folder _ _ _ entries prefix_is listing content stands in
    let under = stands_under folder _ _ _ entries prefix_is listing content stands in
    reads_result folder entries (g.D.Disk.story c.args.disk.now).held c.args.max c.tree_within.result (λ q. ap (λ (h : Store). h (inside folder q)) (sym same) ∙ under q) (c.tree_within.ensures.found is_tree)

pub returns-in_err-entries-clause-others : goal.returns-in_err-entries-clause-others
returns-in_err-entries-clause-others g c told = then_same (lists_passes (c.list.ensures.told told)) (c.read_entries.ensures.others told)

pub returns-clause-others : goal.returns-clause-others
returns-clause-others g c told = then_same (lists_passes (c.list.ensures.told told)) (c.read_entries.ensures.others told)
