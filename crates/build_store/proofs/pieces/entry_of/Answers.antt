use Rattle.std.proofs.Common.{◌≡◌, ◌∙◌, ◌-◌, sym, ap, ℕ, [], Some, length, get_or, arith}
use Rattle.meta_model.specs.CleanBuild.{Entries}
use Rattle.build_store.specs.Items.{makes}
use Rattle.build_store.proofs.ItemPlaces.{at_last, at_removal, at_shared, at_work, length_items}
use Rattle.build_store.proofs.pieces.entry_of.Goals as goal

pub returns-then-item-removed : goal.returns-then-item-removed
returns-then-item-removed c = λ d.
    let o = c.args.one.now in
    sym (ap makes (at_removal o.folder o.extra o.tree o.object c.args.item d [] (omega arith)))

pub returns-then-place-entries : goal.returns-then-place-entries
returns-then-place-entries c = λ d.
    let o = c.args.one.now in
    let e = c.index-entries-place.result in
    let removed : c.len-removed.result ≡ length o.extra = c.len-removed.ensures in
    let count : length c.entries-entries.result.now ≡ length o.tree = ap (λ (l : Entries). length l) c.entries-entries.ensures.value in
    let at = ap makes (at_work o.folder o.extra o.tree o.object c.args.item d e (omega (arith, removed)) (omega (arith, removed, count))) in
    ap (λ (l : Entries). Some (get_or l (c.args.item - c.len-removed.result) e).1) c.entries-entries.ensures.value
    ∙ ap (λ (n : ℕ). Some (get_or o.tree (c.args.item - n) e).1) removed
    ∙ sym at

pub returns : goal.returns
returns c = λ d.
    let o = c.args.one.now in
    let e = c.index-entries-place-2.result in
    let removed : c.len-removed.result ≡ length o.extra = c.len-removed.ensures in
    let count : length c.entries-entries.result.now ≡ length o.tree = ap (λ (l : Entries). length l) c.entries-entries.ensures.value in
    let all = length_items o.folder o.extra o.tree o.object in
    let within = c.requires in
    let w = at_shared o.object o.tree (c.args.item - length o.extra - length o.tree) (omega (arith, removed, count, all, within)) d e in
    let at = ap makes (at_last o.folder o.extra o.tree o.object c.args.item d (omega (arith, removed)) (omega (arith, removed, count)) ∙ w.1.2) in
    ap (λ (l : Entries). Some (get_or l (c.args.item - c.len-removed.result - length l) e).1) c.entries-entries.ensures.value
    ∙ ap (λ (n : ℕ). Some (get_or o.tree (c.args.item - n - length o.tree) e).1) removed
    ∙ sym at
