use Rattle.std.proofs.Common.{List, subst, sym, ℕ}
use Rattle.std.specs.Prelude.{Contains}
use Rattle.std.proofs.lemmas.Result.{on_ok_weaker}
use Rattle.outside_traits.specs.Store.{Store}
use Rattle.outside_traits.proofs.Calls.{same_then}
use Rattle.outside_traits.proofs.Runs.{passes_so}
use Rattle.store_opening.specs.Survey.{HeldFile}
use Rattle.store_clean.specs.Cleared.{gone_path}
use Rattle.store_clean.specs.Steps.{AreGoneStamps, HoldsGoneStamp, TakesAway, node_names}
use Rattle.store_clean.proofs.Runs.{takes_same, takes_so}
use Rattle.store_clean.proofs.Stamped.{stamp_held, stamps_apart, stamps_gone}
use Rattle.store_clean.proofs.stamps.take_stamps.Goals as goal

pub take_away-requires-clause-apart : goal.take_away-requires-clause-apart
take_away-requires-clause-apart g c told has =
    let names = node_names c.args.nodes.now in
    let marks = c.args.chosen.now.marks.items in
    let are : AreGoneStamps names marks c.in_ok-files.files.items c.in_ok-paths.paths.items = subst (λ (l : List HeldFile). AreGoneStamps names marks l c.in_ok-paths.paths.items) c.deref.ensures.value c.in_ok-paths.ensures in
    stamps_apart names marks (g.D.Disk.story c.args.disk.now).held c.in_ok-files.files.items c.in_ok-paths.paths.items (c.in_ok-files.ensures.read told) are (subst (λ (l : List (List ℕ)). Contains l gone_path) c.deref-2.ensures.value has)

pub returns-clause-gone : goal.returns-clause-gone
returns-clause-gone g c told =
    let names = node_names c.args.nodes.now in
    let marks = c.args.chosen.now.marks.items in
    let held = (g.D.Disk.story c.args.disk.now).held in
    let paths = c.in_ok-paths.paths.items in
    let are : AreGoneStamps names marks c.in_ok-files.files.items paths = subst (λ (l : List HeldFile). AreGoneStamps names marks l paths) c.deref.ensures.value c.in_ok-paths.ensures in
    let same = (c.in_ok-files.ensures.others told).held in
    let takes : TakesAway (Contains paths) held (g.D.Disk.story c.take_away.new.disk).held =
    subst (λ (h : Store). TakesAway (Contains paths) h (g.D.Disk.story c.take_away.new.disk).held) same (subst (λ (l : List (List ℕ)). TakesAway (Contains l) (g.D.Disk.story c.read_under.new.disk).held (g.D.Disk.story c.take_away.new.disk).held) c.deref-2.ensures.value (c.take_away.ensures.takes told).held) in
    on_ok_weaker c.take_away.result
    (λ gone. stamps_gone names marks held c.in_ok-files.files.items paths (c.in_ok-files.ensures.read told) are (g.D.Disk.story c.take_away.new.disk).held takes (λ q has. gone q (subst (λ (l : List (List ℕ)). Contains l q) (sym c.deref-2.ensures.value) has)))
    (c.take_away.ensures.gone told)

pub returns-clause-takes : goal.returns-clause-takes
returns-clause-takes g c told =
    let names = node_names c.args.nodes.now in
    let marks = c.args.chosen.now.marks.items in
    let held = (g.D.Disk.story c.args.disk.now).held in
    let paths = c.in_ok-paths.paths.items in
    let are : AreGoneStamps names marks c.in_ok-files.files.items paths = subst (λ (l : List HeldFile). AreGoneStamps names marks l paths) c.deref.ensures.value c.in_ok-paths.ensures in
    same_then (takes_same (HoldsGoneStamp names marks held)) (c.in_ok-files.ensures.others told)
    (passes_so (TakesAway (HoldsGoneStamp names marks held)) (c.take_away.ensures.takes told)
    (λ i j takes. takes_so (Contains c.deref-2.result.now) (HoldsGoneStamp names marks held) (λ q has. stamp_held names marks held c.in_ok-files.files.items paths (c.in_ok-files.ensures.read told) are q (subst (λ (l : List (List ℕ)). Contains l q) c.deref-2.ensures.value has)) i j takes))
