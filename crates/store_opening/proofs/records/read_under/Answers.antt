use Rattle.std.proofs.Common.{◌≡◌, sym, subst, List, ℕ}
use Rattle.std.specs.Prelude.{Contains, IsSome}
use Rattle.std.proofs.lemmas.Result.{IfOk-weaker}
use Rattle.outside_traits.specs.Store.{Store}
use Rattle.outside_traits.proofs.Calls.{lists_passes, then_same}
use Rattle.store_opening.specs.Survey.{AreRead}
use Rattle.store_opening.proofs.Surveyed.{listing_read}
use Rattle.store_opening.proofs.records.read_under.Goals as goal

pub read_all-requires : goal.read_all-requires
read_all-requires g c told q has =
    let at = (c.in_ok-paths.ensures.told told).answers.0.are_held q (subst (λ (l : List (List ℕ)). Contains l q) c.as_slice.ensures has) in
    subst (λ (h : Store). IsSome (h q)) (sym (lists_passes (c.list.ensures.told told)).held) at.1

pub returns-clause-read : goal.returns-clause-read
returns-clause-read g c told =
    let listing = (c.in_ok-paths.ensures.told told).answers.0 in
    let held : (g.D.Disk.story c.list.new.self).held ≡ (g.D.Disk.story c.args.disk.now).held = (lists_passes (c.list.ensures.told told)).held in
    IfOk-weaker c.read_all.result _ _
    (λ files read. listing_read c.args.prefix.now (g.D.Disk.story c.args.disk.now).held c.in_ok-paths.paths files.items listing
    (subst (λ (h : Store). AreRead h c.in_ok-paths.paths files.items) held (subst (λ (l : List (List ℕ)). AreRead (g.D.Disk.story c.list.new.self).held l files.items) c.as_slice.ensures read)))
    (c.read_all.ensures.read told)

pub returns-clause-others : goal.returns-clause-others
returns-clause-others g c told = then_same (lists_passes (c.list.ensures.told told)) (c.read_all.ensures.others told)
