use Rattle.std.proofs.Common.{◌≡◌, refl, subst, sym, List, ℕ}
use Rattle.std.specs.Prelude.{Contains}
use Rattle.std.proofs.lemmas.Result.{on_ok_weaker}
use Rattle.outside_traits.specs.Store.{IsListing, Store}
use Rattle.outside_traits.proofs.Calls.{lists_passes, same_so, same_then}
use Rattle.outside_traits.proofs.Runs.{passes_so}
use Rattle.store_opening.specs.Survey.{TakesOut}
use Rattle.store_clean.specs.Steps.{Sweeps}
use Rattle.store_clean.proofs.Swept.{left_of, sweeps_of}
use Rattle.store_clean.proofs.sweeping.sweep_under.Goals as goal

pub returns-in_err-paths-clause-sweeps : goal.returns-in_err-paths-clause-sweeps
returns-in_err-paths-clause-sweeps g c told = same_so (Sweeps c.args.prefix.now c.args.table.now.entries) (λ i. record { others = λ q never. refl }) (lists_passes (c.list.ensures.told told))

pub returns-in_err-doomed-clause-sweeps : goal.returns-in_err-doomed-clause-sweeps
returns-in_err-doomed-clause-sweeps g c told = same_so (Sweeps c.args.prefix.now c.args.table.now.entries) (λ i. record { others = λ q never. refl }) (lists_passes (c.list.ensures.told told))

pub returns-clause-left : goal.returns-clause-left
returns-clause-left g c told =
    let held : (g.D.Disk.story c.list.new.self).held ≡ (g.D.Disk.story c.args.disk.now).held = (lists_passes (c.list.ensures.told told)).held in
    let paths = c.as_slice.result.now in
    let doomed = c.in_ok-doomed.doomed.items in
    let listing : IsListing c.args.prefix.now (g.D.Disk.story c.list.new.self).held paths =
    subst (λ (h : Store). IsListing c.args.prefix.now h paths) (sym held) (subst (λ (l : List (List ℕ)). IsListing c.args.prefix.now (g.D.Disk.story c.args.disk.now).held l) (sym c.as_slice.ensures) (c.in_ok-paths.ensures.told told).answers.0) in
    let takes : TakesOut doomed (g.D.Disk.story c.list.new.self).held (g.D.Disk.story c.remove_all.new.disk).held = subst (λ (l : List (List ℕ)). TakesOut l (g.D.Disk.story c.list.new.self).held (g.D.Disk.story c.remove_all.new.disk).held) c.deref.ensures.value (c.remove_all.ensures.others told).held in
    on_ok_weaker c.remove_all.result
    (λ gone. left_of c.args.prefix.now c.args.table.now.entries (g.D.Disk.story c.list.new.self).held paths doomed listing c.in_ok-doomed.ensures (g.D.Disk.story c.remove_all.new.disk).held takes (λ q has. gone q (subst (λ (l : List (List ℕ)). Contains l q) (sym c.deref.ensures.value) has)))
    (c.remove_all.ensures.gone told)

pub returns-clause-sweeps : goal.returns-clause-sweeps
returns-clause-sweeps g c told =
    let paths = c.as_slice.result.now in
    let doomed = c.in_ok-doomed.doomed.items in
    let listing : IsListing c.args.prefix.now (g.D.Disk.story c.args.disk.now).held paths = subst (λ (l : List (List ℕ)). IsListing c.args.prefix.now (g.D.Disk.story c.args.disk.now).held l) (sym c.as_slice.ensures) (c.in_ok-paths.ensures.told told).answers.0 in
    same_then (λ i. record { others = λ q never. refl }) (lists_passes (c.list.ensures.told told))
    (passes_so (Sweeps c.args.prefix.now c.args.table.now.entries) (c.remove_all.ensures.others told)
    (λ i j takes. sweeps_of c.args.prefix.now c.args.table.now.entries (g.D.Disk.story c.args.disk.now).held paths doomed listing c.in_ok-doomed.ensures i j (subst (λ (l : List (List ℕ)). TakesOut l i j) c.deref.ensures.value takes)))
