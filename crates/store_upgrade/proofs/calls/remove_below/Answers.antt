use Rattle.std.proofs.Common.{◌≡◌, ◌∙◌, ◌++◌, ◌∷◌, [], ap, refl, sym, subst, List, ℕ}
use Rattle.std.proofs.lemmas.Result.{on_ok_weaker}
use Rattle.outside_traits.specs.Store.{IsListing, Store}
use Rattle.outside_traits.proofs.Calls.{lists_passes, same_so, same_then}
use Rattle.outside_traits.proofs.Runs.{passes_so}
use Rattle.store_upgrade.specs.Steps.{Below}
use Rattle.store_upgrade.proofs.Called.{below_gone, takes_below}
use Rattle.store_upgrade.proofs.calls.remove_below.Goals as goal

pub returns-in_err-paths-clause-within : goal.returns-in_err-paths-clause-within
returns-in_err-paths-clause-within g c told = same_so (Below c.args.folder.now) (λ i. record { others = λ q never. refl }) (lists_passes (c.list.ensures.told told))

pub returns-clause-gone : goal.returns-clause-gone
returns-clause-gone g c told =
    let prefix : c.as_str.result.now ≡ c.args.folder.now ++ 47 ∷ [] = c.as_str.ensures ∙ c.in_ok-push_str.ensures.ok ∙ ap (λ (p : List ℕ). p ++ 47 ∷ []) c.in_ok-prefix.ensures in
    let held : (g.D.Disk.story c.list.new.self).held ≡ (g.D.Disk.story c.args.disk.now).held = (lists_passes (c.list.ensures.told told)).held in
    let listing : IsListing (c.args.folder.now ++ 47 ∷ []) (g.D.Disk.story c.list.new.self).held c.as_slice.result.now =
    subst (λ (p : List ℕ). IsListing p (g.D.Disk.story c.list.new.self).held c.as_slice.result.now) prefix
    (subst (λ (h : Store). IsListing c.as_str.result.now h c.as_slice.result.now) (sym held)
    (subst (λ (l : List (List ℕ)). IsListing c.as_str.result.now (g.D.Disk.story c.args.disk.now).held l) (sym c.as_slice.ensures) (c.in_ok-paths.ensures.told told).answers.0)) in
    on_ok_weaker c.remove_all.result
    (λ gone. below_gone c.args.folder.now (g.D.Disk.story c.list.new.self).held (g.D.Disk.story c.remove_all.new.disk).held c.as_slice.result.now listing (c.remove_all.ensures.others told).held gone)
    (c.remove_all.ensures.gone told)

pub returns-clause-within : goal.returns-clause-within
returns-clause-within g c told =
    let prefix : c.as_str.result.now ≡ c.args.folder.now ++ 47 ∷ [] = c.as_str.ensures ∙ c.in_ok-push_str.ensures.ok ∙ ap (λ (p : List ℕ). p ++ 47 ∷ []) c.in_ok-prefix.ensures in
    let listing : IsListing (c.args.folder.now ++ 47 ∷ []) (g.D.Disk.story c.args.disk.now).held c.as_slice.result.now =
    subst (λ (p : List ℕ). IsListing p (g.D.Disk.story c.args.disk.now).held c.as_slice.result.now) prefix
    (subst (λ (l : List (List ℕ)). IsListing c.as_str.result.now (g.D.Disk.story c.args.disk.now).held l) (sym c.as_slice.ensures) (c.in_ok-paths.ensures.told told).answers.0) in
    same_then (λ i. record { others = λ q never. refl }) (lists_passes (c.list.ensures.told told))
    (passes_so (Below c.args.folder.now) (c.remove_all.ensures.others told) (takes_below c.args.folder.now (g.D.Disk.story c.args.disk.now).held c.as_slice.result.now listing))
