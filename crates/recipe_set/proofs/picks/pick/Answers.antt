use Rattle.std.proofs.Common.{◌≡◌, ◌∙◌, ap, ℕ, List, bytes_eq, cond}
use Rattle.std.specs.BTreeMap.{get_by_text}
use Rattle.std.proofs.lemmas.Result.{on_ok_weaker}
use Rattle.recipe_facts.specs.Recipe.{recipe_meant}
use Rattle.recipe_set.specs.Held.{turned_to, fits_wish}
use Rattle.recipe_set.specs.Picks.{held_at}
use Rattle.recipe_set.proofs.Picking.{picked_more}
use Rattle.recipe_set.proofs.picks.pick.Goals as goal

pub returns-clause-picked : goal.returns-clause-picked
returns-clause-picked c =
    let r = recipe_meant c.args.recipe in
    let fit = c.fits_wish-fits.result in
    let old = c.args.picks.now in
    let new = c.put_pick.new.picks in
    on_ok_weaker c.put_pick.result
    (λ (e : (t : List ℕ) → held_at new t ≡ cond (bytes_eq r.pn t) (turned_to fit (held_at old t) r) (held_at old t)).
    λ wishes recipes v h. picked_more wishes recipes (get_by_text c.args.versions.now) (held_at old) (held_at new) r fit v
    (c.fits_wish-fits.ensures ∙ ap (λ w. fits_wish w r) (c.get.ensures.value ∙ ap (get_by_text c.args.versions.now) c.as_str.ensures)) h e)
    c.put_pick.ensures.held
