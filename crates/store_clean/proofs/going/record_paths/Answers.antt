use Rattle.std.proofs.Common.{◌≡◌, ◌∙◌, ◌++◌, ◌∷◌, [], ap, get_or, slice_get, sym, List, Some, ℕ}
use Rattle.std.proofs.lemmas.List.{get_or_default}
use Rattle.std.proofs.lemmas.Option.{slice_get-get_or}
use Rattle.store_model.specs.Paths.{record_path}
use Rattle.store_clean.specs.declared.nodes.Node.{Node}
use Rattle.store_clean.proofs.Down.{paths_all, paths_first, paths_next}
use Rattle.store_clean.proofs.going.record_paths.Goals as goal

pub loop-place-init : goal.loop-place-init
loop-place-init c = paths_first c.args.nodes.now c.args.places.now c.in_ok-paths.paths.items c.in_ok-paths.ensures.items

pub loop-place-preserved : goal.loop-place-preserved
loop-place-preserved c =
    let place = get_or c.args.places.now c.loop-place.place-index 0 in
    let below = c.requires c.loop-place.place-index 0 c.loop-place-test.true in
    let at : slice_get c.args.nodes.now place ≡ Some c.index-nodes-place.result = slice_get-get_or c.args.nodes.now place c.index-nodes-place.result below ∙ ap (λ (n : Node). Some n) (sym c.index-nodes-place.is) in
    paths_next c.args.nodes.now c.args.places.now c.loop-place.place-index place c.index-nodes-place.result c.loop-place.paths.items c.push.new.self.items c.loop-place-test.true (get_or_default c.args.places.now c.loop-place.place-index 0 place c.loop-place-test.true) at c.loop-place.invariant
    (c.in_ok-push.ensures.items ∙ ap (λ (p : List ℕ). c.loop-place.paths.items ++ p ∷ []) (c.in_ok-record_path.ensures ∙ ap (λ (n : Node). record_path n.name) (sym c.index-nodes-place.is)))

pub returns-clause-sound : goal.returns-clause-sound
returns-clause-sound c q has = (paths_all c.args.nodes.now c.args.places.now c.loop-place.place-index c.loop-place.paths.items c.loop-place-test.false c.loop-place.invariant q).0 has

pub returns-clause-whole : goal.returns-clause-whole
returns-clause-whole c q is = (paths_all c.args.nodes.now c.args.places.now c.loop-place.place-index c.loop-place.paths.items c.loop-place-test.false c.loop-place.invariant q).1 is
