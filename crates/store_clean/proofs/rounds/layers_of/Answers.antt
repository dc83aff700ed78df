use Rattle.std.proofs.Common.{◌≡◌, ◌<◌, ap, arith, get_or, length, subst, sym, ℕ, List}
use Rattle.std.specs.Prelude.{All, Contains}
use Rattle.std.proofs.lemmas.List.Elements.{Contains-get_or}
use Rattle.store_clean.specs.Steps.{layer_at}
use Rattle.store_clean.proofs.Layered.{layers_all, layers_first, layers_next, places_below}
use Rattle.store_clean.proofs.rounds.layers_of.Goals as goal

pub loop-places-init : goal.loop-places-init
loop-places-init c = layers_first c.args.edges.now c.in_ok-layers.layers.items c.in_ok-layers.ensures.items

pub layer_above-layer-requires-clause-within : goal.layer_above-layer-requires-clause-within
layer_above-layer-requires-clause-within c =
    subst (λ (places : List ℕ). All (λ w. w < length c.deref.result.now) places) (sym c.as_slice.ensures)
    (subst (λ (layers : List ℕ). All (λ w. w < length layers) c.places-item.result) (sym c.deref.ensures.value)
    (λ k d lt. places_below c.args.edges.now c.loop-places.places-index (length c.loop-places.layers.items) c.places-item.result c.requires c.loop-places-test.true c.places-item.is c.loop-places.invariant.long (get_or c.places-item.result k d) (Contains-get_or c.places-item.result k d lt)))

pub loop-places-preserved : goal.loop-places-preserved
loop-places-preserved c =
    layers_next c.args.edges.now c.loop-places.places-index c.layer_above-layer.result c.places-item.result c.loop-places.layers.items c.push.new.self.items c.requires c.loop-places-test.true c.places-item.is c.loop-places.invariant c.in_ok-push.ensures.items
    (λ w has. subst (λ (layers : List ℕ). layer_at layers w < c.layer_above-layer.result) c.deref.ensures.value (c.layer_above-layer.ensures.above w (subst (λ (l : List ℕ). Contains l w) (sym c.as_slice.ensures) has)))
    (let low = c.layer_above-layer.ensures.low in let e = ap (length {A = ℕ}) c.deref.ensures.value in omega (arith, low, e))

pub returns : goal.returns
returns c = let all : c.loop-places.places-index ≡ length c.args.edges.now = omega arith in layers_all c.args.edges.now c.loop-places.places-index c.loop-places.layers.items all c.loop-places.invariant
