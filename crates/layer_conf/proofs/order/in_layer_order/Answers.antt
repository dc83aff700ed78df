use Rattle.std.proofs.Common.{◌≡◌, ◌∙◌, ap, sym, map, flat_map, filter, eqb, length, arith}
use Rattle.load_model.specs.Layers.{layer_place}
use Rattle.layer_conf.specs.Places.{place_in}
use Rattle.layer_conf.proofs.Placing.{below, below_more, numbers_are, more_placed, places_are}
use Rattle.layer_conf.proofs.order.in_layer_order.Goals as goal

pub loop-k-preserved : goal.loop-k-preserved
loop-k-preserved c =
    let layers = c.args.layers.now in
    let paths = c.args.paths.now in
    let placed = c.as_slice-in-loop-k.ensures.value ∙ c.in_ok-places.ensures ∙ ap (λ f. map (place_in f) paths) (c.as_slice.ensures.value ∙ c.in_ok-folders.ensures) ∙ places_are layers paths in
    more_placed layers paths c.loop-k.made c.push_placed.new.made c.loop-k.k c.loop-k.invariant (c.in_ok-push_placed.ensures (layer_place layers) placed)
    ∙ ap (flat_map (λ j. filter (λ path. eqb (layer_place layers path) j) paths)) (sym (below_more c.loop-k.k))

pub returns : goal.returns
returns c =
    let layers = c.args.layers.now in
    let paths = c.args.paths.now in
    let placed = c.as_slice-2.ensures.value ∙ c.in_ok-places.ensures ∙ ap (λ f. map (place_in f) paths) (c.as_slice.ensures.value ∙ c.in_ok-folders.ensures) ∙ places_are layers paths in
    let all : c.loop-k.k ≡ length layers = omega arith in
    let made : c.loop-k.made ≡ flat_map (λ j. filter (λ path. eqb (layer_place layers path) j) paths) (below (length layers)) = c.loop-k.invariant ∙ ap (λ k. flat_map (λ j. filter (λ path. eqb (layer_place layers path) j) paths) (below k)) all in
    more_placed layers paths c.loop-k.made c.push_placed-2.new.made (length layers) made (c.in_ok-push_placed-2.ensures (layer_place layers) placed)
    ∙ ap (flat_map (λ j. filter (λ path. eqb (layer_place layers path) j) paths)) (sym (numbers_are (length layers)))
