use Rattle.std.proofs.Common.{refl, arith, length, ap}
use Rattle.meta_model.specs.declared.facts.RecipeFacts.{RecipeFacts}
use Rattle.graph_walk.proofs.Finding.{place_within}
use Rattle.task_graph.proofs.Needing.{standing, recipe_within, task_within, is_read, needed_here, edges_ok, edges_err}
use Rattle.task_graph.proofs.edges.edges_of.Goals as goal

pub index-spot-requires : goal.index-spot-requires
index-spot-requires c =
    let stands = standing c.args.facts.now c.args.context.now.table c.requires.context.table c.args.number c.requires.numbered in
    omega (arith, place_within c.args.context.now.table.spots.items c.args.number stands.spot stands.spot_is, c.args.context.now.table.spots.ok.0)

pub offset_bounds-as_slice-spot : goal.offset_bounds-as_slice-spot
offset_bounds-as_slice-spot c =
    let stands = standing c.args.facts.now c.args.context.now.table c.requires.context.table c.args.number c.requires.numbered in
    let lt = recipe_within c.args.facts.now c.args.context.now.table.spots.items c.args.number stands c.index-spot.result.now c.index-spot.ensures c.as_slice.result.now c.as_slice.ensures in
    omega arith

pub bounds-as_slice-spot : goal.bounds-as_slice-spot
bounds-as_slice-spot c =
    let stands = standing c.args.facts.now c.args.context.now.table c.requires.context.table c.args.number c.requires.numbered in
    recipe_within c.args.facts.now c.args.context.now.table.spots.items c.args.number stands c.index-spot.result.now c.index-spot.ensures c.as_slice.result.now c.as_slice.ensures

pub offset_bounds-as_slice-spot-2 : goal.offset_bounds-as_slice-spot-2
offset_bounds-as_slice-spot-2 c =
    let stands = standing c.args.facts.now c.args.context.now.table c.requires.context.table c.args.number c.requires.numbered in
    let lt = task_within c.args.facts.now c.args.context.now.table.spots.items c.args.number stands c.index-spot.result.now c.index-spot.ensures c.as_slice.result.now c.index-as_slice-spot.result c.as_slice.ensures c.index-as_slice-spot.is c.as_slice-2.result.now c.as_slice-2.ensures in
    omega arith

pub bounds-as_slice-spot-2 : goal.bounds-as_slice-spot-2
bounds-as_slice-spot-2 c =
    let stands = standing c.args.facts.now c.args.context.now.table c.requires.context.table c.args.number c.requires.numbered in
    task_within c.args.facts.now c.args.context.now.table.spots.items c.args.number stands c.index-spot.result.now c.index-spot.ensures c.as_slice.result.now c.index-as_slice-spot.result c.as_slice.ensures c.index-as_slice-spot.is c.as_slice-2.result.now c.as_slice-2.ensures

pub index-needed-requires : goal.index-needed-requires
index-needed-requires c =
    let stands = standing c.args.facts.now c.args.context.now.table c.requires.context.table c.args.number c.requires.numbered in
    let lt = recipe_within c.args.facts.now c.args.context.now.table.spots.items c.args.number stands c.index-spot.result.now c.index-spot.ensures c.as_slice.result.now c.as_slice.ensures in
    omega (arith, lt, ap (length {A = RecipeFacts}) c.as_slice.ensures, c.requires.context.needed.long, c.args.context.now.needed.ok.0)

pub push_edges-requires-clause-needed : goal.push_edges-requires-clause-needed
push_edges-requires-clause-needed c =
    let stands = standing c.args.facts.now c.args.context.now.table c.requires.context.table c.args.number c.requires.numbered in
    let lt = recipe_within c.args.facts.now c.args.context.now.table.spots.items c.args.number stands c.index-spot.result.now c.index-spot.ensures c.as_slice.result.now c.as_slice.ensures in
    let read = is_read c.args.facts.now c.args.context.now.table.spots.items c.args.number stands c.index-spot.result.now c.index-spot.ensures c.as_slice.result.now c.index-as_slice-spot.result c.as_slice.ensures c.index-as_slice-spot.is c.as_slice-2.result.now c.as_slice-2.ensures
    c.index-as_slice-spot-2.result c.index-as_slice-spot-2.is in
    needed_here c.args.facts.now c.args.context.now.needed.items c.requires.context.needed c.index-spot.result.now.recipe c.index-as_slice-spot.result c.index-needed.result.now read.recipe_is c.index-needed.ensures
    (omega (arith, lt, ap (length {A = RecipeFacts}) c.as_slice.ensures, c.requires.context.needed.long))

pub push_edges-requires-clause-within : goal.push_edges-requires-clause-within
push_edges-requires-clause-within c =
    let stands = standing c.args.facts.now c.args.context.now.table c.requires.context.table c.args.number c.requires.numbered in
    recipe_within c.args.facts.now c.args.context.now.table.spots.items c.args.number stands c.index-spot.result.now c.index-spot.ensures c.args.facts.now.recipes refl

pub returns-clause-ok : goal.returns-clause-ok
returns-clause-ok c =
    let stands = standing c.args.facts.now c.args.context.now.table c.requires.context.table c.args.number c.requires.numbered in
    let read = is_read c.args.facts.now c.args.context.now.table.spots.items c.args.number stands c.index-spot.result.now c.index-spot.ensures c.as_slice.result.now c.index-as_slice-spot.result c.as_slice.ensures c.index-as_slice-spot.is c.as_slice-2.result.now c.as_slice-2.ensures
    c.index-as_slice-spot-2.result c.index-as_slice-spot-2.is in
    edges_ok c.args.facts.now c.args.context.now.table c.requires.context.table c.args.context.now.needed.items c.requires.context.needed c.args.number c.index-spot.result.now.recipe c.index-as_slice-spot.result c.index-as_slice-spot-2.result read (λ out. out.items) c.push_edges.result c.push_edges.ensures.ok

pub returns-clause-err : goal.returns-clause-err
returns-clause-err c =
    let stands = standing c.args.facts.now c.args.context.now.table c.requires.context.table c.args.number c.requires.numbered in
    let read = is_read c.args.facts.now c.args.context.now.table.spots.items c.args.number stands c.index-spot.result.now c.index-spot.ensures c.as_slice.result.now c.index-as_slice-spot.result c.as_slice.ensures c.index-as_slice-spot.is c.as_slice-2.result.now c.as_slice-2.ensures
    c.index-as_slice-spot-2.result c.index-as_slice-spot-2.is in
    edges_err c.args.facts.now c.args.context.now.table c.requires.context.table c.args.context.now.needed.items c.requires.context.needed c.args.number c.index-spot.result.now.recipe c.index-as_slice-spot.result c.index-as_slice-spot-2.result read c.requires.numbered c.push_edges.result c.push_edges.ensures.err
