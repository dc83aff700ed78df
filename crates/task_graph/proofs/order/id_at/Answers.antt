use Rattle.std.proofs.Common.{arith}
use Rattle.task_graph.proofs.Needing.{standing, recipe_within, task_within, is_read}
use Rattle.task_graph.proofs.Drafted.{number_within, id_written}
use Rattle.task_graph.proofs.order.id_at.Goals as goal

pub index-spot-requires : goal.index-spot-requires
index-spot-requires c = omega (arith, number_within c.args.facts.now c.args.table.now c.requires.table c.args.number c.requires.numbered, c.args.table.now.spots.ok.0)

pub offset_bounds-as_slice-spot : goal.offset_bounds-as_slice-spot
offset_bounds-as_slice-spot c =
    let stands = standing c.args.facts.now c.args.table.now c.requires.table c.args.number c.requires.numbered in
    let lt = recipe_within c.args.facts.now c.args.table.now.spots.items c.args.number stands c.index-spot.result.now c.index-spot.ensures c.as_slice.result.now c.as_slice.ensures in
    omega arith

pub bounds-as_slice-spot : goal.bounds-as_slice-spot
bounds-as_slice-spot c =
    let stands = standing c.args.facts.now c.args.table.now c.requires.table c.args.number c.requires.numbered in
    recipe_within c.args.facts.now c.args.table.now.spots.items c.args.number stands c.index-spot.result.now c.index-spot.ensures c.as_slice.result.now c.as_slice.ensures

pub offset_bounds-as_slice-spot-2 : goal.offset_bounds-as_slice-spot-2
offset_bounds-as_slice-spot-2 c =
    let stands = standing c.args.facts.now c.args.table.now c.requires.table c.args.number c.requires.numbered in
    let lt = task_within c.args.facts.now c.args.table.now.spots.items c.args.number stands c.index-spot.result.now c.index-spot.ensures c.as_slice.result.now c.index-as_slice-spot.result c.as_slice.ensures c.index-as_slice-spot.is c.as_slice-2.result.now c.as_slice-2.ensures in
    omega arith

pub bounds-as_slice-spot-2 : goal.bounds-as_slice-spot-2
bounds-as_slice-spot-2 c =
    let stands = standing c.args.facts.now c.args.table.now c.requires.table c.args.number c.requires.numbered in
    task_within c.args.facts.now c.args.table.now.spots.items c.args.number stands c.index-spot.result.now c.index-spot.ensures c.as_slice.result.now c.index-as_slice-spot.result c.as_slice.ensures c.index-as_slice-spot.is c.as_slice-2.result.now c.as_slice-2.ensures

pub returns : goal.returns
returns c =
    let stands = standing c.args.facts.now c.args.table.now c.requires.table c.args.number c.requires.numbered in
    let read = is_read c.args.facts.now c.args.table.now.spots.items c.args.number stands c.index-spot.result.now c.index-spot.ensures c.as_slice.result.now c.index-as_slice-spot.result c.as_slice.ensures c.index-as_slice-spot.is c.as_slice-2.result.now c.as_slice-2.ensures
    c.index-as_slice-spot-2.result c.index-as_slice-spot-2.is in
    id_written c.args.facts.now c.args.table.now c.requires.table c.args.number c.index-spot.result.now.recipe c.index-as_slice-spot.result c.index-as_slice-spot-2.result read c.new.result c.in_ok-copy.field-0 c.in_ok-copy-2.field-0 c.new.ensures c.in_ok-copy.ensures c.in_ok-copy-2.ensures
