use Rattle.std.proofs.Common.{◌≡◌, ◌∙◌, arith, length, sym, Some, slice_get, length-set}
use Rattle.graph_walk.proofs.Finding.{place_within}
use Rattle.task_graph.proofs.Reaching.{slice_there}
use Rattle.task_graph.proofs.Ranked.{place_small, ranks_more}
use Rattle.task_graph.proofs.nodes.ranks_of.Goals as goal

pub index_mut-requires : goal.index_mut-requires
index_mut-requires c =
    let here : slice_get c.args.drafts.now c.loop-number.number ≡ Some c.index-drafts-number.result = slice_there c.args.drafts.now c.loop-number.number c.index-drafts-number.result c.loop-number-test.true (sym c.index-drafts-number.is) in
    omega (arith, place_small (length c.args.drafts.now) c.args.drafts.now c.requires.places c.loop-number.number c.index-drafts-number.result here, c.loop-number.invariant.long, c.loop-number.ranks.ok.0)

pub loop-number-preserved : goal.loop-number-preserved
loop-number-preserved c =
    let ranks = c.loop-number.ranks.items in
    let draft = c.index-drafts-number.result in
    let here : slice_get c.args.drafts.now c.loop-number.number ≡ Some c.index-drafts-number.result = slice_there c.args.drafts.now c.loop-number.number c.index-drafts-number.result c.loop-number-test.true (sym c.index-drafts-number.is) in
    record {
      long = length-set ranks draft.place c.loop-number.number ∙ c.loop-number.invariant.long;
      each = ranks_more (length c.args.drafts.now) c.args.drafts.now c.requires.places ranks c.loop-number.number draft c.loop-number.invariant.long here c.loop-number.invariant.each;
    }

pub returns : goal.returns
returns c = record {
  long = c.loop-number.invariant.long;
  each = λ k draft e. c.loop-number.invariant.each k draft (omega (arith, place_within c.args.drafts.now k draft e, c.loop-number-test.false, c.loop-number.auto.number-end)) e;
}
