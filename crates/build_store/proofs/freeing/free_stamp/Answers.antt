use Rattle.std.proofs.Common.{◌≡◌, ◌∙◌, arith}
use Rattle.std.specs.Prelude.{codes}
use Rattle.store_opening.proofs.Slashes.{slashes_inside}
use Rattle.std.proofs.lemmas.Result.{on_ok_weaker}
use Rattle.store_model.specs.Publication.{stamp_at}
use Rattle.build_store.proofs.StampWays.{above_run, frees_run, stamp_is_free}
use Rattle.build_store.proofs.freeing.free_stamp.Goals as goal

pub returns-in_err-clear_above-clause-frees : goal.returns-in_err-clear_above-clause-frees
returns-in_err-clear_above-clause-frees g c told =
    let at : c.as_str.result.now ≡ stamp_at c.args.folder.now = c.as_str.ensures ∙ c.in_ok-path.ensures in
    above_run c.args.folder.now (c.requires told) (rw at at (c.clear_above.ensures.way told))

pub returns-clause-frees : goal.returns-clause-frees
returns-clause-frees g c told =
    let at : c.as_str.result.now ≡ stamp_at c.args.folder.now = c.as_str.ensures ∙ c.in_ok-path.ensures in
    let again : c.as_str-2.result.now ≡ stamp_at c.args.folder.now = c.as_str-2.ensures ∙ c.in_ok-path.ensures in
    frees_run c.args.folder.now (above_run c.args.folder.now (c.requires told) (rw at at (c.clear_above.ensures.way told))) (rw again at (c.clear_below.ensures.clears told))

pub returns-clause-free : goal.returns-clause-free
returns-clause-free g c told =
    let at : c.as_str.result.now ≡ stamp_at c.args.folder.now = c.as_str.ensures ∙ c.in_ok-path.ensures in
    let again : c.as_str-2.result.now ≡ stamp_at c.args.folder.now = c.as_str-2.ensures ∙ c.in_ok-path.ensures in
    on_ok_weaker c.clear_below.result (λ gone. stamp_is_free c.args.folder.now (rw at at (c.in_ok-clear_above.ensures.open told)) (rw again at (c.clear_below.ensures.clears told)) gone) (rw again at (c.clear_below.ensures.gone told))

pub returns-in_err-clear_above-clause-brief : goal.returns-in_err-clear_above-clause-brief
returns-in_err-clear_above-clause-brief g c told = λ two below.
    let at : c.as_str.result.now ≡ stamp_at c.args.folder.now = c.as_str.ensures ∙ c.in_ok-path.ensures in
    let brief = rw at at (c.clear_above.ensures.brief told) in
    let count = slashes_inside (codes "stamp") c.args.folder.now in
    omega (arith, brief, count, two)

pub returns-clause-brief : goal.returns-clause-brief
returns-clause-brief g c told = λ two below.
    let at : c.as_str.result.now ≡ stamp_at c.args.folder.now = c.as_str.ensures ∙ c.in_ok-path.ensures in
    let again : c.as_str-2.result.now ≡ stamp_at c.args.folder.now = c.as_str-2.ensures ∙ c.in_ok-path.ensures in
    let frees = (above_run c.args.folder.now (c.requires told) (rw at at (c.clear_above.ensures.way told))).held in
    let brief = rw at at (c.clear_above.ensures.brief told) in
    let count = slashes_inside (codes "stamp") c.args.folder.now in
    let rest = (rw again at (c.clear_below.ensures.brief told)) (λ q down. frees.none q (below q down) ∙ below q down) in
    omega (arith, brief, count, two, rest)
