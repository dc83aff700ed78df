use Rattle.std.proofs.Common.{◌∙◌, ap, sym, refl, subst, Ok, List, ℕ, codes}
use Rattle.load_model.specs.Layers.{with_lists, in_layer_order}
use Rattle.layer_conf.specs.Config.{configured_meant}
use Rattle.layer_conf.specs.Globs.{IsCover}
use Rattle.layer_conf.proofs.Layering.{lists_are, lists_fault, lists_made, layer_free}
use Rattle.layer_conf.proofs.Listed.{named_among}
use Rattle.layer_conf.proofs.lists.lists_over.Goals as goal

pub returns-in-Err-clause-err : goal.returns-in-Err-clause-err
returns-in-Err-clause-err g c = λ told paths listing. lists_fault paths (configured_meant c.args.made.now) c.in-Err.fault c.in-Err.ensures.err

pub returns-in-Err-listed-clause-err : goal.returns-in-Err-listed-clause-err
returns-in-Err-listed-clause-err g c = λ told paths listing. layer_free c.in-Err-listed.fault (with_lists paths (configured_meant c.args.made.now)) c.in-Err-listed.ensures.free

pub returns-in-Ok-lists_of-clause-ok : goal.returns-in-Ok-lists_of-clause-ok
returns-in-Ok-lists_of-clause-ok g c = λ told paths listing.
    let globs = c.in-Ok.ensures.ok in
    let held = g.L.Layers.files c.args.layers.now in
    let found = c.as_slice-4.result.now in
    let cover = subst (IsCover c.as_slice-3.result.now held) (sym c.as_slice-4.ensures) (subst (λ (l : List (List ℕ)). IsCover l held c.in-Ok-listed.paths) (c.as_slice.ensures.value ∙ sym c.as_slice-3.ensures.value) (c.in-Ok-listed.ensures.paths told)) in
    let named = c.as_slice-3.ensures.value ∙ globs.named in
    lists_are paths globs.list (configured_meant c.args.made.now) globs.are
    ∙ ap Ok (lists_made c.args.made.now globs.list paths paths c.as_slice-2.result.now _ _ refl c.as_slice-2.ensures
    (c.in-Ok-lists_of.ensures.recipes globs.list named ∙ named_among c.as_slice-3.result.now globs.list found paths (codes ".bb") held named cover listing)
    (c.in-Ok-lists_of.ensures.appends globs.list named ∙ ap (in_layer_order c.as_slice-2.result.now) (named_among c.as_slice-3.result.now globs.list found paths (codes ".bbappend") held named cover listing)))
