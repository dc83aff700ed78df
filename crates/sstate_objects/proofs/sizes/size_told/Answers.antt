use Rattle.std.proofs.Common.{◌≡◌, ◌∙◌, ap, sym, arith, take, ◌+◌, ◌++◌, ◌∷◌, []}
use Rattle.std.specs.Prelude.{max, sum_by}
use Rattle.std.proofs.lemmas.List.{take_more}
use Rattle.std.proofs.lemmas.List.Sums.{sum_by-append}
use Rattle.tree_model.specs.declared.manifest.ManifestLine.{ManifestLine}
use Rattle.sstate_objects.specs.Matching.{largest_line}
use Rattle.sstate_objects.proofs.Sizing.{largest_more}
use Rattle.sstate_objects.proofs.sizes.size_told.Goals as goal

pub loop-line-preserved : goal.loop-line-preserved
loop-line-preserved c =
    let lines = c.args.lines.now in
    let i = c.loop-line.line-index in
    let line = c.line-item.result in
    let more : take (i + 1) lines ≡ take i lines ++ line ∷ [] = take_more lines i line c.loop-line-test.true ∙ ap (λ (l : ManifestLine). take i lines ++ l ∷ []) (sym c.line-item.is) in
    let sum = ap (sum_by (λ (l : ManifestLine). l.length)) more ∙ sum_by-append (λ (l : ManifestLine). l.length) (take i lines) (line ∷ []) in
    let before = c.loop-line.invariant.bytes in
    let now = c.saturating_add-bytes.ensures in
    record {
      largest = c.larger-largest.ensures ∙ ap (λ m. max m line.length) c.loop-line.invariant.largest ∙ sym (largest_more (take i lines) line) ∙ ap largest_line (sym more);
      bytes = omega (arith, before, now, sum);
    }
