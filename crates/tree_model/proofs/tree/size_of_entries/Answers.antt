use Rattle.std.proofs.Common.{arith, ◌≡◌, ◌+◌, ◌∙◌, ap, subst, sym, length, ℕ, drop}
use Rattle.std.specs.Prelude.{max, min}
use Rattle.tree_model.specs.Size.{largest_of, bytes_of}
use Rattle.tree_model.proofs.TreeLemmas.{size_all, largest_step, bytes_step}
use Rattle.tree_model.proofs.tree.size_of_entries.Goals as goal

pub returns : goal.returns
returns c =
    let s = size_all c.args.entries.now c.loop-entry.entry-index c.loop-entry.largest c.loop-entry.bytes (omega arith) c.loop-entry.invariant.largest c.loop-entry.invariant.fits c.loop-entry.invariant.bytes in
    (λ i. record { entries = length c.args.entries.now; largest = s.0 i; bytes = s.1 i })

pub loop-entry-preserved : goal.loop-entry-preserved
loop-entry-preserved c = record {
  largest =
      let P : ℕ → Type 0 = λ m. max m (largest_of (drop (c.loop-entry.entry-index + 1) c.args.entries.now)) ≡ largest_of c.args.entries.now in
      subst P (sym (c.max-largest.ensures ∙ ap (λ l. max l c.loop-entry.largest) c.len-length.ensures))
      (largest_step c.args.entries.now c.loop-entry.entry-index c.loop-entry.largest c.loop-entry-item.result c.loop-entry-test.true c.loop-entry-item.is c.loop-entry.invariant.largest);
  fits = omega (arith, c.saturating_add-bytes.ensures);
  bytes =
      let P : ℕ → Type 0 = λ m. min (m + bytes_of (drop (c.loop-entry.entry-index + 1) c.args.entries.now)) 18446744073709551615 ≡ min (bytes_of c.args.entries.now) 18446744073709551615 in
      subst P (sym (c.saturating_add-bytes.ensures ∙ ap (λ l. min (c.loop-entry.bytes + l) 18446744073709551615) c.len-length.ensures))
      (bytes_step c.args.entries.now c.loop-entry.entry-index c.loop-entry.bytes 18446744073709551615 c.loop-entry-item.result c.loop-entry-test.true c.loop-entry-item.is c.loop-entry.invariant.bytes);
}
