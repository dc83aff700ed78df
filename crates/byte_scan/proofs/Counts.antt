-- Counts, block by block.
use Rattle.std.proofs.Common.{◌≡◌, sym, ◌∙◌, ap, arith, ℕ, ◌+◌, ◌<◌, ◌≤◌, ◌^◌, Fits, w64, Bool, cond, List, length, take, drop, count_by}
use Rattle.std.specs.Simd.Lanes.{chunk}
use Rattle.std.proofs.Math.Seq.{take-add}
use Rattle.std.proofs.lemmas.List.{take-append-drop, length-take-le}
use Rattle.std.proofs.lemmas.List.Sums.{sum_by-append, count_by-le-length}

pub block_more : (p : ℕ → Bool) (hay : List ℕ) (at total more : ℕ) → total ≡ count_by p (take at hay) → more ≡ count_by p (chunk at 32 hay) → total + more ≡ count_by p (take (at + 32) hay)
block_more p hay at total more e m =
    ap (λ n. n + more) e ∙ ap (λ n. count_by p (take at hay) + n) m ∙ sym (sum_by-append (λ x. cond (p x) 1 0) (take at hay) (chunk at 32 hay)) ∙ ap (count_by p) (sym (take-add at 32 hay))

pub rest_more : (p : ℕ → Bool) (hay : List ℕ) (at total more : ℕ) → total ≡ count_by p (take at hay) → more ≡ count_by p (drop at hay) → total + more ≡ count_by p hay
rest_more p hay at total more e m =
    ap (λ n. n + more) e ∙ ap (λ n. count_by p (take at hay) + n) m ∙ sym (sum_by-append (λ x. cond (p x) 1 0) (take at hay) (drop at hay)) ∙ ap (count_by p) (take-append-drop at hay)

pub block_fits : (p : ℕ → Bool) (hay : List ℕ) (at total more : ℕ) → at + 32 ≤ length hay → length hay < 2 ^ 64 → total ≡ count_by p (take at hay) → more ≡ count_by p (chunk at 32 hay) → Fits w64 (total + more)
block_fits p hay at total more room short e m =
    let is = block_more p hay at total more e m in
    let most = count_by-le-length p (take (at + 32) hay) in
    let long = length-take-le (at + 32) hay room in
    record { fits = omega (arith, is, most, long, room, short) }
