use Rattle.std.proofs.Common.{◌≡◌, ◌++◌, ◌==◌, List, ℕ, take, map, filter}
use Rattle.layer_conf.proofs.order.push_placed.Given as goal

abbrev pub invariant-loop-i : goal.invariant-loop-i
invariant-loop-i l = (place : List ℕ → ℕ) → l.places ≡ map place l.paths → l.made ≡ l.fn.made ++ filter (λ path. place path == l.k) (take l.i l.paths)
