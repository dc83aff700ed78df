-- What benches tell whose first runs wait for one another.
use Rattle.std.specs.Prelude.{ℕ}
use Rattle.outside_mem.specs.declared.gate_bench.GateBench.{GateBench}

-- the bench that does the work
abbrev pub gated : {B : Type 0} → GateBench B → B
gated bench = bench.bench

-- how often a call failed
abbrev pub gate_faults : {B : Type 0} → GateBench B → ℕ
gate_faults bench = bench.faults
